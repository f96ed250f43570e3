-- The fold under way, as the code has it, in the rules' terms.
--     given_in, count_in, rows_in    the table of its call, how many nodes it has, and the rows as they stand
--     seen                           the rules' state that lies in it
--     Keeps                          what each method leaves as it was
--     AsksIn, LaidIn, RoomIn  room for questions, what the walk keeps, what a step at a fresh node may spend
--     FreshIn, FreshAs        a node still to be visited, and one whose visit does what its form says
--     FallsIn                         the memories of its Writes lie below them
-- Assumes nothing.
use Rattle.std.specs.Prelude.{ℕ, ◌+◌, ◌*◌, ◌<◌, ◌≤◌, ◌≡◌, List, length}
use Rattle.rules.specs.Table.{Node}
use Rattle.rules.specs.Walk.{St, Held, fresh}
use Rattle.optimize.specs.declared.folder.ConstantFolder.{ConstantFolder}
use Rattle.optimize.specs.Bounds.{count_of}
use Rattle.optimize.specs.Call.{mode_is}
use Rattle.optimize.specs.View.{rows_of, mark_of, view}
use Rattle.optimize.specs.Laid.{Laid, Room}
use Rattle.optimize.specs.Folding.{Falls}
use Rattle.optimize.specs.Process.{form_at}
use Rattle.optimize.specs.declared.form.Form.{Form}

abbrev pub given_in : ConstantFolder → List ℕ
given_in f = f.call.given.now

abbrev pub count_in : ConstantFolder → ℕ
count_in f = count_of (given_in f)

abbrev pub rows_in : ConstantFolder → ℕ → Node
rows_in f = rows_of (count_in f) f.walk.made f.res.now

-- h are the states that took an input; they lie in no buffer
abbrev pub seen : List Held → ConstantFolder → St
seen h f = view h f.call.given.now f.call.inputs.now f.call.replies.now f.res.now f.scratch.now f.walk

-- the call, which words are lent, and how many
pub record Keeps (f f' : ConstantFolder) : Type 0 where
  pub call : f'.call ≡ f.call
  pub res : f'.res.ghost_name ≡ f.res.ghost_name
  pub scratch : f'.scratch.ghost_name ≡ f.scratch.ghost_name
  pub res_length : length f'.res.now ≡ length f.res.now
  pub scratch_length : length f'.scratch.now ≡ length f.scratch.now

-- ---- what is needed
abbrev pub FallsIn : ConstantFolder → Type 0
FallsIn f = Falls (count_in f) f.walk.made f.res.now

-- room for so many more questions
abbrev pub AsksIn : ConstantFolder → ℕ → Type 0
AsksIn f c = 2 * count_in f + 4 * (f.walk.asked + c) ≤ length f.scratch.now

abbrev pub LaidIn : ConstantFolder → Type 0
LaidIn f = Laid f.call.given.now f.call.dumps.now f.call.inputs.now f.call.replies.now (mode_is f.call.mode) 0 f.res.now f.scratch.now f.walk

abbrev pub RoomIn : ConstantFolder → ℕ → Type 0
RoomIn f k = Room f.call.given.now f.scratch.now f.walk k

-- node k is still to be visited
pub record FreshIn (f : ConstantFolder) (k : ℕ) : Type 0 where
  pub laid : LaidIn f
  pub inside : k < count_in f
  pub fresh : mark_of (count_in f) f.scratch.now k ≡ fresh

-- and has the form F
pub record FreshAs (f : ConstantFolder) (k : ℕ) (F : Form) : Type 0 where
  pub ready : FreshIn f k
  pub form : F ≡ form_at (given_in f) k
