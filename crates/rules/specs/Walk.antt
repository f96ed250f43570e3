-- The state of the walk over a table, and each way to change it (ConstantFolder of optimize.rs).
--     St         rows, marks, made constants, inputs and replies left, questions, states that took an input, tallies
--     set, add   one change each
-- Assumes nothing.
use Rattle.std.specs.Prelude.{ℕ, suc, ◌+◌, List, [], ◌∷◌, ◌++◌, get_or}
use Rattle.rules.specs.Lists.{put}
use Rattle.rules.specs.Table.{Node, constant, unknown}

-- a node is not yet visited, or visited and stays, or has a replacement
pub data Mark : Type 0 where
  fresh kept : Mark
  replaced : ℕ → Mark

-- "kind, first, second, reply", and for kind 5 the bads that it is about
pub record Question : Type 0 where
  pub kind : ℕ
  pub first : ℕ
  pub second : ℕ
  pub reply : ℕ
  pub bads : List ℕ

-- a state that took an input, and the constant made for it
pub record Held : Type 0 where
  pub state : ℕ
  pub by : ℕ

-- rows of nodes and, from n on, of constants; made counts those after the shared two; looked and passed are the tally's
pub record St : Type 0 where
  pub rows : ℕ → Node
  pub mark : ℕ → Mark
  pub made : ℕ
  pub inputs : List ℕ
  pub replies : List ℕ
  pub asked : List Question
  pub held : List Held
  pub looked : ℕ
  pub passed : ℕ

-- "n is the shared false, n + 1 the shared true, both of sort 1; then constants in the order in which they are made"
abbrev pub start_rows : List Node → ℕ → Node
start_rows t k = get_or (t ++ (constant 1 0 ∷ constant 1 1 ∷ [])) k unknown

abbrev pub start : List Node → List ℕ → List ℕ → St
start t ins reps = record { rows = start_rows t; mark = λ k. fresh; made = 0; inputs = ins; replies = reps; asked = []; held = []; looked = 0; passed = 0 }

abbrev pub set_row : St → ℕ → Node → St
set_row σ k nd = record { rows = put σ.rows k nd; mark = σ.mark; made = σ.made; inputs = σ.inputs; replies = σ.replies; asked = σ.asked; held = σ.held; looked = σ.looked; passed = σ.passed }

abbrev pub set_mark : St → ℕ → Mark → St
set_mark σ k m = record { rows = σ.rows; mark = put σ.mark k m; made = σ.made; inputs = σ.inputs; replies = σ.replies; asked = σ.asked; held = σ.held; looked = σ.looked; passed = σ.passed }

-- one more constant of sort s, at the number r
abbrev pub add_const : St → ℕ → ℕ → ℕ → St
add_const σ r s x = record { rows = put σ.rows r (constant s x); mark = σ.mark; made = suc σ.made; inputs = σ.inputs; replies = σ.replies; asked = σ.asked; held = σ.held; looked = σ.looked; passed = σ.passed }

abbrev pub set_inputs : St → List ℕ → St
set_inputs σ xs = record { rows = σ.rows; mark = σ.mark; made = σ.made; inputs = xs; replies = σ.replies; asked = σ.asked; held = σ.held; looked = σ.looked; passed = σ.passed }

-- one more question, and the replies left after it
abbrev pub add_asked : St → List ℕ → Question → St
add_asked σ rs q = record { rows = σ.rows; mark = σ.mark; made = σ.made; inputs = σ.inputs; replies = rs; asked = σ.asked ++ (q ∷ []); held = σ.held; looked = σ.looked; passed = σ.passed }

abbrev pub add_held : St → ℕ → ℕ → St
add_held σ k r = record { rows = σ.rows; mark = σ.mark; made = σ.made; inputs = σ.inputs; replies = σ.replies; asked = σ.asked; held = σ.held ++ (record { state = k; by = r } ∷ []); looked = σ.looked; passed = σ.passed }

abbrev pub add_tally : St → ℕ → ℕ → St
add_tally σ l p = record { rows = σ.rows; mark = σ.mark; made = σ.made; inputs = σ.inputs; replies = σ.replies; asked = σ.asked; held = σ.held; looked = σ.looked + l; passed = σ.passed + p }
