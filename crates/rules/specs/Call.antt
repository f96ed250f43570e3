-- A call: from mode, words, names bytes and room to the answer and every word left (docs/FORMAT.md, "A call", "Refusals", "Result", "Entry points and labels").
--     outcome            the stages of a call, joined by the first refusal
--     left               the answer, the result buffer and the scratch buffer after a call
--     optimize_model_impl, optimize_model_with_solver, optimize_model_with_input   the three entry points
-- Assumes nothing.
use Rattle.std.specs.Prelude.{ℕ, ◌+◌, ◌-◌, ◌<◌, ◌≤◌, ◌≡◌, true, false, length, replicate, ltb}
use mathlib.Core.List.{List, [], ◌++◌, flatten}
use Rattle.rules.specs.Value.{Value, value, Fits}
use Rattle.rules.specs.Refusal.{Out, refused, done, refuse, ◌>>=◌, unless_refused}
use Rattle.rules.specs.Table.{Node, node_at}
use Rattle.rules.specs.Check.{check}
use Rattle.rules.specs.Legal.{Meets}
use Rattle.rules.specs.Model.{Model, Mode, model_of}
use Rattle.rules.specs.Whole.{Folded, fold, run}
use Rattle.rules.specs.Result.{result_words}
use Rattle.rules.specs.Demand.{Assigns, NonePassed, Faithful, Unreplaced, RepliesHold, Keeps}
use Rattle.rules.specs.Laws.{OperandsWorth}
use Rattle.rules.specs.Limits.{Limits, house, need, highest_mode, mode_of}
use Rattle.rules.specs.Sections.{Sections, cut, encode, Within}
use Rattle.rules.specs.Names.{names_of, dump, name_bytes, NamesWithin}

-- what a caller hands over: the buffers result and scratch count by their lengths alone
pub record Call : Type 0 where
  pub mode : ℕ
  pub words : List ℕ
  pub names : List ℕ
  pub result_room : ℕ
  pub scratch_room : ℕ

-- ---- the stages, in order
-- refusal 1: "a mode above 7 (section 0)", position 0
unfoldable pub judge_mode : ℕ → Out Mode
judge_mode mode = elim (ltb highest_mode mode) [ true ↦ refuse 1 0 0 | false ↦ done (mode_of mode) ]

-- n nodes, s sequentials, b bad entries in all and i inputs
abbrev pub need_of : Sections → ℕ
need_of s = need (length s.rows) (length s.sequentials) (length s.initial + length s.later) (length s.inputs)

-- 12: "no room: result (position 0), else scratch (1)", section 8
unfoldable pub judge_room : ℕ → ℕ → ℕ → Out (Unit {0})
judge_room words result_room scratch_room =
    elim (ltb result_room words) [
      | true ↦ refuse 12 8 0
      | false ↦ elim (ltb scratch_room words) [ true ↦ refuse 12 8 1 | false ↦ done tt ]
    ]

-- which of the Rust's three functions is called
pub data Entry : Type 0 where
  impl with_solver with_input : Entry

-- "`optimize_model_with_solver` as though there were no inputs (section 5), `optimize_model_with_input` as though there were no replies (section 6), at mode 0"
abbrev pub brought : Entry → Sections → Sections
brought impl s = s
brought with_solver s = record { rows = s.rows; sequentials = s.sequentials; initial = s.initial; later = s.later; inputs = []; replies = s.replies }
brought with_input s = record { rows = s.rows; sequentials = s.sequentials; initial = s.initial; later = s.later; inputs = s.inputs; replies = [] }

-- the model in the sections: rows decoded, and which names start with "memory-dump"
abbrev pub model_from : List (List ℕ) → Sections → Model
model_from names s = model_of s.rows (dump names) s.sequentials s.initial s.later s.inputs s.replies

-- what an accepted call comes to
pub record Accepted : Type 0 where
  pub how : Mode
  pub model : Model
  pub folded : Folded

-- "the nodes, rising, .. the lists in order, .. as the walk meets them": refusals 3 to 7 read neither inputs nor replies
unfoldable pub judge_and_fold : Entry → Mode → Sections → List (List ℕ) → Out Accepted
judge_and_fold entry how s names =
    let m : Model = model_from names (brought entry s) in
    run (length names) s.rows m how >>= λ f. done (record { how = how; model = m; folded = f })

-- the stages after the cuts
unfoldable pub judge_cut : Entry → Mode → Sections → List (List ℕ) → ℕ → ℕ → Out Accepted
judge_cut entry how s names result_room scratch_room = do
  _ ← judge_room (need_of s) result_room scratch_room
  judge_and_fold entry how s names

-- "the mode; sections 1 to 7, in each 2 before 1; 12; the nodes, rising, .. the lists in order, .. as the walk meets them"
unfoldable pub outcome : Limits → Entry → Call → Out Accepted
outcome limits entry call = do
  how ← judge_mode call.mode
  s ← cut limits call.words
  names ← names_of limits call.names
  judge_cut entry how s names call.result_room call.scratch_room

-- what is known once a call's words and names are judged, before the walk
pub record Judged : Type 0 where
  pub how : Mode
  pub sections : Sections
  pub names : List (List ℕ)

-- the stages before the walk: mode, sections 1 to 7, room, nodes, lists
unfoldable pub judged : Limits → Call → Out Judged
judged limits call = do
  how ← judge_mode call.mode
  s ← cut limits call.words
  names ← names_of limits call.names
  _ ← judge_room (need_of s) call.result_room call.scratch_room
  unless_refused (check (length names) s.rows (model_from names s)) (done (record { how = how; sections = s; names = names }))

-- what passes them: words and bytes of sections and names within their limits that meet rules 3 to 7, in a mode and with room
pub record Presented (limits : Limits) (call : Call) (j : Judged) : Type 0 where
  pub mode : call.mode ≤ highest_mode
  pub how : mode_of call.mode ≡ j.how
  pub words : encode j.sections ≡ call.words
  pub within : Within limits j.sections
  pub bytes : name_bytes j.names ≡ call.names
  pub names_within : NamesWithin limits j.names
  pub result_room : need_of j.sections ≤ call.result_room
  pub scratch_room : need_of j.sections ≤ call.scratch_room
  pub rules : Meets (length j.names) j.sections.rows (model_from j.names j.sections)

unfoldable pub JudgedPresented : Type 0
JudgedPresented = (limits : Limits) (call : Call) (j : Judged) → Presented limits call j → judged limits call ≡ done j

-- the walk of a judged call
abbrev pub fold_judged : Entry → Judged → Out Accepted
fold_judged entry j =
    let m : Model = model_from j.names (brought entry j.sections) in
    fold m j.how >>= λ f. done (record { how = j.how; model = m; folded = f })

-- a call is judged, in every mode and by every entry point, and then walked
abbrev pub JudgedFirst : Type 0
JudgedFirst = (limits : Limits) (entry : Entry) (call : Call) → outcome limits entry call ≡ (judged limits call >>= fold_judged entry)

-- ---- what comes back
-- "nine sections in result, each after its count"
abbrev pub sections_of : Accepted → List (List ℕ)
sections_of a = result_words a.model a.folded

-- the sections one after the other
abbrev pub words_of : Accepted → List ℕ
words_of a = flatten (sections_of a)

-- number 0 is acceptance, with how many words the result has; else "a refusal: a number, a section and a position"
pub record Answer : Type 0 where
  pub number : ℕ
  pub section : ℕ
  pub position : ℕ
  pub words : ℕ

-- what an entry point answers
abbrev pub answer_of : Out Accepted → Answer
answer_of (refused r) = record { number = r.reason; section = r.section; position = r.position; words = 0 }
answer_of (done a) = record { number = 0; section = 0; position = 0; words = length (words_of a) }

-- "and zeros after them"; "A refused call leaves both buffers all zeros"
abbrev pub result_of : ℕ → Out Accepted → List ℕ
result_of room (refused r) = replicate room 0
result_of room (done a) = words_of a ++ replicate (room - length (words_of a)) 0

-- the answer and every word of both buffers after a call
pub record Left : Type 0 where
  pub answer : Answer
  pub result : List ℕ
  pub scratch : List ℕ

-- "scratch is all zeros"
unfoldable pub left : Limits → Entry → Call → Left
left limits entry call =
    let o : Out Accepted = outcome limits entry call in
    record { answer = answer_of o; result = result_of call.result_room o; scratch = replicate call.scratch_room 0 }

-- ---- the three entry points, with the house's limits
-- "`optimize_model_impl` is the call described above."
abbrev pub optimize_model_impl : ℕ → List ℕ → List ℕ → ℕ → ℕ → Left
optimize_model_impl mode words names r s = left house impl (record { mode = mode; words = words; names = names; result_room = r; scratch_room = s })

-- "as though there were no inputs (section 5)", and judged as given
abbrev pub optimize_model_with_solver : ℕ → List ℕ → List ℕ → ℕ → ℕ → Left
optimize_model_with_solver mode words names r s = left house with_solver (record { mode = mode; words = words; names = names; result_room = r; scratch_room = s })

-- "as though there were no replies (section 6), at mode 0", and judged as given
abbrev pub optimize_model_with_input : List ℕ → List ℕ → ℕ → ℕ → Left
optimize_model_with_input words names r s = left house with_input (record { mode = 0; words = words; names = names; result_room = r; scratch_room = s })

-- ---- demand 3, of every call that is not refused
-- its faithful assignments, the replies that hold in one, and a node's value in the given table
abbrev pub FaithfulTo : Accepted → (ℕ → Value) → Type 0
FaithfulTo a α = Faithful a.how.reading a.model.table a.model.sequentials a.folded.state α

abbrev pub HoldIn : Accepted → (ℕ → Value) → Type 0
HoldIn a α = RepliesHold a.how.reading a.model.table α a.folded.state

abbrev pub value_in : Accepted → (ℕ → Value) → ℕ → Value
value_in a α k = value a.how.reading (node_at a.model.table) α k

-- its two premises
pub record Premises (a : Accepted) : Type 0 where
  pub passed : NonePassed a.how.reading a.folded
  pub replies : (α : ℕ → Value) → FaithfulTo a α → HoldIn a α

unfoldable pub Demand3OfCall : Type 0
Demand3OfCall =
    (limits : Limits) (entry : Entry) (call : Call) (a : Accepted) → outcome limits entry call ≡ done a
    → Premises a → (α : ℕ → Value) → FaithfulTo a α → Keeps a.how.reading a.model.table a.folded α

-- under the same premises the operands of rewritten rows are worth what the given ones are
unfoldable pub OperandsOfCall : Type 0
OperandsOfCall =
    (limits : Limits) (entry : Entry) (call : Call) (a : Accepted) → outcome limits entry call ≡ done a
    → Premises a → (α : ℕ → Value) → FaithfulTo a α → OperandsWorth a.how.reading a.model.table a.folded.state α

-- it is not said of nothing: whatever an assignment that fits gives the Inputs and the states that are not replaced, some faithful one gives them too
unfoldable pub FaithfulOfCall : Type 0
FaithfulOfCall =
    (limits : Limits) (entry : Entry) (call : Call) (a : Accepted) → outcome limits entry call ≡ done a
    → (β : ℕ → Value) → Assigns a.model.table β
    → (α : ℕ → Value) × FaithfulTo a α × ((k : ℕ) → Unreplaced a.model.table a.model.sequentials a.folded.state k → α k ≡ β k)

-- an assignment may give any values that fit, and some do
abbrev pub AnyAssigns : Type 0
AnyAssigns = (t : List Node) (β : ℕ → Value) → ((k : ℕ) → k < length t → Fits (node_at t k).sort (β k)) → Assigns t β

abbrev pub SomeAssigns : Type 0
SomeAssigns = (t : List Node) → (β : ℕ → Value) × Assigns t β
