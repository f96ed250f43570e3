-- A kept Next's state is never replaced, so the walk does not look whether it is, and 9, the refusal of that, is withdrawn (docs/FORMAT.md, "Folding", "Refusals").
--     ComesTo                  the walk of a model comes to a kept Next
--     Visited, Tested, Others, Ended    its state then stands for itself, a test of it would change nothing, and it has no replacement at the end
--     KeptState                all that of every model whose table and sequentials pass
--     KeptStateOfCall          of every call that comes to the walk, by any entry point and in any mode
--     TableNeeded, SixNeeded, SevenNeeded    each premise is needed: a model without it, in which a kept Next's state is replaced and the test refuses
--     KeptWorked               a call with a kept Next: below its state an input is taken and a question put, and its init is rewritten
-- Assumes nothing.
use Rattle.std.specs.Prelude.{ℕ, zero, suc, ◌<◌, ◌≡◌, ◌≢◌, true, false, List, [], ◌∷◌, ◌++◌, length}
use Rattle.btor.specs.Operators.{Add}
use Rattle.btor.specs.Sorts.{bit_code, word_code}
use Rattle.rules.specs.Lists.{All}
use Rattle.rules.specs.Refusal.{Out, done, refuse, ◌>>=◌, OfDone}
use Rattle.rules.specs.Table.{Const, Word, Ult, Not, State, Next, Input, Row, Node, node_at, is, with}
use Rattle.rules.specs.Model.{Model, Mode, model_of}
use Rattle.rules.specs.Legal.{AllLegal, Sequential, Once}
use Rattle.rules.specs.Walk.{St, Mark, fresh, kept, replaced, Held, start, set_row}
use Rattle.rules.specs.Fold.{stays}
use Rattle.rules.specs.Questions.{always_true, question}
use Rattle.rules.specs.Visit.{Ways, settle, process, visit}
use Rattle.rules.specs.Whole.{ways_of, judge_sequentials, visit_all, Folded, fold}
use Rattle.rules.specs.Limits.{Limits, house}
use Rattle.rules.specs.Call.{Entry, impl, Call, Accepted, model_from, brought, outcome, Judged, judged}
use Rattle.rules.specs.Cases.{row, mode0, call_of}

-- the walk's state once the sequentials are judged, and the kept ones
abbrev pub begun : Model → St × List ℕ
begun m = judge_sequentials m.table (start m.table m.inputs m.replies) m.sequentials

-- "Then the kept Nexts are visited in order": the walk comes to the Next k with σ
pub record ComesTo (m : Model) (how : Mode) (k : ℕ) (σ : St) : Type 0 where
  pub before : List ℕ
  pub after : List ℕ
  pub listed : (begun m).1 ≡ before ++ (k ∷ after)
  pub walked : visit_all m.table (ways_of m how) (begun m).0 before ≡ done σ

-- ---- visits with the test that was made: 9, at the Next, where its state is replaced
abbrev pub unless_replaced : ℕ → Mark → St → Out St
unless_replaced k fresh σ = done σ
unless_replaced k kept σ = done σ
unless_replaced k (replaced r) σ = refuse 9 1 k

module _ (t : List Node) (ways : Ways) where
  abbrev pub tested_next : (St → ℕ → Out (St × ℕ)) → St → ℕ → Node → Out (St × ℕ)
  tested_next vis σ k nd = do
    (σ₁, state) ← vis σ nd.a
    σ₂ ← unless_replaced k (σ₁.mark nd.a) σ₁
    (σ₃, y) ← vis σ₂ nd.b
    settle t ways k (set_row σ₃ k (with nd nd.a y nd.c)) stays

  -- every other node is processed as it is
  abbrev pub tested_marked : (St → ℕ → Out (St × ℕ)) → Mark → St → ℕ → Out (St × ℕ)
  tested_marked vis fresh σ k = elim (is Next (node_at t k)) [ true ↦ tested_next vis σ k (node_at t k) | false ↦ process t ways vis (node_at t k).kind σ k (node_at t k) ]
  tested_marked vis kept σ k = done (σ, k)
  tested_marked vis (replaced r) σ k = done (σ, r)

  unfoldable pub tested_visit : ℕ → St → ℕ → Out (St × ℕ)
  tested_visit zero σ k = done (σ, k)
  tested_visit (suc f) σ k = tested_marked (tested_visit f) (σ.mark k) σ k

  unfoldable pub tested_all : St → List ℕ → Out St
  tested_all σ [] = done σ
  tested_all σ (k ∷ ks) = tested_visit (suc k) σ k >>= λ p. tested_all p.0 ks

-- ---- the theorem
module _ (m : Model) (how : Mode) where
  -- when a kept Next visits its state, that stays and stands for itself
  abbrev pub Visited : Type 0
  Visited =
      (k : ℕ) (σ : St) (p : St × ℕ) → ComesTo m how k σ → visit m.table (ways_of m how) k σ (node_at m.table k).a ≡ done p
      → (p.0.mark (node_at m.table k).a ≡ kept) × (p.1 ≡ (node_at m.table k).a)

  -- with the test the kept Nexts are visited alike
  abbrev pub Tested : Type 0
  Tested = tested_all m.table (ways_of m how) (begun m).0 (begun m).1 ≡ visit_all m.table (ways_of m how) (begun m).0 (begun m).1

  -- and so is every other node, from any state
  abbrev pub Others : Type 0
  Others = (f k : ℕ) (σ : St) → k < length m.table → is Next (node_at m.table k) ≡ false → tested_visit m.table (ways_of m how) f σ k ≡ visit m.table (ways_of m how) f σ k

  -- at the end no kept Next's state is replaced
  abbrev pub Ended : Type 0
  Ended = (f : Folded) → fold m how ≡ done f → All (λ k. (r : ℕ) → f.state.mark (node_at m.table k).a ≢ replaced r) f.sequentials

  pub record StatesStay : Type 0 where
    pub visited : Visited
    pub tested : Tested
    pub others : Others
    pub ended : Ended

-- by 5 a Next is of a State, by 6 that has an init, by 7 no other listed Next is of it
unfoldable pub KeptState : Type 0
KeptState = (m : Model) (how : Mode) → AllLegal m.table → All (Sequential m.table) m.sequentials → Once m.table m.sequentials → StatesStay m how

-- 3 to 7 are judged before the walk, "in every mode"
unfoldable pub KeptStateOfCall : Type 0
KeptStateOfCall =
    (limits : Limits) (entry : Entry) (call : Call) (j : Judged) → judged limits call ≡ done j
    → StatesStay (model_from j.names (brought entry j.sections)) j.how

-- ---- each premise is needed: a model that meets the two others, where what is said of kept Nexts fails and the test refuses
abbrev pub model_at : List Row → List ℕ → List ℕ → Model
model_at rs ss ins = model_of rs (λ k. false) ss [] [] ins []

pub record Fails (m : Model) (refusal : Out St) : Type 0 where
  pub visited : Visited m mode0 → ⊥
  pub tested : Tested m mode0 → ⊥
  pub ended : Ended m mode0 → ⊥
  pub refused : tested_all m.table (ways_of m mode0) (begun m).0 (begun m).1 ≡ refusal

-- the Next 3 of a sum, whose second word is 1 as that of a State with an init is; 4 has that Next as its operand
abbrev pub summed : Model
summed = model_at (row Const word_code 3 0 0 0 ∷ row Const word_code 4 0 0 0 ∷ row (Word Add) word_code 0 1 0 0 ∷ row Next word_code 2 1 0 0 ∷ row Not word_code 3 0 0 0 ∷ []) (3 ∷ []) []

unfoldable pub TableNeeded : Type 0
TableNeeded = All (Sequential summed.table) summed.sequentials × Once summed.table summed.sequentials × Fails summed (refuse 9 1 3) × (Others summed mode0 → ⊥)

-- the Next 2 of a State without an init, which takes the input 7
abbrev pub taking_rows : List Row
taking_rows = row State word_code 0 0 0 0 ∷ row Const word_code 5 0 0 0 ∷ row Next word_code 0 1 0 0 ∷ []

abbrev pub taking : Model
taking = model_at taking_rows (2 ∷ []) (7 ∷ [])

unfoldable pub SixNeeded : Type 0
SixNeeded = AllLegal taking.table × Once taking.table taking.sequentials × Fails taking (refuse 9 1 2)

-- two Nexts of the State 1: 3, the State itself, is dropped, and 4 is kept
abbrev pub twice_rows : List Row
twice_rows = row Const word_code 3 0 0 0 ∷ row State word_code 0 1 0 0 ∷ row Const word_code 5 0 0 0 ∷ row Next word_code 1 1 0 0 ∷ row Next word_code 1 2 0 0 ∷ []

abbrev pub twice : Model
twice = model_at twice_rows (3 ∷ 4 ∷ []) []

unfoldable pub SevenNeeded : Type 0
SevenNeeded = AllLegal twice.table × All (Sequential twice.table) twice.sequentials × Fails twice (refuse 9 1 4)

-- ---- 0 an Input, 1 a State that takes the input 9, 2 whether 0 is below 1, 3 a State whose init is 2, 4 a one, 5 the Next of 3, which is 4. Under minimise,
-- with the reply that 2 is always true. By the visit of 3 the input is taken and the question put, and 7, the shared true, is its init.
abbrev pub kept_rows : List Row
kept_rows = row Input word_code 0 0 0 1 ∷ row State word_code 0 0 0 0 ∷ row Ult bit_code 0 1 0 0 ∷ row State bit_code 2 1 0 0 ∷ row Const bit_code 1 0 0 0 ∷ row Next bit_code 3 4 0 0 ∷ []

abbrev pub kept_call : Call
kept_call = call_of 1 (record { rows = kept_rows; sequentials = 5 ∷ []; initial = []; later = []; inputs = 9 ∷ []; replies = 1 ∷ [] })

abbrev pub kept_held : List Held
kept_held = record { state = 1; by = 8 } ∷ []

pub record KeptNext (a : Accepted) : Type 0 where
  pub comes : ComesTo a.model a.how 5 (begun a.model).0
  pub visits : (p : St × ℕ) × (visit a.model.table (ways_of a.model a.how) 5 (begun a.model).0 3 ≡ done p)
  pub sequentials : a.folded.sequentials ≡ 5 ∷ []
  pub held : a.folded.state.held ≡ kept_held
  pub asked : a.folded.state.asked ≡ question always_true 2 0 [] 1 ∷ []
  pub init : (a.folded.state.rows 3).a ≡ 7
  pub state : (a.folded.state.rows 5).a ≡ 3
  pub mark : a.folded.state.mark 3 ≡ kept

-- with what the theorem says of it
unfoldable pub KeptWorked : Type 0
KeptWorked =
    OfDone KeptNext (outcome house impl kept_call)
    × OfDone (λ j. StatesStay (model_from j.names (brought impl j.sections)) j.how) (judged house kept_call)
