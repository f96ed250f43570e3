-- Demand 3 of the folding rules (docs/FORMAT.md, "What you may rely on").
--     Faithful      an assignment that gives every replaced state its replacement's value
--     RepliesHold   each used reply of yes or unsatisfiable holds      Keeps     what is concluded
--     Demand3       the demand, of every call whose words stand in their sections
-- Assumes nothing.
use Rattle.std.specs.Prelude.{ℕ, ◌+◌, ◌<◌, ◌≡◌, ◌≢◌, Bool, true, false, cond, ◌||◌, List, map, length, ltb, eqb}
use Rattle.btor.specs.Operators.{Reading, rust, standard}
use Rattle.rules.specs.Lists.{All}
use Rattle.rules.specs.Refusal.{done}
use Rattle.rules.specs.Table.{State, Input, Row, Node, decode, is, node_at}
use Rattle.rules.specs.Model.{Model, Mode, model_of}
use Rattle.rules.specs.Legal.{WellFormed}
use Rattle.rules.specs.Value.{Value, number, worth, value, Fits}
use Rattle.rules.specs.Walk.{St, replaced, Question, Held}
use Rattle.rules.specs.Questions.{always_true, equal, several}
use Rattle.rules.specs.Whole.{trivial, Folded, fold, run}

-- what a number of the result stands for: a node's value in the given table, false, true, "a constant its number"
unfoldable pub worth_of : Reading → List Node → (ℕ → Value) → St → ℕ → Value
worth_of how t α σ r =
    cond (ltb r (length t)) (value how (node_at t) α r)
    (cond (eqb r (length t)) (number 0)
    (cond (eqb r (length t + 1)) (number 1)
    (number (σ.rows r).a)))

-- "An assignment gives each State and each Input a value that fits its sort"
abbrev pub Assigns : List Node → (ℕ → Value) → Type 0
Assigns t α = (k : ℕ) → k < length t → (is State (node_at t k) || is Input (node_at t k)) ≡ true → Fits (node_at t k).sort (α k)

-- "A state is replaced where its Next was dropped or where it took an input.": the first has its init's value
abbrev pub SameInit : List Node → (ℕ → Value) → ℕ → Type 0
SameInit t v s = trivial t (node_at t s) ≡ true → v (node_at t s).a ≡ v (node_at t (node_at t s).a).a

-- the second has its constant's
abbrev pub Same : (ℕ → Value) → Held → Type 0
Same v h = v h.state ≡ v h.by

pub record Faithful (how : Reading) (t : List Node) (ss : List ℕ) (σ : St) (α : ℕ → Value) : Type 0 where
  pub fits : Assigns t α
  pub inits : All (SameInit t (value how (node_at t) α)) ss
  pub same : All (Same (worth_of how t α σ)) σ.held

-- k is no replaced state
abbrev pub Unreplaced : List Node → List ℕ → St → ℕ → Type 0
Unreplaced t ss σ k = All (λ s. trivial t (node_at t s) ≡ true → (node_at t s).a ≢ k) ss × All (λ h. h.state ≢ k) σ.held

-- what a reply of 1 says: the node is 1 (kind 1), it is 0 (2, 4, and each bad of 5), both have one value (3), "by the values of the given table"
abbrev pub Claim : (ℕ → Value) → Question → Type 0
Claim v q =
    elim (eqb q.kind always_true) [
      | true ↦ v q.first ≡ number 1
      | false ↦ elim (eqb q.kind equal) [
        | true ↦ v q.first ≡ v q.second
        | false ↦ elim (eqb q.kind several) [ true ↦ All (λ b. v b ≡ number 0) q.bads | false ↦ v q.first ≡ number 0 ]
      ]
    ]

-- "each reply of 1 that a question took"
abbrev pub Holds : (ℕ → Value) → Question → Type 0
Holds v q = q.reply ≡ 1 → Claim v q

abbrev pub RepliesHold : Reading → List Node → (ℕ → Value) → St → Type 0
RepliesHold how t α σ = All (Holds (worth_of how t α σ)) σ.asked

-- "no Read that found its value passed an unsettled Write"; in the standard's reading none can
abbrev pub NonePassed : Reading → Folded → Type 0
NonePassed rust f = f.state.passed ≡ 0
NonePassed standard f = Unit

-- "every rewritten row, .. is worth what the node is worth in the given table, every replacement .. and the condition of every dropped bad state is 0"
pub record Keeps (how : Reading) (t : List Node) (f : Folded) (α : ℕ → Value) : Type 0 where
  pub rows : (k : ℕ) → k < length t → worth how (worth_of how t α f.state) (α k) (f.state.rows k) ≡ value how (node_at t) α k
  pub replacements : (k r : ℕ) → k < length t → f.state.mark k ≡ replaced r → worth_of how t α f.state r ≡ value how (node_at t) α k
  pub dropped : All (λ b. value how (node_at t) α (node_at t b).a ≡ number 0) f.dropped

-- the demand's premises and conclusion, of what a fold left
abbrev pub Sound : Reading → List Node → List ℕ → Folded → Type 0
Sound how t ss f =
    NonePassed how f
    → ((α : ℕ → Value) → Faithful how t ss f.state α → RepliesHold how t α f.state)
    → (α : ℕ → Value) → Faithful how t ss f.state α → Keeps how t f α

-- of a well_formed model
unfoldable pub Demand3OfFold : Type 0
Demand3OfFold = (m : Model) (how : Mode) (f : Folded) → WellFormed m → fold m how ≡ done f → Sound how.reading m.table m.sequentials f

-- of every model that is folded without refusal, whatever the mode, inputs and replies
unfoldable pub Demand3 : Type 0
Demand3 =
    (names : ℕ) (rs : List Row) (dump : ℕ → Bool) (ss initial later inputs replies : List ℕ) (how : Mode) (f : Folded)
    → run names rs (model_of rs dump ss initial later inputs replies) how ≡ done f → Sound how.reading (map decode rs) ss f
