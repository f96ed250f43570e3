-- Neither of demand 3's premises can be left out: without it there is a call for which the conclusion fails (docs/FORMAT.md, "What you may rely on").
-- Assumes nothing.
use Rattle.std.specs.Prelude.{ℕ, ◌≡◌, Bool, List, map}
use Rattle.rules.specs.Refusal.{done}
use Rattle.rules.specs.Table.{Row, decode}
use Rattle.rules.specs.Model.{Mode, model_of}
use Rattle.rules.specs.Value.{Value}
use Rattle.rules.specs.Whole.{Folded, run}
use Rattle.rules.specs.Demand.{Faithful, RepliesHold, NonePassed, Keeps}

-- P holds of every call that is not refused
abbrev pub OfRuns : (List Row → List ℕ → Mode → Folded → Type 0) → Type 0
OfRuns P =
    (names : ℕ) (rs : List Row) (dump : ℕ → Bool) (ss initial later inputs replies : List ℕ) (how : Mode) (f : Folded)
    → run names rs (model_of rs dump ss initial later inputs replies) how ≡ done f → P rs ss how f

abbrev pub Kept : List Row → List ℕ → Mode → Folded → Type 0
Kept rs ss how f = (α : ℕ → Value) → Faithful how.reading (map decode rs) ss f.state α → Keeps how.reading (map decode rs) f α

-- "no Read that found its value passed an unsettled Write"
unfoldable pub UnsettledNeeded : Type 0
UnsettledNeeded =
    OfRuns (λ rs ss how f. ((α : ℕ → Value) → Faithful how.reading (map decode rs) ss f.state α → RepliesHold how.reading (map decode rs) α f.state) → Kept rs ss how f) → ⊥

-- "each reply of 1 that a question took holds in every faithful assignment"
unfoldable pub RepliesNeeded : Type 0
RepliesNeeded = OfRuns (λ rs ss how f. NonePassed how.reading f → Kept rs ss how f) → ⊥
