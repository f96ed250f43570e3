-- What a fold leaves, in laws that later work leans on: of replacements, of made constants, of rewritten rows and their operands.
-- Each is of every well_formed model that folds without refusal; the last is of the visits themselves.
-- Assumes nothing.
use Rattle.std.specs.Prelude.{ℕ, ◌+◌, ◌<◌, ◌≤◌, ◌^◌, ◌≡◌, ◌≢◌, ◌⊎◌, true, List, map, length}
use Rattle.std.proofs.Math.Option.{some}
use Rattle.btor.specs.Operators.{Reading}
use Rattle.btor.specs.Sorts.{width, memory_code}
use Rattle.rules.specs.Lists.{All}
use Rattle.rules.specs.Refusal.{done}
use Rattle.rules.specs.Table.{Const, Ext, State, Next, Node, constant, coded, node_at, is, operands}
use Rattle.rules.specs.Model.{Model, Mode}
use Rattle.rules.specs.Check.{known_sort, unused_as, rule3, may_serve, rule5_at}
use Rattle.rules.specs.Legal.{AllLegal, WellFormed}
use Rattle.rules.specs.Walk.{St, replaced}
use Rattle.rules.specs.Fold.{const_of}
use Rattle.rules.specs.Visit.{Ways, visit_marked, visit_top}
use Rattle.rules.specs.Whole.{Folded, fold}
use Rattle.rules.specs.Value.{Value, value}
use Rattle.rules.specs.Demand.{worth_of, Faithful, RepliesHold, NonePassed}

-- P holds of whatever a fold leaves
abbrev pub OfFolds : (List Node → St → Type 0) → Type 0
OfFolds P = (m : Model) (how : Mode) (f : Folded) → WellFormed m → fold m how ≡ done f → P m.table f.state

-- x is a constant: shared false, shared true or a made one
abbrev pub IsNew : List Node → St → ℕ → Type 0
IsNew t σ x = (length t ≤ x) × (x < length t + 2 + σ.made)

-- each replacement is a constant or stands before its node
unfoldable pub ReplacementBefore : Type 0
ReplacementBefore = OfFolds (λ t σ. (k r : ℕ) → k < length t → σ.mark k ≡ replaced r → (r < k) ⊎ IsNew t σ r)

-- it is no Next and no Bad
unfoldable pub ReplacementServes : Type 0
ReplacementServes = OfFolds (λ t σ. (k r : ℕ) → k < length t → σ.mark k ≡ replaced r → r < length t → may_serve (node_at t r) ≡ true)

-- "every replacement, a node or a constant, has its node's own sort"
abbrev pub SortsKept : List Node → St → Type 0
SortsKept t σ = (k r : ℕ) → k < length t → σ.mark k ≡ replaced r → (σ.rows r).sort ≡ (node_at t k).sort

unfoldable pub ReplacementSort : Type 0
ReplacementSort = OfFolds SortsKept

-- "every made constant is the replacement of some node", of its sort
abbrev pub MadeFor : List Node → St → Type 0
MadeFor t σ =
    (r : ℕ) → length t + 2 ≤ r → r < length t + 2 + σ.made → (k : ℕ) × (k < length t) × (σ.mark k ≡ replaced r) × ((σ.rows r).sort ≡ (node_at t k).sort)

unfoldable pub MadeReplaces : Type 0
MadeReplaces = OfFolds MadeFor

-- a constant's number fits the replaced node's width
unfoldable pub ReplacementFits : Type 0
ReplacementFits =
    OfFolds (λ t σ. (k r x : ℕ) → k < length t → σ.mark k ≡ replaced r → const_of σ.rows r ≡ some x → x < 2 ^ width (node_at t k).sort)

-- every number from n on that is in use is a Const and no word besides, of a known sort other than 3, and its number fits that sort
pub record MadeRow (nd : Node) : Type 0 where
  pub const : nd ≡ constant nd.sort nd.a
  pub known : known_sort nd.sort ≡ true
  pub sort : nd.sort ≢ memory_code
  pub fits : nd.a < 2 ^ width nd.sort

abbrev pub AllMade : List Node → St → Type 0
AllMade t σ = (r : ℕ) → IsNew t σ r → MadeRow (σ.rows r)

unfoldable pub MadeFits : Type 0
MadeFits = OfFolds AllMade

-- a rewritten row keeps its kind, sort, name and unused words, a Const its number, an Ext its from, a State its b, a Next its state
pub record SameNode (nd g : Node) : Type 0 where
  pub kind : nd.kind ≡ g.kind
  pub sort : nd.sort ≡ g.sort
  pub name : nd.name ≡ g.name
  pub number : is Const g ≡ true → nd.a ≡ g.a
  pub from : is Ext g ≡ true → nd.b ≡ g.b
  pub init : is State g ≡ true → nd.b ≡ g.b
  pub state : is Next g ≡ true → nd.a ≡ g.a
  pub unused : unused_as g.kind nd ≡ unused_as g.kind g

abbrev pub AllKept : List Node → St → Type 0
AllKept t σ = (k : ℕ) → k < length t → SameNode (σ.rows k) (node_at t k)

unfoldable pub RowKeeps : Type 0
RowKeeps = OfFolds AllKept

-- each operand of a rewritten row is below the row or a constant
unfoldable pub OperandsBelow : Type 0
OperandsBelow = OfFolds (λ t σ. (k : ℕ) → k < length t → All (λ x. (x < k) ⊎ IsNew t σ x) (operands (σ.rows k)))

-- a row passes rules 3 and 5 among the rewritten rows and the constants behind them; for rule 4, each operand is below the row or a constant
pub record Passes (names : ℕ) (t : List Node) (σ : St) (k : ℕ) : Type 0 where
  pub three : rule3 names (coded (σ.rows k)) ≡ true
  pub before : All (λ x. (x < k) ⊎ IsNew t σ x) (operands (σ.rows k))
  pub five : rule5_at σ.rows (σ.rows k) ≡ true

-- every rewritten row and every constant does
abbrev pub AllPass : ℕ → List Node → St → Type 0
AllPass names t σ = (k : ℕ) → k < length t + 2 + σ.made → Passes names t σ k

-- they do if the given rows pass rule 3
abbrev pub GivenPass : ℕ → List Node → Type 0
GivenPass names t = (k : ℕ) → k < length t → rule3 names (coded (node_at t k)) ≡ true

unfoldable pub RowsPass : Type 0
RowsPass = (names : ℕ) (m : Model) (how : Mode) (f : Folded) → WellFormed m → GivenPass names m.table → fold m how ≡ done f → AllPass names m.table f.state

-- what the operands of rewritten rows are worth
pub record OperandsWorth (how : Reading) (t : List Node) (σ : St) (α : ℕ → Value) : Type 0 where
  -- each what the operand in its place in the given row is worth in the given table
  pub each : (k : ℕ) → k < length t → map (worth_of how t α σ) (operands (σ.rows k)) ≡ map (value how (node_at t) α) (operands (node_at t k))
  -- so a State's init what the given one is
  pub inits : (k : ℕ) → k < length t → is State (node_at t k) ≡ true → (node_at t k).b ≡ 1 → worth_of how t α σ (σ.rows k).a ≡ value how (node_at t) α (node_at t k).a

-- under demand 3's premises
unfoldable pub OperandsKept : Type 0
OperandsKept =
    (m : Model) (how : Mode) (f : Folded) → WellFormed m → fold m how ≡ done f → NonePassed how.reading f
    → ((α : ℕ → Value) → Faithful how.reading m.table m.sequentials f.state α → RepliesHold how.reading m.table α f.state)
    → (α : ℕ → Value) → Faithful how.reading m.table m.sequentials f.state α → OperandsWorth how.reading m.table f.state α

-- fuel is bookkeeping: in a legal table a visit from a list is the rule of visits over itself
unfoldable pub VisitRule : Type 0
VisitRule =
    (t : List Node) (ways : Ways) → AllLegal t → (σ : St) (k : ℕ) → k < length t → visit_top t ways σ k ≡ visit_marked t ways (visit_top t ways) (σ.mark k) σ k
