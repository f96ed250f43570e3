-- The tally's five figures are what is said of them (docs/FORMAT.md, "Result", "Reads", "One-query").
--     LookedRule    the writes looked at never exceed the visited Reads times the table's Writes
--     TakenRule     inputs and replies are taken in order, one for each state and each question
--     PassedRule    unsettled writes are passed only by reads that found a value
--     ReadRule, OthersRule   what one Read adds to the two counts of writes, and that nothing else adds
--     VerdictRule   the verdict, from the mode, the initial bads left and the last question's reply
-- Assumes nothing.
use Rattle.std.specs.Prelude.{ℕ, ◌+◌, ◌-◌, ◌*◌, ◌<◌, ◌≤◌, min, ◌≡◌, Bool, true, false, cond, ◌≢◌, List, [], ◌∷◌, length, get_or, drop, eqb}
use Rattle.std.proofs.Math.Option.{none, some}
use Rattle.btor.specs.Operators.{bit}
use Rattle.rules.specs.Lists.{sum, All}
use Rattle.rules.specs.Refusal.{Out, refused, done}
use Rattle.rules.specs.Table.{Read, Write, State, Node, is, node_at}
use Rattle.rules.specs.Model.{Model, Mode}
use Rattle.rules.specs.Legal.{WellFormed}
use Rattle.rules.specs.Walk.{St, Mark, fresh, kept, replaced, Question, Held}
use Rattle.rules.specs.Fold.{Fold}
use Rattle.rules.specs.Questions.{ask}
use Rattle.rules.specs.Memory.{Found, find}
use Rattle.rules.specs.Visit.{Ways, settle, forward, take_input}
use Rattle.rules.specs.Whole.{Folded, fold}

-- ---- writes looked at
abbrev pub if_visited : ℕ → Mark → ℕ
if_visited x fresh = 0
if_visited x kept = x
if_visited x (replaced r) = x

-- "the table's Writes", visited or not
unfoldable pub writes : List Node → ℕ
writes t = sum (length t) (λ k. bit (is Write (node_at t k)))

unfoldable pub visited_reads : List Node → (ℕ → Mark) → ℕ
visited_reads t mark = sum (length t) (λ k. if_visited (bit (is Read (node_at t k))) (mark k))

unfoldable pub LookedRule : Type 0
LookedRule =
    (m : Model) (how : Mode) (f : Folded) → WellFormed m → fold m how ≡ done f
    → f.state.looked ≤ visited_reads m.table f.state.mark * writes m.table

-- ---- inputs taken and replies taken
abbrev pub reply_at : List Question → ℕ → ℕ
reply_at qs i = (get_or qs i (record { kind = 0; first = 0; second = 0; reply = 0; bads = [] })).reply

-- a state that took an input is one of the table's
abbrev pub AState : List Node → Held → Type 0
AState t h = (h.state < length t) × ((node_at t h.state).kind ≡ State)

-- no state took two
abbrev pub Apart : List Held → Type 0
Apart [] = Unit
Apart (h ∷ hs) = All (λ g. g.state ≢ h.state) hs × Apart hs

-- the inputs taken are as many as the states that took one, and those left follow them; a question takes the first reply left, and a missing one counts as 0
pub record Taken (m : Model) (f : Folded) : Type 0 where
  pub inputs : length m.inputs - length f.state.inputs ≡ length f.state.held
  pub inputs_left : f.state.inputs ≡ drop (length f.state.held) m.inputs
  pub states : All (AState m.table) f.state.held
  pub apart : Apart f.state.held
  pub replies : length m.replies - length f.state.replies ≡ min (length f.state.asked) (length m.replies)
  pub replies_left : f.state.replies ≡ drop (length f.state.asked) m.replies
  pub each : (i : ℕ) → i < length f.state.asked → reply_at f.state.asked i ≡ get_or m.replies i 0

unfoldable pub TakenRule : Type 0
TakenRule = (m : Model) (how : Mode) (f : Folded) → WellFormed m → fold m how ≡ done f → Taken m f

-- ---- "The unsettled Writes that it passed": what a Read at a constant address adds, of what its walk r found
pub record Added (σ : St) (r : Found) (σ' : St) : Type 0 where
  pub looked : σ'.looked ≡ σ.looked + r.looked
  pub lost : r.value ≡ none → σ'.passed ≡ σ.passed
  pub found : (v : ℕ) → r.value ≡ some v → σ'.passed ≡ σ.passed + r.unsettled

abbrev pub AddedBy : St → Found → Out (St × ℕ) → Type 0
AddedBy σ r (refused e) = Unit
AddedBy σ r (done p) = Added σ r p.0

unfoldable pub ReadRule : Type 0
ReadRule =
    (t : List Node) (ways : Ways) (k : ℕ) (σ : St) (m x : ℕ)
    → AddedBy σ (find ways.reading (length t) σ.rows x m) (forward t ways k σ m (some x))

abbrev pub if_replaced : ℕ → Mark → ℕ
if_replaced x fresh = 0
if_replaced x kept = 0
if_replaced x (replaced r) = x

-- "the Reads that found a value": those that are replaced, since no question is put about one
unfoldable pub forwarded_reads : List Node → (ℕ → Mark) → ℕ
forwarded_reads t mark = sum (length t) (λ k. if_replaced (bit (is Read (node_at t k))) (mark k))

-- those passed are among those looked at, and none is passed where no read was forwarded
pub record Passed (m : Model) (f : Folded) : Type 0 where
  pub among : f.state.passed ≤ f.state.looked
  pub forwarded : f.state.passed ≤ forwarded_reads m.table f.state.mark * writes m.table

unfoldable pub PassedRule : Type 0
PassedRule = (m : Model) (how : Mode) (f : Folded) → WellFormed m → fold m how ≡ done f → Passed m f

-- nothing else adds: settling a node, asking, and taking an input leave both counts as they were
abbrev pub Uncounted : {A : Type 0} → St → Out (St × A) → Type 0
Uncounted σ (refused e) = Unit
Uncounted σ (done p) = (p.0.looked ≡ σ.looked) × (p.0.passed ≡ σ.passed)

pub record OthersAddNone (t : List Node) (ways : Ways) (σ : St) : Type 0 where
  pub settles : (k : ℕ) (f : Fold) → Uncounted σ (settle t ways k σ f)
  pub asks : (q x y : ℕ) (bs : List ℕ) → Uncounted σ (ask ways.reply_count σ q x y bs)
  pub takes : (k : ℕ) (nd : Node) (xs : List ℕ) → Uncounted σ (take_input t ways σ k nd xs)

unfoldable pub OthersRule : Type 0
OthersRule = (t : List Node) (ways : Ways) (σ : St) → OthersAddNone t ways σ

-- ---- the verdict, "0 without one-query; else 1, 2 or 3"
abbrev pub last_reply : List Question → ℕ
last_reply [] = 0
last_reply (q ∷ []) = q.reply
last_reply (q ∷ q' ∷ qs) = last_reply (q' ∷ qs)

abbrev pub verdict_by : Bool → List ℕ → ℕ → ℕ
verdict_by false left r = 0
verdict_by true [] r = 3
verdict_by true (b ∷ bs) r = cond (eqb r 1) 2 1

unfoldable pub VerdictRule : Type 0
VerdictRule = (m : Model) (how : Mode) (f : Folded) → fold m how ≡ done f → f.verdict ≡ verdict_by how.one_query f.initial (last_reply f.state.asked)
