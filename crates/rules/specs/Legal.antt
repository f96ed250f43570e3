-- What the checks establish of a table and its lists, as facts: rules 3 to 7 hold of whatever is accepted.
--     Legal      what they establish of a node    WellFormed   of a model, with rules 6 and 7 of its lists
--     Accepted   a model that is not refused is well formed, and rule 3 holds of each row     Unrefused   and the other way round
-- Assumes nothing.
use Rattle.std.specs.Prelude.{ℕ, ◌<◌, ◌≡◌, ◌≢◌, Bool, true, List, [], ◌∷◌, length, get_or}
use Rattle.std.proofs.Math.Option.{none}
use Rattle.rules.specs.Lists.{All}
use Rattle.rules.specs.Table.{Next, Input, Bad, Row, Node, node_at, operands, kind_code}
use Rattle.rules.specs.Model.{Model, Mode, model_of}
use Rattle.rules.specs.Refusal.{done}
use Rattle.rules.specs.Whole.{Folded, fold, run}
use Rattle.rules.specs.Check.{known_sort, rule3, may_serve, sorted, check}

-- 3: the sort is known; 4: operands stand before their node; 5: no Next or Bad is one, and the sorts are right
pub record Legal (t : List Node) (k : ℕ) (nd : Node) : Type 0 where
  pub known : known_sort nd.sort ≡ true
  pub before : All (λ x. x < k) (operands nd)
  pub serve : All (λ x. may_serve (node_at t x) ≡ true) (operands nd)
  pub sorts : All (λ b. b ≡ true) (sorted t nd)

abbrev pub AllLegal : List Node → Type 0
AllLegal t = (k : ℕ) → k < length t → Legal t k (node_at t k)

-- 6: a Next of a state with an init, and a Bad
pub record Sequential (t : List Node) (s : ℕ) : Type 0 where
  pub inside : s < length t
  pub next : (node_at t s).kind ≡ Next
  pub init : (node_at t (node_at t s).a).b ≡ 1

pub record BadEntry (t : List Node) (b : ℕ) : Type 0 where
  pub inside : b < length t
  pub bad : (node_at t b).kind ≡ Bad

-- 7: no two listed Nexts are of one state
unfoldable pub Once : List Node → List ℕ → Type 0
Once t [] = Unit
Once t (s ∷ ss) = All (λ r. (node_at t r).a ≢ (node_at t s).a) ss × Once t ss

pub record WellFormed (m : Model) : Type 0 where
  pub nodes : AllLegal m.table
  pub sequentials : All (Sequential m.table) m.sequentials
  pub once : Once m.table m.sequentials
  pub initial : All (BadEntry m.table) m.initial
  pub later : All (BadEntry m.table) m.later

-- past the rows stands an Input
abbrev pub no_row : Row
no_row = record { code = kind_code Input; sort = 0; a = 0; b = 0; c = 0; name = 0 }

abbrev pub row_at : List Row → ℕ → Row
row_at rs k = get_or rs k no_row

pub record Meets (names : ℕ) (rs : List Row) (m : Model) : Type 0 where
  pub rows : (k : ℕ) → k < length rs → rule3 names (row_at rs k) ≡ true
  pub model : WellFormed m

unfoldable pub Accepted : Type 0
Accepted =
    (names : ℕ) (rs : List Row) (dump : ℕ → Bool) (ss initial later inputs replies : List ℕ)
    → check names rs (model_of rs dump ss initial later inputs replies) ≡ none → Meets names rs (model_of rs dump ss initial later inputs replies)

-- and so is every call whose run is not refused
unfoldable pub AcceptedRun : Type 0
AcceptedRun =
    (names : ℕ) (rs : List Row) (dump : ℕ → Bool) (ss initial later inputs replies : List ℕ) (how : Mode) (f : Folded)
    → run names rs (model_of rs dump ss initial later inputs replies) how ≡ done f
    → Meets names rs (model_of rs dump ss initial later inputs replies) × (fold (model_of rs dump ss initial later inputs replies) how ≡ done f)

-- the other way round, a model that meets them is not refused
unfoldable pub Unrefused : Type 0
Unrefused =
    (names : ℕ) (rs : List Row) (dump : ℕ → Bool) (ss initial later inputs replies : List ℕ)
    → Meets names rs (model_of rs dump ss initial later inputs replies) → check names rs (model_of rs dump ss initial later inputs replies) ≡ none
