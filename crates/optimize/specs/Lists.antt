-- The lists of a call, and which entries are kept.
--     Table       a legal table, whole in its words            entries_of   a list in a buffer        walked_of    what a list of visits leaves
--     Table-prop    that this has one proof at most, as a ghost field wants it
-- Assumes nothing.
use Rattle.std.specs.Prelude.{ℕ, ◌-◌, ◌<◌, ◌≤◌, ◌≡◌, true, List, [], ◌∷◌, ◌++◌, length, take, drop, ⊤, Result, Ok, Err}
use Rattle.std.specs.Coded.{×_prop, Unit-prop}
use Rattle.std.proofs.Props.{props}
use Rattle.rules.specs.Lists.{All}
use Rattle.rules.specs.Table.{Node, node_at, operands}
use Rattle.rules.specs.Check.{known_sort, may_serve, sorted}
use Rattle.rules.specs.Legal.{Legal, AllLegal}
use Rattle.rules.specs.Refusal.{Out, refused, done}
use Rattle.rules.specs.Walk.{St}
use Rattle.tables.specs.declared.refusal.Refusal.{Refusal}
use Rattle.tables.specs.declared.sections.Part.{Part}
use Rattle.tables.specs.declared.sections.Sections.{Sections}
use Rattle.optimize.specs.declared.lists.Lists.{Lists}
use Rattle.tables.specs.Refusals.{refusal_of}
use Rattle.optimize.specs.Bounds.{count_of, most_nodes, rows_end}
use Rattle.optimize.specs.View.{table_of}

pub record Table (g : List ℕ) : Type 0 where
  pub legal : AllLegal (table_of g)
  pub small : count_of g ≤ most_nodes
  pub whole : rows_end (count_of g) ≤ length g

All-prop : {A : Type 0} (P : A → Type 0) → ((x : A) → IsProp (P x)) → (xs : List A) → IsProp (All P xs)
All-prop P one [] = Unit-prop
All-prop P one (x ∷ xs) = ×_prop (one x) (All-prop P one xs)

Legal-prop : (t : List Node) (k : ℕ) (nd : Node) → IsProp (Legal t k nd)
Legal-prop t k nd x y =
    let known : IsProp (known_sort nd.sort ≡ true) = hlevel props in
    let before : IsProp (All (λ x. x < k) (operands nd)) = All-prop (λ x. x < k) (λ x. hlevel props) (operands nd) in
    let serve : IsProp (All (λ x. may_serve (node_at t x) ≡ true) (operands nd)) =
    All-prop (λ x. may_serve (node_at t x) ≡ true) (λ x. hlevel props) (operands nd) in
    let sorts : IsProp (All (λ b. b ≡ true) (sorted t nd)) = All-prop (λ b. b ≡ true) (λ b. hlevel props) (sorted t nd) in
    λ i. record { known = known x.known y.known i; before = before x.before y.before i; serve = serve x.serve y.serve i; sorts = sorts x.sorts y.sorts i }

pub Table-prop : (g : List ℕ) → IsProp (Table g)
Table-prop g x y =
    let legal : IsProp (AllLegal (table_of g)) = hlevel (props, Legal-prop) in
    let small : IsProp (count_of g ≤ most_nodes) = hlevel props in
    let whole : IsProp (rows_end (count_of g) ≤ length g) = hlevel props in
    λ i. record { legal = legal x.legal y.legal i; small = small x.small y.small i; whole = whole x.whole y.whole i }

-- so many entries from a place on
abbrev pub entries_of : List ℕ → ℕ → ℕ → List ℕ
entries_of ws at count = take count (drop at ws)

-- entries kept before those that a judgement keeps
abbrev pub joined : List ℕ → St × List ℕ → St × List ℕ
joined before p = (p.0, before ++ p.1)

-- what a list of visits leaves
unfoldable pub walked_of : St → Result ⊤ Refusal → Out St
walked_of σ (Ok x) = done σ
walked_of σ (Err r) = refused (refusal_of r)

-- ---- the lists that stand in words
-- the words from one place to another
abbrev pub between : List ℕ → ℕ → ℕ → List ℕ
between ws from to = take (to - from) (drop from ws)

abbrev pub part_of : List ℕ → Part → List ℕ
part_of ws p = between ws p.start p.end

pub record ListsCut (l : Lists) (ws : List ℕ) (s : Sections) : Type 0 where
  pub sequentials : l.sequentials.now ≡ part_of ws s.sequentials
  pub initial : l.initial.now ≡ part_of ws s.initial
  pub later : l.later.now ≡ part_of ws s.later
