-- Lists: what an entry put at the end of one leaves, and how the sequentials are judged entry by entry.
-- Assumes nothing.
use Prim.Native.Nat.{ℕ, zero, suc, ◌+◌, ◌<◌}
use mathlib.Core.Path.{◌≡◌, refl, ap, ap₂, sym, subst, ◌∙◌}
use mathlib.Core.Bool.{Bool, true, false, not, ◌||◌}
use mathlib.Core.Option.{none, some}
use mathlib.Core.List.{List, [], ◌∷◌, ◌++◌, append_assoc, append-nil}
use native.Mathlib.Numerals.{add-one}
use native.Mathlib.Omega.{arith}
use lib.ListN.{length, get_or, take, set}
use lib.Dec.{eqb}
use lib.Seq.{take-suc-set}
use borrow.Author.Tests.{eq-eqb, ne_eqb}
use Rattle.rules.specs.Lists.{All}
use Rattle.rules.specs.Table.{Next, Node, node_at}
use Rattle.rules.specs.Legal.{Sequential}
use Rattle.rules.specs.Walk.{St, Held, replaced, set_mark}
use Rattle.rules.specs.Fold.{const_of}
use Rattle.rules.specs.Whole.{same_const, trivial, drop_next, judge_sequentials}
use Rattle.rules.proofs.Legal.{legal_as, state_ok}
use Rattle.optimize.specs.declared.walk.Walk.{Walk}
use Rattle.optimize.specs.declared.call.Call.{Call}
use Rattle.optimize.specs.declared.folder.ConstantFolder.{ConstantFolder}
use Rattle.optimize.specs.Bounds.{count_of}
use Rattle.optimize.specs.Folder.{given_in, seen}
use Rattle.rules.specs.Sections.{word_of}
use Rattle.optimize.specs.View.{node_of, table_of, view}
use Rattle.optimize.specs.Lists.{Table, joined}
use Rattle.optimize.proofs.Steps.{table-length}
use Rattle.optimize.proofs.Walks.{node_at_lem}

-- ---- lists
pub all-at : (P : ℕ → Type 0) (xs : List ℕ) → All P xs → (i : ℕ) → i < length xs → P (get_or xs i 0)
all-at P [] h i l = absurd (omega arith)
all-at P (x ∷ xs) h zero l = h.0
all-at P (x ∷ xs) h (suc i) l = all-at P xs h.1 i (omega arith)

-- ---- the table as given
constant-given : (g : List ℕ) (node : ℕ) → node < count_of g → const_of (node_of g) node ≡ const_of (node_at (table_of g)) node
constant-given g node l = ap (λ (nd : Node). const_of (λ _. nd) node) (sym (node_at_lem g node l))

-- a listed sequential, its state, that state's init and the next value are nodes of the table
pub record Inside (g : List ℕ) (s : ℕ) : Type 0 where
  pub itself : s < count_of g
  pub state : word_of g s 2 < count_of g
  pub init : word_of g (word_of g s 2) 2 < count_of g
  pub next : word_of g s 3 < count_of g

pub sequential_inside : (g : List ℕ) (s : ℕ) → Table g → Sequential (table_of g) s → Inside g s
sequential_inside g s T q =
    let l : s < count_of g = omega (arith, q.inside, table-length g) in
    let o = state_ok (table_of g) s T.legal q in
    let n = node_at_lem g s l in
    let a : (node_at (table_of g) s).a ≡ word_of g s 2 = ap (λ (nd : Node). nd.a) n in
    let b : (node_at (table_of g) s).b ≡ word_of g s 3 = ap (λ (nd : Node). nd.b) n in
    let k : word_of g s 2 < count_of g = omega (arith, o.inside, a, table-length g) in
    let i : (node_at (table_of g) (node_at (table_of g) s).a).a ≡ word_of g (word_of g s 2) 2 = ap (λ z. (node_at (table_of g) z).a) a ∙ ap (λ (nd : Node). nd.a) (node_at_lem g (word_of g s 2) k) in
    let p = (legal_as (table_of g) s Next (node_at (table_of g) s) q.next (T.legal s q.inside)).before.1.0 in
    record { itself = l; state = k; init = omega (arith, o.init.before, i, a, k); next = omega (arith, p, b, l) }

module _ (g : List ℕ) (s : ℕ) (k : Inside g s) where
  trivial-is : trivial (table_of g) (node_at (table_of g) s)
      ≡ (eqb (word_of g s 2) (word_of g s 3) || same_const (const_of (node_of g) (word_of g (word_of g s 2) 2)) (const_of (node_of g) (word_of g s 3)))
  trivial-is =
      ap (trivial (table_of g)) (node_at_lem g s k.itself)
      ∙ ap (λ (nd : Node). eqb (word_of g s 2) (word_of g s 3) || same_const (const_of (node_at (table_of g)) nd.a) (const_of (node_at (table_of g)) (word_of g s 3))) (node_at_lem g (word_of g s 2) k.state)
      ∙ ap₂ (λ x y. eqb (word_of g s 2) (word_of g s 3) || same_const x y) (sym (constant-given g (word_of g (word_of g s 2) 2) k.init)) (sym (constant-given g (word_of g s 3) k.next))

  pub retain_itself : word_of g s 2 ≡ word_of g s 3 → false ≡ not (trivial (table_of g) (node_at (table_of g) s))
  retain_itself e = sym (ap not (trivial-is ∙ ap (λ b. b || same_const (const_of (node_of g) (word_of g (word_of g s 2) 2)) (const_of (node_of g) (word_of g s 3))) (eq-eqb (word_of g s 2) (word_of g s 3) e)))

  retain_by : (b : Bool) → (word_of g s 2 ≡ word_of g s 3 → ⊥) → same_const (const_of (node_of g) (word_of g (word_of g s 2) 2)) (const_of (node_of g) (word_of g s 3)) ≡ b
      → not b ≡ not (trivial (table_of g) (node_at (table_of g) s))
  retain_by b d e =
      sym (ap not (trivial-is
      ∙ ap (λ z. z || same_const (const_of (node_of g) (word_of g (word_of g s 2) 2)) (const_of (node_of g) (word_of g s 3))) (ne_eqb (word_of g s 2) (word_of g s 3) d) ∙ e))

  module _ (d : word_of g s 2 ≡ word_of g s 3 → ⊥) where
    pub retain_no-init : none ≡ const_of (node_of g) (word_of g (word_of g s 2) 2) → true ≡ not (trivial (table_of g) (node_at (table_of g) s))
    retain_no-init e = retain_by false d (ap (λ z. same_const z (const_of (node_of g) (word_of g s 3))) (sym e))

    module _ (x : ℕ) (e : some x ≡ const_of (node_of g) (word_of g (word_of g s 2) 2)) where
      pub retain_no-next : none ≡ const_of (node_of g) (word_of g s 3) → true ≡ not (trivial (table_of g) (node_at (table_of g) s))
      retain_no-next f = retain_by false d (ap₂ same_const (sym e) (sym f))

      pub retain_two : (y : ℕ) → some y ≡ const_of (node_of g) (word_of g s 3) → not (eqb y x) ≡ not (trivial (table_of g) (node_at (table_of g) s))
      retain_two y f = retain_by (eqb y x) d (ap₂ same_const (sym e) (sym f))

-- ---- the sequentials, one by one
not_back : (b c : Bool) → b ≡ not c → c ≡ not b
not_back true true e = e
not_back true false e = refl
not_back false true e = refl
not_back false false e = e

pub entries-more : (l : List ℕ) (count x : ℕ) → count < length l → take (count + 1) (set l count x) ≡ take count l ++ (x ∷ [])
entries-more l count x h = ap (λ k. take k (set l count x)) (add-one count) ∙ take-suc-set l count x h

module _ (h : List Held) (g inputs replies R S ss : List ℕ) (w : Walk) (s : ℕ) where
  abbrev σ : St
  σ = view h g inputs replies R S w

  abbrev t : List Node
  t = table_of g

  pub keep_step : (r : Bool) → r ≡ not (trivial t (node_at t s)) → r ≡ true → judge_sequentials t σ (s ∷ ss) ≡ joined (s ∷ []) (judge_sequentials t σ ss)
  unfolding judge_sequentials
  keep_step r e d =
      let f : trivial t (node_at t s) ≡ false = not_back r (trivial t (node_at t s)) e ∙ ap not d in
      let j : St × List ℕ = judge_sequentials t σ ss in
      ap (λ b. elim b [ true ↦ judge_sequentials t (drop_next t σ (node_at t s)) ss | false ↦ (j.0, s ∷ j.1) ]) f

  pub drop-step : (r : Bool) (τ : St) (state init : ℕ) → Inside g s → r ≡ not (trivial t (node_at t s)) → r ≡ false → state ≡ word_of g s 2 → init ≡ word_of g state 2
      → τ ≡ set_mark σ state (replaced init)
      → judge_sequentials t σ (s ∷ ss) ≡ joined [] (judge_sequentials t τ ss)
  unfolding judge_sequentials
  drop-step r τ state init k e d p q v =
      let z : trivial t (node_at t s) ≡ true = not_back r (trivial t (node_at t s)) e ∙ ap not d in
      let a : (node_at t s).a ≡ state = ap (λ (nd : Node). nd.a) (node_at_lem g s k.itself) ∙ sym p in
      let i : (node_at t (node_at t s).a).a ≡ init = ap (λ z. (node_at t z).a) (a ∙ p) ∙ ap (λ (nd : Node). nd.a) (node_at_lem g (word_of g s 2) k.state) ∙ ap (λ z. word_of g z 2) (sym p) ∙ sym q in
      let j : St × List ℕ = judge_sequentials t σ ss in
      ap (λ b. elim b [ true ↦ judge_sequentials t (drop_next t σ (node_at t s)) ss | false ↦ (j.0, s ∷ j.1) ]) z
      ∙ ap (λ τ. judge_sequentials t τ ss) (ap₂ (λ m r. set_mark σ m (replaced r)) a i ∙ sym v)

pub judged-all : (t : List Node) (σ : St) (E l : List ℕ) → l ≡ [] → joined E (judge_sequentials t σ l) ≡ (σ, E)
unfolding judge_sequentials
judged-all t σ E l e = ap (λ z. joined E (judge_sequentials t σ z)) e ∙ ap (λ z. (σ, z)) (append-nil E)

-- ---- in the folder
module _ (f f₁ : ConstantFolder) (same : f₁.call ≡ f.call) where
  table-on : table_of (given_in f₁) ≡ table_of (given_in f)
  table-on = ap (λ (c : Call). table_of c.given.now) same

  -- one more is judged, and its entry, if any, put after those before it
  pub judged-on : (f₂ : ConstantFolder) (h : List Held) (before entry after : List ℕ) (s : ℕ) (ss : List ℕ)
      → judge_sequentials (table_of (given_in f₁)) (seen h f₁) (s ∷ ss) ≡ joined entry (judge_sequentials (table_of (given_in f₁)) (seen h f₂) ss) → after ≡ before ++ entry
      → joined before (judge_sequentials (table_of (given_in f)) (seen h f₁) (s ∷ ss)) ≡ joined after (judge_sequentials (table_of (given_in f)) (seen h f₂) ss)
  judged-on f₂ h before entry after s ss e put =
      let j : St × List ℕ = judge_sequentials (table_of (given_in f₁)) (seen h f₂) ss in
      subst (λ (t : List Node). joined before (judge_sequentials t (seen h f₁) (s ∷ ss)) ≡ joined after (judge_sequentials t (seen h f₂) ss)) table-on
      (ap (joined before) e ∙ ap (λ l. (j.0, l)) (sym (append_assoc before entry j.1)) ∙ ap (λ l. joined l j) (sym put))

  pub sequential-on : (s : ℕ) → Sequential (table_of (given_in f)) s → Sequential (table_of (given_in f₁)) s
  sequential-on s q = subst (λ (t : List Node). Sequential t s) (sym table-on) q
