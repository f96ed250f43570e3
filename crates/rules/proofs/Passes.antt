-- What a fold leaves passes rules 3 and 5 again: a rewritten row has the given row's words but for its operands, and those have the given operands' sorts.
-- Assumes nothing.
use Prim.Native.Nat.{ℕ, ◌<◌, ◌^◌}
use mathlib.Core.Path.{◌≡◌, refl, sym, ap, ◌∙◌, subst}
use mathlib.Core.Logic.{◌≢◌, ◌⊎◌}
use mathlib.Core.Bool.{Bool, true, false, cond, ◌||◌, not}
use mathlib.Core.List.{List, [], ◌∷◌}
use native.Mathlib.Omega.{arith}
use lib.ListN.{length}
use lib.Dec.{leb, eqb}
use borrow.Author.Tests.{lt-ltb, ne_eqb, le-leb}
use Rattle.btor.specs.Sorts.{width}
use Rattle.rules.specs.Lists.{all_true, every, All}
use Rattle.rules.specs.Table.{Kind, Const, Read, Write, Word, Ult, Ext, Ite, Eq, And, Or, Not, State, Next, Input, Bad, Row, Node, decode, coded, kind_code, is, constant, node_at, operands_as, operands, fits}
use Rattle.rules.specs.Check.{known_kind, known_sort, unused_as, named, rule3, may_serve, sorted_as, rule5_at}
use Rattle.rules.specs.Legal.{AllLegal}
use Rattle.rules.specs.Walk.{St}
use Rattle.rules.specs.Laws.{IsNew, SameNode, RowKeeps, OperandsBelow, MadeRow, Passes, RowsPass}
use Rattle.rules.specs.Fine.{Refs, Shape}
use Rattle.rules.specs.Renumber.{SameButOperands}
use Rattle.rules.proofs.Base.{no, and_both, inside-or-past, kind-of-code, code-of-kind, is-kind, kind-is}
use Rattle.rules.proofs.Check.{all_hold, five-holds}
use Rattle.rules.proofs.Shape.{stands_sort, stands_serves}
use Rattle.rules.proofs.Laws.{the_shape, row_keeps, operands-below}

-- a rewritten row is the given one but for its operands
but_operands : (nd g : Node) → SameNode nd g → SameButOperands nd g
but_operands nd g s = assumption s

-- ---- rule 3 of a node's row
abbrev others : ℕ → Node → List Bool
others names nd = known_sort nd.sort ∷ (not (is Ext nd) || known_sort nd.b) ∷ every (λ x. eqb x 0) (unused_as nd.kind nd) ∷ named names nd

abbrev pub three : ℕ → ℕ → Node → Bool
three names code nd = all_true (known_kind code ∷ others names nd)

pub coded-three : (names : ℕ) (nd : Node) → rule3 names (coded nd) ≡ three names (kind_code nd.kind) nd
coded-three names nd =
    ap (λ K. three names (kind_code nd.kind) (record { kind = K; sort = nd.sort; a = nd.a; b = nd.b; c = nd.c; name = nd.name })) (kind-of-code nd.kind)

-- of a row whose kind is known, decoded
pub decoded_three : (names : ℕ) (r : Row) → rule3 names r ≡ true → rule3 names (coded (decode r)) ≡ true
decoded_three names r e =
    coded-three names (decode r) ∙ ap (λ c. three names c (decode r)) (code-of-kind r.code (and_both (known_kind r.code) (all_true (others names (decode r))) e).0) ∙ e

same_from : (b x y : Bool) → (b ≡ true → x ≡ y) → (not b || x) ≡ (not b || y)
same_from true x y h = h refl
same_from false x y h = refl

pub same-three : (names : ℕ) (nd g : Node) → SameButOperands nd g → three names (kind_code nd.kind) nd ≡ three names (kind_code g.kind) g
same-three names nd g s = λ i.
    all_true (known_kind (kind_code (s.kind i)) ∷ known_sort (s.sort i) ∷ from i ∷ every (λ x. eqb x 0) (unused i) ∷ leb (s.name i) names
    ∷ (eqb (s.name i) 0 || of State i || of Bad i || of Input i) ∷ (not (eqb (s.name i) 0) || not (of Input i)) ∷ [])
  where
    of : (K : Kind) → is K nd ≡ is K g
    of K = ap (λ J. eqb (kind_code J) (kind_code K)) s.kind

    from : (not (is Ext nd) || known_sort nd.b) ≡ (not (is Ext g) || known_sort g.b)
    from = ap (λ b. not b || known_sort nd.b) (of Ext) ∙ same_from (is Ext g) _ _ (λ q. ap known_sort (s.from q))

    unused : unused_as nd.kind nd ≡ unused_as g.kind g
    unused = ap (λ K. unused_as K nd) s.kind ∙ s.unused

-- ---- rule 5's sorts: rows alike, whose operands have sorts alike
module _ (at given : ℕ → Node) where
  abbrev pub SortsLike : List ℕ → List ℕ → Type 0
  SortsLike [] [] = Unit
  SortsLike [] (o ∷ os) = ⊥
  SortsLike (x ∷ xs) [] = ⊥
  SortsLike (x ∷ xs) (o ∷ os) = ((at x).sort ≡ (given o).sort) × SortsLike xs os

  pub same-sorts : (K : Kind) (nd g : Node) → SameButOperands nd g → g.kind ≡ K → (is Next g ≡ true → is State (at nd.a) ≡ is State (given g.a))
      → SortsLike (operands_as K nd) (operands_as K g) → sorted_as at K nd ≡ sorted_as given K g
  same-sorts Const nd g s e n h = let q = s.number (kind-is Const g e) in λ i. not (eqb (s.sort i) 3) ∷ fits (s.sort i) (q i) ∷ []
  same-sorts Read nd g s e n h = λ i. eqb (s.sort i) 2 ∷ eqb (h.0 i) 3 ∷ eqb (h.1.0 i) 2 ∷ []
  same-sorts Write nd g s e n h = λ i. eqb (s.sort i) 3 ∷ eqb (h.0 i) 3 ∷ eqb (h.1.0 i) 2 ∷ eqb (h.1.1.0 i) 2 ∷ []
  same-sorts (Word op) nd g s e n h = λ i. eqb (s.sort i) 2 ∷ eqb (h.0 i) 2 ∷ eqb (h.1.0 i) 2 ∷ []
  same-sorts Ult nd g s e n h = λ i. eqb (s.sort i) 1 ∷ eqb (h.0 i) (h.1.0 i) ∷ not (eqb (h.0 i) 3) ∷ []
  same-sorts Ext nd g s e n h = let q = s.from (kind-is Ext g e) in λ i. eqb (s.sort i) 2 ∷ eqb (h.0 i) (q i) ∷ not (eqb (h.0 i) 3) ∷ []
  same-sorts Ite nd g s e n h = λ i. eqb (h.0 i) 1 ∷ eqb (h.1.0 i) (s.sort i) ∷ eqb (h.1.1.0 i) (s.sort i) ∷ []
  same-sorts Eq nd g s e n h = λ i. eqb (s.sort i) 1 ∷ eqb (h.0 i) (h.1.0 i) ∷ not (eqb (h.0 i) 3) ∷ []
  same-sorts And nd g s e n h = λ i. not (eqb (s.sort i) 3) ∷ eqb (h.0 i) (s.sort i) ∷ eqb (h.1.0 i) (s.sort i) ∷ []
  same-sorts Or nd g s e n h = λ i. not (eqb (s.sort i) 3) ∷ eqb (h.0 i) (s.sort i) ∷ eqb (h.1.0 i) (s.sort i) ∷ []
  same-sorts Not nd g s e n h = λ i. not (eqb (s.sort i) 3) ∷ eqb (h.0 i) (s.sort i) ∷ []
  same-sorts State nd g s e n h = go (eqb nd.b 1) (eqb g.b 1) (ap (λ b. eqb b 1) (s.init (kind-is State g e))) h
    where
      go : (b b' : Bool) → b ≡ b' → SortsLike (cond b (nd.a ∷ []) []) (cond b' (g.a ∷ []) [])
          → cond b (eqb (at nd.a).sort nd.sort ∷ []) [] ≡ cond b' (eqb (given g.a).sort g.sort ∷ []) []
      go true true q r = λ i. eqb (r.0 i) (s.sort i) ∷ []
      go true false q r = no (sym q)
      go false true q r = no q
      go false false q r = refl
  same-sorts Next nd g s e n h = let q = n (kind-is Next g e) in λ i. q i ∷ eqb (h.0 i) (s.sort i) ∷ eqb (h.1.0 i) (s.sort i) ∷ []
  same-sorts Input nd g s e n h = refl
  same-sorts Bad nd g s e n h = λ i. eqb (s.sort i) 1 ∷ eqb (h.0 i) 1 ∷ []

-- ---- the rows that a fold left
module _ (t : List Node) (legal : AllLegal t) (σ : St) (shape : Shape t σ.rows σ.made σ.mark) where
  serves : (k : ℕ) (xs os : List ℕ) → Refs t σ.rows σ.made k xs os → All (λ x. may_serve (σ.rows x) ≡ true) xs
  serves k [] os h = tt
  serves k (x ∷ xs) [] h = absurd h
  serves k (x ∷ xs) (o ∷ os) h = (stands_serves t σ.rows σ.made σ.mark shape x (node_at t o).sort h.0.1, serves k xs os h.1)

  sorts : (k : ℕ) (xs os : List ℕ) → Refs t σ.rows σ.made k xs os → SortsLike σ.rows (node_at t) xs os
  sorts k [] [] h = tt
  sorts k [] (o ∷ os) h = absurd h
  sorts k (x ∷ xs) [] h = absurd h
  sorts k (x ∷ xs) (o ∷ os) h = (stands_sort t σ.rows σ.made σ.mark shape x (node_at t o).sort h.0.1, sorts k xs os h.1)

  node-five : (k : ℕ) → k < length t → SameNode (σ.rows k) (node_at t k) → rule5_at σ.rows (σ.rows k) ≡ true
  node-five k l s =
      let nd : Node = σ.rows k in
      let g : Node = node_at t k in
      five-holds σ.rows nd (serves k (operands nd) (operands g) (shape.refs k l))
      (subst (All (λ b. b ≡ true))
      (sym (ap (λ K. sorted_as σ.rows K nd) s.kind
      ∙ same-sorts σ.rows (node_at t) g.kind nd g (but_operands nd g s) refl state (subst (λ K. SortsLike σ.rows (node_at t) (operands_as K nd) (operands g)) s.kind (sorts k (operands nd) (operands g) (shape.refs k l)))))
      (legal k l).sorts)
    where
      -- a Next's state is not rewritten, and stays a State
      state : is Next (node_at t k) ≡ true → is State (σ.rows (σ.rows k).a) ≡ is State (node_at t (node_at t k).a)
      state q =
          let g : Node = node_at t k in
          let b = (subst (λ K. All (λ x. x < k) (operands_as K g)) (is-kind Next g q) (legal k l).before).0 in
          ap (λ x. is State (σ.rows x)) (s.state q) ∙ ap (λ K. eqb (kind_code K) (kind_code State)) (shape.alike g.a (omega (arith, b, l))).kind

-- a constant's row
const-three : (names s x : ℕ) → known_sort s ≡ true → rule3 names (coded (constant s x)) ≡ true
const-three names s x e = all_hold (true ∷ known_sort s ∷ true ∷ true ∷ leb 0 names ∷ true ∷ true ∷ []) (refl, (e, (refl, (refl, (le-leb 0 names (omega arith), (refl, (refl, tt)))))))

const-five : (at : ℕ → Node) (s x : ℕ) → s ≢ 3 → x < 2 ^ width s → rule5_at at (constant s x) ≡ true
const-five at s x n l = all_hold (not (eqb s 3) ∷ fits s x ∷ []) (ap not (ne_eqb s 3 n), (lt-ltb x (2 ^ width s) l, tt))

const-passes : (names : ℕ) (t : List Node) (σ : St) (k : ℕ) → MadeRow (σ.rows k) → Passes names t σ k
const-passes names t σ k h =
    let nd : Node = σ.rows k in
    let plain = h.const in
    record {
      three = ap (λ w. rule3 names (coded w)) plain ∙ const-three names nd.sort nd.a h.known;
      before = subst (λ (w : Node). All (λ x. (x < k) ⊎ IsNew t σ x) (operands w)) (sym plain) tt;
      five = ap (rule5_at σ.rows) plain ∙ const-five σ.rows nd.sort nd.a h.sort h.fits;
    }

pub rows_pass : RowsPass
unfolding RowsPass RowKeeps OperandsBelow
rows_pass names m how f wf given e k l =
    let shape = the_shape m how f wf e in
    inside-or-past _ k (length m.table)
    (λ i.
    let s = row_keeps m how f wf e k i in
    record {
      three = coded-three names (f.state.rows k) ∙ same-three names (f.state.rows k) (node_at m.table k) (but_operands _ _ s) ∙ sym (coded-three names (node_at m.table k)) ∙ given k i;
      before = operands-below m how f wf e k i;
      five = node-five m.table wf.nodes f.state shape k i s;
    })
    (λ i. const-passes names m.table f.state k (shape.news k i l))
