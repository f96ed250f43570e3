-- The value of a node in the given table: it is worth what its row says of its operands' values, and it fits its sort.
-- Fuel above a rank is enough where each row names only numbers of lower rank; in a given table the rank is the number itself.
-- Assumes nothing.
use Prim.Native.Nat.{ℕ, zero, suc, ◌<◌, ◌^◌}
use mathlib.Core.Path.{◌≡◌, refl, sym, ap, ap₂, ◌∙◌, subst}
use mathlib.Core.Logic.{◌≢◌}
use mathlib.Core.Bool.{Bool, true, false, cond, ◌||◌}
use mathlib.Core.List.{List}
use native.Mathlib.Omega.{arith}
use lib.ListN.{length}
use lib.Dec.{ltb, eqb, lit<}
use borrow.Author.Tests.{eqb-true, eqb-false, ltb-true, not-true}
use lib.Bits.{bit_and, bit_or, and_lt, or_lt}
use Rattle.btor.specs.Operators.{Reading, compute, complement, bit}
use Rattle.btor.specs.Sorts.{width}
use Rattle.rules.specs.Lists.{All}
use Rattle.rules.specs.Table.{Kind, Const, Read, Write, Word, Ult, Ext, Ite, Eq, And, Or, Not, State, Next, Input, Bad, Node, kind_code, node_at, is, operands_as, operands}
use Rattle.rules.specs.Check.{sorted_as}
use Rattle.rules.specs.Legal.{AllLegal}
use Rattle.rules.specs.Value.{Value, number, memory, num, mem, written, meaning, worth, over_in, over, value_step, value_by, value, Fits}
use Rattle.rules.specs.Demand.{Assigns}
use Rattle.rules.proofs.Base.{cases_cond, all_map}
use Rattle.btor.specs.Standard.{nat2bv, ite, Truth, IsTrue}
use Rattle.btor.specs.Agreement.{ChoiceAgrees}
use Rattle.btor.proofs.Agreement.{choice_agrees}
use Rattle.btor.proofs.Laws.{compute-fits}
use Rattle.rules.proofs.Words.{complement-fits, fits_word, width-bit, width_word}

-- ---- values that agree on its operands give a row one worth
pub meaning-same : (how : Reading) (K : Kind) (nd : Node) (u v : ℕ → Value) (own : Value) → All (λ j. u j ≡ v j) (operands_as K nd)
    → meaning how K u own nd ≡ meaning how K v own nd
meaning-same how Const nd u v own h = refl
meaning-same how Read nd u v own h = ap₂ (λ p q. number (mem p (num q))) h.0 h.1.0
meaning-same how Write nd u v own h = λ i. written (h.0 i) (h.1.0 i) (h.1.1.0 i)
meaning-same how (Word op) nd u v own h = ap₂ (λ p q. number (compute how op (num p) (num q))) h.0 h.1.0
meaning-same how Ult nd u v own h = ap₂ (λ p q. number (bit (ltb (num p) (num q)))) h.0 h.1.0
meaning-same how Ext nd u v own h = ap (λ p. number (num p)) h.0
meaning-same how Ite nd u v own h = λ i. cond (eqb (num (h.0 i)) 1) (h.1.0 i) (h.1.1.0 i)
meaning-same how Eq nd u v own h = ap₂ (λ p q. number (bit (eqb (num p) (num q)))) h.0 h.1.0
meaning-same how And nd u v own h = ap₂ (λ p q. number (bit_and (num p) (num q))) h.0 h.1.0
meaning-same how Or nd u v own h = ap₂ (λ p q. number (bit_or (num p) (num q))) h.0 h.1.0
meaning-same how Not nd u v own h = ap (λ p. number (complement (width nd.sort) (num p))) h.0
meaning-same how State nd u v own h = refl
meaning-same how Next nd u v own h = h.1.0
meaning-same how Input nd u v own h = refl
meaning-same how Bad nd u v own h = h.0

-- an Ite is worth what SMT-LIB's ite gives of its branches, numbers or memories, where its condition fits sort 1
pub ite-agrees : (how : Reading) (v : ℕ → Value) (own : Value) (nd : Node) (t : Bool) → num (v nd.a) < 2 ^ 1 → Truth t (IsTrue (nat2bv (num (v nd.a))))
    → meaning how Ite v own nd ≡ ite t (v nd.b) (v nd.c)
unfolding ChoiceAgrees
ite-agrees how v own nd = choice_agrees Value (num (v nd.a)) (v nd.b) (v nd.c)

-- what the assignment gives is the node's own value, where it matters
pub meaning-own : (how : Reading) (K : Kind) (v : ℕ → Value) (own w : Value) (nd : Node) → meaning how K v own nd ≡ w → meaning how K v w nd ≡ w
meaning-own how Const v own w nd e = e
meaning-own how Read v own w nd e = e
meaning-own how Write v own w nd e = e
meaning-own how (Word op) v own w nd e = e
meaning-own how Ult v own w nd e = e
meaning-own how Ext v own w nd e = e
meaning-own how Ite v own w nd e = e
meaning-own how Eq v own w nd e = e
meaning-own how And v own w nd e = e
meaning-own how Or v own w nd e = e
meaning-own how Not v own w nd e = e
meaning-own how State v own w nd e = refl
meaning-own how Next v own w nd e = e
meaning-own how Input v own w nd e = refl
meaning-own how Bad v own w nd e = e

-- ---- fuel above the rank is enough, where each row names only numbers of lower rank
module _ {A : Type 0} (d : A) (step : ℕ → Node → (ℕ → A) → A) (rows : ℕ → Node) (Dom : ℕ → Type 0) (rank : ℕ → ℕ)
    (same : (u v : ℕ → A) (k : ℕ) → All (λ j. u j ≡ v j) (operands (rows k)) → step k (rows k) u ≡ step k (rows k) v)
    (down : (k : ℕ) → Dom k → All (λ j. Dom j × (rank j < rank k)) (operands (rows k)))
    (low : (k : ℕ) → Dom k → rank k < suc (suc k)) where
  steady : (f g k : ℕ) → Dom k → rank k < f → rank k < g → over_in d step rows f k ≡ over_in d step rows g k
  unfolding over_in
  steady zero g k e h i = absurd (omega arith)
  steady (suc f) zero k e h i = absurd (omega arith)
  steady (suc f) (suc g) k e h i =
      same (over_in d step rows f) (over_in d step rows g) k
      (all_map _ (λ j. over_in d step rows f j ≡ over_in d step rows g j) (λ j q. let r = q.1 in steady f g j q.0 (omega (arith, r)) (omega (arith, r))) (operands (rows k)) (down k e))

  -- what a number gets is what its row makes of what the others get
  pub over-is : (k : ℕ) → Dom k → step k (rows k) (over d step rows) ≡ over d step rows k
  unfolding over over_in
  over-is k e =
      same (over d step rows) (over_in d step rows (suc k)) k
      (all_map _ (λ j. over d step rows j ≡ over_in d step rows (suc k) j)
      (λ j q. let r = q.1 in let s = low k e in steady (suc (suc j)) (suc k) j q.0 (low j q.0) (omega (arith, r, s))) (operands (rows k)) (down k e))

  -- and what is so is that
  module _ (u : ℕ → A) (is : (k : ℕ) → Dom k → step k (rows k) u ≡ u k) where
    reaches : (f k : ℕ) → Dom k → rank k < f → over_in d step rows f k ≡ u k
    unfolding over_in
    reaches zero k e h = absurd (omega arith)
    reaches (suc f) k e h =
        same (over_in d step rows f) u k
        (all_map _ (λ j. over_in d step rows f j ≡ u j) (λ j q. let r = q.1 in reaches f j q.0 (omega (arith, r))) (operands (rows k)) (down k e))
        ∙ is k e

    pub over-only : (k : ℕ) → Dom k → over d step rows k ≡ u k
    unfolding over
    over-only k e = reaches (suc (suc k)) k e (low k e)

-- values
module _ (how : Reading) (rows : ℕ → Node) (own : (ℕ → Value) → ℕ → Value) (Dom : ℕ → Type 0) (rank : ℕ → ℕ)
    (own_same : (u v : ℕ → Value) (k : ℕ) → All (λ j. u j ≡ v j) (operands (rows k)) → own u k ≡ own v k)
    (down : (k : ℕ) → Dom k → All (λ j. Dom j × (rank j < rank k)) (operands (rows k)))
    (low : (k : ℕ) → Dom k → rank k < suc (suc k)) where
  row_same : (u v : ℕ → Value) (k : ℕ) → All (λ j. u j ≡ v j) (operands (rows k)) → worth how u (own u k) (rows k) ≡ worth how v (own v k) (rows k)
  row_same u v k h = meaning-same how (rows k).kind (rows k) u v (own u k) h ∙ ap (λ o. worth how v o (rows k)) (own_same u v k h)

  pub solves : (k : ℕ) → Dom k → worth how (value_by how rows own) (own (value_by how rows own) k) (rows k) ≡ value_by how rows own k
  solves = over-is (number 0) (value_step how own) rows Dom rank row_same down low

  pub only : (u : ℕ → Value) → ((k : ℕ) → Dom k → worth how u (own u k) (rows k) ≡ u k) → (k : ℕ) → Dom k → value_by how rows own k ≡ u k
  only = over-only (number 0) (value_step how own) rows Dom rank row_same down low

-- in a table as given
module _ (how : Reading) (t : List Node) (legal : AllLegal t) (own : (ℕ → Value) → ℕ → Value)
    (own_same : (u v : ℕ → Value) (k : ℕ) → All (λ j. u j ≡ v j) (operands (node_at t k)) → own u k ≡ own v k) where
  pub given-down : (k : ℕ) → k < length t → All (λ j. (j < length t) × (j < k)) (operands (node_at t k))
  given-down k l = all_map _ (λ j. (j < length t) × (j < k)) (λ j h. (omega arith, h)) (operands (node_at t k)) (legal k l).before

  pub given-solves : (k : ℕ) → k < length t → worth how (value_by how (node_at t) own) (own (value_by how (node_at t) own) k) (node_at t k) ≡ value_by how (node_at t) own k
  given-solves = solves how (node_at t) own (λ k. k < length t) (λ k. k) own_same given-down (λ k l. omega arith)

  pub given-only : (u : ℕ → Value) → ((k : ℕ) → k < length t → worth how u (own u k) (node_at t k) ≡ u k) → (k : ℕ) → k < length t → value_by how (node_at t) own k ≡ u k
  given-only u is = only how (node_at t) own (λ k. k < length t) (λ k. k) own_same given-down (λ k l. omega arith) u is

pub value-is : (how : Reading) (t : List Node) (α : ℕ → Value) → AllLegal t → (k : ℕ) → k < length t
    → worth how (value how (node_at t) α) (α k) (node_at t k) ≡ value how (node_at t) α k
unfolding value
value-is how t α legal k l = given-solves how t legal (λ v. α) (λ u v j h. refl) k l

-- ---- a value that fits
-- a value that fits a sort other than 3 is a number below its width
pub fits-num : (s : ℕ) → s ≢ 3 → (p : Value) → Fits s p → (p ≡ number (num p)) × (num p < 2 ^ width s)
fits-num s h (number x) f = (refl, f.1)
fits-num s h (memory g) f = absurd (h f.0)

word_fits : (s x : ℕ) → s ≡ 2 → x < 2 ^ 64 → Fits s (number x)
word_fits s x e h = subst (λ i. Fits i (number x)) (sym e) ((λ z. omega arith), subst (λ w. x < 2 ^ w) (sym width_word) h)

bit-fits : (s : ℕ) (b : Bool) → s ≡ 1 → Fits s (number (bit b))
bit-fits s true e = subst (λ i. Fits i (number 1)) (sym e) ((λ z. omega arith), subst (λ w. 1 < 2 ^ w) (sym width-bit) (lit< tt))
bit-fits s false e = subst (λ i. Fits i (number 0)) (sym e) ((λ z. omega arith), subst (λ w. 0 < 2 ^ w) (sym width-bit) (lit< tt))

pub word-num : (s : ℕ) (p : Value) → s ≡ 2 → Fits s p → (p ≡ number (num p)) × (num p < 2 ^ 64)
word-num s p e f = let g = fits-num 2 (λ z. omega arith) p (subst (λ i. Fits i p) e f) in (g.0, fits_word 2 (num p) g.1)

mem-fits : (s : ℕ) (p : Value) → s ≡ 3 → Fits s p → (j : ℕ) → mem p j < 2 ^ 64
mem-fits s (number x) e f j = lit< tt
mem-fits s (memory g) e f j = f.1 j

-- ---- a row fits its sort when its operands fit theirs
module _ (how : Reading) (t : List Node) (k : ℕ) (u : ℕ → Value) (own : Value) (h : (j : ℕ) → j < k → Fits (node_at t j).sort (u j)) where
  at : (x s : ℕ) → x < k → eqb (node_at t x).sort s ≡ true → Fits s (u x)
  at x s l e = subst (λ i. Fits i (u x)) (eqb-true (node_at t x).sort s e) (h x l)

  pub meaning-fits : (K : Kind) (nd : Node) → All (λ x. x < k) (operands_as K nd) → All (λ b. b ≡ true) (sorted_as (node_at t) K nd)
      → ((is State nd || is Input nd) ≡ true → Fits nd.sort own) → nd.kind ≡ K → Fits nd.sort (meaning how K u own nd)
  meaning-fits Const nd b g f q = (eqb-false nd.sort 3 (not-true _ g.0), ltb-true nd.a (2 ^ width nd.sort) g.1.0)
  meaning-fits Read nd b g f q = word_fits nd.sort _ (eqb-true nd.sort 2 g.0) (mem-fits 3 (u nd.a) refl (at nd.a 3 b.0 g.1.0) (num (u nd.b)))
  meaning-fits Write nd b g f q = (
    eqb-true nd.sort 3 g.0,
    λ j. cases_cond (λ (x : ℕ). x < 2 ^ 64) (eqb j (num (u nd.b)))
        (λ _. (word-num 2 (u nd.c) refl (at nd.c 2 b.1.1.0 g.1.1.1.0)).1)
        (λ _. mem-fits 3 (u nd.a) refl (at nd.a 3 b.0 g.1.0) j),
  )
  meaning-fits (Word op) nd b g f q =
      word_fits nd.sort _ (eqb-true nd.sort 2 g.0) (compute-fits how op _ _ (word-num 2 (u nd.a) refl (at nd.a 2 b.0 g.1.0)).1)
  meaning-fits Ult nd b g f q = bit-fits nd.sort (ltb (num (u nd.a)) (num (u nd.b))) (eqb-true nd.sort 1 g.0)
  meaning-fits Ext nd b g f q =
      word_fits nd.sort _ (eqb-true nd.sort 2 g.0)
      (fits_word (node_at t nd.a).sort _ (fits-num (node_at t nd.a).sort (eqb-false (node_at t nd.a).sort 3 (not-true _ g.1.1.0)) (u nd.a) (h nd.a b.0)).1)
  meaning-fits Ite nd b g f q =
      cases_cond (Fits nd.sort) (eqb (num (u nd.a)) 1) (λ _. at nd.b nd.sort b.1.0 g.1.0) (λ _. at nd.c nd.sort b.1.1.0 g.1.1.0)
  meaning-fits Eq nd b g f q = bit-fits nd.sort (eqb (num (u nd.a)) (num (u nd.b))) (eqb-true nd.sort 1 g.0)
  meaning-fits And nd b g f q =
      let ne = eqb-false nd.sort 3 (not-true _ g.0) in
      (ne, and_lt (width nd.sort) _ _ (fits-num nd.sort ne (u nd.a) (at nd.a nd.sort b.0 g.1.0)).1 (fits-num nd.sort ne (u nd.b) (at nd.b nd.sort b.1.0 g.1.1.0)).1)
  meaning-fits Or nd b g f q =
      let ne = eqb-false nd.sort 3 (not-true _ g.0) in
      (ne, or_lt (width nd.sort) _ _ (fits-num nd.sort ne (u nd.a) (at nd.a nd.sort b.0 g.1.0)).1 (fits-num nd.sort ne (u nd.b) (at nd.b nd.sort b.1.0 g.1.1.0)).1)
  meaning-fits Not nd b g f q = (eqb-false nd.sort 3 (not-true _ g.0), complement-fits (width nd.sort) (num (u nd.a)))
  meaning-fits State nd b g f q = f (ap (λ K. eqb (kind_code K) 19 || eqb (kind_code K) 21) q)
  meaning-fits Next nd b g f q = at nd.b nd.sort b.1.0 g.1.1.0
  meaning-fits Input nd b g f q = f (ap (λ K. eqb (kind_code K) 19 || eqb (kind_code K) 21) q)
  meaning-fits Bad nd b g f q = subst (λ i. Fits i (u nd.a)) (sym (eqb-true nd.sort 1 g.0)) (at nd.a 1 b.0 g.1.0)

module _ (how : Reading) (t : List Node) (α : ℕ → Value) (legal : AllLegal t) (assigned : Assigns t α) where
  fits_below : (m k : ℕ) → k < m → k < length t → Fits (node_at t k).sort (value how (node_at t) α k)
  fits_below zero k h l = absurd (omega arith)
  fits_below (suc m) k h l =
      subst (Fits (node_at t k).sort) (value-is how t α legal k l)
      (meaning-fits how t k (value how (node_at t) α) (α k) (λ j i. fits_below m j (omega arith) (omega arith)) (node_at t k).kind (node_at t k) (legal k l).before (legal k l).sorts (assigned k l) refl)

  pub value-fits : (k : ℕ) → k < length t → Fits (node_at t k).sort (value how (node_at t) α k)
  value-fits k l = fits_below (suc k) k (omega arith) l
