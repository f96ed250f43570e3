-- What the nodes not yet visited may still spend: a node pays when it is marked.
-- Assumes nothing.
use Prim.Native.Nat.{ℕ, zero, suc, ◌+◌, ◌*◌, ◌<◌, ◌≤◌}
use mathlib.Core.Path.{◌≡◌, refl, sym, ap, ap₂, subst}
use mathlib.Core.Bool.{Bool, true, false, cond}
use native.Mathlib.Omega.{arith}
use lib.Dec.{eqb}
use borrow.Author.Tests.{eqb-true, eqb-false}
use Rattle.rules.specs.Lists.{put, sum}
use Rattle.rules.specs.Walk.{Mark, fresh, kept, replaced}
use Rattle.rules.specs.Room.{due, unpaid}
use Rattle.rules.specs.Tally.{if_visited, if_replaced}
use Rattle.rules.specs.Fine.{credit}
use Rattle.rules.proofs.Base.{cases_cond, put_other}

-- ---- sums over the marks
sum_same : (c : ℕ) (f g : ℕ → ℕ) → ((i : ℕ) → i < c → f i ≡ g i) → sum c f ≡ sum c g
unfolding sum
sum_same zero f g h = refl
sum_same (suc c) f g h = ap₂ ◌+◌ (h c (omega arith)) (sum_same c f g (λ i l. h i (omega arith)))

sum_most : (c : ℕ) (f g : ℕ → ℕ) → ((i : ℕ) → f i ≤ g i) → sum c f ≤ sum c g
unfolding sum
sum_most zero f g h = omega arith
sum_most (suc c) f g h = omega (arith, h c, sum_most c f g h)

-- with a mark put, its node counts for what that is worth
sum_put : (v : ℕ → Mark → ℕ) (c : ℕ) (f : ℕ → Mark) (k : ℕ) (m : Mark) → k < c → sum c (λ i. v i (put f k m i)) + v k (f k) ≡ sum c (λ i. v i (f i)) + v k m
unfolding sum
sum_put v zero f k m l = absurd (omega arith)
sum_put v (suc c) f k m l = go (eqb c k) refl (λ l'. sum_put v c f k m l')
  where
    go : (b : Bool) → eqb c k ≡ b → (k < c → sum c (λ i. v i (put f k m i)) + v k (f k) ≡ sum c (λ i. v i (f i)) + v k m)
        → v c (put f k m c) + sum c (λ i. v i (put f k m i)) + v k (f k) ≡ v c (f c) + sum c (λ i. v i (f i)) + v k m
    go true q ih =
        let ck : c ≡ k = eqb-true c k q in
        let e₁ : v c (put f k m c) ≡ v k m = ap₂ v ck (ap (λ b. cond b m (f c)) q) in
        let e₂ : v c (f c) ≡ v k (f k) = ap (λ i. v i (f i)) ck in
        let e₃ = sum_same c (λ i. v i (put f k m i)) (λ i. v i (f i)) (λ i j. ap (v i) (put_other f k m i (λ r. omega arith))) in
        omega arith
    go false q ih =
        let n : (c ≡ k → ⊥) = eqb-false c k q in
        let e₁ : v c (put f k m c) ≡ v c (f c) = ap (v c) (put_other f k m c n) in
        let e₂ = ih (omega arith) in
        omega arith

-- ---- what nodes have yet to pay
unpaid-sum : (w : ℕ → ℕ) (c : ℕ) (f : ℕ → Mark) → unpaid w c f ≡ sum c (λ i. due (w i) (f i))
unfolding unpaid sum
unpaid-sum w zero f = refl
unpaid-sum w (suc c) f = ap (λ s. due (w c) (f c) + s) (unpaid-sum w c f)

pub unpaid-put : (w : ℕ → ℕ) (c : ℕ) (f : ℕ → Mark) (k : ℕ) (m : Mark) → k < c → f k ≡ fresh → ((p : ℕ) → due p m ≡ 0)
    → unpaid w c (put f k m) + w k ≡ unpaid w c f
unpaid-put w c f k m l e z =
    omega (arith, unpaid-sum w c (put f k m), unpaid-sum w c f, sum_put (λ i. due (w i)) c f k m l, ap (due (w k)) e, z (w k))

pub unpaid-less : (w : ℕ → ℕ) (c : ℕ) (f : ℕ → Mark) (k : ℕ) (m : Mark) → ((p : ℕ) → due p m ≡ 0) → unpaid w c (put f k m) ≤ unpaid w c f
unpaid-less w c f k m z =
    omega (
      arith,
      unpaid-sum w c (put f k m),
      unpaid-sum w c f,
      sum_most c (λ i. due (w i) (put f k m i)) (λ i. due (w i) (f i))
          (λ i. cases_cond (λ x. due (w i) x ≤ due (w i) (f i)) (eqb i k) (λ _. omega (arith, z (w i))) (λ _. omega arith)),
    )

pub unpaid-all : (p c : ℕ) → unpaid (λ k. p) c (λ k. fresh) ≡ c * p
unfolding unpaid
unpaid-all p zero = omega arith
unpaid-all p (suc c) = omega (arith, unpaid-all p c)

-- what the fresh nodes have yet to pay and what the visited ones paid is what all pay
pub paid-all : (rd : ℕ → ℕ) (W c : ℕ) (f : ℕ → Mark) → unpaid (λ k. rd k * W) c (λ k. fresh) ≡ unpaid (λ k. rd k * W) c f + sum c (λ k. if_visited (rd k) (f k)) * W
unfolding unpaid sum
paid-all rd W zero f = omega arith
paid-all rd W (suc c) f = go (f c) (paid-all rd W c f)
  where
    go : (x : Mark) → unpaid (λ k. rd k * W) c (λ k. fresh) ≡ unpaid (λ k. rd k * W) c f + sum c (λ k. if_visited (rd k) (f k)) * W
        → rd c * W + unpaid (λ k. rd k * W) c (λ k. fresh) ≡ due (rd c * W) x + unpaid (λ k. rd k * W) c f + (if_visited (rd c) x + sum c (λ k. if_visited (rd k) (f k))) * W
    go fresh e = omega arith
    go kept e = omega arith
    go (replaced r) e = omega arith

-- ---- what the replaced nodes are worth
credit-sum : (w : ℕ → ℕ) (c : ℕ) (f : ℕ → Mark) → credit w c f ≡ sum c (λ i. if_replaced (w i) (f i))
unfolding credit sum
credit-sum w zero f = refl
credit-sum w (suc c) f = ap (λ s. if_replaced (w c) (f c) + s) (credit-sum w c f)

-- a mark that is worth no less than the old one
pub credit-put : (w : ℕ → ℕ) (c : ℕ) (f : ℕ → Mark) (k : ℕ) (m : Mark) → ((p : ℕ) → if_replaced p (f k) ≤ if_replaced p m) → credit w c f ≤ credit w c (put f k m)
credit-put w c f k m h =
    omega (
      arith,
      credit-sum w c f,
      credit-sum w c (put f k m),
      sum_most c (λ i. if_replaced (w i) (f i)) (λ i. if_replaced (w i) (put f k m i))
          (λ i. cases_cond (λ x. if_replaced (w i) (f i) ≤ if_replaced (w i) x) (eqb i k)
          (λ e. subst (λ j. if_replaced (w i) (f j) ≤ if_replaced (w i) m) (sym (eqb-true i k e)) (h (w i))) (λ _. omega arith)),
    )

-- a fresh node that is replaced
pub credit-replaced : (w : ℕ → ℕ) (c : ℕ) (f : ℕ → Mark) (k r : ℕ) → k < c → f k ≡ fresh → credit w c (put f k (replaced r)) ≡ credit w c f + w k
credit-replaced w c f k r l e =
    omega (arith, credit-sum w c (put f k (replaced r)), credit-sum w c f, sum_put (λ i. if_replaced (w i)) c f k (replaced r) l, ap (if_replaced (w k)) e)

pub credit-all : (rd : ℕ → ℕ) (W c : ℕ) (f : ℕ → Mark) → credit (λ k. rd k * W) c f ≡ sum c (λ k. if_replaced (rd k) (f k)) * W
unfolding credit sum
credit-all rd W zero f = omega arith
credit-all rd W (suc c) f = go (f c) (credit-all rd W c f)
  where
    go : (x : Mark) → credit (λ k. rd k * W) c f ≡ sum c (λ k. if_replaced (rd k) (f k)) * W → if_replaced (rd c * W) x + credit (λ k. rd k * W) c f ≡ (if_replaced (rd c) x + sum c (λ k. if_replaced (rd k) (f k))) * W
    go fresh e = omega arith
    go kept e = omega arith
    go (replaced r) e = omega arith
