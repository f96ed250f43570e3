-- Laws of SMT-LIB's bit vectors, over the width: a vector's number, a number's vector, and the operators that go bit by bit.
-- Assumes nothing.
use Rattle.std.proofs.Common.{◌≡◌, ℕ, zero, suc, ◌+◌, ◌-◌, ◌*◌, ◌/◌, ◌%◌, ◌^◌, ◌<◌, ◌≤◌, Bool, true, false, cond, eqb, ltb, sym, refl, ap, ◌∙◌, ap₂, mod-lt, mod-eq_of_lt, div-le_self, arith, ltb-false, ltb-true, le-ltb, lt-ltb}
use native.Mathlib.Nat.{mod-one, mod-le, add-mod-mod, div-eq_of_lt, div-eq_of_lt-le}
use lib.Bits.{bit_and, bit_or, and_shr, or_shr, and_mod, or_mod}
use lib.Pow.{mod-pow-add, shr_le}
use Rattle.btor.specs.Standard.{BitVector, bv2nat, nat2bv, bvnot, bvand, bvor, bvneg, bvadd, bvsub, bvmul, bvudiv, bvurem, bvshl, bvlshr, zero_extend, Equal}

-- equal vectors have one number
pub number_same : (m : ℕ) (s t : BitVector) → Equal m s t → bv2nat m s ≡ bv2nat m t
unfolding bv2nat
number_same zero s t h = refl
number_same (suc m) s t h = ap₂ (λ (a b : ℕ). a * 2 ^ m + b) (h m (omega arith)) (number_same m s t (λ x l. h x (omega arith)))

-- the number of a number's vector
pub number_of : (m n : ℕ) → bv2nat m (nat2bv n) ≡ n % 2 ^ m
unfolding bv2nat nat2bv
number_of zero n = sym (mod-one n)
number_of (suc m) n =
    let e : 1 + m ≡ suc m = omega arith in
    ap (λ (k : ℕ). n / 2 ^ m % 2 * 2 ^ m + k) (number_of m n) ∙ sym (mod-pow-add n 1 m) ∙ ap (λ (k : ℕ). n % 2 ^ k) e

pub number-of_fit : (m n : ℕ) → n < 2 ^ m → bv2nat m (nat2bv n) ≡ n
number-of_fit m n h = number_of m n ∙ mod-eq_of_lt h

pub bit_lt : (n x : ℕ) → nat2bv n x < 2
unfolding nat2bv
bit_lt n x = mod-lt (n / 2 ^ x) (omega arith)

-- a bit is 0 or 1
bit_cases : (P : ℕ → Type 0) → P 0 → P 1 → (p : ℕ) → p < 2 → P p
bit_cases P z o zero h = z
bit_cases P z o (suc zero) h = o
bit_cases P z o (suc (suc p)) h = absurd (omega arith)

and_bits : (p q : ℕ) → p < 2 → q < 2 → bit_and p q ≡ cond (eqb p 0) 0 q
and_bits p q hp hq = bit_cases (λ p. bit_and p q ≡ cond (eqb p 0) 0 q) refl (bit_cases (λ q. bit_and 1 q ≡ q) refl refl q hq) p hp

or_bits : (p q : ℕ) → p < 2 → q < 2 → bit_or p q ≡ cond (eqb p 1) 1 q
or_bits p q hp hq =
    bit_cases (λ p. bit_or p q ≡ cond (eqb p 1) 1 q) (bit_cases (λ q. bit_or 0 q ≡ q) refl refl q hq) (bit_cases (λ q. bit_or 1 q ≡ 1) refl refl q hq) p hp

pub and_at : (x y k : ℕ) → bvand (nat2bv x) (nat2bv y) k ≡ nat2bv (bit_and x y) k
unfolding bvand nat2bv
and_at x y k =
    sym (ap (λ (n : ℕ). n % 2) (and_shr x y k) ∙ and_mod (x / 2 ^ k) (y / 2 ^ k) 1 ∙ and_bits (x / 2 ^ k % 2) (y / 2 ^ k % 2) (bit_lt x k) (bit_lt y k))

pub or_at : (x y k : ℕ) → bvor (nat2bv x) (nat2bv y) k ≡ nat2bv (bit_or x y) k
unfolding bvor nat2bv
or_at x y k =
    sym (ap (λ (n : ℕ). n % 2) (or_shr x y k) ∙ or_mod (x / 2 ^ k) (y / 2 ^ k) 1 ∙ or_bits (x / 2 ^ k % 2) (y / 2 ^ k % 2) (bit_lt x k) (bit_lt y k))

-- a bit and its complement
flip : (p P : ℕ) → p < 2 → cond (eqb p 0) 1 0 * P + p * P ≡ P
flip p P h = bit_cases (λ p. cond (eqb p 0) 1 0 * P + p * P ≡ P) (omega arith) (omega arith) p h

-- a vector and its complement add up to all ones
pub number-not : (m n : ℕ) → bv2nat m (bvnot (nat2bv n)) + bv2nat m (nat2bv n) + 1 ≡ 2 ^ m
unfolding bv2nat bvnot
number-not zero n = refl
number-not (suc m) n = omega (arith, number-not m n, flip (nat2bv n m) (2 ^ m) (bit_lt n m))

-- all ones
pub number-ones : (m : ℕ) → bv2nat m (λ x. 1) + 1 ≡ 2 ^ m
unfolding bv2nat
number-ones zero = refl
number-ones (suc m) = omega (arith, number-ones m)

extend-low : (m : ℕ) (s : BitVector) (x : ℕ) → x < m → zero_extend m s x ≡ s x
unfolding zero_extend
extend-low m s x l = simp (lt-ltb x m l)

extend-high : (m : ℕ) (s : BitVector) (x : ℕ) → m ≤ x → zero_extend m s x ≡ 0
unfolding zero_extend
extend-high m s x l = simp (le-ltb x m l)

-- zeros before a vector leave its number
pub number_extended : (m i : ℕ) (s : BitVector) → bv2nat (m + i) (zero_extend m s) ≡ bv2nat m s
unfolding bv2nat
number_extended m zero s =
    let e : m + 0 ≡ m = omega arith in
    ap (λ (k : ℕ). bv2nat k (zero_extend m s)) e ∙ number_same m (zero_extend m s) s (extend-low m s)
number_extended m (suc i) s =
    let e : m + suc i ≡ suc (m + i) = omega arith in
    ap (λ (k : ℕ). bv2nat k (zero_extend m s)) e
    ∙ ap (λ (b : ℕ). b * 2 ^ (m + i) + bv2nat (m + i) (zero_extend m s)) (extend-high m s (m + i) (omega arith))
    ∙ omega (arith, number_extended m i s)

-- ---- the operators that go by numbers
pub number-neg : (m : ℕ) (s : BitVector) → bv2nat m (bvneg m s) ≡ (2 ^ m - bv2nat m s) % 2 ^ m
unfolding bvneg
number-neg m s = number_of m (2 ^ m - bv2nat m s)

pub number-add : (m : ℕ) (s t : BitVector) → bv2nat m (bvadd m s t) ≡ (bv2nat m s + bv2nat m t) % 2 ^ m
unfolding bvadd
number-add m s t = number_of m (bv2nat m s + bv2nat m t)

pub number-sub : (m : ℕ) (s t : BitVector) → bv2nat m (bvsub m s t) ≡ (bv2nat m s + (2 ^ m - bv2nat m t)) % 2 ^ m
unfolding bvsub
number-sub m s t =
    number-add m s (bvneg m t)
    ∙ ap (λ (k : ℕ). (bv2nat m s + k) % 2 ^ m) (number-neg m t)
    ∙ add-mod-mod (bv2nat m s) (2 ^ m - bv2nat m t) (2 ^ m)

pub number-mul : (m : ℕ) (s t : BitVector) → bv2nat m (bvmul m s t) ≡ bv2nat m s * bv2nat m t % 2 ^ m
unfolding bvmul
number-mul m s t = number_of m (bv2nat m s * bv2nat m t)

pub number-udiv : (m : ℕ) (s t : BitVector) → bv2nat m s < 2 ^ m
    → bv2nat m (bvudiv m s t) ≡ cond (eqb (bv2nat m t) 0) (2 ^ m - 1) (bv2nat m s / bv2nat m t)
unfolding bvudiv
number-udiv m s t h = go (eqb (bv2nat m t) 0)
  where
    go : (z : Bool) → bv2nat m (cond z (λ x. 1) (nat2bv (bv2nat m s / bv2nat m t))) ≡ cond z (2 ^ m - 1) (bv2nat m s / bv2nat m t)
    go true = omega (arith, number-ones m)
    go false = number-of_fit m (bv2nat m s / bv2nat m t) (omega (arith, div-le_self (bv2nat m s) (bv2nat m t)))

pub number_urem : (m : ℕ) (s t : BitVector) → bv2nat m s < 2 ^ m
    → bv2nat m (bvurem m s t) ≡ cond (eqb (bv2nat m t) 0) (bv2nat m s) (bv2nat m s % bv2nat m t)
unfolding bvurem
number_urem m s t h = go (eqb (bv2nat m t) 0)
  where
    go : (z : Bool) → bv2nat m (cond z s (nat2bv (bv2nat m s % bv2nat m t))) ≡ cond z (bv2nat m s) (bv2nat m s % bv2nat m t)
    go true = refl
    go false = number-of_fit m (bv2nat m s % bv2nat m t) (omega (arith, mod-le (bv2nat m s) (bv2nat m t)))

pub number_shl : (m : ℕ) (s t : BitVector) → bv2nat m (bvshl m s t) ≡ bv2nat m s * 2 ^ bv2nat m t % 2 ^ m
unfolding bvshl
number_shl m s t = number_of m (bv2nat m s * 2 ^ bv2nat m t)

pub number_lshr : (m : ℕ) (s t : BitVector) → bv2nat m s < 2 ^ m → bv2nat m (bvlshr m s t) ≡ bv2nat m s / 2 ^ bv2nat m t
unfolding bvlshr
number_lshr m s t h = number-of_fit m (bv2nat m s / 2 ^ bv2nat m t) (omega (arith, shr_le (bv2nat m s) (bv2nat m t)))

-- the highest bit is 0 in the lower half
pub top_bit : (m x : ℕ) → x < 2 ^ suc m → eqb (nat2bv x m) 0 ≡ ltb x (2 ^ m)
unfolding nat2bv
top_bit m x h = go (ltb x (2 ^ m)) refl
  where
    go : (b : Bool) → ltb x (2 ^ m) ≡ b → eqb (x / 2 ^ m % 2) 0 ≡ b
    go true e =
        let z : x / 2 ^ m ≡ 0 = div-eq_of_lt (ltb-true x (2 ^ m) e) in
        ap (λ (k : ℕ). eqb (k % 2) 0) z
    go false e =
        let l : 2 ^ m ≤ x = ltb-false x (2 ^ m) e in
        let one : x / 2 ^ m ≡ 1 = div-eq_of_lt-le {k = 1} (2 ^ m) (omega arith) (omega arith) in
        ap (λ (k : ℕ). eqb (k % 2) 0) one
