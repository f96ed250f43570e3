-- The operators against the standard: equal in the standard's reading; equal in the Rust's exactly where `disagrees` says no; And, Or, Not, Ult,
-- Eq and Ext equal at each width; tests as bits and Ite are BTOR2's; memories obey ArraysEx. By the numbers of SMT-LIB's vectors (BitVectors), and
-- signed division by its four signs.
-- Assumes nothing.
use Rattle.std.proofs.Common.{◌≡◌, ℕ, ◌+◌, ◌-◌, ◌*◌, ◌/◌, ◌%◌, ◌^◌, ◌<◌, ◌≤◌, Bool, true, false, cond, not, ◌&&◌, ◌||◌, eqb, ltb, ◌≢◌, sym, refl, ap, ◌∙◌, subst, ap₂, mod-eq_of_lt, arith, lit<, ltb-false, ltb-true, eq-eqb, ne_eqb, eqb-true}
use mathlib.Core.Path.{fun_ext}
use mathlib.Core.Bool.{false≢true}
use lib.Bits.{and_lt, or_lt}
use lib.Signed.{quot_z}
use borrow.Author.Tests.{eqb-false}
use Rattle.btor.specs.Operators.{Op, Add, Sub, Mul, Divu, Div, Rem, Sll, Srl, Reading, rust, standard, compute, signed_div, signed, word, overflow, complement, bit, div_by_zero, least_by_minus_one}
use Rattle.btor.specs.Standard.{BitVector, bv2nat, nat2bv, bvneg, bvudiv, bvsdiv, bvand, bvor, bvnot, bvult, bit_vector_op, on_numbers, Equal, ite, Truth, test_bit}
use Rattle.btor.specs.Agreement.{disagrees, StandardAgrees, RustAgrees, WidthsAgree, TestsAgree, ChoiceAgrees, MemoriesAgree, HouseAgrees}
use Rattle.btor.proofs.Words.{shl_far, shr_far, div_quotient, magnitude-low, magnitude-high, quot_same-low, quot_same-high, quot_low-high, quot_high-low}
use Rattle.btor.proofs.BitVectors.{number_same, number_of, number-of_fit, number-not, number_extended, number-neg, number-add, number-sub, number-mul, number-udiv, number_urem, number_shl, number_lshr, top_bit, and_at, or_at}

-- a test by cases, with what it showed
pub cases : {A : Type 0} (P : A → Type 0) (b : Bool) {x y : A} → (b ≡ true → P x) → (b ≡ false → P y) → P (elim b [ true ↦ x | false ↦ y ])
cases P true f g = f refl
cases P false f g = g refl

-- ---- And, Or, Not, Ult, Eq, Ext, at each width
module _ (w : ℕ) where
  pub equal-numbers : (x y : ℕ) → x < 2 ^ w → y < 2 ^ w → Equal w (nat2bv x) (nat2bv y) → x ≡ y
  equal-numbers x y hx hy h = sym (number-of_fit w x hx) ∙ number_same w (nat2bv x) (nat2bv y) h ∙ number-of_fit w y hy

  not_agrees : (x : ℕ) → x < 2 ^ w → complement w x ≡ bv2nat w (bvnot (nat2bv x))
  unfolding complement
  not_agrees x h = omega (arith, number-not w x, number_of w x)

  pub widths_agree : WidthsAgree w
  unfolding bvult
  widths_agree =
      record {
        and = λ x y hx hy. sym (number_same w (bvand (nat2bv x) (nat2bv y)) (nat2bv _) (λ k _. and_at x y k) ∙ number-of_fit w _ (and_lt w x y hx hy));
        or = λ x y hx hy. sym (number_same w (bvor (nat2bv x) (nat2bv y)) (nat2bv _) (λ k _. or_at x y k) ∙ number-of_fit w _ (or_lt w x y hx hy));
        complement = not_agrees;
        less = λ x y hx hy. sym (ap₂ ltb (number-of_fit w x hx) (number-of_fit w y hy));
        equal = λ x y hx hy e k l. ap (λ (n : ℕ). nat2bv n k) (eqb-true x y e);
        unequal = λ x y hx hy e h. eqb-false x y e (equal-numbers x y hx hy h);
        extend = λ i x h. sym (number_extended w i (nat2bv x) ∙ number-of_fit w x h);
      }

  pub same_truth : (x y : ℕ) → x < 2 ^ w → y < 2 ^ w → Truth (eqb x y) (Equal w (nat2bv x) (nat2bv y))
  same_truth x y hx hy = record { yes = widths_agree.equal x y hx hy; no = widths_agree.unequal x y hx hy }

-- ---- tests as bits, and Ite
pub truth_one : (t u : Bool) {P : Type 0} → Truth t P → Truth u P → t ≡ u
truth_one true true h k = refl
truth_one true false h k = absurd (k.no refl (h.yes refl))
truth_one false true h k = absurd (h.no refl (k.yes refl))
truth_one false false h k = refl

test_number : (t : Bool) → bit t ≡ bv2nat 1 (test_bit t)
unfolding bv2nat nat2bv ite
test_number true = refl
test_number false = refl

pub tests_agree : (w : ℕ) → TestsAgree w
tests_agree w =
    record {
      ult = λ x y hx hy. ap bit ((widths_agree w).less x y hx hy) ∙ test_number (bvult w (nat2bv x) (nat2bv y));
      eq = λ x y t hx hy h. ap bit (truth_one (eqb x y) t (same_truth w x y hx hy) h) ∙ test_number t;
    }

cond-ite : {A : Type 0} (t : Bool) (a b : A) → cond t a b ≡ ite t a b
unfolding ite
cond-ite true a b = refl
cond-ite false a b = refl

pub choice_agrees : (A : Type 0) → ChoiceAgrees A
unfolding ChoiceAgrees
choice_agrees A c a b t l h = cond-ite (eqb c 1) a b ∙ ap (λ (u : Bool). ite u a b) (truth_one (eqb c 1) t (same_truth 1 c 1 l (lit< tt)) h)

-- ---- Read and Write
pub memories_agree : MemoriesAgree
unfolding MemoriesAgree
memories_agree =
    record {
      here = λ m i e. ap (λ (b : Bool). cond b e (m i)) (eq-eqb i i refl);
      elsewhere = λ m i j e h. ap (λ (b : Bool). cond b e (m j)) (ne_eqb j i (λ q. h (sym q)));
      extensional = λ m n h. fun_ext h;
    }

-- ---- signed division, on numbers
abbrev neg : ℕ → ℕ
neg x = (2 ^ 64 - x) % 2 ^ 64

abbrev udiv : ℕ → ℕ → ℕ
udiv x y = cond (eqb y 0) (2 ^ 64 - 1) (x / y)

-- by whether the two numbers are in the lower half
abbrev sdiv : Bool → Bool → ℕ → ℕ → ℕ
sdiv true true x y = udiv x y
sdiv true false x y = neg (udiv x (neg y))
sdiv false true x y = neg (udiv (neg x) y)
sdiv false false x y = udiv (neg x) (neg y)

number-udiv_64 : (s t : BitVector) (x y : ℕ) → bv2nat 64 s ≡ x → bv2nat 64 t ≡ y → x < 2 ^ 64 → bv2nat 64 (bvudiv 64 s t) ≡ udiv x y
number-udiv_64 s t x y p q h =
    number-udiv 64 s t (subst (λ (k : ℕ). k < 2 ^ 64) (sym p) h) ∙ ap₂ (λ (a b : ℕ). cond (eqb b 0) (2 ^ 64 - 1) (a / b)) p q

number-neg_64 : (s : BitVector) (x : ℕ) → bv2nat 64 s ≡ x → bv2nat 64 (bvneg 64 s) ≡ neg x
number-neg_64 s x p = number-neg 64 s ∙ ap (λ (k : ℕ). (2 ^ 64 - k) % 2 ^ 64) p

neg_lt : (x : ℕ) → neg x < 2 ^ 64
neg_lt x = omega arith

sdiv-number : (x y : ℕ) → x < 2 ^ 64 → y < 2 ^ 64 → on_numbers 64 (bvsdiv 64) x y ≡ sdiv (ltb x (2 ^ 63)) (ltb y (2 ^ 63)) x y
unfolding bvsdiv
sdiv-number x y hx hy = simp (top_bit 63 x hx, top_bit 63 y hy) (go (ltb x (2 ^ 63)) (ltb y (2 ^ 63)))
  where
    X : BitVector
    X = nat2bv x

    Y : BitVector
    Y = nat2bv y

    p : bv2nat 64 X ≡ x
    p = number-of_fit 64 x hx

    q : bv2nat 64 Y ≡ y
    q = number-of_fit 64 y hy

    p' : bv2nat 64 (bvneg 64 X) ≡ neg x
    p' = number-neg_64 X x p

    q' : bv2nat 64 (bvneg 64 Y) ≡ neg y
    q' = number-neg_64 Y y q

    go : (a b : Bool)
        → bv2nat 64 (cond a (cond b (bvudiv 64 X Y) (bvneg 64 (bvudiv 64 X (bvneg 64 Y)))) (cond b (bvneg 64 (bvudiv 64 (bvneg 64 X) Y)) (bvudiv 64 (bvneg 64 X) (bvneg 64 Y))))
        ≡ sdiv a b x y
    go true true = number-udiv_64 X Y x y p q hx
    go true false = number-neg_64 (bvudiv 64 X (bvneg 64 Y)) (udiv x (neg y)) (number-udiv_64 X (bvneg 64 Y) x (neg y) p q' hx)
    go false true = number-neg_64 (bvudiv 64 (bvneg 64 X) Y) (udiv (neg x) y) (number-udiv_64 (bvneg 64 X) Y (neg x) y p' q (neg_lt x))
    go false false = number-udiv_64 (bvneg 64 X) (bvneg 64 Y) (neg x) (neg y) p' q' (neg_lt x)

neg-high : (x : ℕ) → 2 ^ 63 ≤ x → x < 2 ^ 64 → neg x ≡ 2 ^ 64 - x
neg-high x h l = mod-eq_of_lt (omega arith)

udiv_quotient : (x y : ℕ) → y ≢ 0 → udiv x y ≡ x / y
udiv_quotient x y h = simp (ne_eqb y 0 h)

-- where there is a quotient
sdiv_quotient : (x y : ℕ) → x < 2 ^ 64 → y < 2 ^ 64 → y ≢ 0 → overflow x y ≡ false
    → compute standard Div x y ≡ sdiv (ltb x (2 ^ 63)) (ltb y (2 ^ 63)) x y
sdiv_quotient x y hx hy n e = div_quotient standard x y n e ∙ go (ltb x (2 ^ 63)) refl (ltb y (2 ^ 63)) refl
  where
    go : (a : Bool) → ltb x (2 ^ 63) ≡ a → (b : Bool) → ltb y (2 ^ 63) ≡ b
        → word (quot_z (signed x) (signed y)) ≡ sdiv a b x y
    go true p true q =
        quot_same-low x y (ltb-true _ _ p) (ltb-true _ _ q)
        ∙ ap₂ (λ (i j : ℕ). i / j) (magnitude-low x (ltb-true _ _ p)) (magnitude-low y (ltb-true _ _ q))
        ∙ sym (udiv_quotient x y n)
    go true p false q =
        let high = ltb-false y (2 ^ 63) q in
        quot_low-high x y (ltb-true _ _ p) high hy
        ∙ ap₂ (λ (i j : ℕ). (2 ^ 64 - i / j) % 2 ^ 64) (magnitude-low x (ltb-true _ _ p)) (magnitude-high y high)
        ∙ sym (ap (λ (k : ℕ). neg (udiv x k)) (neg-high y high hy) ∙ ap neg (udiv_quotient x (2 ^ 64 - y) (λ z. omega arith)))
    go false p true q =
        let high = ltb-false x (2 ^ 63) p in
        quot_high-low x y high hx (ltb-true _ _ q)
        ∙ ap₂ (λ (i j : ℕ). (2 ^ 64 - i / j) % 2 ^ 64) (magnitude-high x high) (magnitude-low y (ltb-true _ _ q))
        ∙ sym (ap (λ (k : ℕ). neg (udiv k y)) (neg-high x high hx) ∙ ap neg (udiv_quotient (2 ^ 64 - x) y n))
    go false p false q =
        let hx' = ltb-false x (2 ^ 63) p in
        let hy' = ltb-false y (2 ^ 63) q in
        quot_same-high x y hx' hx hy' hy
        ∙ ap₂ (λ (i j : ℕ). i / j) (magnitude-high x hx') (magnitude-high y hy')
        ∙ sym (ap₂ udiv (neg-high x hx' hx) (neg-high y hy' hy) ∙ udiv_quotient (2 ^ 64 - x) (2 ^ 64 - y) (λ z. omega arith))

sdiv-by-zero : (x : ℕ) → compute standard Div x 0 ≡ sdiv (ltb x (2 ^ 63)) true x 0
unfolding compute signed_div
sdiv-by-zero x = go (ltb x (2 ^ 63))
  where
    go : (a : Bool) → cond a (2 ^ 64 - 1) 1 ≡ sdiv a true x 0
    go true = refl
    go false = refl

sdiv_least : compute standard Div (2 ^ 63) (2 ^ 64 - 1) ≡ sdiv false false (2 ^ 63) (2 ^ 64 - 1)
unfolding compute signed_div
sdiv_least = refl

both_true : (a b : Bool) → (a && b) ≡ true → (a ≡ true) × (b ≡ true)
both_true true b e = (refl, e)
both_true false b e = absurd (false≢true e)

div_agrees : (x y : ℕ) → x < 2 ^ 64 → y < 2 ^ 64 → compute standard Div x y ≡ sdiv (ltb x (2 ^ 63)) (ltb y (2 ^ 63)) x y
div_agrees x y hx hy = go (eqb y 0) refl (overflow x y) refl
  where
    go : (a : Bool) → eqb y 0 ≡ a → (b : Bool) → overflow x y ≡ b → compute standard Div x y ≡ sdiv (ltb x (2 ^ 63)) (ltb y (2 ^ 63)) x y
    go true p b q = subst (λ (k : ℕ). compute standard Div x k ≡ sdiv (ltb x (2 ^ 63)) (ltb k (2 ^ 63)) x k) (sym (eqb-true y 0 p)) (sdiv-by-zero x)
    go false p true q =
        let e = both_true (eqb x (2 ^ 63)) (eqb y (2 ^ 64 - 1)) q in
        subst (λ (i : ℕ). compute standard Div i y ≡ sdiv (ltb i (2 ^ 63)) (ltb y (2 ^ 63)) i y) (sym (eqb-true x (2 ^ 63) e.0))
        (subst (λ (j : ℕ). compute standard Div (2 ^ 63) j ≡ sdiv (ltb (2 ^ 63) (2 ^ 63)) (ltb j (2 ^ 63)) (2 ^ 63) j) (sym (eqb-true y (2 ^ 64 - 1) e.1)) sdiv_least)
    go false p false q = sdiv_quotient x y hx hy (eqb-false y 0 p) q

-- ---- shifts, at each distance
pub sll_product : (how : Reading) (x y : ℕ) → compute how Sll x y ≡ x * 2 ^ y % 2 ^ 64
unfolding compute
sll_product how x y = cases (λ (r : ℕ). r ≡ x * 2 ^ y % 2 ^ 64) (ltb y 64) (λ _. refl) (λ e. sym (shl_far 64 x y (ltb-false y 64 e)))

pub srl_quotient : (how : Reading) (x y : ℕ) → x < 2 ^ 64 → compute how Srl x y ≡ x / 2 ^ y
unfolding compute
srl_quotient how x y h = cases (λ (r : ℕ). r ≡ x / 2 ^ y) (ltb y 64) (λ _. refl) (λ e. sym (shr_far 64 x y h (ltb-false y 64 e)))

-- ---- the eight operators in the standard's reading
module _ (x y : ℕ) (hx : x < 2 ^ 64) (hy : y < 2 ^ 64) where
  fit_x : bv2nat 64 (nat2bv x) ≡ x
  fit_x = number-of_fit 64 x hx

  fit_y : bv2nat 64 (nat2bv y) ≡ y
  fit_y = number-of_fit 64 y hy

  below-x : bv2nat 64 (nat2bv x) < 2 ^ 64
  below-x = subst (λ (k : ℕ). k < 2 ^ 64) (sym fit_x) hx

  op-agrees : (op : Op) → compute standard op x y ≡ on_numbers 64 (bit_vector_op 64 op) x y
  unfolding compute
  op-agrees Add = sym (number-add 64 (nat2bv x) (nat2bv y) ∙ ap₂ (λ (a b : ℕ). (a + b) % 2 ^ 64) fit_x fit_y)
  op-agrees Sub = sym (number-sub 64 (nat2bv x) (nat2bv y) ∙ ap₂ (λ (a b : ℕ). (a + (2 ^ 64 - b)) % 2 ^ 64) fit_x fit_y)
  op-agrees Mul = sym (number-mul 64 (nat2bv x) (nat2bv y) ∙ ap₂ (λ (a b : ℕ). a * b % 2 ^ 64) fit_x fit_y)
  op-agrees Divu = sym (number-udiv_64 (nat2bv x) (nat2bv y) x y fit_x fit_y hx)
  op-agrees Div = div_agrees x y hx hy ∙ sym (sdiv-number x y hx hy)
  op-agrees Rem = sym (number_urem 64 (nat2bv x) (nat2bv y) below-x ∙ ap₂ (λ (a b : ℕ). cond (eqb b 0) a (a % b)) fit_x fit_y)
  op-agrees Sll = sll_product standard x y ∙ sym (number_shl 64 (nat2bv x) (nat2bv y) ∙ ap₂ (λ (a b : ℕ). a * 2 ^ b % 2 ^ 64) fit_x fit_y)
  op-agrees Srl = srl_quotient standard x y hx ∙ sym (number_lshr 64 (nat2bv x) (nat2bv y) below-x ∙ ap₂ (λ (a b : ℕ). a / 2 ^ b) fit_x fit_y)

pub standard_agrees : StandardAgrees
unfolding StandardAgrees
standard_agrees op x y hx hy = op-agrees x y hx hy op

pub house_agrees : HouseAgrees
house_agrees = record { words = standard_agrees; widths = widths_agree; tests = tests_agree; choice = choice_agrees; memories = memories_agree }

-- ---- the Rust's reading
self : (x : ℕ) → eqb x x ≡ true
self x = eq-eqb x x refl

div_differs : (x y : ℕ) → eqb (compute rust Div x y) (compute standard Div x y) ≡ not (eqb y 0 || overflow x y)
unfolding compute signed_div
div_differs x y = go (eqb y 0) (overflow x y)
  where
    q : ℕ
    q = word (quot_z (signed x) (signed y))

    zero_differs : (b : Bool) → eqb (2 ^ 63 - 1) (cond b (2 ^ 64 - 1) 1) ≡ false
    zero_differs true = refl
    zero_differs false = refl

    go : (a b : Bool) → eqb (cond a (div_by_zero rust x) (cond b (least_by_minus_one rust) q)) (cond a (div_by_zero standard x) (cond b (least_by_minus_one standard) q)) ≡ not (a || b)
    go true b = zero_differs (ltb x (2 ^ 63))
    go false true = refl
    go false false = self q

rem_differs : (x y : ℕ) → eqb (compute rust Rem x y) (compute standard Rem x y) ≡ not (eqb y 0 && not (eqb x (2 ^ 64 - 1)))
unfolding compute
rem_differs x y = go (eqb y 0) (eqb x (2 ^ 64 - 1)) refl
  where
    go : (a b : Bool) → eqb x (2 ^ 64 - 1) ≡ b → eqb (cond a (2 ^ 64 - 1) (x % y)) (cond a x (x % y)) ≡ not (a && not b)
    go false b e = self (x % y)
    go true true e = eq-eqb (2 ^ 64 - 1) x (sym (eqb-true x (2 ^ 64 - 1) e))
    go true false e = ne_eqb (2 ^ 64 - 1) x (λ q. eqb-false x (2 ^ 64 - 1) e (sym q))

differs : (op : Op) (x y : ℕ) → eqb (compute rust op x y) (compute standard op x y) ≡ not (disagrees op x y)
unfolding compute
differs Add x y = self (compute rust Add x y)
differs Sub x y = self (compute rust Sub x y)
differs Mul x y = self (compute rust Mul x y)
differs Divu x y = self (compute rust Divu x y)
differs Div x y = div_differs x y
differs Rem x y = rem_differs x y
differs Sll x y = self (compute rust Sll x y)
differs Srl x y = self (compute rust Srl x y)

pub rust_agrees : RustAgrees
unfolding RustAgrees
rust_agrees op x y hx hy = ap (λ (k : ℕ). eqb (compute rust op x y) k) (sym (op-agrees x y hx hy op)) ∙ differs op x y
