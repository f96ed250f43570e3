-- The laws of the operators, first of the operators themselves, then of whatever follows them. And and Or are compared bit by bit, over the width;
-- sums and products modulo 2^64; shifts as products and quotients with powers of 2. Before them: each result is a word.
-- Assumes nothing.
use Rattle.std.proofs.Common.{◌≡◌, ℕ, zero, suc, ◌+◌, ◌-◌, ◌*◌, ◌/◌, ◌%◌, ◌^◌, ◌<◌, ◌≤◌, Bool, true, false, cond, eqb, ltb, ◌≢◌, ◌↔◌, ℤ, pos, negsuc, neg_ℤ, sym, refl, ap, ◌∙◌, lt_of_lt_of_le, add_assoc, mod-lt, mod-eq_of_lt, mul_assoc, mul_comm, add-mul, add_comm, one-mul, div-add-mod', mul-add, div-le_self, arith, lit<, pow_pos, pow_mono, pow-add, shr-shr, ltb-false, ltb-true, le-ltb, eq-eqb, ne_eqb}
use native.Mathlib.Nat.{mod-le, mod-add-mod, add-mod-mod, add-mul-mod_self_right, mod-add-div'}
use lib.Bits.{bit_and, bit_or, and_comm, or_comm, and_lt, or_lt}
use lib.Pow.{pow-lt, shr_le}
use lib.Signed.{quot_z, mag}
use Rattle.btor.specs.Operators.{Op, Add, Sub, Mul, Divu, Div, Rem, Sll, Srl, Reading, rust, standard, compute, both, either, signed_div, signed, word, overflow, div_by_zero, least_by_minus_one, rem_by_zero}
use Rattle.btor.specs.Standard.{nat2bv, bvand, bvor}
use Rattle.btor.specs.Laws.{AgreeBelow, Rearranges, Shifts, rejoined, Regained, Follows, Laws, LawsHold}
use Rattle.btor.proofs.BitVectors.{and_at, or_at}
use Rattle.btor.proofs.Agreement.{cases, equal-numbers, sll_product, srl_quotient}

-- ---- each result is a word
mod_word : (x : ℕ) → x % 2 ^ 64 < 2 ^ 64
mod_word x = mod-lt x (pow_pos 64)

cond-word : (b : Bool) {x y : ℕ} → x < 2 ^ 64 → y < 2 ^ 64 → cond b x y < 2 ^ 64
cond-word true h k = h
cond-word false h k = k

div_by_zero-fits : (how : Reading) (x : ℕ) → div_by_zero how x < 2 ^ 64
div_by_zero-fits rust x = lit< tt
div_by_zero-fits standard x = cond-word (ltb x (2 ^ 63)) (lit< tt) (lit< tt)

least_fits : (how : Reading) → least_by_minus_one how < 2 ^ 64
least_fits rust = lit< tt
least_fits standard = lit< tt

rem_by_zero-fits : (how : Reading) (x : ℕ) → x < 2 ^ 64 → rem_by_zero how x < 2 ^ 64
rem_by_zero-fits rust x h = lit< tt
rem_by_zero-fits standard x h = h

negated_fits : (q : ℕ) → word (neg_ℤ (pos q)) < 2 ^ 64
negated_fits zero = lit< tt
negated_fits (suc q) = omega arith

quotient_fits : (a b : ℤ) → mag a < 2 ^ 63 → word (quot_z a b) < 2 ^ 64
quotient_fits (pos a) (pos b) h = omega (arith, div-le_self a b)
quotient_fits (pos a) (negsuc b) h = negated_fits (a / suc b)
quotient_fits (negsuc a) (pos b) h = negated_fits (suc a / b)
quotient_fits (negsuc a) (negsuc b) h = omega (arith, div-le_self (suc a) (suc b))

signed-small : (x : ℕ) → mag (signed x) < 2 ^ 63
signed-small x = go (ltb x (2 ^ 63)) refl
  where
    go : (b : Bool) → ltb x (2 ^ 63) ≡ b → mag (cond b (pos x) (negsuc (2 ^ 64 - suc x))) < 2 ^ 63
    go true e = ltb-true x (2 ^ 63) e
    go false e = omega (arith, ltb-false x (2 ^ 63) e)

pub compute-fits : (how : Reading) (op : Op) (x y : ℕ) → x < 2 ^ 64 → compute how op x y < 2 ^ 64
unfolding compute signed_div
compute-fits how Add x y h = mod_word (x + y)
compute-fits how Sub x y h = mod_word (x + (2 ^ 64 - y))
compute-fits how Mul x y h = mod_word (x * y)
compute-fits how Divu x y h = cond-word (eqb y 0) (lit< tt) (omega (arith, div-le_self x y))
compute-fits how Div x y h =
    cond-word (eqb y 0) (div_by_zero-fits how x) (cond-word (overflow x y) (least_fits how) (quotient_fits (signed x) (signed y) (signed-small x)))
compute-fits how Rem x y h = cond-word (eqb y 0) (rem_by_zero-fits how x h) (omega (arith, mod-le x y))
compute-fits how Sll x y h = cases (λ m. m < 2 ^ 64) (ltb y 64) (λ _. mod_word (x * 2 ^ y)) (λ _. lit< tt)
compute-fits how Srl x y h = cases (λ m. m < 2 ^ 64) (ltb y 64) (λ _. omega (arith, shr_le x y)) (λ _. lit< tt)

-- ---- And and Or: a bit of the result is e where the first's is e, and else the second's
regroup : (e p q r : ℕ) → cond (eqb (cond (eqb p e) e q) e) e r ≡ cond (eqb p e) e (cond (eqb q e) e r)
regroup e p q r = go (eqb p e)
  where
    go : (b : Bool) → cond (eqb (cond b e q) e) e r ≡ cond b e (cond (eqb q e) e r)
    go true = ap (λ (t : Bool). cond t e r) (eq-eqb e e refl)
    go false = refl

module _ (e : ℕ) (g : ℕ → ℕ → ℕ) (fits : (w x y : ℕ) → x < 2 ^ w → y < 2 ^ w → g x y < 2 ^ w) (turns : (x y : ℕ) → g x y ≡ g y x)
    (at : (x y k : ℕ) → nat2bv (g x y) k ≡ cond (eqb (nat2bv x k) e) e (nat2bv y k)) where
  bits_rearrange : (w : ℕ) → Rearranges (2 ^ w) g
  bits_rearrange w =
      record {
        below = fits w;
        commutes = λ x y hx hy. turns x y;
        associates = λ x y z hx hy hz.
            equal-numbers w (g (g x y) z) (g x (g y z)) (fits w (g x y) z (fits w x y hx hy) hz) (fits w x (g y z) hx (fits w y z hy hz))
            (λ k _. rw (at (g x y) z k, at x y k, at x (g y z) k, at y z k) (regroup e (nat2bv x k) (nat2bv y k) (nat2bv z k)));
      }

pub and_rearranges : (w : ℕ) → Rearranges (2 ^ w) both
unfolding bvand
and_rearranges = bits_rearrange 0 bit_and and_lt and_comm (λ x y k. sym (and_at x y k))

pub or_rearranges : (w : ℕ) → Rearranges (2 ^ w) either
unfolding bvor
or_rearranges = bits_rearrange 1 bit_or or_lt or_comm (λ x y k. sym (or_at x y k))

-- ---- the operators on words
mod_mul_mod : (a b m : ℕ) → a % m * b % m ≡ a * b % m
mod_mul_mod a b m =
    let parts : a % m * b + a / m * b * m ≡ (a % m + a / m * m) * b = simp (add-mul, mul_assoc, mul_comm b) in
    sym (add-mul-mod_self_right (a % m * b) (a / m * b) m) ∙ ap (λ (n : ℕ). n % m) (parts ∙ ap (λ (n : ℕ). n * b) (mod-add-div' a m))

mul_mod_mod : (a b m : ℕ) → a * (b % m) % m ≡ a * b % m
mul_mod_mod a b m = ap (λ (n : ℕ). n % m) (mul_comm a (b % m)) ∙ mod_mul_mod b a m ∙ ap (λ (n : ℕ). n % m) (mul_comm b a)

module _ (how : Reading) where
  add_rearranges : Rearranges (2 ^ 64) (compute how Add)
  unfolding compute
  add_rearranges =
      record {
        below = λ x y hx hy. mod_word (x + y);
        commutes = λ x y hx hy. ap (λ (n : ℕ). n % 2 ^ 64) (add_comm x y);
        associates = λ x y z hx hy hz. simp (mod-add-mod, add-mod-mod, add_assoc);
      }

  mul_rearranges : Rearranges (2 ^ 64) (compute how Mul)
  unfolding compute
  mul_rearranges =
      record {
        below = λ x y hx hy. mod_word (x * y);
        commutes = λ x y hx hy. ap (λ (n : ℕ). n % 2 ^ 64) (mul_comm x y);
        associates = λ x y z hx hy hz. simp (mod_mul_mod, mul_mod_mod, mul_assoc);
      }

  sub_undoes_add : (x y : ℕ) → x < 2 ^ 64 → y < 2 ^ 64 → compute how Sub (compute how Add x y) y ≡ x
  unfolding compute
  sub_undoes_add x y hx hy = omega arith

  add_undoes_sub : (x y : ℕ) → x < 2 ^ 64 → y < 2 ^ 64 → compute how Add (compute how Sub x y) y ≡ x
  unfolding compute
  add_undoes_sub x y hx hy = omega arith

  sub_of_sum : (x y z : ℕ) → compute how Sub (compute how Add x y) z ≡ compute how Add x (compute how Sub y z)
  unfolding compute
  sub_of_sum x y z = simp (mod-add-mod, add-mod-mod, add_assoc)

  sub_twice : (x y z : ℕ) → y < 2 ^ 64 → z < 2 ^ 64 → compute how Sub (compute how Sub x y) z ≡ compute how Sub x (compute how Add y z)
  unfolding compute
  sub_twice x y z hy hz = simp mod-add-mod (omega arith)

  mul_over_add : (x y z : ℕ) → compute how Mul x (compute how Add y z) ≡ compute how Add (compute how Mul x y) (compute how Mul x z)
  unfolding compute
  mul_over_add x y z = simp (mul_mod_mod, mod-add-mod, add-mod-mod, mul-add)

  sll_twice : (x p q : ℕ) → compute how Sll (compute how Sll x p) q ≡ compute how Sll x (p + q)
  sll_twice x p q = rw (sll_product how x p, sll_product how (x * 2 ^ p % 2 ^ 64) q, sll_product how x (p + q), mod_mul_mod (x * 2 ^ p) (2 ^ q) (2 ^ 64), pow-add 2 p q, mul_assoc x (2 ^ p) (2 ^ q))

  srl_twice : (x p q : ℕ) → x < 2 ^ 64 → compute how Srl (compute how Srl x p) q ≡ compute how Srl x (p + q)
  srl_twice x p q h = srl_quotient how (compute how Srl x p) q (compute-fits how Srl x p h) ∙ rw (srl_quotient how x p h, srl_quotient how x (p + q) h) (shr-shr x p q)

  sll_over_add : (x y p : ℕ) → compute how Sll (compute how Add x y) p ≡ compute how Add (compute how Sll x p) (compute how Sll y p)
  unfolding compute
  sll_over_add x y p = rw (sll_product how ((x + y) % 2 ^ 64) p, sll_product how x p, sll_product how y p) (simp (mod_mul_mod, mod-add-mod, add-mod-mod, add-mul))

  sll_as_mul : (x p : ℕ) → compute how Sll x p ≡ compute how Mul x (compute how Sll 1 p)
  unfolding compute
  sll_as_mul x p = rw (sll_product how x p, sll_product how 1 p) (simp (mul_mod_mod, one-mul))

  srl_as_divu : (x p : ℕ) → x < 2 ^ 64 → p < 64 → compute how Srl x p ≡ compute how Divu x (compute how Sll 1 p)
  unfolding compute
  srl_as_divu x p hx hp =
      let distance : compute how Sll 1 p ≡ 2 ^ p = sll_product how 1 p ∙ rw (one-mul (2 ^ p)) (mod-eq_of_lt (pow-lt hp)) in
      let positive : 2 ^ p ≢ 0 = λ e. omega (arith, pow_pos p) in
      srl_quotient how x p hx ∙ sym (ap (compute how Divu x) distance ∙ rw (compute, ne_eqb (2 ^ p) 0 positive))

  sll_far : (x d : ℕ) → 64 ≤ d → compute how Sll x d ≡ 0
  unfolding compute
  sll_far x d h = rw (compute, le-ltb d 64 h)

  srl_far : (x d : ℕ) → 64 ≤ d → compute how Srl x d ≡ 0
  unfolding compute
  srl_far x d h = rw (compute, le-ltb d 64 h)

  division : (x y : ℕ) → x < 2 ^ 64 → y ≢ 0 → rejoined (compute how) x y ≡ x
  unfolding compute
  division x y h n = simp (ne_eqb y 0 n) (mod-add-mod (x / y * y) (2 ^ 64) (x % y) ∙ ap (λ (k : ℕ). k % 2 ^ 64) (div-add-mod' x y) ∙ mod-eq_of_lt h)

division-by-zero : (how : Reading) (x : ℕ) → x < 2 ^ 64 → (rejoined (compute how) x 0 ≡ x) ↔ Regained how x
unfolding compute
division-by-zero rust x h = (λ e. sym e, λ e. sym e)
division-by-zero standard x h = (λ e. tt, λ _. omega arith)

shifts : (f : ℕ → ℕ → ℕ) → ((x p q : ℕ) → x < 2 ^ 64 → f (f x p) q ≡ f x (p + q)) → ((x d : ℕ) → 64 ≤ d → f x d ≡ 0) → Shifts f
shifts f twice far = record { joined = λ x p q hx l. twice x p q hx; far = λ x p q hx hp hq l. twice x p q hx ∙ far x (p + q) l }

pub operator_laws : (how : Reading) → Laws how (compute how) both either
operator_laws how =
    record {
      add = add_rearranges how;
      mul = mul_rearranges how;
      and = λ w _. and_rearranges w;
      or = λ w _. or_rearranges w;
      sub_undoes_add = sub_undoes_add how;
      add_undoes_sub = add_undoes_sub how;
      sub_of_sum = λ x y z hx hy hz. sub_of_sum how x y z;
      sub_twice = λ x y z hx. sub_twice how x y z;
      mul_over_add = λ x y z hx hy hz. mul_over_add how x y z;
      sll = shifts (compute how Sll) (λ x p q hx. sll_twice how x p q) (sll_far how);
      srl = shifts (compute how Srl) (srl_twice how) (srl_far how);
      sll_over_add = λ x y p hx hy hp. sll_over_add how x y p;
      sll_as_mul = λ x p hx hp. sll_as_mul how x p;
      srl_as_divu = srl_as_divu how;
      divided = λ x y hx hy n. division how x y hx n;
      by_zero = division-by-zero how;
    }

-- ---- what follows the operators, as they themselves do, obeys their laws
pub operators_follow : (how : Reading) → Follows how (compute how) both either
operators_follow how = record { on = λ op x y hx hy. refl; and = λ x y hx hy. refl; or = λ x y hx hy. refl }

rearranges_as : (n : ℕ) (f g : ℕ → ℕ → ℕ) → AgreeBelow n f g → Rearranges n g → Rearranges n f
rearranges_as n f g e r =
    record {
      below = λ x y hx hy. rw (e x y hx hy) (r.below x y hx hy);
      commutes = λ x y hx hy. rw (e x y hx hy, e y x hy hx) (r.commutes x y hx hy);
      associates = λ x y z hx hy hz. rw (e x y hx hy, e y z hy hz, e (g x y) z (r.below x y hx hy) hz, e x (g y z) hx (r.below y z hy hz)) (r.associates x y z hx hy hz);
    }

-- on words, so also at each narrower width
narrower : (w : ℕ) (f g : ℕ → ℕ → ℕ) → w ≤ 64 → AgreeBelow (2 ^ 64) f g → AgreeBelow (2 ^ w) f g
narrower w f g l e x y hx hy = e x y (lt_of_lt_of_le hx (pow_mono l)) (lt_of_lt_of_le hy (pow_mono l))

module _ (how : Reading) (f : Op → ℕ → ℕ → ℕ) (on : (op : Op) → AgreeBelow (2 ^ 64) (f op) (compute how op)) where
  fits : (op : Op) (x y : ℕ) → x < 2 ^ 64 → compute how op x y < 2 ^ 64
  fits = compute-fits how

  -- an operator of another's result: on the left, on the right, on both sides
  on-left : (op inner : Op) (x y z : ℕ) → x < 2 ^ 64 → y < 2 ^ 64 → z < 2 ^ 64 → f op (f inner x y) z ≡ compute how op (compute how inner x y) z
  on-left op inner x y z hx hy hz = ap (λ (n : ℕ). f op n z) (on inner x y hx hy) ∙ on op (compute how inner x y) z (fits inner x y hx) hz

  on-right : (op inner : Op) (x y z : ℕ) → x < 2 ^ 64 → y < 2 ^ 64 → z < 2 ^ 64 → f op x (f inner y z) ≡ compute how op x (compute how inner y z)
  on-right op inner x y z hx hy hz = ap (f op x) (on inner y z hy hz) ∙ on op x (compute how inner y z) hx (fits inner y z hy)

  on_both : (op left right : Op) (x y u v : ℕ) → x < 2 ^ 64 → y < 2 ^ 64 → u < 2 ^ 64 → v < 2 ^ 64
      → f op (f left x y) (f right u v) ≡ compute how op (compute how left x y) (compute how right u v)
  on_both op left right x y u v hx hy hu hv = ap (λ (n : ℕ). f op n (f right u v)) (on left x y hx hy) ∙ on-right op right (compute how left x y) u v (fits left x y hx) hu hv

  rejoined_as : (x y : ℕ) → x < 2 ^ 64 → y < 2 ^ 64 → rejoined f x y ≡ rejoined (compute how) x y
  rejoined_as x y hx hy =
      ap (λ (n : ℕ). f Add (f Mul n y) (f Rem x y)) (on Divu x y hx hy) ∙ on_both Add Mul Rem (compute how Divu x y) y x y (fits Divu x y hx) hy hx hy

  shifts_as : (op : Op) → Shifts (compute how op) → Shifts (f op)
  shifts_as op s =
      record {
        joined = λ x p q hx l. on-left op op x p q hx (omega arith) (omega arith) ∙ s.joined x p q hx l ∙ sym (on op x (p + q) hx l);
        far = λ x p q hx hp hq l. on-left op op x p q hx hp hq ∙ s.far x p q hx hp hq l;
      }

  words_obey : (g h : ℕ → ℕ → ℕ) → AgreeBelow (2 ^ 64) g both → AgreeBelow (2 ^ 64) h either → Laws how f g h
  words_obey g h and or =
      record {
        add = rearranges_as (2 ^ 64) (f Add) (compute how Add) (on Add) laws.add;
        mul = rearranges_as (2 ^ 64) (f Mul) (compute how Mul) (on Mul) laws.mul;
        and = λ w l. rearranges_as (2 ^ w) g both (narrower w g both l and) (laws.and w l);
        or = λ w l. rearranges_as (2 ^ w) h either (narrower w h either l or) (laws.or w l);
        sub_undoes_add = λ x y hx hy. on-left Sub Add x y y hx hy hy ∙ laws.sub_undoes_add x y hx hy;
        add_undoes_sub = λ x y hx hy. on-left Add Sub x y y hx hy hy ∙ laws.add_undoes_sub x y hx hy;
        sub_of_sum = λ x y z hx hy hz. on-left Sub Add x y z hx hy hz ∙ laws.sub_of_sum x y z hx hy hz ∙ sym (on-right Add Sub x y z hx hy hz);
        sub_twice = λ x y z hx hy hz. on-left Sub Sub x y z hx hy hz ∙ laws.sub_twice x y z hx hy hz ∙ sym (on-right Sub Add x y z hx hy hz);
        mul_over_add = λ x y z hx hy hz. on-right Mul Add x y z hx hy hz ∙ laws.mul_over_add x y z hx hy hz ∙ sym (on_both Add Mul Mul x y x z hx hy hx hz);
        sll = shifts_as Sll laws.sll;
        srl = shifts_as Srl laws.srl;
        sll_over_add = λ x y p hx hy hp. on-left Sll Add x y p hx hy hp ∙ laws.sll_over_add x y p hx hy hp ∙ sym (on_both Add Sll Sll x p y p hx hp hy hp);
        sll_as_mul = λ x p hx hp. on Sll x p hx hp ∙ laws.sll_as_mul x p hx hp ∙ sym (on-right Mul Sll x 1 p hx (lit< tt) hp);
        srl_as_divu = λ x p hx hp. on Srl x p hx (omega arith) ∙ laws.srl_as_divu x p hx hp ∙ sym (on-right Divu Sll x 1 p hx (lit< tt) (omega arith));
        divided = λ x y hx hy n. rejoined_as x y hx hy ∙ laws.divided x y hx hy n;
        by_zero = λ x hx.
            let same = rejoined_as x 0 hx (lit< tt) in
            (λ r. (laws.by_zero x hx).0 (sym same ∙ r), λ r. same ∙ (laws.by_zero x hx).1 r);
      }
    where
      laws : Laws how (compute how) both either
      laws = operator_laws how

pub laws_hold : LawsHold
unfolding LawsHold
laws_hold how f g h e = words_obey how f e.on g h e.and e.or
