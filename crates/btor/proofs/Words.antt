-- Laws of the operators on words: products of 16-bit limbs, shifts past the width, signed division by magnitudes, complements.
-- Assumes nothing.
use Rattle.std.proofs.Common.{◌≡◌, ℕ, zero, suc, ◌+◌, ◌-◌, ◌*◌, ◌/◌, ◌%◌, ◌^◌, ◌<◌, ◌≤◌, Bool, true, false, cond, ltb, pos, negsuc, neg_ℤ, sym, refl, ap, ◌∙◌, subst, lt_of_lt_of_le, add_assoc, mod-lt, mod-eq_of_lt, mul_assoc, mul_comm, add-mul, add_comm, div-add-mod', mul-add, div-le_self, mul_left_comm, arith, pow_pos, pow_mono, pow-add, shr_lt, le-ltb, lt-ltb, ne_eqb}
use native.Mathlib.Nat.{add_left_comm, mul-mod_left, div-eq_of_lt}
use lib.Bits.{bit_and, and_mask}
use lib.Pow.{low, mod-pow-add}
use lib.Signed.{quot_z}
use Rattle.btor.specs.Operators.{signed, word, magnitude, complement, Reading, Div, compute, signed_div, overflow}

-- columns 0 and 1 of a product by limbs of w bits
abbrev columns : ℕ → ℕ → ℕ → ℕ
columns w a b = a % 2 ^ w * (b % 2 ^ w) + (a / 2 ^ w % 2 ^ w * (b % 2 ^ w) + a % 2 ^ w * (b / 2 ^ w % 2 ^ w)) * 2 ^ w

-- the product of the lowest two limbs of two numbers
two_limbs : (w a b : ℕ) → a % 2 ^ (w + w) * (b % 2 ^ (w + w)) ≡ a / 2 ^ w % 2 ^ w * (b / 2 ^ w % 2 ^ w) * (2 ^ w * 2 ^ w) + columns w a b
two_limbs w a b = rw (mod-pow-add a w w, mod-pow-add b w w) (simp (mul-add, add-mul, mul_assoc, mul_comm, mul_left_comm, add_assoc, add_comm, add_left_comm) refl)

-- that each sum, and the move of columns 2 and 3 to their place, is taken modulo 2^64 changes nothing modulo 2^64
wrapped : {n x y z : ℕ} (p u u₁ u₂ l l₁ l₂ : ℕ) → n ≡ p * (2 ^ 32 * 2 ^ 32) + (z + (x + y) * 2 ^ 32)
    → z ≡ u * (2 ^ 16 * 2 ^ 16) + l → x ≡ u₁ * (2 ^ 16 * 2 ^ 16) + l₁ → y ≡ u₂ * (2 ^ 16 * 2 ^ 16) + l₂
    → (((u + l₁) % 2 ^ 64 + l₂) % 2 ^ 64 * 2 ^ 32 % 2 ^ 64 + l) % 2 ^ 64 ≡ n % 2 ^ 64
wrapped p u u₁ u₂ l l₁ l₂ en ez ex ey = rw (en, ez, ex, ey) (omega arith)

-- a product modulo 2^64 by columns 0 to 3 of its 16-bit limbs
pub product_by_pieces : {a b : ℕ} → a < 2 ^ 64 → b < 2 ^ 64
    → (((a / 2 ^ 16 % 2 ^ 16 * (b / 2 ^ 16 % 2 ^ 16) + columns 16 (a / 2 ^ 32) b) % 2 ^ 64 + columns 16 a (b / 2 ^ 32)) % 2 ^ 64 * 2 ^ 32 % 2 ^ 64 + columns 16 a b) % 2 ^ 64
    ≡ a * b % 2 ^ 64
product_by_pieces {a} {b} ha hb =
    wrapped _ _ _ _ _ _ _ (two_limbs 32 a b) (two_limbs 16 a b) (two_limbs 16 (a / 2 ^ 32) b) (two_limbs 16 a (b / 2 ^ 32))
    ∙ rw (mod-eq_of_lt ha, mod-eq_of_lt hb)

-- a shift by the width or more leaves nothing, at each width w
pub shl_far : (w a k : ℕ) → w ≤ k → a * 2 ^ k % 2 ^ w ≡ 0
shl_far w a k h =
    let e : k ≡ k - w + w = omega arith in
    ap (λ (n : ℕ). a * 2 ^ n % 2 ^ w) e
    ∙ ap (λ (n : ℕ). a * n % 2 ^ w) (pow-add 2 (k - w) w)
    ∙ ap (λ (n : ℕ). n % 2 ^ w) (sym (mul_assoc a (2 ^ (k - w)) (2 ^ w)))
    ∙ mul-mod_left (a * 2 ^ (k - w)) (2 ^ w)

pub shr_far : (w a k : ℕ) → a < 2 ^ w → w ≤ k → a / 2 ^ k ≡ 0
shr_far w a k h l = div-eq_of_lt (lt_of_lt_of_le h (pow_mono l))

-- ---- signed division
pub signed_low : (x : ℕ) → x < 2 ^ 63 → signed x ≡ pos x
signed_low x h = simp (lt-ltb _ _ h)

pub signed_high : (x : ℕ) → 2 ^ 63 ≤ x → signed x ≡ negsuc (2 ^ 64 - suc x)
signed_high x h = simp (le-ltb _ _ h)

pub magnitude-low : (x : ℕ) → x < 2 ^ 63 → magnitude x ≡ x
unfolding magnitude
magnitude-low x h = simp (lt-ltb _ _ h)

pub magnitude-high : (x : ℕ) → 2 ^ 63 ≤ x → magnitude x ≡ 2 ^ 64 - x
unfolding magnitude
magnitude-high x h = simp (le-ltb _ _ h)

-- how far the word of a negative number is from zero
suc-high : (x : ℕ) → x < 2 ^ 64 → suc (2 ^ 64 - suc x) ≡ 2 ^ 64 - x
suc-high x h = omega arith

pub magnitude-pos : (y : ℕ) → y < 2 ^ 64 → (y ≡ 0 → ⊥) → 0 < magnitude y
unfolding magnitude
magnitude-pos y h n = go (ltb y (2 ^ 63)) refl
  where
    go : (b : Bool) → ltb y (2 ^ 63) ≡ b → 0 < cond b y (2 ^ 64 - y)
    go true e = omega arith
    go false e = omega arith

-- the word of the negative of n
word_negative : (n : ℕ) → n ≤ 2 ^ 63 → word (neg_ℤ (pos n)) ≡ (2 ^ 64 - n) % 2 ^ 64
word_negative zero h = refl
word_negative (suc n) h = omega arith

-- the quotient of two signed numbers by their magnitudes: of one sign, and of two
pub quot_same-low : (x y : ℕ) → x < 2 ^ 63 → y < 2 ^ 63 → word (quot_z (signed x) (signed y)) ≡ magnitude x / magnitude y
quot_same-low x y hx hy = rw (signed_low x hx, signed_low y hy, magnitude-low x hx, magnitude-low y hy)

pub quot_same-high : (x y : ℕ) → 2 ^ 63 ≤ x → x < 2 ^ 64 → 2 ^ 63 ≤ y → y < 2 ^ 64 → word (quot_z (signed x) (signed y)) ≡ magnitude x / magnitude y
quot_same-high x y hx lx hy ly =
    rw (signed_high x hx, signed_high y hy, magnitude-high x hx, magnitude-high y hy, suc-high x lx, suc-high y ly)

pub quot_low-high : (x y : ℕ) → x < 2 ^ 63 → 2 ^ 63 ≤ y → y < 2 ^ 64 → word (quot_z (signed x) (signed y)) ≡ (2 ^ 64 - magnitude x / magnitude y) % 2 ^ 64
quot_low-high x y hx hy ly =
    rw (signed_low x hx, signed_high y hy, magnitude-low x hx, magnitude-high y hy, suc-high y ly)
    (word_negative (x / (2 ^ 64 - y)) (omega (arith, div-le_self x (2 ^ 64 - y))))

pub quot_high-low : (x y : ℕ) → 2 ^ 63 ≤ x → x < 2 ^ 64 → y < 2 ^ 63 → word (quot_z (signed x) (signed y)) ≡ (2 ^ 64 - magnitude x / magnitude y) % 2 ^ 64
quot_high-low x y hx lx hy =
    rw (signed_high x hx, signed_low y hy, magnitude-high x hx, magnitude-low y hy, suc-high x lx)
    (word_negative ((2 ^ 64 - x) / y) (omega (arith, div-le_self (2 ^ 64 - x) y)))

-- Div, where there is a quotient
pub div_quotient : (how : Reading) (x y : ℕ) → (y ≡ 0 → ⊥) → overflow x y ≡ false → compute how Div x y ≡ word (quot_z (signed x) (signed y))
unfolding compute signed_div
div_quotient how x y n e = simp (ne_eqb y 0 n, e)

-- ---- complements
complement-split : (w x : ℕ) → w ≤ 64 → x < 2 ^ 64 → 2 ^ 64 - 1 - x ≡ (2 ^ (64 - w) - 1 - x / 2 ^ w) * 2 ^ w + (2 ^ w - 1 - x % 2 ^ w)
complement-split w x h l =
    let e : 64 - w + w ≡ 64 = omega arith in
    let full : 2 ^ (64 - w) * 2 ^ w ≡ 2 ^ 64 = sym (pow-add 2 (64 - w) w) ∙ ap (λ (k : ℕ). 2 ^ k) e in
    let below : x / 2 ^ w < 2 ^ (64 - w) = shr_lt (64 - w) w (subst (λ (k : ℕ). x < 2 ^ k) (sym e) l) in
    let parts : 2 ^ (64 - w) ≡ (2 ^ (64 - w) - 1 - x / 2 ^ w) + x / 2 ^ w + 1 = omega arith in
    let sums : 2 ^ (64 - w) * 2 ^ w ≡ (2 ^ (64 - w) - 1 - x / 2 ^ w) * 2 ^ w + x / 2 ^ w * 2 ^ w + 1 * 2 ^ w
    = ap (λ (k : ℕ). k * 2 ^ w) parts ∙ simp add-mul in
    omega (arith, div-add-mod' x (2 ^ w), mod-lt x (pow_pos w))

-- the complement of a word, masked to w bits
pub complement_masked : (w x : ℕ) → w ≤ 64 → x < 2 ^ 64 → bit_and (2 ^ 64 - 1 - x) (2 ^ w - 1) ≡ complement w x
unfolding complement
complement_masked w x h l =
    and_mask (2 ^ 64 - 1 - x) w
    ∙ ap (λ (n : ℕ). n % 2 ^ w) (complement-split w x h l)
    ∙ low (2 ^ (64 - w) - 1 - x / 2 ^ w) w (omega (arith, pow_pos w))
