-- The laws by which those who write models may rearrange operators, in both readings (docs/LAWS.md). The proofs stand in proofs/Laws.antt.
--     Rearranges   Add, Mul, And and Or commute and associate       Shifts     two shifts are one by the sum of their distances
--     rejoined     Divu times divisor plus Rem                      Regained   the dividends that this gives back where the divisor is 0
--     Follows      functions that answer on words as the operators do: the operators themselves and, by their contracts, the code's functions
--     LawsHold     what follows the operators obeys their laws
-- Assumes nothing.
use Rattle.std.specs.Prelude.{◌≡◌, ℕ, ◌+◌, ◌-◌, ◌^◌, ◌<◌, ◌≤◌, ◌≢◌, ◌↔◌}
use Rattle.btor.specs.Operators.{Op, Add, Sub, Mul, Divu, Rem, Sll, Srl, Reading, rust, standard, compute, both, either}

-- on numbers below n, f answers as g does
abbrev pub AgreeBelow : ℕ → (ℕ → ℕ → ℕ) → (ℕ → ℕ → ℕ) → Type 0
AgreeBelow n f g = (x y : ℕ) → x < n → y < n → f x y ≡ g x y

-- f keeps to the numbers below n, and there it commutes and associates
pub record Rearranges (n : ℕ) (f : ℕ → ℕ → ℕ) : Type 0 where
  pub below : (x y : ℕ) → x < n → y < n → f x y < n
  pub commutes : (x y : ℕ) → x < n → y < n → f x y ≡ f y x
  pub associates : (x y z : ℕ) → x < n → y < n → z < n → f (f x y) z ≡ f x (f y z)

-- a shift by p, then by q, is one by p + q as a whole number, where that is a word; from 64 on it gives 0
pub record Shifts (f : ℕ → ℕ → ℕ) : Type 0 where
  pub joined : (x p q : ℕ) → x < 2 ^ 64 → p + q < 2 ^ 64 → f (f x p) q ≡ f x (p + q)
  pub far : (x p q : ℕ) → x < 2 ^ 64 → p < 2 ^ 64 → q < 2 ^ 64 → 64 ≤ p + q → f (f x p) q ≡ 0

abbrev pub rejoined : (Op → ℕ → ℕ → ℕ) → ℕ → ℕ → ℕ
rejoined f x y = f Add (f Mul (f Divu x y) y) (f Rem x y)

-- by 0 the Rust's gives back all ones alone, the standard's each dividend
abbrev pub Regained : Reading → ℕ → Type 0
Regained rust x = x ≡ 2 ^ 64 - 1
Regained standard x = Unit

-- f is a function for each of the eight operators, g and h are two for And and Or
module _ (how : Reading) (f : Op → ℕ → ℕ → ℕ) (g h : ℕ → ℕ → ℕ) where
  pub record Follows : Type 0 where
    pub on : (op : Op) → AgreeBelow (2 ^ 64) (f op) (compute how op)
    pub and : AgreeBelow (2 ^ 64) g both
    pub or : AgreeBelow (2 ^ 64) h either

  pub record Laws : Type 0 where
    pub add : Rearranges (2 ^ 64) (f Add)
    pub mul : Rearranges (2 ^ 64) (f Mul)
    pub and : (w : ℕ) → w ≤ 64 → Rearranges (2 ^ w) g
    pub or : (w : ℕ) → w ≤ 64 → Rearranges (2 ^ w) h
    pub sub_undoes_add : (x y : ℕ) → x < 2 ^ 64 → y < 2 ^ 64 → f Sub (f Add x y) y ≡ x
    pub add_undoes_sub : (x y : ℕ) → x < 2 ^ 64 → y < 2 ^ 64 → f Add (f Sub x y) y ≡ x
    pub sub_of_sum : (x y z : ℕ) → x < 2 ^ 64 → y < 2 ^ 64 → z < 2 ^ 64 → f Sub (f Add x y) z ≡ f Add x (f Sub y z)
    pub sub_twice : (x y z : ℕ) → x < 2 ^ 64 → y < 2 ^ 64 → z < 2 ^ 64 → f Sub (f Sub x y) z ≡ f Sub x (f Add y z)
    pub mul_over_add : (x y z : ℕ) → x < 2 ^ 64 → y < 2 ^ 64 → z < 2 ^ 64 → f Mul x (f Add y z) ≡ f Add (f Mul x y) (f Mul x z)
    pub sll : Shifts (f Sll)
    pub srl : Shifts (f Srl)
    pub sll_over_add : (x y p : ℕ) → x < 2 ^ 64 → y < 2 ^ 64 → p < 2 ^ 64 → f Sll (f Add x y) p ≡ f Add (f Sll x p) (f Sll y p)
    pub sll_as_mul : (x p : ℕ) → x < 2 ^ 64 → p < 2 ^ 64 → f Sll x p ≡ f Mul x (f Sll 1 p)
    pub srl_as_divu : (x p : ℕ) → x < 2 ^ 64 → p < 64 → f Srl x p ≡ f Divu x (f Sll 1 p)
    pub divided : (x y : ℕ) → x < 2 ^ 64 → y < 2 ^ 64 → y ≢ 0 → rejoined f x y ≡ x
    pub by_zero : (x : ℕ) → x < 2 ^ 64 → (rejoined f x 0 ≡ x) ↔ Regained how x

unfoldable pub LawsHold : Type 0
LawsHold = (how : Reading) (f : Op → ℕ → ℕ → ℕ) (g h : ℕ → ℕ → ℕ) → Follows how f g h → Laws how f g h
