-- Operators where they are easily mistaken: past 2^64 and below 0, signs, by 0, shifts by 63 and 64, equality, bytes (docs/FORMAT.md, "Operators");
-- and forms that look like laws and are none (docs/LAWS.md).
-- Assumes nothing.
use Rattle.std.specs.Prelude.{◌≡◌, ℕ, ◌-◌, ◌^◌, false}
use Rattle.btor.specs.Operators.{Op, Add, Sub, Mul, Divu, Div, Rem, Sll, Srl, Reading, rust, compute, both, complement, less, bit}

pub record OperatorCases : Type 0 where
  pub add : compute rust Add (2 ^ 64 - 1) 1 ≡ 0
  pub sub : compute rust Sub 0 1 ≡ 2 ^ 64 - 1
  pub mul : compute rust Mul (2 ^ 32) (2 ^ 32) ≡ 0
  pub div : compute rust Div (2 ^ 64 - 7) 2 ≡ 2 ^ 64 - 3
  pub div-by-zero : compute rust Div 5 0 ≡ 2 ^ 63 - 1
  pub div_least : compute rust Div (2 ^ 63) (2 ^ 64 - 1) ≡ 2 ^ 63 - 1
  pub rem-by-zero : compute rust Rem 5 0 ≡ 2 ^ 64 - 1
  pub sll_63 : compute rust Sll 1 63 ≡ 2 ^ 63
  pub sll_64 : compute rust Sll 1 64 ≡ 0
  pub ult_at_equality : less 12 12 ≡ false
  pub byte_not : complement 8 0 ≡ 255
  pub byte_and : both 3 5 ≡ 1

-- in both readings, what stands left and right in each, at the smallest operands at which the two differ; an operand by itself is left out
module _ (how : Reading) where
  abbrev of : Op → ℕ → ℕ → ℕ
  of op x y = compute how op x y

  abbrev ult : ℕ → ℕ → ℕ
  ult x y = bit (less x y)

  pub record NoLaws : Type 0 where
    pub sll_by_add : (of Sll (of Sll 1 1) (2 ^ 64 - 1) ≡ 0) × (of Sll 1 (of Add 1 (2 ^ 64 - 1)) ≡ 1)
    pub srl_by_add : (of Srl (of Srl 1 1) (2 ^ 64 - 1) ≡ 0) × (of Srl 1 (of Add 1 (2 ^ 64 - 1)) ≡ 1)
    pub srl_undoes_sll : of Srl (of Sll 2 63) 63 ≡ 0
    pub sll_undoes_srl : of Sll (of Srl 1 1) 1 ≡ 0
    pub srl_over_add : (of Srl (of Add 1 1) 1 ≡ 1) × (of Add (of Srl 1 1) (of Srl 1 1) ≡ 0)
    pub srl_as_divu_far : (of Srl 0 64 ≡ 0) × (of Divu 0 (of Sll 1 64) ≡ 2 ^ 64 - 1)
    pub srl_as_div : (of Srl (2 ^ 63) 1 ≡ 2 ^ 62) × (of Div (2 ^ 63) (of Sll 1 1) ≡ 2 ^ 64 - 2 ^ 62)
    pub divu_undoes_mul : of Divu (of Mul 2 (2 ^ 63)) (2 ^ 63) ≡ 0
    pub div_rejoined : of Add (of Mul (of Div 1 (2 ^ 64 - 1)) (2 ^ 64 - 1)) (of Rem 1 (2 ^ 64 - 1)) ≡ 2
    pub rem_of_sum : (of Rem (of Add 1 (2 ^ 64 - 1)) 3 ≡ 0) × (of Rem (of Add (of Rem 1 3) (of Rem (2 ^ 64 - 1) 3)) 3 ≡ 1)
    pub ult_of_sums : (ult (of Add 0 (2 ^ 64 - 1)) (of Add 1 (2 ^ 64 - 1)) ≡ 0) × (ult 0 1 ≡ 1)
    pub ult_of_difference : (ult (of Add 0 1) 0 ≡ 0) × (ult 0 (of Sub 0 1) ≡ 1)
