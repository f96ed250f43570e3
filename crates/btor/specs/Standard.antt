-- What the standard says of the operators, over the width m: SMT-LIB's theories Core, FixedSizeBitVectors and ArraysEx and its logic QF_BV,
-- in the words of those texts. BTOR2's operators (CAV 2018, table 1) are these: add, sub, mul, udiv, sdiv, urem, sll, srl are
-- bvadd, bvsub, bvmul, bvudiv, bvsdiv, bvurem, bvshl, bvlshr; and, or, not, ult, eq, uext, ite, read, write are
-- bvand, bvor, bvnot, bvult, =, zero_extend, ite, select, store. Where these have a Bool, BTOR2 has a vector of width 1, #b1 for true.
-- Assumes nothing.
use Rattle.std.specs.Prelude.{◌≡◌, ℕ, zero, suc, ◌+◌, ◌-◌, ◌*◌, ◌/◌, ◌%◌, ◌^◌, ◌<◌, Bool, true, false, cond, ◌≢◌, ◌==◌, nat_lt}
use Rattle.btor.specs.Operators.{Op, Add, Sub, Mul, Divu, Div, Rem, Sll, Srl}

-- a bit vector of width m: 0 or 1 at each place below m
abbrev pub BitVector : Type 0
BitVector = ℕ → ℕ

-- bv2nat: b(m - 1) * 2^(m - 1) + .. + b(0) * 2^0
unfoldable pub bv2nat : ℕ → BitVector → ℕ
bv2nat zero b = 0
bv2nat (suc m) b = b m * 2 ^ m + bv2nat m b

-- nat2bv: the bits of a number; those at m and above are not looked at, so a number from 2^m on is taken modulo 2^m
unfoldable pub nat2bv : ℕ → BitVector
nat2bv n x = n / 2 ^ x % 2

-- bit by bit
unfoldable pub bvnot : BitVector → BitVector
bvnot s x = cond (s x == 0) 1 0

unfoldable pub bvand : BitVector → BitVector → BitVector
bvand s t x = cond (s x == 0) 0 (t x)

unfoldable pub bvor : BitVector → BitVector → BitVector
bvor s t x = cond (s x == 1) 1 (t x)

-- equal at each place below m
abbrev pub Equal : ℕ → BitVector → BitVector → Type 0
Equal m s t = (x : ℕ) → x < m → s x ≡ t x

module _ (m : ℕ) where
  unfoldable pub bvneg : BitVector → BitVector
  bvneg s = nat2bv (2 ^ m - bv2nat m s)

  unfoldable pub bvadd : BitVector → BitVector → BitVector
  bvadd s t = nat2bv (bv2nat m s + bv2nat m t)

  unfoldable pub bvsub : BitVector → BitVector → BitVector
  bvsub s t = bvadd s (bvneg t)

  unfoldable pub bvmul : BitVector → BitVector → BitVector
  bvmul s t = nat2bv (bv2nat m s * bv2nat m t)

  unfoldable pub bvudiv : BitVector → BitVector → BitVector
  bvudiv s t = cond (bv2nat m t == 0) (λ x. 1) (nat2bv (bv2nat m s / bv2nat m t))

  unfoldable pub bvurem : BitVector → BitVector → BitVector
  bvurem s t = cond (bv2nat m t == 0) s (nat2bv (bv2nat m s % bv2nat m t))

  unfoldable pub bvshl : BitVector → BitVector → BitVector
  bvshl s t = nat2bv (bv2nat m s * 2 ^ bv2nat m t)

  unfoldable pub bvlshr : BitVector → BitVector → BitVector
  bvlshr s t = nat2bv (bv2nat m s / 2 ^ bv2nat m t)

  -- by the two highest bits
  unfoldable pub bvsdiv : BitVector → BitVector → BitVector
  bvsdiv s t =
      cond (s (m - 1) == 0)
      (cond (t (m - 1) == 0) (bvudiv s t) (bvneg (bvudiv s (bvneg t))))
      (cond (t (m - 1) == 0) (bvneg (bvudiv (bvneg s) t)) (bvudiv (bvneg s) (bvneg t)))

  unfoldable pub bvult : BitVector → BitVector → Bool
  bvult s t = nat_lt (bv2nat m s) (bv2nat m t)

  -- zeros put before a vector of width m
  unfoldable pub zero_extend : BitVector → BitVector
  zero_extend s x = cond (nat_lt x m) (s x) 0

-- Core: ite, at each sort
unfoldable pub ite : {A : Type 0} → Bool → A → A → A
ite true a b = a
ite false a b = b

-- t is the Bool of P: true where P holds, false where not
pub record Truth (t : Bool) (P : Type 0) : Type 0 where
  pub yes : t ≡ true → P
  pub no : t ≡ false → P → ⊥

-- BTOR2: #b1 or #b0, the result of a test; and a condition, which is to be #b1
abbrev pub test_bit : Bool → BitVector
test_bit t = ite t (nat2bv 1) (nat2bv 0)

abbrev pub IsTrue : BitVector → Type 0
IsTrue c = Equal 1 c (nat2bv 1)

-- the standard's operator of each of the eight
abbrev pub bit_vector_op : ℕ → Op → BitVector → BitVector → BitVector
bit_vector_op m Add = bvadd m
bit_vector_op m Sub = bvsub m
bit_vector_op m Mul = bvmul m
bit_vector_op m Divu = bvudiv m
bit_vector_op m Div = bvsdiv m
bit_vector_op m Rem = bvurem m
bit_vector_op m Sll = bvshl m
bit_vector_op m Srl = bvlshr m

-- an operator on vectors of width m, told by the numbers of its operands and its result
abbrev pub on_numbers : ℕ → (BitVector → BitVector → BitVector) → ℕ → ℕ → ℕ
on_numbers m f x y = bv2nat m (f (nat2bv x) (nat2bv y))

abbrev pub on_number : ℕ → (BitVector → BitVector) → ℕ → ℕ
on_number m f x = bv2nat m (f (nat2bv x))

-- ArraysEx: its three axioms
pub record ArraysEx (A I E : Type 0) (select : A → I → E) (store : A → I → E → A) : Type 0 where
  pub here : (a : A) (i : I) (e : E) → select (store a i e) i ≡ e
  pub elsewhere : (a : A) (i j : I) (e : E) → i ≢ j → select (store a i e) j ≡ select a j
  pub extensional : (a b : A) → ((i : I) → select a i ≡ select b i) → a ≡ b
