-- Where the operators are the standard's, and exactly where not (docs/DIFFERENCES.md). The proofs stand in proofs/Agreement.antt.
--     disagrees      the operands at which the Rust's operator and the standard's differ
--     HouseAgrees    in the standard's reading every operator of the house is the standard's, on all operands
-- Assumes nothing.
use Rattle.std.specs.Prelude.{◌≡◌, ℕ, ◌+◌, ◌-◌, ◌^◌, ◌<◌, Bool, true, false, not, ◌&&◌, ◌||◌, ◌==◌}
use Rattle.btor.specs.Operators.{Op, Add, Sub, Mul, Divu, Div, Rem, Sll, Srl, rust, standard, compute, both, either, complement, less, same, bit, extend, choose, Memory, read, write, overflow}
use Rattle.btor.specs.Standard.{bit_vector_op, on_numbers, on_number, bv2nat, nat2bv, bvand, bvor, bvnot, bvult, zero_extend, Equal, ite, Truth, test_bit, IsTrue, ArraysEx}

-- Div by 0, whatever the dividend; Div of the least by -1; Rem by 0 of every dividend but 2^64 - 1
abbrev pub disagrees : Op → ℕ → ℕ → Bool
disagrees Add x y = false
disagrees Sub x y = false
disagrees Mul x y = false
disagrees Divu x y = false
disagrees Div x y = y == 0 || overflow x y
disagrees Rem x y = y == 0 && not (x == 2 ^ 64 - 1)
disagrees Sll x y = false
disagrees Srl x y = false

-- the standard's reading is the standard's operator, on all words
unfoldable pub StandardAgrees : Type 0
StandardAgrees = (op : Op) (x y : ℕ) → x < 2 ^ 64 → y < 2 ^ 64 → compute standard op x y ≡ on_numbers 64 (bit_vector_op 64 op) x y

-- the Rust's reading is it too, exactly where it does not disagree
unfoldable pub RustAgrees : Type 0
RustAgrees =
    (op : Op) (x y : ℕ) → x < 2 ^ 64 → y < 2 ^ 64
    → (compute rust op x y == on_numbers 64 (bit_vector_op 64 op) x y) ≡ not (disagrees op x y)

-- And, Or, Not, Ult and Eq at each width w; Ext from each width w to a wider one
pub record WidthsAgree (w : ℕ) : Type 0 where
  pub and : (x y : ℕ) → x < 2 ^ w → y < 2 ^ w → both x y ≡ on_numbers w bvand x y
  pub or : (x y : ℕ) → x < 2 ^ w → y < 2 ^ w → either x y ≡ on_numbers w bvor x y
  pub complement : (x : ℕ) → x < 2 ^ w → complement w x ≡ on_number w bvnot x
  pub less : (x y : ℕ) → x < 2 ^ w → y < 2 ^ w → less x y ≡ bvult w (nat2bv x) (nat2bv y)
  pub equal : (x y : ℕ) → x < 2 ^ w → y < 2 ^ w → same x y ≡ true → Equal w (nat2bv x) (nat2bv y)
  pub unequal : (x y : ℕ) → x < 2 ^ w → y < 2 ^ w → same x y ≡ false → Equal w (nat2bv x) (nat2bv y) → ⊥
  pub extend : (i x : ℕ) → x < 2 ^ w → extend x ≡ bv2nat (w + i) (zero_extend w (nat2bv x))

-- the results of Ult and Eq at each width w are those of BTOR2's ult and eq, of sort bitvec 1
pub record TestsAgree (w : ℕ) : Type 0 where
  pub ult : (x y : ℕ) → x < 2 ^ w → y < 2 ^ w → bit (less x y) ≡ bv2nat 1 (test_bit (bvult w (nat2bv x) (nat2bv y)))
  pub eq : (x y : ℕ) (t : Bool) → x < 2 ^ w → y < 2 ^ w → Truth t (Equal w (nat2bv x) (nat2bv y)) → bit (same x y) ≡ bv2nat 1 (test_bit t)

-- Ite is ite, on a condition of sort 1 and two values of any sort A
unfoldable pub ChoiceAgrees : Type 0 → Type 0
ChoiceAgrees A = (c : ℕ) (a b : A) (t : Bool) → c < 2 ^ 1 → Truth t (IsTrue (nat2bv c)) → choose c a b ≡ ite t a b

-- Read and Write are select and store
unfoldable pub MemoriesAgree : Type 0
MemoriesAgree = ArraysEx Memory ℕ ℕ read write

-- all of them in one, with no side condition: the eight on words in the standard's reading, and the others, which have one reading
pub record HouseAgrees : Type 1 where
  pub words : StandardAgrees
  pub widths : (w : ℕ) → WidthsAgree w
  pub tests : (w : ℕ) → TestsAgree w
  pub choice : (A : Type 0) → ChoiceAgrees A
  pub memories : MemoriesAgree
