-- What the operators compute, on whole numbers (docs/FORMAT.md, "Operators"; the five btor_u64_* of optimize.rs).
--     compute       the eight operators on words of 64 bits          both, either, complement    And, Or, Not
--     less, same    Ult and Eq, as tests                             extend                      Ext
--     read, write   Read and Write, on memories                      choose                      Ite
-- Assumes nothing.
use Rattle.std.specs.Prelude.{ℕ, suc, ◌+◌, ◌-◌, ◌*◌, ◌/◌, ◌%◌, ◌^◌, Bool, true, false, cond, ◌&&◌, ℤ, pos, negsuc, ◌==◌, bit_and, bit_or, int_div, nat_lt}

pub data Op : Type 0 where
  Add Sub Mul Divu Div Rem Sll Srl : Op

-- whose operators: those that the Rust folds by, or the standard's (BTOR2, SMT-LIB)
pub data Reading : Type 0 where
  rust standard : Reading

-- a word read as a signed number, in two's complement, and a signed number as a word
abbrev pub signed : ℕ → ℤ
signed x = cond (nat_lt x (2 ^ 63)) (pos x) (negsuc (2 ^ 64 - suc x))

abbrev pub word : ℤ → ℕ
word (pos n) = n
word (negsuc n) = 2 ^ 64 - suc n

-- how far a word, read as a signed number, is from zero
unfoldable pub magnitude : ℕ → ℕ
magnitude x = cond (nat_lt x (2 ^ 63)) x (2 ^ 64 - x)

-- the readings differ in these three: Div by 0, Div of the least by -1, Rem by 0
abbrev pub div_by_zero : Reading → ℕ → ℕ
div_by_zero rust x = 2 ^ 63 - 1
div_by_zero standard x = cond (nat_lt x (2 ^ 63)) (2 ^ 64 - 1) 1

abbrev pub least_by_minus_one : Reading → ℕ
least_by_minus_one rust = 2 ^ 63 - 1
least_by_minus_one standard = 2 ^ 63

abbrev pub rem_by_zero : Reading → ℕ → ℕ
rem_by_zero rust x = 2 ^ 64 - 1
rem_by_zero standard x = x

-- the least by -1, the one quotient that is too large
abbrev pub overflow : ℕ → ℕ → Bool
overflow x y = x == 2 ^ 63 && y == 2 ^ 64 - 1

-- signed, rounding toward zero
unfoldable pub signed_div : Reading → ℕ → ℕ → ℕ
signed_div how x y =
    cond (y == 0) (div_by_zero how x)
    (cond (overflow x y) (least_by_minus_one how)
    (word (int_div (signed x) (signed y))))

-- sums, differences and products modulo 2 to the 64; Divu by 0 is all ones; shifts by 64 or more give 0
unfoldable pub compute : Reading → Op → ℕ → ℕ → ℕ
compute how Add x y = (x + y) % 2 ^ 64
compute how Sub x y = (x + (2 ^ 64 - y)) % 2 ^ 64
compute how Mul x y = x * y % 2 ^ 64
compute how Divu x y = cond (y == 0) (2 ^ 64 - 1) (x / y)
compute how Div x y = signed_div how x y
compute how Rem x y = cond (y == 0) (rem_by_zero how x) (x % y)
compute how Sll x y = elim (nat_lt y 64) [ true ↦ x * 2 ^ y % 2 ^ 64 | false ↦ 0 ]
compute how Srl x y = elim (nat_lt y 64) [ true ↦ x / 2 ^ y | false ↦ 0 ]

abbrev pub both : ℕ → ℕ → ℕ
both x y = bit_and x y

abbrev pub either : ℕ → ℕ → ℕ
either x y = bit_or x y

-- the complement of the lowest w bits
unfoldable pub complement : ℕ → ℕ → ℕ
complement w x = (2 ^ w - 1) - x % 2 ^ w

abbrev pub less : ℕ → ℕ → Bool
less x y = nat_lt x y

abbrev pub same : ℕ → ℕ → Bool
same x y = x == y

-- a test as a number of sort 1
abbrev pub bit : Bool → ℕ
bit true = 1
bit false = 0

abbrev pub extend : ℕ → ℕ
extend x = x

-- of two values, the first where the condition is 1
abbrev pub choose : {A : Type 0} → ℕ → A → A → A
choose c a b = cond (c == 1) a b

-- memories: a number at each address
abbrev pub Memory : Type 0
Memory = ℕ → ℕ

abbrev pub read : Memory → ℕ → ℕ
read m x = m x

abbrev pub write : Memory → ℕ → ℕ → Memory
write m x v j = cond (j == x) v (m j)
