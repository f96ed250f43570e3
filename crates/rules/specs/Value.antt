-- What a node is worth under an assignment (docs/FORMAT.md, "What you may rely on").
--     Value     a whole number, or a memory           meaning   a row's value, from its operands' values
--     value     the value of each node of a table     Fits      a value that a sort can have
-- Assumes nothing.
use Rattle.std.specs.Prelude.{ℕ, zero, suc, ◌<◌, ◌^◌, ◌≡◌, ◌≢◌}
use Rattle.btor.specs.Operators.{Reading, Memory, compute, both, either, complement, less, same, bit, extend, choose, read, write}
use Rattle.btor.specs.Sorts.{width}
use Rattle.rules.specs.Table.{Kind, Const, Read, Write, Word, Ult, Ext, Ite, Eq, And, Or, Not, State, Next, Input, Bad, Node}

-- "Values are whole numbers, and for a memory a number below 2^64 at each address"
pub data Value : Type 0 where
  number : ℕ → Value
  memory : Memory → Value

abbrev pub num : Value → ℕ
num (number x) = x
num (memory f) = 0

abbrev pub mem : Value → Memory
mem (number x) j = 0
mem (memory f) j = f j

abbrev pub written : Value → Value → Value → Value
written m x v = memory (write (mem m) (num x) (num v))

-- "a State has what the assignment gives it also where it has an init. A Bad has its condition's value, a Next its next value's, a constant its number."
abbrev pub meaning : Reading → Kind → (ℕ → Value) → Value → Node → Value
meaning how Const v own nd = number nd.a
meaning how Read v own nd = number (read (mem (v nd.a)) (num (v nd.b)))
meaning how Write v own nd = written (v nd.a) (v nd.b) (v nd.c)
meaning how (Word op) v own nd = number (compute how op (num (v nd.a)) (num (v nd.b)))
meaning how Ult v own nd = number (bit (less (num (v nd.a)) (num (v nd.b))))
meaning how Ext v own nd = number (extend (num (v nd.a)))
meaning how Ite v own nd = choose (num (v nd.a)) (v nd.b) (v nd.c)
meaning how Eq v own nd = number (bit (same (num (v nd.a)) (num (v nd.b))))
meaning how And v own nd = number (both (num (v nd.a)) (num (v nd.b)))
meaning how Or v own nd = number (either (num (v nd.a)) (num (v nd.b)))
meaning how Not v own nd = number (complement (width nd.sort) (num (v nd.a)))
meaning how State v own nd = own
meaning how Next v own nd = v nd.b
meaning how Input v own nd = own
meaning how Bad v own nd = v nd.a

-- what a row is worth, where v gives the values of what it names and own what the assignment gives it
abbrev pub worth : Reading → (ℕ → Value) → Value → Node → Value
worth how v own nd = meaning how nd.kind v own nd

-- what each number gets, where step makes it of its row and of what the numbers in its row get; d stands where the fuel is spent
unfoldable pub over_in : {A : Type 0} → A → (ℕ → Node → (ℕ → A) → A) → (ℕ → Node) → ℕ → ℕ → A
over_in d step rows zero k = d
over_in d step rows (suc f) k = step k (rows k) (over_in d step rows f)

-- a row names numbers before it, or constants, which name none: the fuel k + 2 is enough
unfoldable pub over : {A : Type 0} → A → (ℕ → Node → (ℕ → A) → A) → (ℕ → Node) → ℕ → A
over d step rows k = over_in d step rows (suc (suc k)) k

-- own says what a State or an Input has, from the values before it
abbrev pub value_step : Reading → ((ℕ → Value) → ℕ → Value) → ℕ → Node → (ℕ → Value) → Value
value_step how own k nd v = worth how v (own v k) nd

abbrev pub value_by : Reading → (ℕ → Node) → ((ℕ → Value) → ℕ → Value) → ℕ → Value
value_by how rows own = over (number 0) (value_step how own) rows

-- the value of each node under the assignment α
unfoldable pub value : Reading → (ℕ → Node) → (ℕ → Value) → ℕ → Value
value how rows α = value_by how rows (λ v. α)

-- "a value that fits its sort"
abbrev pub Fits : ℕ → Value → Type 0
Fits s (number x) = (s ≢ 3) × (x < 2 ^ width s)
Fits s (memory f) = (s ≡ 3) × ((j : ℕ) → f j < 2 ^ 64)
