-- The standard's reading of values (BTOR2, SMT-LIB), which no mode folds by yet; and the bound on the writes looked at.
--     IsSmtLib, ValuesAgree, ValuesOnly      each node's value is what SMT-LIB's own operator gives of its operands' values, and no other is
--     LookedOfCall               the bound on the writes looked at, in every mode
--     SmtLibCanFail              values of which IsSmtLib holds, and others of which it fails
-- Assumes nothing.
use Rattle.std.specs.Prelude.{ℕ, ◌-◌, ◌*◌, ◌^◌, ◌<◌, ◌≤◌, ◌≡◌, Bool, cond, List, length, get_or, eqb}
use Rattle.btor.specs.Operators.{Op, Div, Rem, standard, read, write}
use Rattle.btor.specs.Sorts.{width, word_code}
use Rattle.btor.specs.Standard.{bv2nat, nat2bv, bvand, bvor, bvnot, bvult, zero_extend, Equal, ite, Truth, test_bit, IsTrue, bit_vector_op, on_numbers, on_number}
use Rattle.rules.specs.Refusal.{done}
use Rattle.rules.specs.Table.{Kind, Const, Read, Write, Word, Ult, Ext, Ite, Eq, And, Or, Not, State, Next, Input, Bad, Node, node_at}
use Rattle.rules.specs.Legal.{AllLegal}
use Rattle.rules.specs.Value.{Value, number, memory, num, mem, value}
use Rattle.rules.specs.Result.{tally_of}
use Rattle.rules.specs.Demand.{Assigns}
use Rattle.rules.specs.Tally.{visited_reads, writes}
use Rattle.rules.specs.Limits.{Limits}
use Rattle.rules.specs.Call.{Call, Entry, Accepted, outcome}

-- ---- a row's value in SMT-LIB's own operators
-- r is what the row nd of the kind has, where v gives the values of what it names and own what the assignment gives it; its first operand has w bits
abbrev pub IsSmtLib : ℕ → Kind → (ℕ → Value) → Value → Node → Value → Type 0
IsSmtLib w Const v own nd r = r ≡ number (bv2nat (width nd.sort) (nat2bv nd.a))
IsSmtLib w Read v own nd r = r ≡ number (read (mem (v nd.a)) (num (v nd.b)))
IsSmtLib w Write v own nd r = r ≡ memory (write (mem (v nd.a)) (num (v nd.b)) (num (v nd.c)))
IsSmtLib w (Word op) v own nd r = r ≡ number (on_numbers 64 (bit_vector_op 64 op) (num (v nd.a)) (num (v nd.b)))
IsSmtLib w Ult v own nd r = r ≡ number (bv2nat 1 (test_bit (bvult w (nat2bv (num (v nd.a))) (nat2bv (num (v nd.b))))))
IsSmtLib w Ext v own nd r = r ≡ number (bv2nat 64 (zero_extend w (nat2bv (num (v nd.a)))))
IsSmtLib w Ite v own nd r = (t : Bool) × Truth t (IsTrue (nat2bv (num (v nd.a)))) × (r ≡ ite t (v nd.b) (v nd.c))
IsSmtLib w Eq v own nd r = (t : Bool) × Truth t (Equal w (nat2bv (num (v nd.a))) (nat2bv (num (v nd.b)))) × (r ≡ number (bv2nat 1 (test_bit t)))
IsSmtLib w And v own nd r = r ≡ number (on_numbers (width nd.sort) bvand (num (v nd.a)) (num (v nd.b)))
IsSmtLib w Or v own nd r = r ≡ number (on_numbers (width nd.sort) bvor (num (v nd.a)) (num (v nd.b)))
IsSmtLib w Not v own nd r = r ≡ number (on_number (width nd.sort) bvnot (num (v nd.a)))
IsSmtLib w State v own nd r = r ≡ own
IsSmtLib w Next v own nd r = r ≡ v nd.b
IsSmtLib w Input v own nd r = r ≡ own
IsSmtLib w Bad v own nd r = r ≡ v nd.a

-- among any rows
abbrev pub SmtLibOf : (ℕ → Node) → (ℕ → Value) → Value → Node → Value → Type 0
SmtLibOf rows v own nd r = IsSmtLib (width (rows nd.a).sort) nd.kind v own nd r

-- node k of a table has it, among values v under the assignment α
abbrev pub SmtLibAt : List Node → (ℕ → Value) → (ℕ → Value) → ℕ → Type 0
SmtLibAt t α v k = SmtLibOf (node_at t) v (α k) (node_at t k) (v k)

-- in the standard's reading each node's value is the one that SMT-LIB's operators give it, on all operands
unfoldable pub ValuesAgree : Type 0
ValuesAgree =
    (t : List Node) (α : ℕ → Value) → AllLegal t → Assigns t α
    → (k : ℕ) → k < length t → SmtLibAt t α (value standard (node_at t) α) k

-- and no others are: whoever works a table out by SMT-LIB's operators comes to these values
unfoldable pub ValuesOnly : Type 0
ValuesOnly =
    (t : List Node) (α : ℕ → Value) → AllLegal t → Assigns t α → (v : ℕ → Value) → ((k : ℕ) → k < length t → SmtLibAt t α v k)
    → (k : ℕ) → k < length t → v k ≡ value standard (node_at t) α k

-- the writes looked at are "never more than visited Reads times the table's Writes", in every mode
unfoldable pub LookedOfCall : Type 0
LookedOfCall =
    (limits : Limits) (entry : Entry) (call : Call) (a : Accepted) → outcome limits entry call ≡ done a
    → get_or (tally_of a.model a.folded) 2 0 ≤ visited_reads a.model.table a.folded.state.mark * writes a.model.table

-- ---- it can fail: r is what SMT-LIB has for an operator of the words x and y
abbrev pub SaysOf : Op → ℕ → ℕ → ℕ → Type 0
SaysOf op x y r =
    IsSmtLib 64 (Word op) (λ k. number (cond (eqb k 0) x y)) (number 0) (record { kind = Word op; sort = word_code; a = 0; b = 1; c = 0; name = 0 }) (number r)

-- by 0, and the least by -1: the standard's numbers, and not the Rust's
unfoldable pub SmtLibCanFail : Type 0
SmtLibCanFail =
    (SaysOf Div 5 0 (2 ^ 64 - 1) × (SaysOf Div 5 0 (2 ^ 63 - 1) → ⊥))
    × (SaysOf Div (2 ^ 63) 0 1 × (SaysOf Div (2 ^ 63) 0 (2 ^ 64 - 1) → ⊥))
    × (SaysOf Div (2 ^ 63) (2 ^ 64 - 1) (2 ^ 63) × (SaysOf Div (2 ^ 63) (2 ^ 64 - 1) (2 ^ 63 - 1) → ⊥))
    × (SaysOf Rem 5 0 5 × (SaysOf Rem 5 0 (2 ^ 64 - 1) → ⊥))
