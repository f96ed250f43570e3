-- An answer printed from the buffer's front on, and the call that a text makes.
-- Assumes nothing.
use Rattle.std.specs.Prelude.{ℕ, ◌-◌, ◌≡◌, List, ◌++◌, length, take, drop, Result, Ok, Err}
use Rattle.text.specs.Printing.{accepted_text}
use Rattle.rules.specs.Refusal.{Refusal, Out, refused, ◌>>=◌}
use Rattle.rules.specs.Limits.{house}
use Rattle.rules.specs.Call.{Call, Accepted}
use Rattle.rules.specs.Text.{program_room, after_numbers, printed}

-- the text stands at the buffer's front, so many bytes; those behind it are as they were
pub record Shown (entry exit : List ℕ) (size : ℕ) (text : List ℕ) : Type 0 where
  pub bytes : exit ≡ text ++ drop (length text) entry
  pub sized : size ≡ length text

-- the outcome is shown, or the refusal is its own and the buffer as it was
abbrev pub Prints : {E : Type 0} → (E → Refusal) → Result ℕ E → List ℕ → List ℕ → Out Accepted → Type 0
Prints refusal (Ok size) entry exit o = Shown entry exit size (printed o)
Prints refusal (Err why) entry exit o = (o ≡ refused (refusal why)) × (exit ≡ entry)

-- the result's words are printed as the rules print the outcome, or the refusal is its own
abbrev pub Works : {E : Type 0} → (E → Refusal) → Result ℕ E → List ℕ → Out Accepted → Type 0
Works refusal (Ok _) words o = accepted_text words ≡ printed o
Works refusal (Err why) words o = o ≡ refused (refusal why)

-- the call of the program: result and scratch have 4,096 words each
abbrev pub call_of : ℕ → List ℕ → List ℕ → Call
call_of mode words names = record { mode = mode; words = words; names = names; result_room = program_room; scratch_room = program_room }

-- of so many numbers at the array's front, those after the mode
abbrev pub after_mode : List ℕ → ℕ → List ℕ
after_mode ws count = take (count - 1) (drop 1 ws)

-- the outcome, once the numbers are read or refused
abbrev pub answer_after : Out (ℕ × List ℕ) → Out Accepted
answer_after read = read >>= after_numbers house
