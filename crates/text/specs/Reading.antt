-- The reader's state and its answer, as the rules have them (rules, Reader).
--     reader_of           a reader, with the numbers in the array, as the rules' Reader
--     fed_in, ended_in    the array after a chunk, and at the end of the bytes
--     answer_of           what is read at the end: the mode and the numbers after it, or a refusal
-- Assumes nothing.
use Rattle.std.specs.Prelude.{ℕ, ◌-◌, List, [], ◌∷◌, get_or, take, drop, Option, Some, None, Result, Ok, Err}
use Rattle.rules.specs.Refusal.{Refusal, Out, refused, done}
use Rattle.rules.specs.Text.{most_numbers}
use Rattle.rules.specs.Reader as rules
use Rattle.text.specs.Front.{on_front}
use Rattle.text.specs.declared.reader.Token.{Token}
use Rattle.text.specs.declared.reader.Token.TheVariants.{Between, Within, Junk}
use Rattle.text.specs.declared.reader.ReadError.{ReadError}
use Rattle.text.specs.declared.reader.ReadError.TheVariants.{NoNumber, TooMany}
use Rattle.text.specs.declared.reader.Reader.{Reader}

-- the token that is being read
abbrev pub token_of : Token → rules.Token
token_of Between = rules.between
token_of (Within x) = rules.within x
token_of Junk = rules.junk

-- the token that goes on after a byte: a number, unless there is none
abbrev pub token_with : Option ℕ → rules.Token
token_with (Some x) = rules.within x
token_with None = rules.junk

-- the refusal: 1 with the token's place, or 2 with 4096, both of section 0
abbrev pub error_of : ReadError → Refusal
error_of (NoNumber place) = record { reason = 1; section = 0; position = place }
error_of TooMany = record { reason = 2; section = 0; position = most_numbers }

-- the numbers at the front of the array, or the first refusal
abbrev pub read_of : Result ℕ ReadError → List ℕ → Out (List ℕ)
read_of (Ok n) ws = done (take n ws)
read_of (Err why) ws = refused (error_of why)

-- a reader, with the array that it is lent
abbrev pub reader_of : Reader → List ℕ → rules.Reader
reader_of r ws = record { read = read_of r.read ws; token = token_of r.token }

-- the array after a chunk: after each byte the numbers read so far stand at its front
unfoldable pub fed_in : rules.Reader → List ℕ → List ℕ → List ℕ
fed_in r [] ws = ws
fed_in r (b ∷ bs) ws = fed_in (rules.step r b) bs (on_front (rules.step r b).read ws)

-- at the end of the bytes the last token ends too
abbrev pub ended_in : rules.Reader → List ℕ → List ℕ
ended_in r ws = on_front (rules.closed r.token r.read) ws

-- the mode is the first number, the others follow
abbrev pub answer_of : Result ℕ ReadError → List ℕ → Out (ℕ × List ℕ)
answer_of (Ok n) ws = done (get_or ws 0 0, take (n - 1) (drop 1 ws))
answer_of (Err why) ws = refused (error_of why)
