-- The program's text form: from all bytes of standard input to all bytes of standard output (docs/FORMAT.md, "The program's text").
--     tokens, number_of, numbers   the text as decimal numbers, with the refusals of reading
--     after_numbers, text_outcome   mode, sections 1 to 6 and names in the numbers, then as a call
--     printed, program   what is printed; from bytes to bytes
-- Assumes nothing.
use Rattle.std.specs.Prelude.{ℕ, zero, suc, ◌+◌, ◌-◌, ◌*◌, ◌/◌, ◌%◌, ◌^◌, Bool, true, false, ◌&&◌, ◌||◌, List, [], ◌∷◌, ◌++◌, ltb, leb, eqb}
use Rattle.std.proofs.Math.Option.{Option, none, some}
use Rattle.rules.specs.Refusal.{Out, refused, done, refuse, ◌>>=◌}
use Rattle.rules.specs.Limits.{Limits, house, highest_mode}
use Rattle.rules.specs.Sections.{cut_six}
use Rattle.rules.specs.Names.{counted_names}
use Rattle.rules.specs.Call.{impl, Accepted, judge_mode, judge_cut, sections_of}

-- "The program has room for 4,096 numbers and for 4,096 words of result"
abbrev pub most_numbers : ℕ
most_numbers = 4096

-- "A call that needs more than 4,096 words is 12."
abbrev pub program_room : ℕ
program_room = 4096

-- ---- the text as tokens
-- "blanks, tabs, carriage returns or line ends"
abbrev pub separates : ℕ → Bool
separates b = eqb b 32 || eqb b 9 || eqb b 13 || eqb b 10

-- a token that ends here, unless it is empty
abbrev pub ended : List ℕ → List (List ℕ) → List (List ℕ)
ended [] ts = ts
ended (b ∷ bs) ts = (b ∷ bs) ∷ ts

-- the tokens of the bytes, of which the first has begun with these
unfoldable pub tokens_after : List ℕ → List ℕ → List (List ℕ)
tokens_after begun [] = ended begun []
tokens_after begun (b ∷ bs) = elim (separates b) [ true ↦ ended begun (tokens_after [] bs) | false ↦ tokens_after (begun ++ (b ∷ [])) bs ]

-- "The text is decimal numbers with blanks, tabs, carriage returns or line ends between them"
abbrev pub tokens : List ℕ → List (List ℕ)
tokens bytes = tokens_after [] bytes

-- ---- a token as a number
-- 0 to 9
abbrev pub is_digit : ℕ → Bool
is_digit b = leb 48 b && ltb b 58

-- a token of digits alone, as many as there are: no sign, no comma
unfoldable pub all_digits : List ℕ → Bool
all_digits [] = true
all_digits (b ∷ bs) = is_digit b && all_digits bs

-- the number that digits go on to from x
unfoldable pub decimal_from : ℕ → List ℕ → ℕ
decimal_from x [] = x
decimal_from x (b ∷ bs) = decimal_from (x * 10 + (b - 48)) bs

-- a decimal number below 2^64, if the token is one
unfoldable pub number_of : List ℕ → Option ℕ
number_of token = elim (all_digits token && ltb (decimal_from 0 token) (2 ^ 64)) [ true ↦ some (decimal_from 0 token) | false ↦ none ]

-- ---- "in reading order": the numbers, from a place on
-- "text that is no such number, and a mode that is .. above 7, as 1, section 0, with the place of that number in the text from 0"
abbrev pub judge_number : ℕ → Option ℕ → Out ℕ
judge_number place none = refuse 1 0 place
judge_number place (some x) = elim (eqb place 0 && ltb highest_mode x) [ true ↦ refuse 1 0 place | false ↦ done x ]

-- "anything after 4,096 numbers as 2, section 0, position 4096"
unfoldable pub judge_token : ℕ → Option ℕ → Out ℕ
judge_token place x = elim (leb most_numbers place) [ true ↦ refuse 2 0 most_numbers | false ↦ judge_number place x ]

-- one token after the other, the first refusal first
unfoldable pub numbers_from : ℕ → List (List ℕ) → Out (List ℕ)
numbers_from place [] = done []
numbers_from place (t ∷ ts) = do
  x ← judge_token place (number_of t)
  xs ← numbers_from (suc place) ts
  done (x ∷ xs)

-- "a mode that is missing"
abbrev pub with_mode : List ℕ → Out (ℕ × List ℕ)
with_mode [] = refuse 1 0 0
with_mode (mode ∷ xs) = done (mode, xs)

-- the mode and the numbers after it; these refusals are judged over the whole text, before any section
unfoldable pub numbers : List ℕ → Out (ℕ × List ℕ)
numbers bytes = numbers_from 0 (tokens bytes) >>= with_mode

-- ---- "then the names as numbers: how many, and for each its length and its bytes"
-- no "byte above 255" in a name
unfoldable pub all_bytes : List ℕ → Bool
all_bytes [] = true
all_bytes (x ∷ xs) = ltb x 256 && all_bytes xs

-- and in no name
unfoldable pub all_name_bytes : List (List ℕ) → Bool
all_name_bytes [] = true
all_name_bytes (name ∷ names) = all_bytes name && all_name_bytes names

-- "A byte above 255 in a name is 1, section 7"
abbrev pub judge_bytes : List (List ℕ) → Out (List (List ℕ))
judge_bytes names = elim (all_name_bytes names) [ true ↦ done names | false ↦ refuse 1 7 0 ]

-- "after the counts and lengths of all names were judged": so 2 is before 1 over the whole section
unfoldable pub names_in_numbers : Limits → List ℕ → Out (List (List ℕ))
names_in_numbers limits [] = refuse 1 7 0
names_in_numbers limits (count ∷ xs) = counted_names limits count xs >>= judge_bytes

-- "the mode; the six sections, each after its count; then the names"; then as the call, with room for 4,096 words in result and scratch
unfoldable pub after_numbers : Limits → ℕ × List ℕ → Out Accepted
after_numbers limits (mode, xs) = do
  how ← judge_mode mode
  (s, rest) ← cut_six limits xs
  names ← names_in_numbers limits rest
  judge_cut impl how s names program_room program_room

-- the whole text
unfoldable pub text_outcome : Limits → List ℕ → Out Accepted
text_outcome limits bytes = numbers bytes >>= after_numbers limits

-- ---- what is printed
-- a number's decimal digits, without leading zeros; the fuel is at least the number
unfoldable pub decimal_of : ℕ → ℕ → List ℕ
decimal_of zero x = (48 + x) ∷ []
decimal_of (suc f) x = elim (ltb x 10) [ true ↦ (48 + x) ∷ [] | false ↦ decimal_of f (x / 10) ++ ((48 + x % 10) ∷ []) ]

-- a number as it is printed
abbrev pub decimal : ℕ → List ℕ
decimal x = decimal_of x x

-- each number after a blank
unfoldable pub blanked : List ℕ → List ℕ
blanked [] = []
blanked (x ∷ xs) = (32 ∷ decimal x) ++ blanked xs

-- numbers on one line
abbrev pub line : List ℕ → List ℕ
line [] = 10 ∷ []
line (x ∷ xs) = decimal x ++ (blanked xs ++ (10 ∷ []))

-- "one line for each of the nine sections of the result, its count first"
unfoldable pub lines : List (List ℕ) → List ℕ
lines [] = []
lines (xs ∷ xss) = line xs ++ lines xss

-- "accepted"
abbrev pub accepted_word : List ℕ
accepted_word = 97 ∷ 99 ∷ 99 ∷ 101 ∷ 112 ∷ 116 ∷ 101 ∷ 100 ∷ []

-- "refused"
abbrev pub refused_word : List ℕ
refused_word = 114 ∷ 101 ∷ 102 ∷ 117 ∷ 115 ∷ 101 ∷ 100 ∷ []

-- "It prints `accepted` and one line for each of the nine sections of the result, .. or `refused` and the number, section and position on one line."
abbrev pub printed : Out Accepted → List ℕ
printed (done a) = accepted_word ++ (10 ∷ lines (sections_of a))
printed (refused r) = refused_word ++ (blanked (r.reason ∷ r.section ∷ r.position ∷ []) ++ (10 ∷ []))

-- from all bytes of standard input to all bytes of standard output
abbrev pub program : List ℕ → List ℕ
program bytes = printed (text_outcome house bytes)
