-- Each limit of words, names and text tried at its own value, and the example of docs/FORMAT.md, "Noon, by hand", text to text: all by computation.
-- A text is written as quoted text, and `ascii` gives its bytes. Only the last two theorems reach the fold.
--     section-limits, name-limits, dump-names, room-limits, labels, text_reading, text_most, text-names, program-room, accepted_calls, accepted_texts
-- Assumes nothing.
use Prim.Native.Nat.{ℕ, zero, suc}
use Prim.Native.Char.{code}
use Prim.Native.String.{String, len, char_at}
use mathlib.Core.Path.{◌≡◌, refl}
use mathlib.Core.Bool.{true, false}
use mathlib.Core.List.{List, [], ◌∷◌, ◌++◌, flatten}
use lib.ListN.{replicate}
use Rattle.btor.specs.Sorts.{width}
use Rattle.rules.specs.Whole.{run, fold, fold_bads, judge_bads, judge_sequentials, visit_all, last_question}
use Rattle.rules.specs.Check.{check, check_nodes, check_sequentials, check_bads}
use Rattle.rules.specs.Result.{result_words, gather, question_words}
use Rattle.rules.specs.Lists.{sum}
use Rattle.rules.specs.Refusal.{done, refuse}
use Rattle.rules.specs.Questions.{ask, ask_or}
use Rattle.rules.specs.Visit.{visit, process, settle, finish, finish_stay, unary, binary, visit1, visit2, visit3, ite_on, take_input, forward}
use Rattle.rules.specs.Memory.{find, look_at}
use Rattle.rules.specs.Limits.{house, need}
use Rattle.rules.specs.Sections.{cut_section, rows_of, cut_six, cut}
use Rattle.rules.specs.Names.{cut_names, counted_names, names_of, starts_with, memory_dump, dump}
use Rattle.rules.specs.Call.{Answer, Left, judge_mode, judge_room, judge_and_fold, judge_cut, outcome, left, optimize_model_impl, optimize_model_with_solver, optimize_model_with_input}
use Rattle.rules.specs.Label.{at, name_of_node, label_of}
use Rattle.rules.specs.Text.{tokens_after, all_digits, decimal_from, number_of, judge_token, numbers_from, numbers, all_bytes, all_name_bytes, names_in_numbers, after_numbers, text_outcome, decimal_of, blanked, lines, accepted_word, refused_word, program_room, program}

-- the bytes of a text of ASCII characters, so many from a place on
unfoldable pub ascii_from : ℕ → ℕ → String → List ℕ
ascii_from zero i s = []
ascii_from (suc n) i s = code (char_at s i) ∷ ascii_from n (suc i) s

unfoldable pub ascii : String → List ℕ
unfolding ascii_from
ascii s = ascii_from (len s) 0 s

pub words_in_bytes : (ascii "memory-dump" ≡ memory_dump) × (ascii "accepted" ≡ accepted_word) × (ascii "refused" ≡ refused_word)
unfolding ascii ascii_from
words_in_bytes = (refl, refl, refl)

-- ---- sections: each count at its limit, and one over it
pub section-limits : (cut house [] ≡ refuse 1 1 0)
    × (cut house (4096 ∷ []) ≡ refuse 1 1 0)
    × (cut house (4097 ∷ []) ≡ refuse 2 1 0)
    × (cut house (1 ∷ 1 ∷ 2 ∷ 0 ∷ 0 ∷ 0 ∷ []) ≡ refuse 1 1 0)
    × (cut house (0 ∷ 1024 ∷ []) ≡ refuse 1 2 0)
    × (cut house (0 ∷ 1025 ∷ []) ≡ refuse 2 2 0)
    × (cut house (0 ∷ 0 ∷ 1024 ∷ []) ≡ refuse 1 3 0)
    × (cut house (0 ∷ 0 ∷ 1025 ∷ []) ≡ refuse 2 3 0)
    × (cut house (0 ∷ 0 ∷ 0 ∷ 1024 ∷ []) ≡ refuse 1 4 0)
    × (cut house (0 ∷ 0 ∷ 0 ∷ 1025 ∷ []) ≡ refuse 2 4 0)
    × (cut house (0 ∷ 0 ∷ 0 ∷ 0 ∷ 4096 ∷ []) ≡ refuse 1 5 0)
    × (cut house (0 ∷ 0 ∷ 0 ∷ 0 ∷ 4097 ∷ []) ≡ refuse 2 5 0)
    × (cut house (0 ∷ 0 ∷ 0 ∷ 0 ∷ 0 ∷ []) ≡ refuse 1 6 0)
    × (cut house (0 ∷ 0 ∷ 0 ∷ 0 ∷ 0 ∷ 16384 ∷ []) ≡ refuse 1 6 0)
    × (cut house (0 ∷ 0 ∷ 0 ∷ 0 ∷ 0 ∷ 16385 ∷ []) ≡ refuse 2 6 0)
    × (cut house (0 ∷ 0 ∷ 0 ∷ 0 ∷ 0 ∷ 0 ∷ 0 ∷ []) ≡ refuse 1 6 0)
unfolding cut cut_six cut_section rows_of
section-limits = (refl, refl, refl, refl, refl, refl, refl, refl, refl, refl, refl, refl, refl, refl, refl, refl)

-- ---- names: count and length at their limits, the low byte first, bytes left over, and the name that takes no input
pub name-limits : (names_of house [] ≡ refuse 1 7 0)
    × (names_of house (0 ∷ []) ≡ refuse 1 7 0)
    × (names_of house (0 ∷ 16 ∷ []) ≡ refuse 1 7 0)
    × (names_of house (1 ∷ 16 ∷ []) ≡ refuse 2 7 0)
    × (names_of house (2 ∷ 0 ∷ 0 ∷ 1 ∷ 97 ∷ []) ≡ done ([] ∷ (97 ∷ []) ∷ []))
    × (names_of house (1 ∷ 0 ∷ 64 ∷ []) ≡ refuse 1 7 0)
    × (names_of house (1 ∷ 0 ∷ 65 ∷ []) ≡ refuse 2 7 0)
    × (names_of house (0 ∷ 0 ∷ 0 ∷ []) ≡ refuse 1 7 0)
unfolding names_of counted_names cut_names
name-limits = (refl, refl, refl, refl, refl, refl, refl, refl)

pub dump-names : (dump (ascii "memory-dump" ∷ []) 1 ≡ true)
    × (dump (ascii "memory-dump-2" ∷ []) 1 ≡ true)
    × (dump (ascii "memory-dum" ∷ []) 1 ≡ false)
    × (dump (ascii "Memory-dump" ∷ []) 1 ≡ false)
    × (dump (ascii "memory-dump" ∷ []) 0 ≡ false)
    × (dump (ascii "memory-dump" ∷ []) 2 ≡ false)
unfolding ascii ascii_from starts_with
dump-names = (refl, refl, refl, refl, refl, refl)

-- ---- mode and room: 21 words are 12, the result's first; a mode of 8 before all else, words left over before the names
abbrev pub no_words : List ℕ
no_words = replicate 6 0

abbrev pub no_names : List ℕ
no_names = replicate 2 0

abbrev pub answer : ℕ → ℕ → ℕ → ℕ → Answer
answer n s p ws = record { number = n; section = s; position = p; words = ws }

pub room-limits : (optimize_model_impl 7 no_words no_names 21 22 ≡ record { answer = answer 12 8 0 0; result = replicate 21 0; scratch = replicate 22 0 })
    × (optimize_model_impl 7 no_words no_names 22 21 ≡ record { answer = answer 12 8 1 0; result = replicate 22 0; scratch = replicate 21 0 })
    × (optimize_model_impl 7 no_words no_names 21 21 ≡ record { answer = answer 12 8 0 0; result = replicate 21 0; scratch = replicate 21 0 })
    × (optimize_model_impl 8 [] [] 0 0 ≡ record { answer = answer 1 0 0 0; result = []; scratch = [] })
    × (optimize_model_impl 7 (no_words ++ no_words) [] 0 0 ≡ record { answer = answer 1 6 0 0; result = []; scratch = [] })
unfolding left outcome judge_mode cut cut_six cut_section rows_of names_of counted_names cut_names judge_cut judge_room
room-limits = (refl, refl, refl, refl, refl)

-- ---- the example's table, as words
abbrev pub noon_rows : List ℕ
noon_rows = 4 ∷ 19 ∷ 2 ∷ 0 ∷ 0 ∷ 0 ∷ 1 ∷ 1 ∷ 2 ∷ 12 ∷ 0 ∷ 0 ∷ 0 ∷ 12 ∷ 1 ∷ 0 ∷ 1 ∷ 0 ∷ 0 ∷ 22 ∷ 1 ∷ 2 ∷ 0 ∷ 0 ∷ 0 ∷ []

abbrev pub noon_names : List ℕ
noon_names = 1 ∷ 0 ∷ 8 ∷ 104 ∷ 111 ∷ 108 ∷ 100 ∷ 45 ∷ 101 ∷ 110 ∷ 100 ∷ []

-- ---- labels: the example's State, and each reason for the substitute; the other sections are not looked at
pub labels : (label_of house 0 noon_rows noon_names (ascii "?") ≡ ascii "hold-end")
    × (label_of house 1 noon_rows noon_names (ascii "?") ≡ ascii "?")
    × (label_of house 4 noon_rows noon_names (ascii "?") ≡ ascii "?")
    × (label_of house 0 noon_rows no_names (ascii "?") ≡ ascii "?")
    × (label_of house 0 (noon_rows ++ (9999 ∷ [])) noon_names (ascii "?") ≡ ascii "hold-end")
    × (label_of house 0 (4097 ∷ noon_rows) noon_names (ascii "?") ≡ ascii "?")
    × (label_of house 0 [] noon_names (ascii "?") ≡ ascii "?")
    × (label_of house 0 noon_rows (noon_names ++ (0 ∷ [])) (ascii "?") ≡ ascii "?")
    × (label_of house 0 noon_rows (1 ∷ 0 ∷ 65 ∷ []) (ascii "?") ≡ ascii "?")
unfolding name_of_node cut_section rows_of names_of counted_names cut_names at ascii ascii_from
labels = (refl, refl, refl, refl, refl, refl, refl, refl, refl)

-- ---- the text
-- the bytes printed for the bytes read, both as quoted text
unfoldable pub Prints : String → String → Type 0
Prints i o = program (ascii i) ≡ ascii o

-- no number, or none below 2^64, and the mode; before any section, in reading order
pub text_reading : Prints "" "refused 1 0 0\n"
    × Prints " \r\n\t" "refused 1 0 0\n"
    × Prints "8 x" "refused 1 0 0\n"
    × Prints "+1" "refused 1 0 0\n"
    × Prints "7\u{b}0 0 0 0 0 0 0" "refused 1 0 0\n"
    × Prints "0 5000 1,2" "refused 1 0 2\n"
    × Prints "0 18446744073709551615" "refused 2 1 0\n"
    × Prints "0 18446744073709551616" "refused 1 0 1\n"
    × Prints "0 36893488147419103232" "refused 1 0 1\n"
unfolding Prints ascii ascii_from tokens_after all_digits decimal_from number_of judge_token numbers_from numbers cut_section rows_of cut_six cut_names counted_names all_bytes all_name_bytes names_in_numbers judge_mode after_numbers text_outcome decimal_of blanked
text_reading = (refl, refl, refl, refl, refl, refl, refl, refl, refl)

-- at place 4,096 everything is refused, and at the place before it a number is taken
pub text_most : ((t : List ℕ) (ts : List (List ℕ)) → numbers_from 4096 (t ∷ ts) ≡ refuse 2 0 4096)
    × (numbers_from 4095 (ascii "1" ∷ []) ≡ done (1 ∷ []))
    × (numbers_from 4095 (ascii "x" ∷ ascii "x" ∷ []) ≡ refuse 1 0 4095)
unfolding numbers_from judge_token number_of all_digits decimal_from ascii ascii_from
text_most = ((λ t ts. refl), refl, refl)

-- names as numbers: count and length at their limits, a byte value of 256, 2 before 1, a number left over
pub text-names : Prints "0 0 0 0 0 0 0" "refused 1 7 0\n"
    × Prints "0 0 0 0 0 0 0 4096" "refused 1 7 0\n"
    × Prints "0 0 0 0 0 0 0 4097" "refused 2 7 0\n"
    × Prints "0 0 0 0 0 0 0 1 64" "refused 1 7 0\n"
    × Prints "0 0 0 0 0 0 0 1 65" "refused 2 7 0\n"
    × Prints "0 0 0 0 0 0 0 1 1 256" "refused 1 7 0\n"
    × Prints "0 0 0 0 0 0 0 2 1 256 65" "refused 2 7 0\n"
    × Prints "0 0 0 0 0 0 0 0 0" "refused 1 7 0\n"
unfolding Prints ascii ascii_from tokens_after all_digits decimal_from number_of judge_token numbers_from numbers cut_section rows_of cut_six cut_names counted_names all_bytes all_name_bytes names_in_numbers judge_mode after_numbers text_outcome decimal_of blanked
text-names = (refl, refl, refl, refl, refl, refl, refl, refl)

-- the program's room: 185 nodes alone leave 4 words, 186 are too many
pub program-room : (judge_room (need 185 0 0 4) program_room program_room ≡ done tt)
    × (judge_room (need 185 0 0 5) program_room program_room ≡ refuse 12 8 0)
    × (judge_room (need 186 0 0 0) program_room program_room ≡ refuse 12 8 0)
unfolding judge_room
program-room = (refl, refl, refl)

-- ---- what goes through the fold
-- the example's table where nothing brings a value: the bad is asked about, and kept
abbrev pub open_noon : Left
open_noon =
    record {
      answer = answer 0 0 0 47;
      result = noon_rows ++ (2 ∷ 1 ∷ 0 ∷ 1 ∷ 1 ∷ 0 ∷ 0 ∷ 1 ∷ 3 ∷ 0 ∷ 0 ∷ 1 ∷ 4 ∷ 2 ∷ 0 ∷ 0 ∷ 5 ∷ 0 ∷ 0 ∷ 0 ∷ 0 ∷ 0 ∷ []) ++ replicate 73 0;
      scratch = replicate 120 0;
    }

-- empty tables pass with 22 words; with_solver leaves out the input and with_input the reply, and both need the room of the table as given
pub accepted_calls : (optimize_model_impl 7 no_words no_names 22 22
    ≡ record { answer = answer 0 0 0 18; result = 0 ∷ 2 ∷ 1 ∷ 0 ∷ 1 ∷ 1 ∷ 0 ∷ 0 ∷ 0 ∷ 0 ∷ 0 ∷ 0 ∷ 5 ∷ 0 ∷ 0 ∷ 0 ∷ 0 ∷ 3 ∷ 0 ∷ 0 ∷ 0 ∷ 0 ∷ []; scratch = replicate 22 0 })
    × (optimize_model_with_solver 0 (noon_rows ++ (0 ∷ 1 ∷ 3 ∷ 0 ∷ 1 ∷ 12 ∷ 0 ∷ [])) noon_names 120 120 ≡ open_noon)
    × (optimize_model_with_input (noon_rows ++ (0 ∷ 1 ∷ 3 ∷ 0 ∷ 0 ∷ 1 ∷ 1 ∷ [])) noon_names 120 120 ≡ open_noon)
    × ((optimize_model_with_solver 0 (noon_rows ++ (0 ∷ 1 ∷ 3 ∷ 0 ∷ 1 ∷ 12 ∷ 0 ∷ [])) noon_names 115 120).answer ≡ answer 12 8 0 0)
    × ((optimize_model_with_solver 0 (noon_rows ++ (0 ∷ 1 ∷ 3 ∷ 0 ∷ 0 ∷ 0 ∷ [])) noon_names 115 120).answer ≡ answer 0 0 0 47)
unfolding left outcome judge_mode cut cut_six cut_section rows_of names_of counted_names cut_names judge_cut judge_room starts_with judge_and_fold flatten run check check_nodes check_sequentials check_bads width result_words gather sum question_words fold fold_bads judge_bads judge_sequentials visit_all last_question ask ask_or visit process settle finish finish_stay unary binary visit1 visit2 visit3 ite_on take_input forward find look_at
accepted_calls = (refl, refl, refl, refl, refl)

-- the example of docs/FORMAT.md, "Noon, by hand", text to text
unfoldable pub Example : Type 0
Example =
    Prints "0\n4 19 2 0 0 0 1 1 2 12 0 0 0 12 1 0 1 0 0 22 1 2 0 0 0\n0\n1 3\n0\n1 12\n0\n1 8 104 111 108 100 45 101 110 100\n"
    "accepted\n4 19 2 0 0 0 1 1 2 12 0 0 0 12 1 6 1 0 0 22 1 4 0 0 0\n3 1 0 1 1 2 12\n2 0 6 2 4\n0\n0\n0\n0\n0\n5 1 0 0 0 0\n"

-- the example; leading zeros, tabs and carriage returns; a byte value of 255 in a name; a byte of 255, and of 256 as a Const and as an input
pub accepted_texts : Example
    × Prints "7\t0\r\n0 0 0 0 0 00000000000000000000000000000000000000000" "accepted\n0\n2 1 0 1 1\n0\n0\n0\n0\n0\n0\n5 0 0 0 0 3\n"
    × Prints "0 0 0 0 0 0 0 1 1 255" "accepted\n0\n2 1 0 1 1\n0\n0\n0\n0\n0\n0\n5 0 0 0 0 0\n"
    × Prints "0 1 1 11 255 0 0 0 0 0 0 0 0 0" "accepted\n1 1 11 255 0 0 0\n2 1 0 1 1\n0\n0\n0\n0\n0\n0\n5 0 0 0 0 0\n"
    × Prints "0 1 1 11 256 0 0 0 0 0 0 0 0 0" "refused 5 1 0\n"
    × Prints "0 4 19 11 0 0 0 0 1 11 9 0 0 0 12 1 0 1 0 0 22 1 2 0 0 0 0 1 3 0 1 256 0 0" "refused 10 1 0\n"
unfolding Example Prints ascii ascii_from tokens_after all_digits decimal_from number_of judge_token numbers_from numbers cut_section rows_of cut_six cut_names counted_names all_bytes all_name_bytes names_in_numbers judge_mode after_numbers text_outcome decimal_of blanked lines starts_with judge_room judge_cut judge_and_fold run check check_nodes check_sequentials check_bads width result_words gather sum question_words fold fold_bads judge_bads judge_sequentials visit_all last_question ask ask_or visit process settle finish finish_stay unary binary visit1 visit2 visit3 ite_on take_input forward find look_at
accepted_texts = (refl, refl, refl, refl, refl, refl)
