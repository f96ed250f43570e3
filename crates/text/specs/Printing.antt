-- Printing into a lent buffer from a place on, and the result's words as the program prints them (docs/FORMAT.md, "The program's text").
--     Page, laid          a buffer with a place in it, and bytes printed there one after the other
--     sections_in         the sections that words hold, each with its count first
--     accepted_text       what is printed of the words of a result (proofs/Printing: it is what the rules print)
-- Assumes nothing.
use Rattle.std.specs.Prelude.{Option, Some, None, ℕ, ◌+◌, ◌*◌, ◌≤◌, ◌≡◌, true, false, List, [], ◌∷◌, ◌++◌, length, get_or, take, drop, set, ltb}
use Rattle.rules.specs.Text.{lines, accepted_word}
use Rattle.text.specs.declared.printer.Page.{Page as LentPage}

-- a buffer, and where the next byte goes
pub record Page : Type 0 where
  pub bytes : List ℕ
  pub place : Option ℕ

abbrev pub page : List ℕ → Option ℕ → Page
page bytes place = record { bytes = bytes; place = place }

-- a page of the code, as its buffer has it
abbrev pub page_of : LentPage → Page
page_of p = page p.out.now p.place

-- a byte at a place of the buffer, and the next place; past the buffer's end nothing is written
unfoldable pub put_at : List ℕ → ℕ → ℕ → Page
put_at bytes at b = elim (ltb at (length bytes)) [ true ↦ page (set bytes at b) (Some (at + 1)) | false ↦ page bytes None ]

abbrev pub put_byte : List ℕ → Option ℕ → ℕ → Page
put_byte bytes (Some at) b = put_at bytes at b
put_byte bytes None b = page bytes None

-- one byte after the other: those that fit are written, and nothing else is
unfoldable pub laid : Page → List ℕ → Page
laid p [] = p
laid p (b ∷ bs) = laid (put_byte p.bytes p.place b) bs

-- ---- a result's words
-- how many words each entry of a result section has: nodes, made constants, replacements, three lists, inputs left, questions, the tally
abbrev pub result_widths : List ℕ
result_widths = 6 ∷ 2 ∷ 2 ∷ 1 ∷ 1 ∷ 1 ∷ 1 ∷ 4 ∷ 1 ∷ []

-- the words that a section takes, its count first
abbrev pub section_size : ℕ → List ℕ → ℕ
section_size width words = 1 + width * get_or words 0 0

-- where a section ends in the words: all of them, where they are too few
pub record SectionEnds (width : ℕ) (words : List ℕ) (end : ℕ) : Type 0 where
  pub within : end ≤ length words
  pub section : take end words ≡ take (section_size width words) words
  pub rest : drop end words ≡ drop (section_size width words) words

-- one section after the other
unfoldable pub sections_in : List ℕ → List ℕ → List (List ℕ)
sections_in [] words = []
sections_in (width ∷ widths) words = take (section_size width words) words ∷ sections_in widths (drop (section_size width words) words)

-- "It prints `accepted` and one line for each of the nine sections of the result, its count first"
abbrev pub accepted_text : List ℕ → List ℕ
accepted_text words = accepted_word ++ (10 ∷ lines (sections_in result_widths words))
