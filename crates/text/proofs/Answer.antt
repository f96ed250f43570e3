-- The program's answer: the words of a result are cut into its sections again, so what is printed of them is what the rules print;
-- and how many bytes that takes. By the sizes of the nine sections, and by the digits of a number below 2^64.
--     accepted-is        what is printed of a result's words, also with others after them
--     accepted_room      a number takes 20 bytes at most, and one more on its line
-- Assumes nothing.
use Prim.Native.Nat.{ℕ, zero, suc, ◌+◌, ◌*◌, ◌^◌, ◌<◌, ◌≤◌}
use mathlib.Core.Path.{◌≡◌, refl, sym, ap, ap₂, ◌∙◌}
use mathlib.Core.List.{List, [], ◌∷◌, ◌++◌, append_assoc, flatten}
use native.Mathlib.Omega.{arith}
use native.Mathlib.Nat.{zero-add}
use lib.ListN.{length, get_or, take, drop, length-append, take-append-drop, get_or-append}
use lib.Seq.{take_at, drop_at, get_or-drop}
use lib.Dec.{lit<}
use Rattle.rules.specs.Model.{Model}
use Rattle.rules.specs.Whole.{Folded}
use Rattle.rules.specs.Refusal.{done, refuse}
use Rattle.rules.specs.Result.{node_words, const_words, listed, result_words}
use Rattle.rules.specs.Call.{Accepted, words_of}
use Rattle.rules.specs.Text.{decimal, blanked, line, lines, accepted_word, printed}
use Rattle.rules.proofs.Flat.{gather-size, marks-size}
use Rattle.rules.proofs.Room.{question-length}
use Rattle.std.specs.Prelude.{Some}
use Rattle.text.specs.declared.printer.Page.{Page as LentPage}
use Rattle.text.proofs.Laid.{laid-fits}
use Rattle.text.specs.Printing.{page, page_of, laid, section_size, sections_in, result_widths, accepted_text}
use Rattle.std.proofs.lemmas.Fmt.{length-decimal-le}
use Rattle.text.proofs.Printing.{decimal_same}

-- ---- sections whose sizes are as their counts say are cut apart again
abbrev Sized : List ℕ → List (List ℕ) → Type 0
Sized [] [] = Unit
Sized [] (s ∷ ss) = ⊥
Sized (w ∷ ws) [] = ⊥
Sized (w ∷ ws) (s ∷ ss) = (length s ≡ section_size w s) × Sized ws ss

cut-sized : (ws : List ℕ) (ss : List (List ℕ)) (rest : List ℕ) → Sized ws ss → sections_in ws (flatten ss ++ rest) ≡ ss
unfolding sections_in flatten
cut-sized [] [] rest h = refl
cut-sized [] (s ∷ ss) rest h = absurd h
cut-sized (w ∷ ws) [] rest h = absurd h
cut-sized (w ∷ ws) (s ∷ ss) rest h =
    let more : List ℕ = flatten ss ++ rest in
    let all : (s ++ flatten ss) ++ rest ≡ s ++ more = append_assoc s (flatten ss) rest in
    let size : length s ≡ section_size w (s ++ more) = h.0 ∙ ap (λ n. 1 + w * n) (sym (get_or-append s more 0 0 (omega (arith, h.0)))) in
    ap (λ l. take (section_size w l) l ∷ sections_in ws (drop (section_size w l) l)) all
    ∙ ap₂ (λ t d. t ∷ sections_in ws d) (take_at s more (section_size w (s ++ more)) size) (drop_at s more (section_size w (s ++ more)) size)
    ∙ ap (λ l. s ∷ l) (cut-sized ws ss rest h.1)

-- ---- the sizes of a result's sections
listed-size : (xs : List ℕ) → length (listed xs) ≡ section_size 1 (listed xs)
listed-size xs = omega arith

result-sized : (m : Model) (f : Folded) → Sized result_widths (result_words m f)
unfolding result_words
result-sized m f =
    let n : ℕ = length m.table in
    let σ = f.state in (
      omega (arith, gather-size 6 n 0 (λ k. node_words (σ.rows k)) (λ i. refl)),
      (
        omega (arith, gather-size 2 (2 + σ.made) n (λ k. const_words (σ.rows k)) (λ i. refl)),
        (
          omega (arith, marks-size n σ.mark),
          (
            listed-size f.sequentials,
            (
              listed-size f.initial,
              (
                listed-size f.later,
                (
                  listed-size σ.inputs,
                  (
                    omega (arith, question-length σ.asked),
                    (refl, tt),
                  ),
                ),
              ),
            ),
          ),
        ),
      ),
    )

-- what is printed of the words of a result is what the rules print of it
pub accepted-is : (a : Accepted) (rest : List ℕ) → accepted_text (words_of a ++ rest) ≡ printed (done a)
accepted-is a rest =
    ap (λ ss. accepted_word ++ (10 ∷ lines ss)) (cut-sized result_widths (result_words a.model a.folded) rest (result-sized a.model a.folded))

-- ---- how many bytes are printed
pub decimal-bound : (x : ℕ) → x < 2 ^ 64 → length (decimal x) ≤ 20
decimal-bound x h = omega (arith, length-decimal-le 20 x (lit< tt) (omega arith) h, ap length (decimal_same x h))

-- numbers below 2^64, as the elements of a slice are
abbrev pub Words : List ℕ → Type 0
Words ws = (k : ℕ) → get_or ws k 0 < 2 ^ 64

words_take : (n : ℕ) (ws : List ℕ) → Words ws → Words (take n ws)
words_take zero ws h k = lit< tt
words_take (suc n) [] h k = lit< tt
words_take (suc n) (w ∷ ws) h zero = h 0
words_take (suc n) (w ∷ ws) h (suc k) = words_take n ws (λ j. h (suc j)) k

words-drop : (n : ℕ) (ws : List ℕ) → Words ws → Words (drop n ws)
words-drop n ws h k = rw (get_or-drop n ws k 0) (h (n + k))

pub blanked_bound : (xs : List ℕ) → Words xs → length (blanked xs) ≤ 21 * length xs
unfolding blanked
blanked_bound [] h = omega arith
blanked_bound (x ∷ xs) h =
    omega (arith, length-append (32 ∷ decimal x) (blanked xs), decimal-bound x (h 0), blanked_bound xs (λ k. h (suc k)))

line-bound : (xs : List ℕ) → Words xs → length (line xs) ≤ 21 * length xs + 1
line-bound [] h = omega arith
line-bound (x ∷ xs) h =
    omega (arith, length-append (decimal x) (blanked xs ++ (10 ∷ [])), length-append (blanked xs) (10 ∷ []), decimal-bound x (h 0), blanked_bound xs (λ k. h (suc k)))

sections-bound : (widths ws : List ℕ) → Words ws → length (lines (sections_in widths ws)) ≤ 21 * length ws + length widths
unfolding lines sections_in
sections-bound [] ws h = omega arith
sections-bound (w ∷ widths) ws h =
    let n : ℕ = section_size w ws in
    let parts : length (take n ws) + length (drop n ws) ≡ length ws = sym (length-append (take n ws) (drop n ws)) ∙ ap length (take-append-drop n ws) in
    let first = line-bound (take n ws) (words_take n ws h) in
    let others = sections-bound widths (drop n ws) (words-drop n ws h) in
    omega (arith, length-append (line (take n ws)) (lines (sections_in widths (drop n ws))))

-- 21 bytes for each word, the first line and the ends of nine lines
pub accepted_room : (ws : List ℕ) → Words ws → length (accepted_text ws) ≤ 21 * length ws + 18
accepted_room ws h = omega (arith, sections-bound result_widths ws h)

pub refused_room : (number section position : ℕ) → length (blanked (number ∷ section ∷ position ∷ [])) ≤ 63 → length (printed (refuse number section position)) ≤ 71
refused_room number section position h = omega (arith, length-append (blanked (number ∷ section ∷ position ∷ [])) (10 ∷ []))

-- ---- a page that was begun at a buffer's front, once the bytes are printed
module _ (begun p : LentPage) (entry bs : List ℕ) (new : page_of begun ≡ page entry (Some 0)) (all : page_of p ≡ laid (page_of begun) bs) where
  from-front : page_of p ≡ laid (page entry (Some 0)) bs
  from-front = all ∙ ap (λ q. laid q bs) new

  -- what it left behind in the buffer
  pub left_behind : (exit : List ℕ) → exit ≡ p.out.now → page exit p.place ≡ laid (page entry (Some 0)) bs
  left_behind exit e = ap (λ l. page l p.place) e ∙ from-front

  -- where there is room, all of it is printed
  pub place_after : length bs ≤ length entry → p.place ≡ Some (length bs)
  place_after h =
      let f : page_of p ≡ page (take 0 entry ++ bs ++ drop (0 + length bs) entry) (Some (0 + length bs)) = from-front ∙ laid-fits bs entry 0 (omega arith) in
      ap (λ q. q.place) f ∙ ap Some (zero-add (length bs))
