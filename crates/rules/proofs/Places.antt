-- Where the entries of sections 2 to 6 stand in the words: each list is a part of the words at a place that the counts give.
-- By cutting off what stands before the list; the words are those of the sections (proofs/Sections).
--     place2 .. place6   where the first entry of each list stands
--     parts_at           the five lists as parts of the words
-- Assumes nothing.
use Prim.Native.Nat.{ℕ, ◌+◌, ◌*◌}
use mathlib.Core.Path.{◌≡◌, sym, ap, ◌∙◌}
use mathlib.Core.List.{List, [], ◌∷◌, ◌++◌, append_assoc, append-nil}
use native.Mathlib.Omega.{arith}
use lib.ListN.{length, take, drop, length-append}
use lib.Seq.{drop_at, drop-drop, take-append_seam}
use Rattle.rules.specs.Refusal.{done}
use Rattle.rules.specs.Result.{listed}
use Rattle.rules.specs.Limits.{Limits}
use Rattle.rules.specs.Table.{row_width}
use Rattle.rules.specs.Sections.{Sections, cut, rows_words, encode}
use Rattle.rules.proofs.Sections.{rows_words-length, encode-cut}

-- a list after its count, behind n words
listed_in : (front xs back : List ℕ) (n : ℕ) → length front ≡ n → take (length xs) (drop (n + 1) (front ++ (listed xs ++ back))) ≡ xs
listed_in front xs back n e =
    ap (λ l. take (length xs) l) (sym (drop-drop 1 n (front ++ (listed xs ++ back))) ∙ ap (λ l. drop 1 l) (drop_at front (listed xs ++ back) n e))
    ∙ take-append_seam xs back

-- the place of a list's first entry: after the rows, the lists before it, and their counts with its own
abbrev pub place2 : Sections → ℕ
place2 s = row_width * length s.rows + 1 + 1

abbrev pub place3 : Sections → ℕ
place3 s = place2 s + length s.sequentials + 1

abbrev pub place4 : Sections → ℕ
place4 s = place3 s + length s.initial + 1

abbrev pub place5 : Sections → ℕ
place5 s = place4 s + length s.later + 1

abbrev pub place6 : Sections → ℕ
place6 s = place5 s + length s.inputs + 1

-- the part of so many words from a place on
abbrev pub Part : List ℕ → ℕ → List ℕ → Type 0
Part ws at xs = take (length xs) (drop at ws) ≡ xs

pub record Parts (ws : List ℕ) (s : Sections) : Type 0 where
  pub sequentials : Part ws (place2 s) s.sequentials
  pub initial : Part ws (place3 s) s.initial
  pub later : Part ws (place4 s) s.later
  pub inputs : Part ws (place5 s) s.inputs
  pub replies : Part ws (place6 s) s.replies
  pub all : length ws ≡ place6 s + length s.replies

module _ (s : Sections) where
  abbrev front2 : List ℕ
  front2 = length s.rows ∷ rows_words s.rows

  abbrev front3 : List ℕ
  front3 = front2 ++ listed s.sequentials

  abbrev front4 : List ℕ
  front4 = front3 ++ listed s.initial

  abbrev front5 : List ℕ
  front5 = front4 ++ listed s.later

  abbrev front6 : List ℕ
  front6 = front5 ++ listed s.inputs

  size2 : length front2 ≡ row_width * length s.rows + 1
  size2 = omega (arith, rows_words-length s.rows)

  size3 : length front3 ≡ place2 s + length s.sequentials
  size3 = omega (arith, size2, length-append front2 (listed s.sequentials))

  size4 : length front4 ≡ place3 s + length s.initial
  size4 = omega (arith, size3, length-append front3 (listed s.initial))

  size5 : length front5 ≡ place4 s + length s.later
  size5 = omega (arith, size4, length-append front4 (listed s.later))

  size6 : length front6 ≡ place5 s + length s.inputs
  size6 = omega (arith, size5, length-append front5 (listed s.inputs))

  encoded_parts : Parts (encode s) s
  unfolding encode
  encoded_parts =
      let back5 : List ℕ = listed s.inputs ++ listed s.replies in
      let back4 : List ℕ = listed s.later ++ back5 in
      let back3 : List ℕ = listed s.initial ++ back4 in
      let same3 : front3 ++ back3 ≡ encode s = simp append_assoc in
      let same4 : front4 ++ back4 ≡ encode s = simp append_assoc in
      let same5 : front5 ++ back5 ≡ encode s = simp append_assoc in
      let same6 : front6 ++ listed s.replies ≡ encode s = simp append_assoc in
      record {
        sequentials = listed_in front2 s.sequentials back3 (row_width * length s.rows + 1) size2;
        initial = rw same3 at (listed_in front3 s.initial back4 (place2 s + length s.sequentials) size3);
        later = rw same4 at (listed_in front4 s.later back5 (place3 s + length s.initial) size4);
        inputs = rw same5 at (listed_in front5 s.inputs (listed s.replies) (place4 s + length s.later) size5);
        replies =
            rw (append-nil (listed s.replies), same6) at (listed_in front6 s.replies [] (place5 s + length s.inputs) size6);
        all = ap length (sym same6) ∙ omega (arith, size6, length-append front6 (listed s.replies));
      }

pub parts_at : (limits : Limits) (ws : List ℕ) (s : Sections) → cut limits ws ≡ done s → Parts ws s
parts_at limits ws s e = rw (encode-cut limits ws s e).0 at (encoded_parts s)
