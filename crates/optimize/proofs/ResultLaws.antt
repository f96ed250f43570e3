-- The nine sections of the rules' result, for the fold that lies in the buffers, are the words that the writers put behind one another.
-- Section by section: rows and constants stand in place, since a known kind's code is the word read; the others are lists that are lent, or parts of scratch and of the inputs.
--     sections_are    the nine sections as words of the buffers        handed_back    they and zeros after them are handed back
-- Assumes nothing.
use Prim.Native.Nat.{ℕ, zero, suc, ◌+◌, ◌-◌, ◌*◌, ◌<◌, ◌≤◌}
use mathlib.Core.Path.{◌≡◌, refl, sym, ap, ap₂, ◌∙◌}
use mathlib.Core.List.{List, [], ◌∷◌, ◌++◌, append_assoc, append-nil, flatten}
use native.Mathlib.Nat.{add-zero, zero-add, mul-zero, mul-suc}
use native.Mathlib.Omega.{arith}
use lib.ListN.{length, get_or, take, drop, replicate, length-drop}
use lib.Seq.{take-suc, take-add, drop-drop, get_or-drop, length-take-le}
use Rattle.rules.specs.Lists.{sum}
use Rattle.rules.specs.Table.{kind_of, kind_code, row_width}
use Rattle.rules.specs.Model.{Model}
use Rattle.rules.specs.Walk.{Question, Held}
use Rattle.rules.specs.Whole.{Folded}
use Rattle.rules.specs.Result.{node_words, const_words, mark_words, is_replaced, gather, question_words, listed, tally_of, result_words}
use Rattle.rules.proofs.Flat.{gather_snoc}
use Rattle.optimize.specs.Bounds.{count_of, constants_at, rows_end}
use Rattle.rules.specs.Sections.{word_of}
use Rattle.optimize.specs.View.{firsts, rows_of, mark_of, question_of, view}
use Rattle.optimize.specs.Lists.{entries_of}
use Rattle.optimize.specs.ResultView.{Finished, folded_in, ModelOf, Wrote, front_words, pair_words, kept_words, rest_words, Handed}
use Rattle.optimize.specs.Clauses.{Writes}
use Rattle.optimize.specs.declared.result.ResultWords.{ResultWords}
use Rattle.optimize.specs.declared.lists.Lists.{Lists}
use Rattle.optimize.specs.declared.walk.Walk.{Walk}
use Rattle.optimize.proofs.Views.{firsts-length, row_below, row-coded, row_made}

-- ---- parts of a list
-- a part, word by word
words-at : (c a : ℕ) (l : List ℕ) → a + c ≤ length l → entries_of l a c ≡ firsts c (λ j. get_or l (a + j) 0)
unfolding firsts
words-at zero a l h = refl
words-at (suc c) a l h =
    take-suc (drop a l) c 0 (omega (arith, length-drop a l))
    ∙ ap₂ (λ x y. x ++ (y ∷ [])) (words-at c a l (omega arith)) (get_or-drop a l c 0)

-- a part of p more words
part-more : (l : List ℕ) (a p c : ℕ) → entries_of l a (p * suc c) ≡ entries_of l a (p * c) ++ entries_of l (a + p * c) p
part-more l a p c =
    ap (λ i. take i (drop a l)) (mul-suc p c) ∙ take-add (p * c) p (drop a l) ∙ ap (λ x. take (p * c) (drop a l) ++ take p x) (drop-drop (p * c) a l)

-- a run of parts of p words each is one part
gather-part : (p c k a : ℕ) (f : ℕ → List ℕ) (l : List ℕ) → ((j : ℕ) → j < c → f (k + j) ≡ entries_of l (a + p * j) p) → gather c k f ≡ entries_of l a (p * c)
unfolding gather
gather-part p zero k a f l h = ap (λ i. take i (drop a l)) (sym (mul-zero p))
gather-part p (suc c) k a f l h =
    gather_snoc c k f ∙ ap₂ (λ x y. x ++ y) (gather-part p c k a f l (λ j i. h j (omega arith))) (h c (omega arith)) ∙ sym (part-more l a p c)

-- ---- rows and constants
module _ (n made : ℕ) (R : List ℕ) where
  row_words : (j : ℕ) → j < n → rows_end n ≤ length R → kind_code (kind_of (word_of R j 0)) ≡ word_of R j 0
      → node_words (rows_of n made R (0 + j)) ≡ entries_of R (1 + row_width * j) 6
  unfolding firsts
  row_words j h l known =
      ap (λ i. node_words (rows_of n made R i)) (zero-add j) ∙ ap node_words (row_below n made R j h ∙ row-coded R j known)
      ∙ ap (λ x. x ∷ word_of R j 1 ∷ word_of R j 2 ∷ word_of R j 3 ∷ word_of R j 4 ∷ word_of R j 5 ∷ []) known
      ∙ sym (words-at 6 (1 + row_width * j) R (omega arith))

  rows_words : rows_end n ≤ length R → ((v : ℕ) → v < n → kind_code (kind_of (word_of R v 0)) ≡ word_of R v 0)
      → gather n 0 (λ k. node_words (rows_of n made R k)) ≡ entries_of R 1 (row_width * n)
  rows_words l known = gather-part 6 n 0 1 (λ k. node_words (rows_of n made R k)) R (λ j h. row_words j h l (known j h))

  const-words : (j : ℕ) → j < 2 + made → constants_at n + 2 * (2 + made) ≤ length R
      → const_words (rows_of n made R (n + j)) ≡ entries_of R (constants_at n + 2 * j) 2
  unfolding firsts
  const-words j h l =
      let a : ℕ = constants_at n + 2 * j in
      let q : constants_at n + 2 * (n + j - n) ≡ a = omega arith in
      ap const_words (row_made n made R (n + j) (omega arith) (omega arith))
      ∙ ap (λ i. get_or R i 0 ∷ get_or R (i + 1) 0 ∷ []) q
      ∙ ap (λ i. get_or R i 0 ∷ get_or R (a + 1) 0 ∷ []) (sym (add-zero a))
      ∙ sym (words-at 2 a R (omega arith))

  consts_words : constants_at n + 2 * (2 + made) ≤ length R → gather (2 + made) n (λ k. const_words (rows_of n made R k)) ≡ entries_of R (constants_at n) (2 * (2 + made))
  consts_words l = gather-part 2 (2 + made) n (constants_at n) (λ k. const_words (rows_of n made R k)) R (λ j h. const-words j h l)

-- ---- questions
question_append : (xs ys : List Question) → question_words (xs ++ ys) ≡ question_words xs ++ question_words ys
unfolding question_words
question_append [] ys = refl
question_append (q ∷ xs) ys = ap (λ l. q.kind ∷ q.first ∷ q.second ∷ q.reply ∷ l) (question_append xs ys)

questions_words : (c n : ℕ) (S : List ℕ) → 2 * n + 4 * c ≤ length S → question_words (firsts c (question_of n S)) ≡ entries_of S (2 * n) (4 * c)
unfolding question_words firsts
questions_words zero n S h = ap (λ i. take i (drop (2 * n) S)) (sym (mul-zero 4))
questions_words (suc c) n S h =
    let a : ℕ = 2 * n + 4 * c in
    question_append (firsts c (question_of n S)) (question_of n S c ∷ [])
    ∙ ap₂ (λ x y. x ++ y) (questions_words c n S (omega arith))
    (ap (λ i. get_or S i 0 ∷ get_or S (a + 1) 0 ∷ get_or S (a + 2) 0 ∷ get_or S (a + 3) 0 ∷ []) (sym (add-zero a)) ∙ sym (words-at 4 a S (omega arith)))
    ∙ sym (part-more S (2 * n) 4 c)

-- ---- the nine sections
same : {x y : List ℕ} {xs ys : List (List ℕ)} → x ≡ y → xs ≡ ys → x ∷ xs ≡ y ∷ ys
same e f = ap₂ (λ a b. a ∷ b) e f

nine : (a b c d e f g h i : List ℕ) → flatten (a ∷ b ∷ c ∷ d ∷ e ∷ f ∷ g ∷ h ∷ i ∷ []) ≡ (a ++ b) ++ (c ++ ((d ++ (e ++ f)) ++ (g ++ (h ++ i))))
unfolding flatten
nine a b c d e f g h i = simp (append_assoc, append-nil)

-- ---- the end
handed : (R Q P ws : List ℕ) (r : ℕ) → length Q ≡ length R → Wrote R Q 0 r ws → P ≡ take r Q ++ replicate (length Q - r) 0 → Handed ws (length R) P r
handed R Q P ws r s w e =
    let c : r ≡ length ws = sym (length-take-le r Q w.fits) ∙ ap length w.front in
    let f : length Q - r ≡ length R - length ws = omega arith in
    record { words = e ∙ ap₂ (λ x i. x ++ replicate i 0) w.front f; count = c }

module _ (h : List Held) (d g inputs replies R S : List ℕ) (w : Walk) (kept : Lists) (verdict : ℕ) (m : Model)
    (fine : Finished g inputs R S w kept) (model : ModelOf g inputs replies m) (used : w.used ≤ length replies) where
  abbrev n : ℕ
  n = count_of g

  abbrev folded : Folded
  folded = folded_in h d g inputs replies R S w kept.sequentials.now kept.initial.now kept.later.now verdict

  tally_words : tally_of m folded ≡ w.taken ∷ w.used ∷ w.looked ∷ w.passed ∷ verdict ∷ []
  unfolding folded_in view
  tally_words =
      let e₁ : length m.inputs - length (drop w.taken inputs) ≡ w.taken = omega (arith, ap length model.inputs, length-drop w.taken inputs, fine.taken) in
      let e₂ : length m.replies - length (drop w.used replies) ≡ w.used = omega (arith, ap length model.replies, length-drop w.used replies) in
      ap₂ (λ x y. x ∷ y ∷ w.looked ∷ w.passed ∷ verdict ∷ []) e₁ e₂

  rows-section : length m.table ∷ gather (length m.table) 0 (λ j. node_words (rows_of n w.made R j)) ≡ n ∷ entries_of R 1 (row_width * n)
  rows-section =
      ap (λ i. i ∷ gather i 0 (λ j. node_words (rows_of n w.made R j))) model.nodes
      ∙ ap (λ x. n ∷ x) (rows_words n w.made R (omega (arith, fine.least)) fine.known)

  consts_section : (2 + w.made) ∷ gather (2 + w.made) (length m.table) (λ j. const_words (rows_of n w.made R j)) ≡ (2 + w.made) ∷ entries_of R (constants_at n) (2 * (2 + w.made))
  consts_section =
      ap (λ i. (2 + w.made) ∷ gather (2 + w.made) i (λ j. const_words (rows_of n w.made R j))) model.nodes
      ∙ ap (λ x. (2 + w.made) ∷ x) (consts_words n w.made R (omega (arith, fine.least, fine.made)))

  pairs-section : sum (length m.table) (λ j. is_replaced (mark_of n S j)) ∷ gather (length m.table) 0 (λ j. mark_words j (mark_of n S j)) ≡ pair_words n S
  pairs-section = ap (λ i. sum i (λ j. is_replaced (mark_of n S j)) ∷ gather i 0 (λ j. mark_words j (mark_of n S j))) model.nodes

  questions_section : length (firsts w.asked (question_of n S)) ∷ question_words (firsts w.asked (question_of n S)) ≡ w.asked ∷ entries_of S (2 * n) (4 * w.asked)
  questions_section =
      ap₂ (λ i x. i ∷ x) (firsts-length w.asked (question_of n S)) (questions_words w.asked n S fine.scratch)

  pub sections_are : flatten (result_words m folded) ≡ front_words n w.made R ++ (pair_words n S ++ (kept_words kept ++ rest_words inputs (entries_of S (2 * n) (4 * w.asked)) w verdict))
  unfolding result_words folded_in view
  sections_are =
      ap flatten
      (same rows-section
      (same consts_section
      (same pairs-section
      (same refl
      (same refl
      (same refl
      (same refl
      (same questions_section
      (same (ap listed tally_words)
      refl)))))))))
      ∙ nine _ _ _ _ _ _ _ _ _

  -- what stands after the last section and zeros behind it; k is the count as the code has it
  pub handed_back : (k : ℕ) → k ≡ n → (u v : ResultWords) (Q P asks : List ℕ) → u.at ≡ 0 → u.res.now ≡ R → asks ≡ entries_of S (2 * k) (4 * w.asked)
      → Writes u v (front_words k w.made R ++ (pair_words k S ++ (kept_words kept ++ rest_words inputs asks w verdict)))
      → Q ≡ v.res.now → (v.at ≤ length Q → P ≡ take v.at Q ++ replicate (length Q - v.at) 0) → Handed (flatten (result_words m folded)) (length R) P v.at
  handed_back k p u v Q P asks z b q e i c =
      let s : length v.res.now ≡ length R = e.size ∙ ap length b in
      let f : Wrote R v.res.now 0 v.at (front_words n w.made R ++ (pair_words n S ++ (kept_words kept ++ rest_words inputs (entries_of S (2 * n) (4 * w.asked)) w verdict))) = rw (q, z, b, p) at e.wrote in
      rw sections_are (handed R v.res.now P _ v.at s f (rw i at c (omega (arith, ap length i, e.wrote.fits))))
