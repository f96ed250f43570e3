-- Words written behind the words before a place: nothing, a run of stores, a section copied, and one after the other.
--     wrote_none, wrote_stores, wrote_section, wrote_counts, wrote_then        what is written        writes_by, writes_then   and in which buffer
--     marks-counted, pair_none, pair_put                     how many marks say that a node is replaced, and what a mark adds
--     pair_turn, pair_end                                    a turn of the loop over the words of the marks, and its end
--     writes_first, writes_more                              a run of words, one by one
-- Assumes nothing.
use Prim.Native.Nat.{ℕ, zero, suc, ◌+◌, ◌*◌, ◌<◌, ◌≤◌}
use mathlib.Core.Path.{◌≡◌, refl, sym, ap, ap₂, ◌∙◌}
use mathlib.Core.List.{List, [], ◌∷◌, ◌++◌, append_assoc, append-nil}
use native.Mathlib.Numerals.{add-one}
use native.Mathlib.Nat.{zero-add}
use native.Mathlib.Omega.{arith}
use lib.Dec.{eqb}
use mathlib.Core.Logic.{◌⊎◌, inl, inr}
use Rattle.std.specs.List.{count_by, filter, zip}
use Rattle.std.proofs.lemmas.Slice.Zip.{length-zip, get_or-zip}
use Rattle.std.proofs.lemmas.List.{drop_more}
use Rattle.std.proofs.lemmas.List.Sums.{count_by_more_yes, count_by_more_no, length-filter}
use mathlib.Core.Bool.{Bool, true, false}
use lib.ListN.{length, get_or, take, drop, set, length-append, length-drop, length-set}
use lib.Seq.{get_or-take, get_or-drop, take-suc-set, take-add, take-set-le, drop-cons, drop-set-lt, get_or-set_same, take_all, take_at, length-take-le, sets, sets-eq, length-sets, paste, take-paste, length-paste}
use Rattle.rules.specs.Lists.{sum}
use Rattle.rules.specs.Walk.{Mark, fresh, kept, replaced}
use Rattle.rules.specs.Result.{gather, is_replaced, mark_words}
use Rattle.rules.proofs.Flat.{gather_snoc}
use Rattle.rules.specs.Table.{row_width}
use Rattle.optimize.specs.Bounds.{constants_at, room_of, rows_end}
use Rattle.optimize.specs.declared.mark.Mark.{Mark as Recorded}
use Rattle.optimize.specs.View.{mark_by, mark_is, mark_of}
use Rattle.optimize.specs.Lists.{entries_of}
use Rattle.optimize.specs.ResultView.{Wrote, replaces}
use Rattle.optimize.specs.Clauses.{Writes}
use Rattle.optimize.specs.declared.result.ResultWords.{ResultWords}
use Rattle.optimize.proofs.Views.{mark-below}

pub wrote_none : (R : List ℕ) (at : ℕ) → at ≤ length R → Wrote R R at at []
wrote_none R at h = record { front = sym (append-nil (take at R)); fits = h }

pub wrote_then : (R Q P : List ℕ) (at r s : ℕ) (ws vs : List ℕ) → Wrote R Q at r ws → Wrote Q P r s vs → Wrote R P at s (ws ++ vs)
wrote_then R Q P at r s ws vs a b =
    record { front = b.front ∙ ap (λ l. l ++ vs) a.front ∙ append_assoc (take at R) ws vs; fits = b.fits }

-- into the words of a result
module _ (u v : ResultWords) where
  pub writes_by : (ws : List ℕ) → u.at ≤ length u.res.now → v.res.ghost_name ≡ u.res.ghost_name → length v.res.now ≡ length u.res.now
      → Wrote u.res.now v.res.now u.at v.at ws → Writes u v ws
  writes_by ws h same size w =
      record {
        same = same;
        size = size;
        place = omega (arith, length-take-le v.at v.res.now w.fits, ap length w.front, length-append (take u.at u.res.now) ws, length-take-le u.at u.res.now h);
        wrote = w;
      }

  pub writes_then : (w : ResultWords) (ws vs : List ℕ) → Writes u v ws → Writes v w vs → Writes u w (ws ++ vs)
  writes_then w ws vs a b =
      record {
        same = b.same ∙ a.same;
        size = b.size ∙ a.size;
        place = omega (arith, a.place, b.place, length-append ws vs);
        wrote = wrote_then u.res.now v.res.now w.res.now u.at v.at w.at ws vs a.wrote b.wrote;
      }

pub wrote_stores : (R : List ℕ) (at : ℕ) (vs : List ℕ) → at + length vs ≤ length R → Wrote R (sets R at vs) at (at + length vs) vs
wrote_stores R at vs h =
    record {
      front =
          ap (λ l. take (at + length vs) l) (sets-eq vs R at h)
          ∙ take_at (take at R ++ vs) (drop (at + length vs) R) (at + length vs) (omega (arith, length-append (take at R) vs, length-take-le at R (omega arith)));
      fits = omega (arith, length-sets R at vs);
    }

pub section-size : (R Q : List ℕ) (at count : ℕ) (words : List ℕ) → at + 1 + length words ≤ length R
    → Q ≡ paste (set R at count) (at + 1) words (length words) → length Q ≡ length R
section-size R Q at count words l e =
    let h : length words ≤ length words = omega arith in
    omega (arith, ap length e, length-paste (set R at count) (at + 1) words (length words) (omega (arith, length-set R at count)) h, length-set R at count)

pub wrote_section : (R Q : List ℕ) (at count : ℕ) (words : List ℕ) → at + 1 + length words ≤ length R
    → Q ≡ paste (set R at count) (at + 1) words (length words) → Wrote R Q at (at + 1 + length words) (count ∷ words)
wrote_section R Q at count words l e =
    let n : at + 1 ≤ length (set R at count) = omega (arith, length-set R at count) in
    let h : length words ≤ length words = omega arith in
    let first : take (at + 1) (set R at count) ≡ take at R ++ (count ∷ []) = rw (add-one at) (take-suc-set R at count (omega arith)) in
    record {
      front =
          ap (λ x. take (at + 1 + length words) x) e ∙ take-paste (set R at count) (at + 1) words (length words) n h
          ∙ ap₂ (λ x y. x ++ y) first (take_all (length words) words h) ∙ append_assoc (take at R) (count ∷ []) words;
      fits = omega (arith, section-size R Q at count words l e);
    }

-- two counts before words that stand in place: m of them, then p
counts_front : (x v c m p : ℕ) (R : List ℕ) → m < length R
    → take (suc (m + suc p)) (set (set (x ∷ R) 0 v) (suc m) c) ≡ (v ∷ entries_of (x ∷ R) 1 m) ++ (c ∷ entries_of (x ∷ R) (suc (suc m)) p)
counts_front x v c m p R h =
    let l : m < length (set R m c) = omega (arith, length-set R m c) in
    ap (λ w. v ∷ w)
    (take-add m (suc p) (set R m c)
    ∙ ap₂ (λ a b. a ++ take (suc p) b) (take-set-le m R m c (omega arith))
    (drop-cons (set R m c) m 0 l ∙ ap₂ (λ a b. a ∷ b) (get_or-set_same R m c 0 h) (drop-set-lt (suc m) R m c (omega arith))))

pub wrote_counts : (R : List ℕ) (n made : ℕ) → made ≤ n → room_of n ≤ length R
    → Wrote R (set (set R 0 n) (rows_end n) (2 + made)) 0 (constants_at n + 2 * (2 + made))
    ((n ∷ entries_of R 1 (row_width * n)) ++ ((2 + made) ∷ entries_of R (constants_at n) (2 * (2 + made))))
wrote_counts [] n made h l = absurd (omega arith)
wrote_counts (x ∷ R) n made h l =
    let e₁ : rows_end n ≡ suc (row_width * n) = omega arith in
    let e₂ : constants_at n + 2 * (2 + made) ≡ suc (row_width * n + suc (2 * (2 + made))) = omega arith in
    let e₃ : constants_at n ≡ suc (suc (row_width * n)) = omega arith in
    record {
      front =
          ap₂ (λ i j. take i (set (set (x ∷ R) 0 n) j (2 + made))) e₂ e₁ ∙ counts_front x n (2 + made) (row_width * n) (2 * (2 + made)) R (omega arith)
          ∙ ap (λ i. (n ∷ entries_of (x ∷ R) 1 (row_width * n)) ++ ((2 + made) ∷ entries_of (x ∷ R) i (2 * (2 + made)))) (sym e₃);
      fits = omega (arith, length-set (set (x ∷ R) 0 n) (rows_end n) (2 + made));
    }

-- ---- marks
-- it counts as one, or it does not
counts-or-not : (m : Mark) → ((eqb (is_replaced m) 1 ≡ true) × (is_replaced m ≡ 1)) ⊎ ((eqb (is_replaced m) 1 ≡ false) × (is_replaced m ≡ 0))
counts-or-not fresh = inr (refl, refl)
counts-or-not kept = inr (refl, refl)
counts-or-not (replaced r) = inl (refl, refl)

module _ (n : ℕ) (S : List ℕ) where
  -- what a mark adds
  pub pair_none : (k : ℕ) → k < n → (r : Recorded) → mark_is r ≡ mark_by (get_or S k 0) (get_or S (n + k) 0) → ((by : ℕ) → r ≡ Recorded.Replaced by → ⊥) → mark_words k (mark_of n S k) ≡ []
  pair_none k l Recorded.Fresh e d = ap (mark_words k) (mark-below n S k l ∙ sym e)
  pair_none k l Recorded.Kept e d = ap (mark_words k) (mark-below n S k l ∙ sym e)
  pair_none k l (Recorded.Replaced by) e d = absurd (d by refl)

  pub pair_put : (k : ℕ) → k < n → (by : ℕ) → replaced by ≡ mark_by (get_or S k 0) (get_or S (n + k) 0) → mark_words k (mark_of n S k) ≡ k ∷ by ∷ []
  pair_put k l by e = ap (mark_words k) (mark-below n S k l ∙ sym e)

  -- the replaced among the first c, counted over the words' pairs
  abbrev pub pairs : List (ℕ × ℕ)
  pairs = zip (take n S) (drop n S)

  abbrev pub says : ℕ × ℕ → Bool
  says p = replaces p.0 p.1

  -- the words x and y are of node k, and those of the nodes behind it follow
  pub record Turn (k x y : ℕ) (xs ys : List ℕ) : Type 0 where
    pub inside : k < n
    pub mark : mark_by x y ≡ mark_by (get_or S k 0) (get_or S (n + k) 0)
    pub marks : xs ≡ drop (k + 1) (take n S)
    pub after : ys ≡ drop (k + 1) (drop n S)

  module _ (room : n + n ≤ length S) where
    pairs-length : length pairs ≡ n
    pairs-length = omega (arith, length-zip (take n S) (drop n S), length-take-le n S (omega arith), length-drop n S)

    pair-at : (k : ℕ) → k < n → get_or pairs k (0, 0) ≡ (get_or S k 0, get_or S (n + k) 0)
    pair-at k l =
        get_or-zip (take n S) (drop n S) k (0, 0) (omega (arith, length-take-le n S (omega arith))) (omega (arith, length-drop n S))
        ∙ ap₂ (λ x y. (x, y)) (get_or-take n S k 0 l) (get_or-drop n S k 0)

    -- a turn over the pairs, of which k are behind, and the end
    pub pair_turn : (k x y : ℕ) (xs ys : List ℕ) → drop k (take n S) ≡ x ∷ xs → drop k (drop n S) ≡ y ∷ ys → Turn k x y xs ys
    pair_turn k x y xs ys d e =
        let h : k < length (take n S) = omega (arith, ap length d, length-drop k (take n S)) in
        let l : k < length (drop n S) = omega (arith, ap length e, length-drop k (drop n S)) in
        let a : get_or (take n S) k 0 ∷ drop (k + 1) (take n S) ≡ x ∷ xs = sym (drop_more (take n S) k 0 h) ∙ d in
        let b : get_or (drop n S) k 0 ∷ drop (k + 1) (drop n S) ≡ y ∷ ys = sym (drop_more (drop n S) k 0 l) ∙ e in
        let i : k < n = omega (arith, h, length-take-le n S (omega arith)) in
        record {
          inside = i;
          mark = ap₂ mark_by (sym (ap (λ l. get_or l 0 0) a) ∙ get_or-take n S k 0 i) (sym (ap (λ l. get_or l 0 0) b) ∙ get_or-drop n S k 0);
          marks = sym (ap (drop 1) a);
          after = sym (ap (drop 1) b);
        }

    pub pair_end : (k : ℕ) (xs ys : List ℕ) → xs ≡ drop k (take n S) → ys ≡ drop k (drop n S) → (xs ≡ []) ⊎ (ys ≡ []) → n ≤ k
    pair_end k xs ys d e (inl x) = omega (arith, ap length (sym d ∙ x), length-drop k (take n S), length-take-le n S (omega arith))
    pair_end k xs ys d e (inr y) = omega (arith, ap length (sym e ∙ y), length-drop k (drop n S), length-drop n S)

    counted-first : (c : ℕ) → c ≤ n → count_by says (take c pairs) ≡ sum c (λ k. is_replaced (mark_of n S k))
    unfolding sum
    counted-first zero h = refl
    counted-first (suc c) h =
        let q : ℕ → ℕ = λ i. sum i (λ k. is_replaced (mark_of n S k)) in
        let e : suc c ≡ c + 1 = sym (add-one c) in
        let f = counted-first c (omega arith) in
        let m = mark-below n S c (omega arith) in
        let at = ap says (pair-at c (omega arith)) in
        ap (λ i. count_by says (take i pairs)) e
        ∙ elim (counts-or-not (mark_by (get_or S c 0) (get_or S (n + c) 0))) [
          | inl b ↦ count_by_more_yes says pairs c (0, 0) (omega (arith, pairs-length)) (at ∙ b.0) ∙ ap (λ i. i + 1) f ∙ omega (arith, ap is_replaced m, b.1)
          | inr b ↦ count_by_more_no says pairs c (0, 0) (omega (arith, pairs-length)) (at ∙ b.0) ∙ f ∙ omega (arith, ap is_replaced m, b.1)
        ]

    pub marks-counted : length (filter says pairs) ≡ sum n (λ k. is_replaced (mark_of n S k))
    marks-counted = length-filter says pairs ∙ ap (count_by says) (sym (take_all n pairs (omega (arith, pairs-length)))) ∙ counted-first n (omega arith)

-- ---- runs of words
pub writes_still : (u : ResultWords) → u.at ≤ length u.res.now → Writes u u []
writes_still u h = writes_by u u [] h refl refl (wrote_none u.res.now u.at h)

pub writes_first : (u : ResultWords) (f : ℕ → List ℕ) → u.at ≤ length u.res.now → Writes u u (gather 0 0 f)
unfolding gather
writes_first u f h = writes_still u h

pub writes_more : (u v w : ResultWords) (c : ℕ) (f : ℕ → List ℕ) → Writes u v (gather c 0 f) → Writes v w (f c) → Writes u w (gather (c + 1) 0 f)
writes_more u v w c f a b =
    rw (add-one c, gather_snoc c 0 f, zero-add c) (writes_then u v w (gather c 0 f) (f c) a b)
