-- What set_up leaves in the buffers is the state at the start of the walk: rows and marks agree at every number.
-- By cases: a node's row is the given one, then stand the two shared constants, and no row follows; a cleared mark is fresh.
-- Assumes nothing.
use Prim.Native.Nat.{ℕ, zero, suc, ◌+◌, ◌-◌, ◌*◌, ◌<◌, ◌≤◌}
use mathlib.Core.Path.{◌≡◌, sym, ap, ap₂, ◌∙◌, fun_ext}
use mathlib.Core.List.{List, [], ◌∷◌, ◌++◌}
use native.Mathlib.Omega.{arith}
use borrow.Author.Tests.{lt-ltb, le-ltb}
use lib.ListN.{length, get_or, take, drop, replicate, length-append, length-drop, length-replicate, get_or-replicate, get_or-append}
use lib.Seq.{get_or-append-add, get_or-take, length-take-le}
use Rattle.rules.specs.Table.{Node, constant, unknown, row_width}
use Rattle.rules.specs.Walk.{Mark, fresh, start_rows, start}
use Rattle.rules.proofs.Base.{inside-or-past}
use Rattle.optimize.specs.Bounds.{count_of, constants_at, rows_end}
use Rattle.optimize.specs.View.{node_of, firsts, table_of, rows_of, mark_of, view}
use Rattle.optimize.specs.Lists.{Table}
use Rattle.optimize.specs.ResultView.{KindsKnown, Ready, untouched}
use Rattle.optimize.proofs.Views.{firsts_at, row_same, row-coded, row_below, row_made, row-past}
use Rattle.optimize.proofs.Steps.{table-length}

-- what set_up wrote: the given words, and the shared constants after the word for their count
pub record SetUp (g R : List ℕ) : Type 0 where
  pub known : KindsKnown g
  pub rows : (i : ℕ) → i < rows_end (count_of g) → get_or R i 0 ≡ get_or g i 0
  pub false_sort : get_or R (constants_at (count_of g)) 0 ≡ 1
  pub false_number : get_or R (constants_at (count_of g) + 1) 0 ≡ 0
  pub true_sort : get_or R (constants_at (count_of g) + 2) 0 ≡ 1
  pub true_number : get_or R (constants_at (count_of g) + 3) 0 ≡ 1

module _ (g R : List ℕ) (s : SetUp g R) where
  row-given : (k : ℕ) → k < count_of g → rows_of (count_of g) 0 R k ≡ start_rows (table_of g) k
  unfolding table_of
  row-given k h =
      row_below (count_of g) 0 R k h
      ∙ (row_same R g k (λ j l. s.rows (1 + row_width * k + j) (omega arith))
      ∙ row-coded g k (s.known k h)
      ∙ sym (get_or-append (table_of g) (constant 1 0 ∷ constant 1 1 ∷ []) unknown k (omega (arith, table-length g)) ∙ firsts_at (count_of g) (node_of g) unknown k h))

  row-constant : (j x y p : ℕ) → j < 2 → get_or R p 0 ≡ x → get_or R (p + 1) 0 ≡ y → p ≡ constants_at (count_of g) + 2 * j → rows_of (count_of g) 0 R (count_of g + j) ≡ constant x y
  row-constant j x y p h ex ey ep =
      let n : ℕ = count_of g in
      let q : constants_at n + 2 * (n + j - n) ≡ p = omega arith in
      row_made n 0 R (n + j) (omega arith) (omega arith)
      ∙ ap₂ constant (ap (λ i. get_or R i 0) q ∙ ex) (ap (λ i. get_or R (i + 1) 0) q ∙ ey)

  row_shared : (j : ℕ) → rows_of (count_of g) 0 R (count_of g + j) ≡ get_or (constant 1 0 ∷ constant 1 1 ∷ []) j unknown
  row_shared zero = row-constant 0 1 0 (constants_at (count_of g)) (omega arith) s.false_sort s.false_number (omega arith)
  row_shared (suc zero) =
      let q : constants_at (count_of g) + 2 + 1 ≡ constants_at (count_of g) + 3 = omega arith in
      row-constant 1 1 1 (constants_at (count_of g) + 2) (omega arith) s.true_sort (ap (λ i. get_or R i 0) q ∙ s.true_number) (omega arith)
  row_shared (suc (suc j)) = row-past (count_of g) 0 R (count_of g + suc (suc j)) (omega arith) (omega arith)

  rows_start : rows_of (count_of g) 0 R ≡ start_rows (table_of g)
  rows_start = fun_ext (λ k.
      inside-or-past _ k (count_of g) (row-given k)
      (λ h.
      let j : ℕ = k - count_of g in
      let e : k ≡ count_of g + j = omega arith in
      let e' : k ≡ length (table_of g) + j = omega (arith, table-length g) in
      ap (rows_of (count_of g) 0 R) e ∙ row_shared j
      ∙ sym (ap (λ i. get_or (table_of g ++ (constant 1 0 ∷ constant 1 1 ∷ [])) i unknown) e' ∙ get_or-append-add (table_of g) (constant 1 0 ∷ constant 1 1 ∷ []) j unknown)))

-- ---- the marks
cleared : (r : ℕ) (U : List ℕ) (k : ℕ) → k < r → get_or (replicate r 0 ++ U) k 0 ≡ 0
cleared r U k h = get_or-append (replicate r 0) U 0 k (omega (arith, length-replicate {A = ℕ} r 0)) ∙ get_or-replicate {A = ℕ} r k 0 0 h

marks-start : (n r : ℕ) (U : List ℕ) → n ≤ r → mark_of n (replicate r 0 ++ U) ≡ (λ k. fresh)
unfolding mark_of
marks-start n r U h = fun_ext (λ k.
    inside-or-past _ k n
    (λ l. rw (mark_of, lt-ltb k n l, cleared r U k (omega arith)))
    (λ l. rw (mark_of, le-ltb k n l)))

-- ---- the state
pub view-start : (g R : List ℕ) (r : ℕ) (U : List ℕ) (inputs replies : List ℕ) → SetUp g R → count_of g ≤ r
    → view [] g inputs replies R (replicate r 0 ++ U) untouched ≡ start (table_of g) inputs replies
unfolding view firsts
view-start g R r U inputs replies s h =
    ap₂ (λ (rows : ℕ → Node) (mark : ℕ → Mark). record { rows = rows; mark = mark; made = 0; inputs = inputs; replies = replies; asked = []; held = []; looked = 0; passed = 0 })
    (rows_start g R s) (marks-start (count_of g) r U h)

-- ---- what was copied
-- words put behind the first p of a list
before-put : (l ws : List ℕ) (p i : ℕ) → p ≤ length l → i < p → get_or (take p l ++ ws) i 0 ≡ get_or l i 0
before-put l ws p i h b = get_or-append (take p l) ws 0 i (omega (arith, length-take-le p l h)) ∙ get_or-take p l i 0 b

put_at : (l vs ws : List ℕ) (p i j : ℕ) → p ≤ length l → i ≡ p + j → j < length vs → get_or (take p l ++ (vs ++ ws)) i 0 ≡ get_or vs j 0
put_at l vs ws p i j h e b =
    let f : i ≡ length (take p l) + j = omega (arith, length-take-le p l h) in
    ap (λ i. get_or (take p l ++ (vs ++ ws)) i 0) f ∙ get_or-append-add (take p l) (vs ++ ws) j 0 ∙ get_or-append vs ws 0 j b

-- the given rows, then the room for the count of the constants, then the shared false and true
module _ (g R ws : List ℕ) (known : KindsKnown g) (fits : rows_end (count_of g) ≤ length g) (room : row_width + row_width * count_of g ≤ length R) where
  abbrev copied : List ℕ
  copied = take (rows_end (count_of g)) g ++ drop (rows_end (count_of g)) R

  copied_at : (i : ℕ) → i < rows_end (count_of g) → get_or copied i 0 ≡ get_or g i 0
  copied_at i h = before-put g (drop (rows_end (count_of g)) R) (rows_end (count_of g)) i fits h

  copied-length : length copied ≡ length R
  copied-length = simp (length-append, length-drop) (omega (arith, length-take-le (rows_end (count_of g)) g fits))

  stored : SetUp g (take (rows_end (count_of g) + 1) copied ++ ((1 ∷ 0 ∷ 1 ∷ 1 ∷ []) ++ ws))
  stored =
      let p : ℕ = rows_end (count_of g) + 1 in
      let vs : List ℕ = 1 ∷ 0 ∷ 1 ∷ 1 ∷ [] in
      let h : p ≤ length copied = omega (arith, copied-length) in
      record {
        known = known;
        rows = λ i l. before-put copied (vs ++ ws) p i h (omega arith) ∙ copied_at i l;
        false_sort = put_at copied vs ws p _ 0 h (omega arith) (omega arith);
        false_number = put_at copied vs ws p _ 1 h (omega arith) (omega arith);
        true_sort = put_at copied vs ws p _ 2 h (omega arith) (omega arith);
        true_number = put_at copied vs ws p _ 3 h (omega arith) (omega arith);
      }

-- A, B and C are what was copied and cleared
pub set_up_left : (g R S A B C ws : List ℕ) (n : ℕ) → Table g → Ready g (length R) (length S) → n ≡ count_of g → A ≡ take (rows_end n) g → B ≡ 1 ∷ 0 ∷ 1 ∷ 1 ∷ [] → C ≡ replicate (length (take n S)) 0
    → (inputs replies : List ℕ) → view [] g inputs replies (take (rows_end n + 1) (A ++ drop (rows_end n) R) ++ (B ++ ws)) (C ++ drop n S) untouched ≡ start (table_of g) inputs replies
set_up_left g R S A B C ws n t r e a b c inputs replies =
    let l : length (take (count_of g) S) ≡ count_of g = length-take-le (count_of g) S (omega arith) in
    rw (a, b, c, e)
    (view-start g (take (rows_end (count_of g) + 1) (copied g R ws r.known t.whole (omega arith)) ++ ((1 ∷ 0 ∷ 1 ∷ 1 ∷ []) ++ ws)) (length (take (count_of g) S)) (drop (count_of g) S) inputs replies (stored g R ws r.known t.whole (omega arith)) (omega arith))
