-- Runs of words, one after the other in a list. Of records of p words each: what stands where, and a store, for the words of a slice that
-- hold a table. Of the replacements: how many words they are.
-- Assumes nothing.
use Prim.Native.Nat.{ℕ, zero, suc, ◌+◌, ◌*◌, ◌<◌, ◌≤◌}
use mathlib.Core.Path.{◌≡◌, refl, sym, ap, ap₂, ◌∙◌}
use mathlib.Core.List.{List, [], ◌∷◌, ◌++◌, append_assoc, append-nil}
use native.Mathlib.Omega.{arith}
use native.Mathlib.Nat.{add-zero, add-suc, suc-add, zero-add}
use lib.ListN.{length, get_or, set, length-append, get_or-append}
use lib.Seq.{get_or-append-add, set-append_left}
use Rattle.rules.specs.Lists.{put, sum}
use Rattle.rules.specs.Walk.{Mark, fresh, kept, replaced}
use Rattle.rules.specs.Result.{gather, mark_words, is_replaced}
use Rattle.rules.proofs.Base.{put_same, put_other}

-- a store past the first list
set_append_right : (xs ys : List ℕ) (i v : ℕ) → set (xs ++ ys) (length xs + i) v ≡ xs ++ set ys i v
set_append_right [] ys i v = ap (λ j. set ys j v) (zero-add i)
set_append_right (x ∷ xs) ys i v = ap (λ j. set (x ∷ xs ++ ys) j v) (suc-add (length xs) i) ∙ ap (λ l. x ∷ l) (set_append_right xs ys i v)

pub gather-same : (c k : ℕ) (f g : ℕ → List ℕ) → ((i : ℕ) → k ≤ i → f i ≡ g i) → gather c k f ≡ gather c k g
unfolding gather
gather-same zero k f g h = refl
gather-same (suc c) k f g h = ap₂ (λ a b. a ++ b) (h k (omega arith)) (gather-same c (suc k) f g (λ i l. h i (omega arith)))

-- the last of a run
pub gather_snoc : (c k : ℕ) (f : ℕ → List ℕ) → gather (suc c) k f ≡ gather c k f ++ f (k + c)
unfolding gather
gather_snoc zero k f = append-nil (f k) ∙ ap f (sym (add-zero k))
gather_snoc (suc c) k f =
    ap (λ l. f k ++ l) (gather_snoc c (suc k) f ∙ ap (λ i. gather c (suc k) f ++ f i) (suc-add k c ∙ sym (add-suc k c)))
    ∙ sym (append_assoc (f k) (gather c (suc k) f) (f (k + suc c)))

-- ---- replacements, two words each
pub mark-size : (k : ℕ) (m : Mark) → length (mark_words k m) ≡ 2 * is_replaced m
mark-size k fresh = refl
mark-size k kept = refl
mark-size k (replaced r) = refl

pub marks_snoc : (n : ℕ) (f : ℕ → Mark) → gather (suc n) 0 (λ i. mark_words i (f i)) ≡ gather n 0 (λ i. mark_words i (f i)) ++ mark_words n (f n)
marks_snoc n f = gather_snoc n 0 (λ i. mark_words i (f i)) ∙ ap (λ i. gather n 0 (λ i. mark_words i (f i)) ++ mark_words i (f i)) (zero-add n)

pub marks-size : (n : ℕ) (f : ℕ → Mark) → length (gather n 0 (λ i. mark_words i (f i))) ≡ 2 * sum n (λ i. is_replaced (f i))
unfolding sum gather
marks-size zero f = refl
marks-size (suc n) f =
    ap length (marks_snoc n f) ∙ length-append (gather n 0 (λ i. mark_words i (f i))) (mark_words n (f n)) ∙ omega (arith, mark-size n (f n), marks-size n f)

-- ---- records
module _ (p : ℕ) where
  pub gather-size : (c k : ℕ) (f : ℕ → List ℕ) → ((i : ℕ) → length (f i) ≡ p) → length (gather c k f) ≡ c * p
  unfolding gather
  gather-size zero k f h = omega arith
  gather-size (suc c) k f h = omega (arith, length-append (f k) (gather c (suc k) f), h k, gather-size c (suc k) f h)

  pub gather-at : (c k : ℕ) (f : ℕ → List ℕ) → ((i : ℕ) → length (f i) ≡ p) → (j i d : ℕ) → j < c → i < p → get_or (gather c k f) (j * p + i) d ≡ get_or (f (k + j)) i d
  unfolding gather
  gather-at zero k f h j i d lj li = absurd (omega arith)
  gather-at (suc c) k f h zero i d lj li =
      let e : zero * p + i ≡ i = omega arith in
      ap (λ n. get_or (f k ++ gather c (suc k) f) n d) e ∙ get_or-append (f k) (gather c (suc k) f) d i (omega (arith, h k)) ∙ ap (λ n. get_or (f n) i d) (sym (add-zero k))
  gather-at (suc c) k f h (suc j) i d lj li =
      let e : suc j * p + i ≡ length (f k) + (j * p + i) = omega (arith, h k) in
      ap (λ n. get_or (f k ++ gather c (suc k) f) n d) e ∙ get_or-append-add (f k) (gather c (suc k) f) (j * p + i) d
      ∙ gather-at c (suc k) f h j i d (omega arith) li ∙ ap (λ n. get_or (f n) i d) (suc-add k j ∙ sym (add-suc k j))

  -- a store of one word is a store in one record
  pub gather-set : (c k : ℕ) (f : ℕ → List ℕ) → ((i : ℕ) → length (f i) ≡ p) → (j i v : ℕ) → j < c → i < p
      → set (gather c k f) (j * p + i) v ≡ gather c k (put f (k + j) (set (f (k + j)) i v))
  unfolding gather
  gather-set zero k f h j i v lj li = absurd (omega arith)
  gather-set (suc c) k f h zero i v lj li =
      let e : zero * p + i ≡ i = omega arith in
      let q : k + 0 ≡ k = add-zero k in
      ap (λ n. set (f k ++ gather c (suc k) f) n v) e ∙ set-append_left (f k) (gather c (suc k) f) i v (omega (arith, h k))
      ∙ ap₂ (λ a b. a ++ b) (sym (put_same f k (set (f k) i v))) (gather-same c (suc k) f (put f k (set (f k) i v)) (λ m l. sym (put_other f k (set (f k) i v) m (λ r. omega arith))))
      ∙ ap (λ n. put f n (set (f n) i v) k ++ gather c (suc k) (put f n (set (f n) i v))) (sym q)
  gather-set (suc c) k f h (suc j) i v lj li =
      let e : suc j * p + i ≡ length (f k) + (j * p + i) = omega (arith, h k) in
      let q : suc k + j ≡ k + suc j = suc-add k j ∙ sym (add-suc k j) in
      ap (λ n. set (f k ++ gather c (suc k) f) n v) e ∙ set_append_right (f k) (gather c (suc k) f) (j * p + i) v
      ∙ ap (λ l. f k ++ l) (gather-set c (suc k) f h j i v (omega arith) li)
      ∙ ap (λ a. a ++ gather c (suc k) (put f (suc k + j) (set (f (suc k + j)) i v))) (sym (put_other f (suc k + j) (set (f (suc k + j)) i v) k (λ r. omega arith)))
      ∙ ap (λ n. put f n (set (f n) i v) k ++ gather c (suc k) (put f n (set (f n) i v))) q
