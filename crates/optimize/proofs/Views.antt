-- What a read of a buffer says of the state that lies there, and what a store makes of that state.
-- Assumes nothing.
use mathlib.Core.Path.{◌≡◌, refl, ap, ap₂, sym, ◌∙◌, fun_ext}
use mathlib.Core.Bool.{Bool, true, false, cond}
use mathlib.Core.List.{List, [], ◌∷◌, ◌++◌}
use Prim.Native.Nat.{ℕ, zero, suc, ◌+◌, ◌-◌, ◌*◌, ◌<◌, ◌≤◌}
use native.Mathlib.Numerals.{add-one}
use native.Mathlib.Omega.{arith}
use lib.Dec.{ltb, eqb, lit<}
use lib.ListN.{length, get_or, set, length-set, length-append, get_or-append}
use lib.Seq.{get_or-set_same, get_or-set_other, get_or-append_seam}
use borrow.Author.Tests.{ltb-true, ltb-false, eqb-true, eqb-false, lt-ltb, le-ltb, eq-eqb}
use Rattle.rules.specs.Table.{Node, kind_of, kind_code, constant, unknown, row_width}
use Rattle.rules.specs.Lists.{put}
use Rattle.rules.specs.Walk.{fresh}
use Rattle.rules.specs.Questions.{question}
use Rattle.rules.proofs.Base.{put_other}
use Rattle.rules.specs.Sections.{word_of}
use Rattle.optimize.specs.Bounds.{constants_at, rows_end}
use Rattle.optimize.specs.View.{node_of, Coded, sort_by, row_of, firsts, rows_of, mark_by, mark_of, question_of}

pub split : {P : Type 0} (k n : ℕ) → (k < n → P) → (n ≤ k → P) → P
split {P} k n f g = go (ltb k n) refl
  where
    go : (b : Bool) → ltb k n ≡ b → P
    go true e = f (ltb-true k n e)
    go false e = g (ltb-false k n e)

pub same_or : {P : Type 0} (j k : ℕ) → (j ≡ k → P) → ((j ≡ k → ⊥) → P) → P
same_or {P} j k f g = go (eqb j k) refl
  where
    go : (b : Bool) → eqb j k ≡ b → P
    go true e = f (eqb-true j k e)
    go false e = g (eqb-false j k e)

-- ---- lists of the first values
pub firsts_same : {A : Type 0} (c : ℕ) (f g : ℕ → A) → ((i : ℕ) → i < c → f i ≡ g i) → firsts c f ≡ firsts c g
unfolding firsts
firsts_same zero f g h = refl
firsts_same (suc c) f g h = ap₂ (λ l x. l ++ (x ∷ [])) (firsts_same c f g (λ i l. h i (omega arith))) (h c (omega arith))

pub firsts_more : {A : Type 0} (c : ℕ) (f : ℕ → A) → firsts (c + 1) f ≡ firsts c f ++ (f c ∷ [])
unfolding firsts
firsts_more c f = rw add-one

pub firsts-length : {A : Type 0} (c : ℕ) (f : ℕ → A) → length (firsts c f) ≡ c
unfolding firsts
firsts-length zero f = refl
firsts-length (suc c) f = length-append (firsts c f) (f c ∷ []) ∙ omega (arith, firsts-length c f)

pub firsts_at : {A : Type 0} (c : ℕ) (f : ℕ → A) (d : A) (i : ℕ) → i < c → get_or (firsts c f) i d ≡ f i
unfolding firsts
firsts_at zero f d i h = absurd (omega arith)
firsts_at (suc c) f d i h =
    split i c
    (λ l. get_or-append (firsts c f) (f c ∷ []) d i (omega (arith, firsts-length c f)) ∙ firsts_at c f d i l)
    (λ l.
    let e : i ≡ length (firsts c f) = omega (arith, firsts-length c f) in
    let e' : i ≡ c = omega arith in
    ap (λ j. get_or (firsts c f ++ (f c ∷ [])) j d) e ∙ get_or-append_seam (firsts c f) (f c) [] d ∙ ap f (sym e'))

-- ---- rows
module _ (n m : ℕ) (R : List ℕ) (k : ℕ) where
  pub row_below : k < n → rows_of n m R k ≡ row_of R k
  unfolding rows_of
  row_below h = rw (rows_of, lt-ltb k n h)

  pub row_made : n ≤ k → k - n < 2 + m → rows_of n m R k ≡ constant (get_or R (constants_at n + 2 * (k - n)) 0) (get_or R (constants_at n + 2 * (k - n) + 1) 0)
  unfolding rows_of
  row_made h l = rw (rows_of, le-ltb k n h, lt-ltb (k - n) (2 + m) l)

  pub row-past : n ≤ k → 2 + m ≤ k - n → rows_of n m R k ≡ unknown
  unfolding rows_of
  row-past h l = rw (rows_of, le-ltb k n h, le-ltb (k - n) (2 + m) l)

pub sort-same : (c c' s s' : ℕ) → c ≡ c' → s ≡ s' → sort_by c s ≡ sort_by c' s'
sort-same c c' s s' e f = ap₂ sort_by e f

pub row_same : (Q R : List ℕ) (k : ℕ) → ((j : ℕ) → j < 6 → word_of Q k j ≡ word_of R k j) → row_of Q k ≡ row_of R k
row_same Q R k h =
    let s = sort-same (word_of Q k 0) (word_of R k 0) (word_of Q k 1) (word_of R k 1) (h 0 (lit< tt)) (h 1 (lit< tt)) in
    cc (h 0 (lit< tt), s, h 2 (lit< tt), h 3 (lit< tt), h 4 (lit< tt), h 5 (lit< tt))

-- where the first word is the code of a kind, the sort is the second
pub sort-coded : (c s : ℕ) → Coded c → sort_by c s ≡ s
sort-coded c s e = ap (λ b. cond b s 0) (eq-eqb (kind_code (kind_of c)) c e)

pub row-coded : (R : List ℕ) (k : ℕ) → Coded (word_of R k 0) → row_of R k ≡ node_of R k
row-coded R k e =
    ap (λ s. record { kind = kind_of (word_of R k 0); sort = s; a = word_of R k 2; b = word_of R k 3; c = word_of R k 4; name = word_of R k 5 }) (sort-coded (word_of R k 0) (word_of R k 1) e)

pub coded-sort : (c s : ℕ) → (sort_by c s ≡ 0 → ⊥) → Coded c
coded-sort c s h = go (eqb (kind_code (kind_of c)) c) refl
  where
    go : (b : Bool) → eqb (kind_code (kind_of c)) c ≡ b → Coded c
    go true e = eqb-true (kind_code (kind_of c)) c e
    go false e = absurd (h (ap (λ b. cond b s 0) e))

-- the words of a constant that was made before
made-same : (n m k : ℕ) (Q R : List ℕ) → n ≤ k → k - n < 2 + m → ((i : ℕ) → rows_end n < i → i < constants_at n + 2 * (2 + m) → get_or Q i 0 ≡ get_or R i 0)
    → constant (get_or Q (constants_at n + 2 * (k - n)) 0) (get_or Q (constants_at n + 2 * (k - n) + 1) 0) ≡ constant (get_or R (constants_at n + 2 * (k - n)) 0) (get_or R (constants_at n + 2 * (k - n) + 1) 0)
made-same n m k Q R l h s = cc (s (constants_at n + 2 * (k - n)) (omega arith) (omega arith), s (constants_at n + 2 * (k - n) + 1) (omega arith) (omega arith))

-- one more constant
module _ (n m : ℕ) (R Q : List ℕ) (s x : ℕ)
    (before : (i : ℕ) → i < constants_at n + 2 * (2 + m) → get_or Q i 0 ≡ get_or R i 0)
    (put_s : get_or Q (constants_at n + 2 * (2 + m)) 0 ≡ s) (put-x : get_or Q (constants_at n + 2 * (2 + m) + 1) 0 ≡ x) where
  row_pushed : (k : ℕ) → k ≡ n + 2 + m → rows_of n (m + 1) Q k ≡ constant s x
  row_pushed k e =
      let d : k - n ≡ 2 + m = omega arith in
      row_made n (m + 1) Q k (omega arith) (omega arith) ∙ rw (d, put_s, put-x)

  row_kept : (k : ℕ) → (k ≡ n + 2 + m → ⊥) → rows_of n (m + 1) Q k ≡ rows_of n m R k
  row_kept k d =
      split k n
      (λ l. row_below n (m + 1) Q k l ∙ row_same Q R k (λ j h. before (1 + row_width * k + j) (omega arith)) ∙ sym (row_below n m R k l))
      (λ l.
      split (k - n) (2 + m)
      (λ h. row_made n (m + 1) Q k l (omega arith) ∙ made-same n m k Q R l h (λ i _ j. before i j) ∙ sym (row_made n m R k l h))
      (λ h. row-past n (m + 1) Q k l (omega arith) ∙ sym (row-past n m R k l h)))

  pub rows_pushed : rows_of n (m + 1) Q ≡ put (rows_of n m R) (n + 2 + m) (constant s x)
  rows_pushed = fun_ext (λ k.
      same_or k (n + 2 + m)
      (λ e. row_pushed k e ∙ sym (ap (λ b. cond b (constant s x) (rows_of n m R k)) (eq-eqb k (n + 2 + m) e)))
      (λ d. row_kept k d ∙ sym (put_other (rows_of n m R) (n + 2 + m) (constant s x) k d)))

-- another row at k
module _ (n m : ℕ) (R Q : List ℕ) (k : ℕ) (nd : Node) (l : k < n)
    (others : (i : ℕ) → (1 + row_width * k ≤ i → i < 1 + row_width + row_width * k → ⊥) → get_or Q i 0 ≡ get_or R i 0) (here : row_of Q k ≡ nd) where
  row_other : (j : ℕ) → (j ≡ k → ⊥) → rows_of n m Q j ≡ rows_of n m R j
  row_other j d =
      split j n
      (λ h. row_below n m Q j h ∙ row_same Q R j (λ i q. others (1 + row_width * j + i) (λ a b. d (omega arith))) ∙ sym (row_below n m R j h))
      (λ h.
      split (j - n) (2 + m)
      (λ q. row_made n m Q j h q ∙ made-same n m j Q R h q (λ i a _. others i (λ _ b. omega arith)) ∙ sym (row_made n m R j h q))
      (λ q. row-past n m Q j h q ∙ sym (row-past n m R j h q)))

  pub rows-put : rows_of n m Q ≡ put (rows_of n m R) k nd
  rows-put = fun_ext (λ j.
      same_or j k
      (λ e. ap (rows_of n m Q) e ∙ row_below n m Q k l ∙ here ∙ sym (ap (λ b. cond b nd (rows_of n m R j)) (eq-eqb j k e)))
      (λ d. row_other j d ∙ sym (put_other (rows_of n m R) k nd j d)))

-- ---- marks
pub mark-below : (n : ℕ) (S : List ℕ) (k : ℕ) → k < n → mark_of n S k ≡ mark_by (get_or S k 0) (get_or S (n + k) 0)
unfolding mark_of
mark-below n S k h = rw (mark_of, lt-ltb k n h)

pub mark-past : (n : ℕ) (S : List ℕ) (k : ℕ) → n ≤ k → mark_of n S k ≡ fresh
unfolding mark_of
mark-past n S k h = rw (mark_of, le-ltb k n h)

pub marks-same : (n : ℕ) (S T : List ℕ) → ((i : ℕ) → i < 2 * n → get_or T i 0 ≡ get_or S i 0) → mark_of n T ≡ mark_of n S
marks-same n S T h = fun_ext (λ k.
    split k n
    (λ l. mark-below n T k l ∙ ap₂ mark_by (h k (omega arith)) (h (n + k) (omega arith)) ∙ sym (mark-below n S k l))
    (λ l. mark-past n T k l ∙ sym (mark-past n S k l)))

pub marks-put : (n : ℕ) (S T : List ℕ) (k m r : ℕ) → k < n → ((i : ℕ) → i < 2 * n → (i ≡ k → ⊥) → (i ≡ n + k → ⊥) → get_or T i 0 ≡ get_or S i 0)
    → get_or T k 0 ≡ m → get_or T (n + k) 0 ≡ r → mark_of n T ≡ put (mark_of n S) k (mark_by m r)
marks-put n S T k m r l h a b = fun_ext (λ j.
    same_or j k
    (λ e. ap (mark_of n T) e ∙ mark-below n T k l ∙ ap₂ mark_by a b ∙ sym (ap (λ t. cond t (mark_by m r) (mark_of n S j)) (eq-eqb j k e)))
    (λ d. split j n
    (λ q. mark-below n T j q ∙ ap₂ mark_by (h j (omega arith) d (λ e. omega arith)) (h (n + j) (omega arith) (λ e. omega arith) (λ e. d (omega arith))) ∙ sym (mark-below n S j q))
    (λ q. mark-past n T j q ∙ sym (mark-past n S j q))
    ∙ sym (put_other (mark_of n S) k (mark_by m r) j d)))

-- ---- questions
pub asked-same : (n c : ℕ) (S T : List ℕ) → ((i : ℕ) → 2 * n ≤ i → i < 2 * n + 4 * c → get_or T i 0 ≡ get_or S i 0)
    → firsts c (question_of n T) ≡ firsts c (question_of n S)
asked-same n c S T h = firsts_same c (question_of n T) (question_of n S) (λ i l. cc (
  h (2 * n + 4 * i) (omega arith) (omega arith),
  h (2 * n + 4 * i + 1) (omega arith) (omega arith),
  h (2 * n + 4 * i + 2) (omega arith) (omega arith),
  h (2 * n + 4 * i + 3) (omega arith) (omega arith),
))

pub asked-more : (n c : ℕ) (S T : List ℕ) (q x y r : ℕ) → ((i : ℕ) → i < 2 * n + 4 * c → get_or T i 0 ≡ get_or S i 0)
    → get_or T (2 * n + 4 * c) 0 ≡ q → get_or T (2 * n + 4 * c + 1) 0 ≡ x → get_or T (2 * n + 4 * c + 2) 0 ≡ y → get_or T (2 * n + 4 * c + 3) 0 ≡ r
    → firsts (c + 1) (question_of n T) ≡ firsts c (question_of n S) ++ (question q x y [] r ∷ [])
asked-more n c S T q x y r h a b d e =
    let f : question_of n T c ≡ question q x y [] r = cc in
    firsts_more c (question_of n T) ∙ ap₂ (λ l z. l ++ (z ∷ [])) (asked-same n c S T (λ i _ l. h i l)) f

-- ---- four stores in a row
abbrev pub four : List ℕ → ℕ → ℕ → ℕ → ℕ → ℕ → List ℕ
four R e u v w x = set (set (set (set R e u) (e + 1) v) (e + 2) w) (e + 3) x

module _ (R : List ℕ) (e u v w x : ℕ) where
  pub four_below : (i : ℕ) → i < e → get_or (four R e u v w x) i 0 ≡ get_or R i 0
  four_below i h =
      get_or-set_other (set (set (set R e u) (e + 1) v) (e + 2) w) (e + 3) i x 0 (λ q. omega arith)
      ∙ get_or-set_other (set (set R e u) (e + 1) v) (e + 2) i w 0 (λ q. omega arith)
      ∙ get_or-set_other (set R e u) (e + 1) i v 0 (λ q. omega arith)
      ∙ get_or-set_other R e i u 0 (λ q. omega arith)

  module _ (room : e + 3 < length R) where
    pub four_0 : get_or (four R e u v w x) e 0 ≡ u
    four_0 = rw (
      get_or-set_other (set (set (set R e u) (e + 1) v) (e + 2) w) (e + 3) e x 0 (λ q. omega arith),
      get_or-set_other (set (set R e u) (e + 1) v) (e + 2) e w 0 (λ q. omega arith),
      get_or-set_other (set R e u) (e + 1) e v 0 (λ q. omega arith),
    )
        (get_or-set_same R e u 0 (omega arith))

    pub four_1 : get_or (four R e u v w x) (e + 1) 0 ≡ v
    four_1 = rw (
      get_or-set_other (set (set (set R e u) (e + 1) v) (e + 2) w) (e + 3) (e + 1) x 0 (λ q. omega arith),
      get_or-set_other (set (set R e u) (e + 1) v) (e + 2) (e + 1) w 0 (λ q. omega arith),
    )
        (get_or-set_same (set R e u) (e + 1) v 0 (simp length-set (omega arith)))

    pub four_2 : get_or (four R e u v w x) (e + 2) 0 ≡ w
    four_2 = rw (get_or-set_other (set (set (set R e u) (e + 1) v) (e + 2) w) (e + 3) (e + 2) x 0 (λ q. omega arith))
        (get_or-set_same (set (set R e u) (e + 1) v) (e + 2) w 0 (simp length-set (omega arith)))

    pub four_3 : get_or (four R e u v w x) (e + 3) 0 ≡ x
    four_3 = get_or-set_same (set (set (set R e u) (e + 1) v) (e + 2) w) (e + 3) x 0 (simp length-set (omega arith))
