-- What stands for a node goes on standing as the walk goes on, and what each rule folds a node to stands for it.
-- Assumes nothing.
use Prim.Native.Nat.{ℕ, suc, ◌+◌, ◌<◌, ◌≤◌, ◌^◌}
use mathlib.Core.Path.{◌≡◌, refl, sym, ap, ◌∙◌, subst}
use mathlib.Core.Logic.{◌≢◌}
use mathlib.Core.Bool.{Bool, true, false, ◌&&◌}
use mathlib.Core.Option.{Option, none, some}
use mathlib.Core.List.{List, [], ◌∷◌}
use native.Mathlib.Omega.{arith}
use lib.ListN.{length}
use lib.Dec.{eqb}
use lib.Bits.{bit_and, bit_or, and_lt, or_lt}
use borrow.Author.Tests.{eqb-true, ltb-true}
use Rattle.btor.specs.Operators.{Op, Reading, compute, complement}
use Rattle.btor.specs.Sorts.{width, ones}
use Rattle.rules.specs.Lists.{put}
use Rattle.rules.specs.Table.{Const, Node, constant, node_at, is}
use Rattle.rules.specs.Check.{known_sort, may_serve}
use Rattle.rules.specs.Legal.{AllLegal}
use Rattle.rules.specs.Fold.{Fold, stays, swap, make, shared, const_of, is_const, fold_words, fold_test, fold_eq, fold_and, fold_or, fold_not, fold_ext, fold_const}
use Rattle.rules.specs.Laws.{MadeRow}
use Rattle.rules.specs.Fine.{Below, Stands, Refs, Shares}
use Rattle.btor.proofs.Agreement.{cases}
use Rattle.btor.proofs.Laws.{compute-fits}
use Rattle.rules.proofs.Base.{cases_cond, and_both, inside-or-past, put_other, is-kind, kind-is}
use Rattle.rules.proofs.Words.{complement-fits, fits_word, width_word}
use Rattle.rules.proofs.Legal.{legal_as}

module _ (t : List Node) where
  module _ (rows : ℕ → Node) (made : ℕ) where
    -- what a node k of sort s folds to
    abbrev pub FoldStands : ℕ → ℕ → Fold → Type 0
    FoldStands k s stays = Unit
    FoldStands k s (swap r) = Below t k r × Stands t rows made r s
    FoldStands k s (make s' y) = (s' ≡ s) × MadeRow (constant s' y)

    abbrev pub ConstFits : Option ℕ → ℕ → Type 0
    ConstFits none s = Unit
    ConstFits (some x) s = x < 2 ^ width s

  -- ---- a node stands for itself
  pub stands-itself : (rows : ℕ → Node) (made x : ℕ) → x < length t → may_serve (node_at t x) ≡ true → Stands t rows made x (node_at t x).sort
  stands-itself rows made x l h = record { serve = λ _. h; sort = λ _. refl; new = λ i. absurd (omega arith) }

  -- ---- what stands goes on standing when a row of the table is set, and when a constant is made
  pub stands-row : (rows : ℕ → Node) (made k : ℕ) (nd : Node) → k < length t → (x s : ℕ) → Stands t rows made x s → Stands t (put rows k nd) made x s
  stands-row rows made k nd l x s h =
      record {
        serve = h.serve;
        sort = h.sort;
        new = λ i.
            let q = h.new i in
            let e : put rows k nd x ≡ rows x = put_other rows k nd x (λ z. omega arith) in
            record { inside = q.inside; sort = ap (λ (w : Node). w.sort) e ∙ q.sort };
      }

  pub stands_const : (rows : ℕ → Node) (made : ℕ) (nd : Node) (x s : ℕ) → Stands t rows made x s → Stands t (put rows (length t + 2 + made) nd) (suc made) x s
  stands_const rows made nd x s h =
      record {
        serve = h.serve;
        sort = h.sort;
        new = λ i.
            let q = h.new i in
            let e : put rows (length t + 2 + made) nd x ≡ rows x = put_other rows (length t + 2 + made) nd x (λ z. omega (arith, q.inside)) in
            record { inside = omega (arith, q.inside); sort = ap (λ (w : Node). w.sort) e ∙ q.sort };
      }

  pub refs_map : (rows rows' : ℕ → Node) (made made' k : ℕ) → ((x s : ℕ) → Stands t rows made x s → Stands t rows' made' x s)
      → (xs os : List ℕ) → Refs t rows made k xs os → Refs t rows' made' k xs os
  refs_map rows rows' made made' k f [] [] h = tt
  refs_map rows rows' made made' k f [] (o ∷ os) h = h
  refs_map rows rows' made made' k f (x ∷ xs) [] h = h
  refs_map rows rows' made made' k f (x ∷ xs) (o ∷ os) h = ((h.0.0, f x (node_at t o).sort h.0.1), refs_map rows rows' made made' k f xs os h.1)

  -- ---- the number of a constant that stands for a node fits
  pub const_fits : AllLegal t → (rows : ℕ → Node) (made x s : ℕ) → (x < length t → (rows x).kind ≡ (node_at t x).kind) → (x < length t → is Const (node_at t x) ≡ true → (rows x).a ≡ (node_at t x).a)
      → (length t ≤ x → MadeRow (rows x)) → Stands t rows made x s → ConstFits rows made (const_of rows x) s
  const_fits legal rows made x s kinds numbers news h =
      cases (λ c. ConstFits rows made c s) (is Const (rows x))
      (λ e. inside-or-past ((rows x).a < 2 ^ width s) x (length t)
      (λ l.
      let q : (node_at t x).kind ≡ Const = sym (kinds l) ∙ is-kind Const (rows x) e in
      let g = legal_as t x Const (node_at t x) q (legal x l) in
      let z : (node_at t x).a < 2 ^ width (node_at t x).sort = ltb-true _ _ g.sorts.1.0 in
      subst (λ i. i < 2 ^ width s) (sym (numbers l (kind-is Const (node_at t x) q))) (subst (λ i. (node_at t x).a < 2 ^ width i) (h.sort l) z))
      (λ l. subst (λ i. (rows x).a < 2 ^ width i) (h.new l).sort (news l).fits))
      (λ _. tt)

  module _ (rows : ℕ → Node) (made : ℕ) (sh : Shares t rows made) where
    -- the shared constants stand for nodes of sort 1
    shared_stands : (s r x : ℕ) → length t ≤ r → r < length t + 2 → rows r ≡ constant 1 x → s ≡ 1 → Stands t rows made r s
    shared_stands s r x l u e q =
        record {
          serve = λ i. absurd (omega arith);
          sort = λ i. absurd (omega arith);
          new = λ _. record { inside = omega arith; sort = ap (λ (w : Node). w.sort) e ∙ sym q };
        }

    pub shared_fold : (k s : ℕ) (b : Bool) → s ≡ 1 → FoldStands rows made k s (shared (length t) b)
    shared_fold k s true q = ((λ i. absurd (omega arith)), shared_stands s (length t + 1) 1 (omega arith) (omega arith) sh.true! q)
    shared_fold k s false q = ((λ i. absurd (omega arith)), shared_stands s (length t) 0 (omega arith) (omega arith) sh.false! q)

    -- a new constant of the node's own sort
    pub own_fold : (k s y : ℕ) → known_sort s ≡ true → s ≢ 3 → y < 2 ^ width s → FoldStands rows made k s (make s y)
    own_fold k s y i n h = (refl, record { const = refl; known = i; sort = n; fits = h })

    -- for a node of sort 2, of any word
    word_fold : (k s y : ℕ) → s ≡ 2 → y < 2 ^ 64 → FoldStands rows made k s (make s y)
    word_fold k s y e h = own_fold k s y (ap known_sort e) (λ z. omega arith) (subst (λ w. y < 2 ^ w) (sym (ap width e ∙ width_word)) h)

    pub words_fold : (k s : ℕ) (how : Reading) (op : Op) (cx cy : Option ℕ) → s ≡ 2 → ConstFits rows made cx 2 → FoldStands rows made k s (fold_words s (compute how op) cx cy)
    words_fold k s how op none cy e h = tt
    words_fold k s how op (some x) none e h = tt
    words_fold k s how op (some x) (some y) e h = word_fold k s (compute how op x y) e (compute-fits how op x y (fits_word 2 x h))

    pub test_fold : (k s : ℕ) (f : ℕ → ℕ → Bool) (cx cy : Option ℕ) → s ≡ 1 → FoldStands rows made k s (fold_test (length t) f cx cy)
    test_fold k s f none cy e = tt
    test_fold k s f (some x) none e = tt
    test_fold k s f (some x) (some y) e = shared_fold k s (f x y) e

    pub eq_fold : (k s x y : ℕ) (cx cy : Option ℕ) → s ≡ 1 → FoldStands rows made k s (fold_eq (length t) x y cx cy)
    eq_fold k s x y cx cy e = cases_cond (FoldStands rows made k s) (eqb x y) (λ _. shared_fold k s true e) (λ _. test_fold k s eqb cx cy e)

    pub not_fold : (k s : ℕ) (cx : Option ℕ) → known_sort s ≡ true → s ≢ 3 → FoldStands rows made k s (fold_not (length t) s cx)
    not_fold k s none i n = tt
    not_fold k s (some x) i n =
        cases_cond (FoldStands rows made k s) (eqb s 1 && eqb x 0) (λ e. shared_fold k s true (eqb-true s 1 (and_both _ _ e).0))
        (λ _. cases_cond (FoldStands rows made k s) (eqb s 1 && eqb x 1) (λ e. shared_fold k s false (eqb-true s 1 (and_both _ _ e).0))
        (λ _. own_fold k s (complement (width s) x) i n (complement-fits (width s) x)))

    pub ext_fold : (k s s₀ : ℕ) (cx : Option ℕ) → s ≡ 2 → ConstFits rows made cx s₀ → FoldStands rows made k s (fold_ext s cx)
    ext_fold k s s₀ none e h = tt
    ext_fold k s s₀ (some x) e h = word_fold k s x e (fits_word s₀ x h)

    pub const_fold : (k s x : ℕ) → FoldStands rows made k s (fold_const (length t) s x)
    const_fold k s x =
        cases_cond (FoldStands rows made k s) (eqb s 1 && eqb x 0) (λ e. shared_fold k s false (eqb-true s 1 (and_both _ _ e).0))
        (λ _. cases_cond (FoldStands rows made k s) (eqb s 1 && eqb x 1) (λ e. shared_fold k s true (eqb-true s 1 (and_both _ _ e).0)) (λ _. tt))

    -- ---- And and Or
    module _ (k s x y : ℕ) (cx cy : Option ℕ) (known : known_sort s ≡ true) (ne : s ≢ 3) (bx : Below t k x) (by : Below t k y)
        (sx : Stands t rows made x s) (sy : Stands t rows made y s) (fx : ConstFits rows made cx s) (fy : ConstFits rows made cy s) where
      last_fold : (f : ℕ → ℕ → ℕ) → ((a b : ℕ) → a < 2 ^ width s → b < 2 ^ width s → f a b < 2 ^ width s) → (c d : Option ℕ) → ConstFits rows made c s → ConstFits rows made d s
          → FoldStands rows made k s (fold_words s f c d)
      last_fold f h none d fc fd = tt
      last_fold f h (some p) none fc fd = tt
      last_fold f h (some p) (some q) fc fd = own_fold k s (f p q) known ne (h p q fc fd)

      pub and_fold : FoldStands rows made k s (fold_and s x y cx cy)
      and_fold =
          cases_cond (FoldStands rows made k s) (is_const cx 0) (λ _. (bx, sx)) (λ _. cases_cond (FoldStands rows made k s) (is_const cy 0) (λ _. (by, sy))
          (λ _. cases_cond (FoldStands rows made k s) (is_const cx (ones s)) (λ _. (by, sy)) (λ _. cases_cond (FoldStands rows made k s) (is_const cy (ones s)) (λ _. (bx, sx))
          (λ _. last_fold bit_and (λ a b i j. and_lt (width s) a b i j) cx cy fx fy))))

      pub or_fold : FoldStands rows made k s (fold_or s x y cx cy)
      or_fold =
          cases_cond (FoldStands rows made k s) (is_const cx 0) (λ _. (by, sy)) (λ _. cases_cond (FoldStands rows made k s) (is_const cy 0) (λ _. (bx, sx))
          (λ _. cases_cond (FoldStands rows made k s) (is_const cx (ones s)) (λ _. (bx, sx)) (λ _. cases_cond (FoldStands rows made k s) (is_const cy (ones s)) (λ _. (by, sy))
          (λ _. last_fold bit_or (λ a b i j. or_lt (width s) a b i j) cx cy fx fy))))
