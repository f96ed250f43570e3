-- What a node folds to has the node's value, for any values v in which n is 0 and n + 1 is 1.
-- Assumes nothing.
use Prim.Native.Nat.{ℕ, zero, suc, ◌+◌, ◌<◌, ◌^◌}
use mathlib.Core.Path.{◌≡◌, refl, sym, ap, ap₂, ◌∙◌, subst}
use mathlib.Core.Bool.{Bool, true, false, cond, ◌&&◌}
use mathlib.Core.Option.{Option, none, some}
use native.Mathlib.Omega.{arith}
use lib.Dec.{eqb}
use lib.Bits.{bit_and, bit_or, and_zero_l, and_zero_r, and_comm, or_zero_l, or_zero_r, or_comm}
use borrow.Author.Tests.{eqb-true, eqb-false, eq-eqb, ne_eqb}
use Rattle.btor.specs.Operators.{Reading, rust, standard, complement, bit}
use Rattle.btor.specs.Sorts.{width, ones}
use Rattle.rules.specs.Table.{Kind, Const, Write, Node, is}
use Rattle.rules.specs.Value.{Value, number, num, mem, written, meaning, worth}
use Rattle.rules.specs.Fold.{Fold, stays, swap, make, shared, const_of, is_const, fold_words, fold_test, fold_eq, fold_and, fold_or, fold_not, fold_ext, fold_const}
use Rattle.rules.specs.Memory.{Found, meet_unsettled, meet, look_at, find}
use Rattle.btor.proofs.Agreement.{cases}
use Rattle.rules.proofs.Base.{cases_cond, no, and_both, is-kind}
use Rattle.rules.proofs.Words.{and-ones, or-ones, width-bit}

-- what a constant operand says of its value
abbrev pub ConstOk : Option ℕ → Value → Type 0
ConstOk none p = Unit
ConstOk (some x) p = p ≡ number x

pub is_const_ok : (c : Option ℕ) (p : Value) (z : ℕ) → ConstOk c p → is_const c z ≡ true → p ≡ number z
is_const_ok none p z h e = no e
is_const_ok (some x) p z h e = h ∙ ap number (eqb-true x z e)

module _ (v : ℕ → Value) where
  abbrev pub FoldOk : Value → Fold → Type 0
  FoldOk w stays = Unit
  FoldOk w (swap r) = v r ≡ w
  FoldOk w (make s x) = w ≡ number x

  -- row r is worth what the number r is, and what a write stores is a number
  pub record RowOk (how : Reading) (r : ℕ) (nd : Node) : Type 0 where
    pub worth! : worth how v (v r) nd ≡ v r
    pub stored : is Write nd ≡ true → v nd.c ≡ number (num (v nd.c))

  -- what a row of a given kind is worth
  pub worth_as : (how : Reading) (K : Kind) (r : ℕ) (nd : Node) → RowOk how r nd → is K nd ≡ true → meaning how K v (v r) nd ≡ v r
  worth_as how K r nd h e = subst (λ J. meaning how J v (v r) nd ≡ v r) (is-kind K nd e) h.worth!

  pub const_ok : (how : Reading) (rows : ℕ → Node) (r : ℕ) → RowOk how r (rows r) → ConstOk (const_of rows r) (v r)
  const_ok how rows r h = cases (λ c. ConstOk c (v r)) (is Const (rows r)) (λ e. sym (worth_as how Const r (rows r) h e)) (λ _. tt)

  pub fold_words_ok : (s : ℕ) (f : ℕ → ℕ → ℕ) (cx cy : Option ℕ) (p q w : Value) → ConstOk cx p → ConstOk cy q → number (f (num p) (num q)) ≡ w → FoldOk w (fold_words s f cx cy)
  fold_words_ok s f none cy p q w hx hy e = tt
  fold_words_ok s f (some x) none p q w hx hy e = tt
  fold_words_ok s f (some x) (some y) p q w hx hy e = sym e ∙ ap₂ (λ a b. number (f (num a) (num b))) hx hy

  pub fold_ext_ok : (s : ℕ) (cx : Option ℕ) (p w : Value) → ConstOk cx p → number (num p) ≡ w → FoldOk w (fold_ext s cx)
  fold_ext_ok s none p w hx e = tt
  fold_ext_ok s (some x) p w hx e = sym e ∙ ap (λ a. number (num a)) hx

  module _ (n : ℕ) (n_false : v n ≡ number 0) (n_true : v (n + 1) ≡ number 1) where
    pub shared_ok : (b : Bool) (w : Value) → number (bit b) ≡ w → FoldOk w (shared n b)
    shared_ok true w e = n_true ∙ e
    shared_ok false w e = n_false ∙ e

    pub fold_test_ok : (f : ℕ → ℕ → Bool) (cx cy : Option ℕ) (p q w : Value) → ConstOk cx p → ConstOk cy q → number (bit (f (num p) (num q))) ≡ w → FoldOk w (fold_test n f cx cy)
    fold_test_ok f none cy p q w hx hy e = tt
    fold_test_ok f (some x) none p q w hx hy e = tt
    fold_test_ok f (some x) (some y) p q w hx hy e = shared_ok (f x y) w (sym (ap₂ (λ a b. number (bit (f (num a) (num b)))) hx hy) ∙ e)

    pub fold_eq_ok : (x y : ℕ) (cx cy : Option ℕ) (w : Value) → ConstOk cx (v x) → ConstOk cy (v y) → number (bit (eqb (num (v x)) (num (v y)))) ≡ w → FoldOk w (fold_eq n x y cx cy)
    fold_eq_ok x y cx cy w hx hy e =
        cases_cond (FoldOk w) (eqb x y)
        (λ s. shared_ok true w (ap (λ b. number (bit b)) (sym (eq-eqb (num (v x)) (num (v y)) (ap (λ r. num (v r)) (eqb-true x y s)))) ∙ e))
        (λ s. fold_test_ok eqb cx cy (v x) (v y) w hx hy e)

    pub fold_const_ok : (s x : ℕ) (w : Value) → number x ≡ w → FoldOk w (fold_const n s x)
    fold_const_ok s x w e =
        cases_cond (FoldOk w) (eqb s 1 && eqb x 0)
        (λ h. shared_ok false w (ap number (sym (eqb-true x 0 (and_both (eqb s 1) (eqb x 0) h).1)) ∙ e))
        (λ _. cases_cond (FoldOk w) (eqb s 1 && eqb x 1)
        (λ h. shared_ok true w (ap number (sym (eqb-true x 1 (and_both (eqb s 1) (eqb x 1) h).1)) ∙ e))
        (λ _. tt))

    pub fold_not_ok : (s : ℕ) (cx : Option ℕ) (p w : Value) → ConstOk cx p → number (complement (width s) (num p)) ≡ w → FoldOk w (fold_not n s cx)
    unfolding complement
    fold_not_ok s none p w hx e = tt
    fold_not_ok s (some x) p w hx e =
        let e' : number (complement (width s) x) ≡ w = ap (λ q. number (complement (width s) (num q))) (sym hx) ∙ e in
        cases_cond (FoldOk w) (eqb s 1 && eqb x 0)
        (λ h. let b = and_both (eqb s 1) (eqb x 0) h in shared_ok true w (ap number (sym (flipped 0 (eqb-true s 1 b.0) (eqb-true x 0 b.1) refl)) ∙ e'))
        (λ _. cases_cond (FoldOk w) (eqb s 1 && eqb x 1)
        (λ h. let b = and_both (eqb s 1) (eqb x 1) h in shared_ok false w (ap number (sym (flipped 1 (eqb-true s 1 b.0) (eqb-true x 1 b.1) refl)) ∙ e'))
        (λ _. sym e'))
      where
        flipped : (z : ℕ) → s ≡ 1 → x ≡ z → {r : ℕ} → complement 1 z ≡ r → complement (width s) x ≡ r
        flipped z es ex q = ap₂ complement (ap width es ∙ width-bit) ex ∙ q

  -- ---- And and Or with zeros and ones
  module _ (s x y : ℕ) (cx cy : Option ℕ) (w : Value) (hx : ConstOk cx (v x)) (hy : ConstOk cy (v y))
      (nx : (v x ≡ number (num (v x))) × (num (v x) < 2 ^ width s)) (ny : (v y ≡ number (num (v y))) × (num (v y) < 2 ^ width s)) where
    -- an operand that is the constant z: where g z is z it takes the node's place, and where g z is the other operand, that does
    itself : (c : Option ℕ) (p : Value) (z : ℕ) → ConstOk c p → is_const c z ≡ true → (g : ℕ → ℕ) → g z ≡ z → number (g (num p)) ≡ w → p ≡ w
    itself c p z h i g q e = let k = is_const_ok c p z h i in k ∙ ap number (sym q) ∙ ap (λ r. number (g (num r))) (sym k) ∙ e

    other : (c : Option ℕ) (p : Value) (z : ℕ) → ConstOk c p → is_const c z ≡ true → (g : ℕ → ℕ) (o : Value) → o ≡ number (num o) → g z ≡ num o → number (g (num p)) ≡ w → o ≡ w
    other c p z h i g o n q e = n ∙ ap number (sym q) ∙ ap (λ r. number (g (num r))) (sym (is_const_ok c p z h i)) ∙ e

    pub fold_and_ok : number (bit_and (num (v x)) (num (v y))) ≡ w → FoldOk w (fold_and s x y cx cy)
    fold_and_ok e =
        let l : ℕ → ℕ = λ p. bit_and p (num (v y)) in
        let r : ℕ → ℕ = bit_and (num (v x)) in
        cases_cond (FoldOk w) (is_const cx 0) (λ h. itself cx (v x) 0 hx h l (and_zero_l (num (v y))) e)
        (λ _. cases_cond (FoldOk w) (is_const cy 0) (λ h. itself cy (v y) 0 hy h r (and_zero_r (num (v x))) e)
        (λ _. cases_cond (FoldOk w) (is_const cx (ones s)) (λ h. other cx (v x) (ones s) hx h l (v y) ny.0 (and_comm (ones s) (num (v y)) ∙ and-ones s (num (v y)) ny.1) e)
        (λ _. cases_cond (FoldOk w) (is_const cy (ones s)) (λ h. other cy (v y) (ones s) hy h r (v x) nx.0 (and-ones s (num (v x)) nx.1) e)
        (λ _. fold_words_ok s bit_and cx cy (v x) (v y) w hx hy e))))

    pub fold_or_ok : number (bit_or (num (v x)) (num (v y))) ≡ w → FoldOk w (fold_or s x y cx cy)
    fold_or_ok e =
        let l : ℕ → ℕ = λ p. bit_or p (num (v y)) in
        let r : ℕ → ℕ = bit_or (num (v x)) in
        cases_cond (FoldOk w) (is_const cx 0) (λ h. other cx (v x) 0 hx h l (v y) ny.0 (or_zero_l (num (v y))) e)
        (λ _. cases_cond (FoldOk w) (is_const cy 0) (λ h. other cy (v y) 0 hy h r (v x) nx.0 (or_zero_r (num (v x))) e)
        (λ _. cases_cond (FoldOk w) (is_const cx (ones s)) (λ h. itself cx (v x) (ones s) hx h l (or_comm (ones s) (num (v y)) ∙ or-ones s (num (v y)) ny.1) e)
        (λ _. cases_cond (FoldOk w) (is_const cy (ones s)) (λ h. itself cy (v y) (ones s) hy h r (or-ones s (num (v x)) nx.1) e)
        (λ _. fold_words_ok s bit_or cx cy (v x) (v y) w hx hy e))))

  -- ---- the walk down the writes finds what the memory holds, if it passed no unsettled write
  abbrev pub FoundValue : Option ℕ → ℕ → Value → ℕ → Type 0
  FoundValue none u m x = Unit
  FoundValue (some y) u m x = u ≡ 0 → v y ≡ number (mem m x)

  abbrev pub FoundOk : Found → Value → ℕ → Type 0
  FoundOk r m x = FoundValue r.value r.unsettled m x

  past_unsettled : (o : Option ℕ) (u : ℕ) (m : Value) (x : ℕ) → FoundValue o (u + 1) m x
  past_unsettled none u m x = tt
  past_unsettled (some y) u m x = λ e. absurd (omega arith)

  past_settled : (o : Option ℕ) (u : ℕ) (m m' : Value) (x : ℕ) → mem m' x ≡ mem m x → FoundValue o u m' x → FoundValue o (u + 0) m x
  past_settled none u m m' x e h = tt
  past_settled (some y) u m m' x e h = λ z. h (omega arith) ∙ ap number e

  unsettled_ok : (how : Reading) (r : Found) (m : Value) (x : ℕ) → FoundOk (meet_unsettled how r) m x
  unsettled_ok rust r m x = past_unsettled r.value r.unsettled m x
  unsettled_ok standard r m x = tt

  meet_ok : (how : Reading) (x z : ℕ) (c : Option ℕ) (r : Found) (m m' y : Value) → ConstOk c y → v z ≡ number (num (v z)) → m ≡ written m' y (v z)
      → FoundOk r m' x → FoundOk (meet how x z c r) m x
  meet_ok how x z none r m m' y hc hz e h = unsettled_ok how r m x
  meet_ok how x z (some q) r m m' y hc hz e h =
      cases_cond (λ f. FoundOk f m x) (eqb q x)
      (λ t _. hz ∙ ap number (sym (ap (λ k. mem k x) e ∙ ap (λ b. cond b (num (v z)) (mem m' x)) (eq-eqb x (num y) (sym (eqb-true q x t) ∙ sym (ap num hc))))))
      (λ t. past_settled r.value r.unsettled m m' x (sym (ap (λ k. mem k x) e ∙ ap (λ b. cond b (num (v z)) (mem m' x)) (ne_eqb x (num y) (λ i. eqb-false q x t (sym (i ∙ ap num hc)))))) h)

  module _ (how : Reading) (rows : ℕ → Node) (ok : (r : ℕ) → RowOk how r (rows r)) (x : ℕ) where
    look_at_ok : (m : ℕ) (go : ℕ → Found) → ((j : ℕ) → FoundOk (go j) (v j) x) → FoundOk (look_at how rows go x (rows m)) (v m) x
    unfolding look_at
    look_at_ok m go g =
        cases (λ r. FoundOk r (v m) x) (is Write (rows m))
        (λ e. meet_ok how x (rows m).c (const_of rows (rows m).b) (go (rows m).a) (v m) (v (rows m).a) (v (rows m).b) (const_ok how rows (rows m).b (ok (rows m).b)) ((ok m).stored e)
        (sym (worth_as how Write m (rows m) (ok m) e)) (g (rows m).a))
        (λ _. tt)

    pub find_ok : (f m : ℕ) → FoundOk (find how f rows x m) (v m) x
    unfolding find
    find_ok zero m = tt
    find_ok (suc f) m = look_at_ok m (find how f rows x) (find_ok f)
