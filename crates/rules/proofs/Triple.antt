-- The account of values along a walk: what a state presumes, what it keeps, and how steps are joined.
-- v gives each number (a node, false, true or a constant that the whole fold makes) its value, and never changes. A state is Ok
-- when what the demand presumes holds of what it has recorded, so a later state's Ok gives every earlier one's. Inv is what steps keep.
-- Assumes nothing.
use Prim.Native.Nat.{ℕ, ◌+◌, ◌<◌, ◌≤◌}
use mathlib.Core.Path.{◌≡◌, refl, sym, ap, ◌∙◌}
use mathlib.Core.Bool.{Bool, true, false}
use mathlib.Core.List.{List, [], map}
use native.Mathlib.Omega.{arith}
use lib.ListN.{length}
use lib.Dec.{leb, eqb}
use borrow.Author.Tests.{eqb-true}
use Rattle.rules.specs.Lists.{All}
use Rattle.rules.specs.Refusal.{Out, ◌>>=◌}
use Rattle.rules.specs.Table.{Node, constant, node_at, operands}
use Rattle.rules.specs.Value.{Value, number}
use Rattle.rules.specs.Walk.{St, Mark, fresh, kept, replaced, set_row, set_mark, add_const}
use Rattle.rules.specs.Fold.{Fold, stays, swap, make, shared}
use Rattle.rules.specs.Questions.{first_reply, most, question, ask, ask_or, quiet, ask_bit, ask_and, ask_ite}
use Rattle.rules.specs.Visit.{Ways, settle, finish_stay, finish}
use Rattle.rules.specs.Demand.{Claim, Holds, Same}
use Rattle.btor.proofs.Agreement.{cases}
use Rattle.rules.proofs.Base.{cases_cond, no, put_same, put_other, put_all, all_left, all_right, If, if-bind, if-map}
use Rattle.rules.proofs.Folds.{FoldOk, RowOk}

pub record Ok (t : List Node) (ways : Ways) (v : ℕ → Value) (σ : St) : Type 0 where
  pub clean : σ.passed ≡ 0
  pub told : All (Holds v) σ.asked
  pub same : All (Same v) σ.held
  pub news : (i : ℕ) → i < σ.made → v (length t + 2 + i) ≡ number (σ.rows (length t + 2 + i)).a

abbrev pub MarkOk : (ℕ → Value) → ℕ → Mark → Type 0
MarkOk v k fresh = Unit
MarkOk v k kept = Unit
MarkOk v k (replaced r) = v r ≡ v k

-- a row of the table, as given or rewritten: of the given kind, and its operands worth what the given ones are
pub record GivenOk (t : List Node) (v : ℕ → Value) (k : ℕ) (nd : Node) : Type 0 where
  pub kind : nd.kind ≡ (node_at t k).kind
  pub worths : map v (operands nd) ≡ map v (operands (node_at t k))

pub record Inv (t : List Node) (ways : Ways) (v : ℕ → Value) (σ : St) : Type 0 where
  pub given_ok : (k : ℕ) → k < length t → GivenOk t v k (σ.rows k)
  pub rows_ok : (r : ℕ) → RowOk v ways.reading r (σ.rows r)
  pub marks_ok : (k : ℕ) → MarkOk v k (σ.mark k)

-- from σ, where P, the outcome is a refusal, or a state that keeps Inv and a result of which Q
abbrev pub Goes : {B : Type 0} → List Node → Ways → (ℕ → Value) → Type 0 → St → (B → Type 0) → Out (St × B) → Type 0
Goes t ways v P σ Q out = If (λ p. Ok t ways v p.0 → Ok t ways v σ × (P → Inv t ways v σ → Inv t ways v p.0 × Q p.1)) out

module _ (t : List Node) (ways : Ways) (v : ℕ → Value) where
  pub weaken : {B : Type 0} (P P' : Type 0) (σ : St) (Q : B → Type 0) (m : Out (St × B)) → (P' → P) → Goes t ways v P σ Q m → Goes t ways v P' σ Q m
  weaken P P' σ Q m f g = if-map _ _ m (λ x g o. let h = g o in (h.0, λ p i. h.1 (f p) i)) g

  pub bind : {A B : Type 0} (P : Type 0) (σ : St) (Q : A → Type 0) (R : B → Type 0) (m : Out (St × A)) (f : St × A → Out (St × B))
      → Goes t ways v P σ Q m → ((σ₁ : St) (x : A) → Goes t ways v (P × Q x) σ₁ R (f (σ₁, x))) → Goes t ways v P σ R (m >>= f)
  bind P σ Q R m f g k =
      if-bind _ _ m f g
      (λ x g. if-map _ _ (f x) (λ y h o.
      let b = h o in
      let a = g b.0 in
      (a.0, λ p i. let c = a.1 p i in b.1 (p, c.1) c.0)) (k x.0 x.1))

  -- ---- one change of the state at a time
  pub row_step : (σ : St) (k : ℕ) (nd : Node) → k < length t → Ok t ways v (set_row σ k nd) → Ok t ways v σ
  row_step σ k nd h o =
      record {
        clean = o.clean;
        told = o.told;
        same = o.same;
        news = λ i l. o.news i l ∙ ap (λ (w : Node). number w.a) (put_other σ.rows k nd (length t + 2 + i) (λ e. omega arith));
      }

  pub row_inv : (σ : St) (k : ℕ) (nd : Node) → GivenOk t v k nd × RowOk v ways.reading k nd → Inv t ways v σ → Inv t ways v (set_row σ k nd)
  row_inv σ k nd h i =
      record {
        given_ok = put_all (λ j (w : Node). j < length t → GivenOk t v j w) σ.rows k nd (λ _. h.0) i.given_ok;
        rows_ok = put_all (RowOk v ways.reading) σ.rows k nd h.1 i.rows_ok;
        marks_ok = i.marks_ok;
      }

  pub mark_step : (σ : St) (k : ℕ) (m : Mark) → Ok t ways v (set_mark σ k m) → Ok t ways v σ
  mark_step σ k m o = assumption o

  pub mark_inv : (σ : St) (k : ℕ) (m : Mark) → MarkOk v k m → Inv t ways v σ → Inv t ways v (set_mark σ k m)
  mark_inv σ k m h i = record { given_ok = i.given_ok; rows_ok = i.rows_ok; marks_ok = put_all (MarkOk v) σ.mark k m h i.marks_ok }

  pub const_step : (σ : St) (s x : ℕ) → Ok t ways v (add_const σ (length t + 2 + σ.made) s x) → Ok t ways v σ × (v (length t + 2 + σ.made) ≡ number x)
  const_step σ s x o = (
    record {
      clean = o.clean;
      told = o.told;
      same = o.same;
      news = λ i l.
          o.news i (omega arith)
          ∙ ap (λ (w : Node). number w.a) (put_other σ.rows (length t + 2 + σ.made) (constant s x) (length t + 2 + i) (λ e. omega arith));
    },
    o.news σ.made (omega arith)
        ∙ ap (λ (w : Node). number w.a) (put_same σ.rows (length t + 2 + σ.made) (constant s x)),
  )

  pub const_inv : (σ : St) (r s x : ℕ) → length t ≤ r → v r ≡ number x → Inv t ways v σ → Inv t ways v (add_const σ r s x)
  const_inv σ r s x z h i =
      record {
        given_ok = put_all (λ j (w : Node). j < length t → GivenOk t v j w) σ.rows r (constant s x) (λ l. absurd (omega arith)) i.given_ok;
        rows_ok = put_all (RowOk v ways.reading) σ.rows r (constant s x) (record { worth! = sym h; stored = λ e. no e }) i.rows_ok;
        marks_ok = i.marks_ok;
      }

  -- ---- a node settled with what it folds to
  pub settle_ok : (P : Type 0) (k : ℕ) (σ : St) (f : Fold) → (P → Inv t ways v σ → FoldOk v (v k) f)
      → Goes t ways v P σ (λ r. v r ≡ v k) (settle t ways k σ f)
  unfolding settle
  settle_ok P k σ stays h = λ o. (mark_step σ k kept o, λ p i. (mark_inv σ k kept tt i, refl))
  settle_ok P k σ (swap r) h = λ o. (mark_step σ k (replaced r) o, λ p i. (mark_inv σ k (replaced r) (h p i) i, h p i))
  settle_ok P k σ (make s x) h = λ o.
      let r : ℕ = length t + 2 + σ.made in
      let σ₁ : St = add_const σ r s x in
      let c = const_step σ s x (mark_step σ₁ k (replaced r) o) in (
        c.0,
        λ p i.
            let e : v r ≡ v k = c.1 ∙ sym (h p i) in
            (mark_inv σ₁ k (replaced r) e (const_inv σ r s x (omega arith) c.1 i), e),
      )

  -- ---- questions
  pub ask_ok : (count : ℕ) (P : Type 0) (σ : St) (q x y : ℕ) (bs : List ℕ)
      → Goes t ways v P σ (λ r. r ≡ 1 → Claim v (question q x y bs r)) (ask count σ q x y bs)
  unfolding ask
  ask_ok count P σ q x y bs =
      cases (Goes t ways v P σ (λ r. r ≡ 1 → Claim v (question q x y bs r))) (leb (first_reply σ.replies) (most q))
      (λ _ o. (
        record { clean = o.clean; told = all_left (Holds v) σ.asked _ o.told; same = o.same; news = o.news },
        λ p i. (assumption i, (all_right (Holds v) σ.asked _ o.told).0),
      ))
      (λ _. tt)

  ask_or_ok : (count : ℕ) (P : Type 0) (w : Value) (q x y : ℕ) (f : Fold) (more : St → Out (St × Fold))
      → ((r : ℕ) → Claim v (question q x y [] r) → FoldOk v w f)
      → ((σ : St) → Goes t ways v P σ (FoldOk v w) (more σ))
      → (σ : St) → Goes t ways v P σ (FoldOk v w) (ask_or count q x y f more σ)
  unfolding ask_or
  ask_or_ok count P w q x y f more h g σ =
      bind P σ (λ r. r ≡ 1 → Claim v (question q x y [] r)) (FoldOk v w) (ask count σ q x y []) _ (ask_ok count P σ q x y [])
      (λ σ₁ r. cases (Goes t ways v (P × (r ≡ 1 → Claim v (question q x y [] r))) σ₁ (FoldOk v w)) (eqb r 1)
      (λ e o. (o, λ p i. (i, h r (p.1 (eqb-true r 1 e)))))
      (λ e. weaken P _ σ₁ (FoldOk v w) (more σ₁) (λ p. p.0) (g σ₁)))

  pub quiet_ok : (P : Type 0) (w : Value) (σ : St) → Goes t ways v P σ (FoldOk v w) (quiet σ)
  quiet_ok P w σ = λ o. (o, λ p i. (i, tt))

  module _ (n_false : v (length t) ≡ number 0) (n_true : v (length t + 1) ≡ number 1) (count : ℕ) (P : Type 0) (k : ℕ) where
    pub ask_bit_ok : (more : St → Out (St × Fold)) → ((σ : St) → Goes t ways v P σ (FoldOk v (v k)) (more σ))
        → (σ : St) → Goes t ways v P σ (FoldOk v (v k)) (ask_bit count (length t) k more σ)
    ask_bit_ok more g =
        ask_or_ok count P (v k) 1 k 0 (shared (length t) true) (ask_or count 2 k 0 (shared (length t) false) more) (λ r e. n_true ∙ sym e)
        (ask_or_ok count P (v k) 2 k 0 (shared (length t) false) more (λ r e. n_false ∙ sym e) g)

    pub ask_and_ok : (s : ℕ) (σ : St) → Goes t ways v P σ (FoldOk v (v k)) (ask_and count (length t) s k σ)
    ask_and_ok s σ =
        cases_cond (λ (a : St → Out (St × Fold)). Goes t ways v P σ (FoldOk v (v k)) (a σ)) (eqb s 1)
        (λ _. ask_bit_ok quiet (quiet_ok P (v k)) σ)
        (λ _. quiet_ok P (v k) σ)

    pub ask_ite_ok : (s x y z : ℕ) (σ : St) → Goes t ways v P σ (FoldOk v (v k)) (ask_ite count (length t) s k x y z σ)
    ask_ite_ok s x y z σ =
        cases_cond (λ (a : St → Out (St × Fold)). Goes t ways v P σ (FoldOk v (v k)) (a σ)) (eqb s 1)
        (λ _. ask_bit_ok (ask_or count 3 k x (swap x) quiet) (ask_or_ok count P (v k) 3 k x (swap x) quiet (λ r e. sym e) (quiet_ok P (v k))) σ)
        (λ _. cases_cond (λ (a : St → Out (St × Fold)). Goes t ways v P σ (FoldOk v (v k)) (a σ)) (eqb s 2)
        (λ _. ask_or_ok count P (v k) 3 k y (swap y) (ask_or count 3 k z (swap z) quiet) (λ r e. sym e)
        (ask_or_ok count P (v k) 3 k z (swap z) quiet (λ r e. sym e) (quiet_ok P (v k))) σ)
        (λ _. quiet_ok P (v k) σ))

  -- ---- a node settled after its questions
  pub finish_stay_ok : (b : Bool) (P : Type 0) (k : ℕ) (σ : St) (more : St → Out (St × Fold)) → ((σ₁ : St) → Goes t ways v P σ₁ (FoldOk v (v k)) (more σ₁))
      → Goes t ways v P σ (λ r. v r ≡ v k) (finish_stay t ways b k σ more)
  unfolding finish_stay
  finish_stay_ok true P k σ more g =
      bind P σ (FoldOk v (v k)) (λ r. v r ≡ v k) (more σ) _ (g σ) (λ σ₁ f. settle_ok (P × FoldOk v (v k) f) k σ₁ f (λ p i. p.1))
  finish_stay_ok false P k σ more g = settle_ok P k σ stays (λ p i. tt)

  pub finish_ok : (P : Type 0) (k : ℕ) (σ : St) (f : Fold) (more : St → Out (St × Fold)) → (P → Inv t ways v σ → FoldOk v (v k) f)
      → ((σ₁ : St) → Goes t ways v P σ₁ (FoldOk v (v k)) (more σ₁))
      → Goes t ways v P σ (λ r. v r ≡ v k) (finish t ways k σ f more)
  unfolding finish
  finish_ok P k σ stays more h g = finish_stay_ok ways.minimise P k σ more g
  finish_ok P k σ (swap r) more h g = settle_ok P k σ (swap r) h
  finish_ok P k σ (make s x) more h g = settle_ok P k σ (make s x) h
