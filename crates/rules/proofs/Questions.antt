-- The questions of minimise keep the structural invariant: at most a of them about node k, of sort s, and what they fold it to stands for it.
-- Assumes nothing.
use Prim.Native.Nat.{ℕ, ◌+◌}
use mathlib.Core.Path.{◌≡◌, sym, subst}
use mathlib.Core.Bool.{Bool, true, false}
use mathlib.Core.List.{List, []}
use native.Mathlib.Omega.{arith}
use lib.ListN.{length}
use lib.Dec.{eqb}
use borrow.Author.Tests.{eqb-true}
use Rattle.rules.specs.Refusal.{Out}
use Rattle.rules.specs.Table.{Node}
use Rattle.rules.specs.Walk.{St}
use Rattle.rules.specs.Fold.{Fold, swap, shared}
use Rattle.rules.specs.Questions.{ask, ask_or, quiet, ask_bit, ask_and, ask_ite}
use Rattle.rules.specs.Visit.{Ways}
use Rattle.rules.specs.Fine.{Below, Fine}
use Rattle.btor.proofs.Agreement.{cases}
use Rattle.rules.proofs.Base.{cases_cond, If, if-bind, if-map}
use Rattle.rules.proofs.Standing.{FoldStands, shared_fold}
use Rattle.rules.proofs.Went.{At, Later, Went, went_none, went_both, ask_went}

module _ (t : List Node) (ways : Ways) (ins reps : List ℕ) (k s : ℕ) where
  abbrev Folds : St → Fold → Type 0
  Folds σ₁ f = FoldStands t σ₁.rows σ₁.made k s f

  -- ---- questions: from σ₁ on, at most a of them, and what they fold to stands
  abbrev pub Asks : ℕ → St → (St → Out (St × Fold)) → Type 0
  Asks a σ₁ more = (σ₂ : St) → Fine t ways ins reps σ₂ → Later t ways ins reps σ₁ σ₂ → If (λ p. Went t ways ins reps k a 0 σ₂ p.0 × Folds p.0 p.1) (more σ₂)

  pub quiet-asks : (a : ℕ) (σ₁ : St) → Asks a σ₁ quiet
  quiet-asks a σ₁ σ₂ f₂ lt = (went_none t ways ins reps k a σ₂ f₂, tt)

  pub ask_or-asks : (a : ℕ) (σ₁ : St) (q x y : ℕ) (f : Fold) (more : St → Out (St × Fold)) → ((σ₂ : St) → Fine t ways ins reps σ₂ → Later t ways ins reps σ₁ σ₂ → Folds σ₂ f) → Asks a σ₁ more
      → Asks (1 + a) σ₁ (ask_or ways.reply_count q x y f more)
  unfolding ask_or
  ask_or-asks a σ₁ q x y f more ff h σ₂ f₂ lt =
      if-bind (λ p. Went t ways ins reps k 1 0 σ₂ p.0) (λ p. Went t ways ins reps k (1 + a) 0 σ₂ p.0 × Folds p.0 p.1) (ask ways.reply_count σ₂ q x y []) _ (ask_went t ways ins reps k σ₂ q x y [] f₂)
      (λ p w.
      let lt' : Later t ways ins reps σ₁ p.0 = λ z q i. w.later z q (lt z q i) in
      cases (If (λ (r : St × Fold). Went t ways ins reps k (1 + a) 0 σ₂ r.0 × Folds r.0 r.1)) (eqb p.1 1)
      (λ _. (record { fine = w.fine; above = w.above; later = w.later; few = w.few; asks = omega (arith, w.asks); looks = w.looks }, ff p.0 w.fine lt'))
      (λ _. if-map (λ (r : St × Fold). Went t ways ins reps k a 0 p.0 r.0 × Folds r.0 r.1) (λ (r : St × Fold). Went t ways ins reps k (1 + a) 0 σ₂ r.0 × Folds r.0 r.1) (more p.0)
      (λ r b. (went_both t ways ins reps k k 1 a 0 0 σ₂ p.0 r.0 (omega arith) w b.0, b.1)) (h p.0 w.fine lt')))

  pub shared-later : (σ₁ : St) (b : Bool) → s ≡ 1 → (σ₂ : St) → Fine t ways ins reps σ₂ → Later t ways ins reps σ₁ σ₂ → Folds σ₂ (shared (length t) b)
  shared-later σ₁ b e σ₂ f₂ lt = shared_fold t σ₂.rows σ₂.made f₂.shape.shares k s b e

  pub swap_later : (σ₁ : St) (x : ℕ) → Below t k x → At t ways ins reps σ₁ x s → (σ₂ : St) → Fine t ways ins reps σ₂ → Later t ways ins reps σ₁ σ₂ → Folds σ₂ (swap x)
  swap_later σ₁ x b h σ₂ f₂ lt = (b, lt x s h)

  pub bit-asks : (a : ℕ) (σ₁ : St) (more : St → Out (St × Fold)) → s ≡ 1 → Asks a σ₁ more → Asks (1 + (1 + a)) σ₁ (ask_bit ways.reply_count (length t) k more)
  bit-asks a σ₁ more e h =
      ask_or-asks (1 + a) σ₁ 1 k 0 (shared (length t) true) _ (shared-later σ₁ true e) (ask_or-asks a σ₁ 2 k 0 (shared (length t) false) more (shared-later σ₁ false e) h)

  pub and-asks : (σ₁ : St) → Asks 2 σ₁ (ask_and ways.reply_count (length t) s k)
  and-asks σ₁ = cases_cond (Asks 2 σ₁) (eqb s 1) (λ e. bit-asks 0 σ₁ quiet (eqb-true s 1 e) (quiet-asks 0 σ₁)) (λ _. quiet-asks 2 σ₁)

  pub ite-asks : (σ₁ : St) (x y z : ℕ) → Below t k x → Below t k y → Below t k z → At t ways ins reps σ₁ x 1 → At t ways ins reps σ₁ y s → At t ways ins reps σ₁ z s
      → Asks 3 σ₁ (ask_ite ways.reply_count (length t) s k x y z)
  ite-asks σ₁ x y z bx by bz sx sy sz =
      cases_cond (Asks 3 σ₁) (eqb s 1)
      (λ e. let e' = eqb-true s 1 e in
      bit-asks 1 σ₁ _ e' (ask_or-asks 0 σ₁ 3 k x (swap x) quiet (swap_later σ₁ x bx (subst (At t ways ins reps σ₁ x) (sym e') sx)) (quiet-asks 0 σ₁)))
      (λ _. cases_cond (Asks 3 σ₁) (eqb s 2)
      (λ _. ask_or-asks 2 σ₁ 3 k y (swap y) _ (swap_later σ₁ y by sy) (ask_or-asks 1 σ₁ 3 k z (swap z) quiet (swap_later σ₁ z bz sz) (quiet-asks 1 σ₁)))
      (λ _. quiet-asks 3 σ₁))
