-- From one state of a walk to a later one: the structural invariant is kept, marks further up stay, what stands goes on standing,
-- and what was spent is covered by what the marked nodes paid.
-- Assumes nothing.
use Prim.Native.Nat.{ℕ, suc, ◌+◌, ◌≤◌}
use mathlib.Core.Path.{◌≡◌, refl, ◌∙◌}
use mathlib.Core.Bool.{true}
use mathlib.Core.List.{List, [], ◌∷◌}
use native.Mathlib.Omega.{arith}
use lib.ListN.{length, length-append}
use lib.Dec.{leb}
use Rattle.rules.specs.Table.{Node, node_at}
use Rattle.rules.specs.Check.{may_serve}
use Rattle.rules.specs.Walk.{St}
use Rattle.rules.specs.Questions.{first_reply, most, question, ask}
use Rattle.rules.specs.Visit.{Ways}
use Rattle.rules.specs.Room.{unpaid}
use Rattle.rules.specs.Fine.{UpTo, Stands, fee, Fine}
use Rattle.btor.proofs.Agreement.{cases}
use Rattle.rules.proofs.Base.{If}
use Rattle.rules.proofs.Shape.{books_asked}

module _ (t : List Node) (ways : Ways) (ins reps : List ℕ) where
  abbrev pub At : St → ℕ → ℕ → Type 0
  At σ x s = Stands t σ.rows σ.made x s

  abbrev pub Later : St → St → Type 0
  Later σ σ' = (x s : ℕ) → At σ x s → At σ' x s

  -- from σ to σ': marks from k on are as they were, and what was spent is covered by what was paid, but for a questions and l looks
  pub record Went (k a l : ℕ) (σ σ' : St) : Type 0 where
    pub fine : Fine t ways ins reps σ'
    pub above : (i : ℕ) → k ≤ i → σ'.mark i ≡ σ.mark i
    pub later : Later σ σ'
    pub few : σ'.made + unpaid (λ k. 1) (length t) σ'.mark ≤ σ.made + unpaid (λ k. 1) (length t) σ.mark
    pub asks : length σ'.asked + unpaid (λ k. 3) (length t) σ'.mark ≤ length σ.asked + unpaid (λ k. 3) (length t) σ.mark + a
    pub looks : σ'.looked + unpaid (fee t) (length t) σ'.mark ≤ σ.looked + unpaid (fee t) (length t) σ.mark + l

  pub went_none : (k a : ℕ) (σ : St) → Fine t ways ins reps σ → Went k a 0 σ σ
  went_none k a σ f = record { fine = f; above = λ i h. refl; later = λ x s h. h; few = omega arith; asks = omega arith; looks = omega arith }

  pub went_both : (k j a b l m : ℕ) (σ σ₁ σ₂ : St) → j ≤ k → Went k a l σ σ₁ → Went j b m σ₁ σ₂ → Went k (a + b) (l + m) σ σ₂
  went_both k j a b l m σ σ₁ σ₂ h x y =
      record {
        fine = y.fine;
        above = λ i q. y.above i (omega arith) ∙ x.above i q;
        later = λ z s q. y.later z s (x.later z s q);
        few = omega (arith, x.few, y.few);
        asks = omega (arith, x.asks, y.asks);
        looks = omega (arith, x.looks, y.looks);
      }

  -- what a visit of k leaves: k marked, and a number that stands for it
  pub record Visited (k : ℕ) (σ : St) (p : St × ℕ) : Type 0 where
    pub went : Went (suc k) 0 0 σ p.0
    pub upto : UpTo t k p.1
    pub stands : may_serve (node_at t k) ≡ true → At p.0 p.1 (node_at t k).sort

  pub ask_went : (k : ℕ) (σ : St) (q x y : ℕ) (bs : List ℕ) → Fine t ways ins reps σ → If (λ p. Went k 1 0 σ p.0) (ask ways.reply_count σ q x y bs)
  unfolding ask
  ask_went k σ q x y bs f =
      cases (If (λ p. Went k 1 0 σ p.0)) (leb (first_reply σ.replies) (most q))
      (λ _.
      let w = question q x y bs (first_reply σ.replies) in
      record {
        fine = assumption (f, books_asked t ways.reading ins reps σ.passed σ.inputs σ.replies σ.asked σ.held f.books w refl);
        above = λ i h. refl;
        later = λ z s h. h;
        few = omega arith;
        asks = omega (arith, length-append σ.asked (w ∷ []));
        looks = omega arith;
      })
      (λ _. tt)
