-- Chains of questions: what the code asks one after the other is the rules' chain, whose first yes ends the asking.
-- Assumes nothing.
use Prim.Native.Nat.{ℕ, ◌+◌}
use mathlib.Core.Path.{◌≡◌, refl, ap, sym, subst, ◌∙◌, fun_ext}
use mathlib.Core.Bool.{Bool, true, false}
use mathlib.Core.List.{List, []}
use native.Mathlib.Omega.{arith}
use lib.ListN.{length}
use Rattle.std.specs.Prelude.{Result, Ok, Err, IsErrAnd}
use lib.Dec.{eqb}
use borrow.Author.Tests.{eq-eqb, ne_eqb}
use Rattle.rules.specs.Refusal.{Refusal, Out, refused, done, ◌>>=◌}
use Rattle.rules.specs.Walk.{St, Held}
use Rattle.rules.specs.Fold.{Fold, stays, swap, make}
use Rattle.rules.specs.Questions.{ask, ask_or, ask_bit, quiet}
use Rattle.rules.proofs.Base.{no}
use Rattle.rules.specs.Visit.{Ways, settle}
use Rattle.tables.specs.declared.refusal.Refusal as tables
use Rattle.tables.specs.Refusals.{refusal_of}
use Rattle.optimize.specs.declared.fold.Folded.{Folded}
use Rattle.optimize.specs.declared.reply.Reply.{Reply}
use Rattle.optimize.specs.declared.call.Call.{Call}
use Rattle.optimize.specs.declared.folder.ConstantFolder.{ConstantFolder}
use Rattle.optimize.specs.Bounds.{count_of}
use Rattle.optimize.specs.View.{table_of, outcome_of, fold_is}
use Rattle.optimize.specs.Folder.{given_in, count_in, seen}
use Rattle.optimize.specs.Call.{ways_of}
use Rattle.optimize.specs.Process.{reply_is, solved_of, is_stays, then_ask, then_ask_at, settle_then}

module _ (n q x y : ℕ) (F : Fold) (σ : St) where
  pub or_yes : (σ' : St) (r : ℕ) → ask n σ q x y [] ≡ done (σ', r) → r ≡ 1 → ask_or n q x y F quiet σ ≡ done (σ', F)
  unfolding ask_or
  or_yes σ' r e d = ap (λ (o : Out (St × ℕ)). o >>= λ p. elim (eqb p.1 1) [ true ↦ done (p.0, F) | false ↦ done (p.0, stays) ]) e ∙ ap (λ b. elim b [ true ↦ done (σ', F) | false ↦ done (σ', stays) ]) (eq-eqb r 1 d)

  pub or_no : (σ' : St) (r : ℕ) → ask n σ q x y [] ≡ done (σ', r) → (r ≡ 1 → ⊥) → ask_or n q x y F quiet σ ≡ done (σ', stays)
  unfolding ask_or
  or_no σ' r e d = ap (λ (o : Out (St × ℕ)). o >>= λ p. elim (eqb p.1 1) [ true ↦ done (p.0, F) | false ↦ done (p.0, stays) ]) e ∙ ap (λ b. elim b [ true ↦ done (σ', F) | false ↦ done (σ', stays) ]) (ne_eqb r 1 d)

  pub or-stop : (z : Refusal) → ask n σ q x y [] ≡ refused z → ask_or n q x y F quiet σ ≡ refused z
  unfolding ask_or
  or-stop z e = ap (λ (o : Out (St × ℕ)). o >>= λ p. elim (eqb p.1 1) [ true ↦ done (p.0, F) | false ↦ done (p.0, stays) ]) e

-- a chain of questions, one after the other
module _ (count : ℕ) (q x y : ℕ) (F : Fold) where
  pub chain_quiet : (σ : St) → then_ask count q x y F (quiet σ) ≡ ask_or count q x y F quiet σ
  unfolding then_ask_at
  chain_quiet σ = refl

  then-reply : (k : ℕ) (σ : St) (b : Bool) (r : ℕ) (more : St → Out (St × Fold))
      → then_ask count q x y F (elim b [ true ↦ done (σ, swap k) | false ↦ more σ ]) ≡ elim b [ true ↦ done (σ, swap k) | false ↦ then_ask count q x y F (more σ) ]
  unfolding then_ask_at
  then-reply k σ true r more = refl
  then-reply k σ false r more = refl

  after-ask : (k : ℕ) (more : St → Out (St × Fold)) (o : Out (St × ℕ))
      → then_ask count q x y F (o >>= λ p. elim (eqb p.1 1) [ true ↦ done (p.0, swap k) | false ↦ more p.0 ])
      ≡ (o >>= λ p. elim (eqb p.1 1) [ true ↦ done (p.0, swap k) | false ↦ then_ask count q x y F (more p.0) ])
  after-ask k more (refused z) = refl
  after-ask k more (done p) = then-reply k p.0 (eqb p.1 1) p.1 more

  pub chain_or : (q' x' y' k : ℕ) (more : St → Out (St × Fold)) (σ : St)
      → then_ask count q x y F (ask_or count q' x' y' (swap k) more σ) ≡ ask_or count q' x' y' (swap k) (λ τ. then_ask count q x y F (more τ)) σ
  unfolding ask_or
  chain_or q' x' y' k more σ = after-ask k more (ask count σ q' x' y' [])

-- the questions of a bit
pub chain_bit : (count : ℕ) (n k : ℕ) (σ : St)
    → then_ask count 2 k 0 (swap n) (ask_or count 1 k 0 (swap (n + 1)) quiet σ) ≡ ask_bit count n k quiet σ
chain_bit count n k σ =
    chain_or count 2 k 0 (swap n) 1 k 0 (n + 1) quiet σ
    ∙ ap (λ m. ask_or count 1 k 0 (swap (n + 1)) m σ) (fun_ext (λ τ. chain_quiet count 2 k 0 (swap n) τ))

-- one more after those of a bit
pub chain_bit-more : (count : ℕ) (n k q x y r : ℕ) (σ : St)
    → then_ask count q x y (swap r) (ask_bit count n k quiet σ) ≡ ask_bit count n k (ask_or count q x y (swap r) quiet) σ
chain_bit-more count n k q x y r σ =
    chain_or count q x y (swap r) 1 k 0 (n + 1) (ask_or count 2 k 0 (swap n) quiet) σ
    ∙ ap (λ m. ask_or count 1 k 0 (swap (n + 1)) m σ) (fun_ext (λ τ.
    chain_or count q x y (swap r) 2 k 0 n quiet τ
    ∙ ap (λ m. ask_or count 2 k 0 (swap n) m τ) (fun_ext (λ υ. chain_quiet count q x y (swap r) υ))))

pub chain_two : (count : ℕ) (q x y k q' x' y' r : ℕ) (σ : St)
    → then_ask count q x y (swap r) (ask_or count q' x' y' (swap k) quiet σ) ≡ ask_or count q' x' y' (swap k) (ask_or count q x y (swap r) quiet) σ
chain_two count q x y k q' x' y' r σ =
    chain_or count q x y (swap r) q' x' y' k quiet σ
    ∙ ap (λ m. ask_or count q' x' y' (swap k) m σ) (fun_ext (λ τ. chain_quiet count q x y (swap r) τ))

-- a fold that is no stay ends the asking
pub ask-over : (count : ℕ) (q x y : ℕ) (F G : Fold) (σ : St) → is_stays G ≡ false → done (σ, G) ≡ then_ask_at count q x y F G σ
unfolding then_ask_at
ask-over count q x y F stays σ e = no (sym e)
ask-over count q x y F (swap r) σ e = refl
ask-over count q x y F (make s v) σ e = refl

pub is-stay : (G : Fold) → is_stays G ≡ true → G ≡ stays
is-stay stays e = refl
is-stay (swap r) e = no e
is-stay (make s v) e = no e

pub ask-goes : (count : ℕ) (q x y : ℕ) (F G : Fold) (σ : St) → is_stays G ≡ true → ask_or count q x y F quiet σ ≡ then_ask_at count q x y F G σ
unfolding then_ask_at
ask-goes count q x y F G σ e = rw (is-stay G e)

-- a reply that is no yes
pub no-yes : (r : Reply) → (r ≡ Reply.Yes → ⊥) → reply_is r ≡ 1 → ⊥
no-yes Reply.No a e = omega (arith, e)
no-yes Reply.Yes a e = a refl
no-yes Reply.Satisfiable a e = omega (arith, e)

-- ---- by what a question answered, among so many nodes
module _ (nodes : ℕ) (σ τ : St) (n q x y : ℕ) (F : Fold) where
  -- a reply 1 gives the fold, any other leaves the node as it stays, a refusal ends the asking
  pub stop_in : (z : tables.Refusal) → outcome_of τ (Err z) ≡ ask n σ q x y [] → solved_of nodes τ (Err z) ≡ ask_or n q x y F quiet σ
  unfolding outcome_of solved_of
  stop_in z e = sym (or-stop n q x y F σ (refusal_of z) (sym e))

  pub yes_in : (f : Folded) (a : ℕ) → outcome_of τ (Ok a) ≡ ask n σ q x y [] → a ≡ 1 → fold_is nodes f ≡ F → solved_of nodes τ (Ok f) ≡ ask_or n q x y F quiet σ
  unfolding outcome_of solved_of
  yes_in f a e d i = ap (λ G. done (τ, G)) i ∙ sym (or_yes n q x y F σ τ a (sym e) d)

  pub no_in : (a : ℕ) → outcome_of τ (Ok a) ≡ ask n σ q x y [] → (a ≡ 1 → ⊥) → solved_of nodes τ (Ok Folded.Stays) ≡ ask_or n q x y F quiet σ
  unfolding outcome_of solved_of
  no_in a e d = sym (or_no n q x y F σ τ a (sym e) d)

  -- one more question, after a fold
  pub over-in : (f : Folded) → is_stays (fold_is nodes f) ≡ false → solved_of nodes σ (Ok f) ≡ then_ask_at n q x y F (fold_is nodes f) σ
  unfolding solved_of
  over-in f i = ask-over n q x y F (fold_is nodes f) σ i

-- a chain of questions goes on with one more
module _ (nodes n q x y : ℕ) (F : Fold) (o : Out (St × Fold)) (τ : St) where
  pub chain-stop : (υ : St) (z : tables.Refusal) → solved_of nodes τ (Err z) ≡ o → solved_of nodes υ (Err z) ≡ then_ask n q x y F o
  unfolding solved_of
  chain-stop υ z e = ap (then_ask n q x y F) e

  chain-goes : (f : Folded) (υ : St) (r : Result Folded tables.Refusal) → solved_of nodes τ (Ok f) ≡ o
      → solved_of nodes υ r ≡ then_ask_at n q x y F (fold_is nodes f) τ → solved_of nodes υ r ≡ then_ask n q x y F o
  unfolding solved_of
  chain-goes f υ r e d = d ∙ ap (then_ask n q x y F) e

-- what the questions gave is recorded
module _ (nodes : ℕ) (g : List ℕ) (ways : Ways) (k : ℕ) (o : Out (St × Fold)) (τ : St) where
  pub settled-stop : (υ : St) (z : tables.Refusal) → solved_of nodes τ (Err z) ≡ o → outcome_of υ (Err z) ≡ settle_then g ways k o
  unfolding solved_of outcome_of
  settled-stop υ z e = ap (settle_then g ways k) e

  pub settled_goes : (f : Folded) (υ : St) (r : Result ℕ tables.Refusal) → solved_of nodes τ (Ok f) ≡ o
      → outcome_of υ r ≡ settle (table_of g) ways k τ (fold_is nodes f) → outcome_of υ r ≡ settle_then g ways k o
  unfolding solved_of
  settled_goes f υ r e d = d ∙ ap (settle_then g ways k) e

-- from a folder of the same call
module _ (f f₁ f₂ : ConstantFolder) (same : f₁.call ≡ f.call) where
  pub solved-settles : (k x : ℕ) (F : Folded) (o : Out (St × Fold)) (h : List Held) → solved_of (count_in f) (seen h f₁) (Ok F) ≡ o
      → outcome_of (seen h f₂) (Ok x) ≡ settle (table_of (given_in f₁)) (ways_of f₁.call) k (seen h f₁) (fold_is (count_in f₁) F)
      → outcome_of (seen h f₂) (Ok x) ≡ settle_then (given_in f) (ways_of f.call) k o
  solved-settles k x F o h e d =
      settled_goes (count_in f) (given_in f) (ways_of f.call) k o (seen h f₁) F (seen h f₂) (Ok x) e
      (d ∙ ap (λ (c : Call). settle (table_of c.given.now) (ways_of c) k (seen h f₁) (fold_is (count_of c.given.now) F)) same)

  -- one more question
  pub chain-next : (q x y : ℕ) (F G : Folded) (r : Result Folded tables.Refusal) (o : Out (St × Fold)) (h : List Held) → solved_of (count_in f) (seen h f₁) (Ok G) ≡ o
      → solved_of (count_in f₁) (seen h f₂) r ≡ then_ask_at (length f₁.call.replies.now) q x y (fold_is (count_in f₁) F) (fold_is (count_in f₁) G) (seen h f₁)
      → solved_of (count_in f) (seen h f₂) r ≡ then_ask (length f.call.replies.now) q x y (fold_is (count_in f) F) o
  chain-next q x y F G r o h e d =
      chain-goes (count_in f) (length f.call.replies.now) q x y (fold_is (count_in f) F) o (seen h f₁) G (seen h f₂) r e
      (subst (λ (c : Call). solved_of (count_of c.given.now) (seen h f₂) r ≡ then_ask_at (length c.replies.now) q x y (fold_is (count_of c.given.now) F) (fold_is (count_of c.given.now) G) (seen h f₁)) same d)

-- the error of a `?` is handed on as it is
pub raised : {A : Type 0} (r : Result A tables.Refusal) (z : tables.Refusal) → IsErrAnd r (λ e. e ≡ z) → r ≡ Err z
raised (Ok x) z h = absurd h
raised (Err y) z h = ap Err h
