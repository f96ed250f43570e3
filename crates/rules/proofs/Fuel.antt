-- Fuel above the node is enough: a visit does not depend on it, so that the rules can be read with no fuel in sight.
-- Assumes nothing.
use Prim.Native.Nat.{ℕ, zero, suc, ◌<◌}
use mathlib.Core.Path.{◌≡◌, refl, ap₂, ◌∙◌, fun_ext}
use mathlib.Core.Bool.{Bool, true, false, cond}
use mathlib.Core.Option.{Option}
use mathlib.Core.List.{List, [], ◌∷◌}
use native.Mathlib.Omega.{arith}
use native.Mathlib.Decide.{le_ind}
use lib.ListN.{length}
use lib.Dec.{eqb}
use Rattle.rules.specs.Lists.{All}
use Rattle.rules.specs.Refusal.{Out, ◌>>=◌}
use Rattle.rules.specs.Table.{Kind, Const, Read, Write, Word, Ult, Ext, Ite, Eq, And, Or, Not, State, Next, Input, Bad, Node, node_at, operands_as}
use Rattle.rules.specs.Legal.{AllLegal}
use Rattle.rules.specs.Walk.{St, Mark, fresh, kept, replaced}
use Rattle.rules.specs.Fold.{Fold, stays, const_of}
use Rattle.rules.specs.Laws.{VisitRule}
use Rattle.rules.specs.Visit.{Ways, Branch, left, right, undecided, branch, visit1, visit2, visit3, unary, binary, ite_on, take_input, process, visit_marked, visit, visit_top}

pub bind_same : {A B : Type 0} (m m' : Out A) (f f' : A → Out B) → m ≡ m' → ((x : A) → f x ≡ f' x) → (m >>= f) ≡ (m' >>= f')
bind_same m m' f f' e h = ap₂ (λ (o : Out _) (g : _ → Out _). o >>= g) e (fun_ext h)

module _ (t : List Node) (ways : Ways) where
  -- visits that agree on a node's operands process it alike
  module _ (u v : St → ℕ → Out (St × ℕ)) (k : ℕ) (S : ℕ → Type 0) (same : (σ : St) (j : ℕ) → S j → u σ j ≡ v σ j) (σ : St) (nd : Node) where
    visit1-same : S nd.a → visit1 u σ k nd ≡ visit1 v σ k nd
    unfolding visit1
    visit1-same ha = bind_same _ _ _ _ (same σ nd.a ha) (λ p. refl)

    visit2-same : S nd.a → S nd.b → visit2 u σ k nd ≡ visit2 v σ k nd
    unfolding visit2
    visit2-same ha hb = bind_same _ _ _ _ (same σ nd.a ha) (λ p. bind_same _ _ _ _ (same p.0 nd.b hb) (λ q. refl))

    visit3-same : S nd.a → S nd.b → S nd.c → visit3 u σ k nd ≡ visit3 v σ k nd
    unfolding visit3
    visit3-same ha hb hc =
        bind_same _ _ _ _ (same σ nd.a ha) (λ p. bind_same _ _ _ _ (same p.0 nd.b hb) (λ q. bind_same _ _ _ _ (same q.0 nd.c hc) (λ r. refl)))

    unary-same : (fold : Option ℕ → Fold) → S nd.a → unary t ways u σ k nd fold ≡ unary t ways v σ k nd fold
    unfolding unary
    unary-same fold ha = bind_same _ _ _ _ (visit1-same ha) (λ p. refl)

    binary-same : (fold : ℕ → ℕ → Option ℕ → Option ℕ → Fold) (more : St → Out (St × Fold)) → S nd.a → S nd.b
        → binary t ways u σ k nd fold more ≡ binary t ways v σ k nd fold more
    unfolding binary
    binary-same fold more ha hb = bind_same _ _ _ _ (visit2-same ha hb) (λ p. refl)

    ite_on-same : (σ₁ : St) (x : ℕ) (c : Branch) → S nd.b → S nd.c → ite_on t ways u σ₁ k nd x c ≡ ite_on t ways v σ₁ k nd x c
    unfolding ite_on
    ite_on-same σ₁ x left hb hc = bind_same _ _ _ _ (same σ₁ nd.b hb) (λ p. refl)
    ite_on-same σ₁ x right hb hc = bind_same _ _ _ _ (same σ₁ nd.c hc) (λ p. refl)
    ite_on-same σ₁ x undecided hb hc = bind_same _ _ _ _ (same σ₁ nd.b hb) (λ p. bind_same _ _ _ _ (same p.0 nd.c hc) (λ q. refl))

    pub process-same : (K : Kind) → All S (operands_as K nd) → process t ways u K σ k nd ≡ process t ways v K σ k nd
    unfolding process
    process-same Const g = refl
    process-same Read g = bind_same _ _ _ _ (visit2-same g.0 g.1.0) (λ p. refl)
    process-same Write g = bind_same _ _ _ _ (visit3-same g.0 g.1.0 g.1.1.0) (λ p. refl)
    process-same (Word op) g = binary-same _ _ g.0 g.1.0
    process-same Ult g = binary-same _ _ g.0 g.1.0
    process-same Ext g = unary-same _ g.0
    process-same Ite g = bind_same _ _ _ _ (same σ nd.a g.0) (λ p. ite_on-same p.0 p.1 (branch (const_of p.0.rows p.1)) g.1.0 g.1.1.0)
    process-same Eq g = binary-same _ _ g.0 g.1.0
    process-same And g = binary-same _ _ g.0 g.1.0
    process-same Or g = binary-same _ _ g.0 g.1.0
    process-same Not g = unary-same _ g.0
    process-same State g = go (eqb nd.b 1) g
      where
        go : (b : Bool) → All S (cond b (nd.a ∷ []) [])
            → ◌≡◌ {A = Out (St × ℕ)} (elim b [ true ↦ unary t ways u σ k nd (λ x. stays) | false ↦ take_input t ways σ k nd σ.inputs ])
            (elim b [ true ↦ unary t ways v σ k nd (λ x. stays) | false ↦ take_input t ways σ k nd σ.inputs ])
        go true h = unary-same _ h.0
        go false h = refl
    process-same Next g =
        bind_same _ _ _ _ (same σ nd.a g.0) (λ p. bind_same _ _ _ _ (same p.0 nd.b g.1.0) (λ q. refl))
    process-same Input g = refl
    process-same Bad g = unary-same _ g.0

  visit-suc : (f : ℕ) (σ : St) (k : ℕ) → visit t ways (suc f) σ k ≡ visit_marked t ways (visit t ways f) (σ.mark k) σ k
  unfolding visit
  visit-suc f σ k = refl

  module _ (legal : AllLegal t) where
    marked-same : (u v : St → ℕ → Out (St × ℕ)) (m : Mark) (σ : St) (k : ℕ) → k < length t → ((σ : St) (j : ℕ) → j < k → u σ j ≡ v σ j)
        → visit_marked t ways u m σ k ≡ visit_marked t ways v m σ k
    marked-same u v fresh σ k l h = process-same u v k (λ j. j < k) h σ (node_at t k) (node_at t k).kind (legal k l).before
    marked-same u v kept σ k l h = refl
    marked-same u v (replaced r) σ k l h = refl

    more : (f k : ℕ) (σ : St) → k < f → k < length t → visit t ways (suc f) σ k ≡ visit t ways f σ k
    unfolding visit
    more zero k σ h l = absurd (omega arith)
    more (suc f) k σ h l =
        marked-same (visit t ways (suc f)) (visit t ways f) (σ.mark k) σ k l (λ σ₁ j i. more f j σ₁ (omega arith) (omega arith))

    -- any fuel above k is as good as suc k
    pub fuel : (f k : ℕ) (σ : St) → k < f → k < length t → visit t ways f σ k ≡ visit t ways (suc k) σ k
    fuel f k σ h l = le_ind (λ m. visit t ways m σ k ≡ visit t ways (suc k) σ k) refl (λ m q e. more m k σ q l ∙ e) f h

    -- a visit of k visits its operands by the same rule
    top_is : (σ : St) (k : ℕ) → k < length t → visit_top t ways σ k ≡ visit_marked t ways (visit_top t ways) (σ.mark k) σ k
    top_is σ k l = visit-suc k σ k ∙ marked-same (visit t ways k) (visit_top t ways) (σ.mark k) σ k l (λ σ₁ j i. fuel k j σ₁ i (omega arith))

pub visit_rule : VisitRule
unfolding VisitRule
visit_rule t ways legal σ k l = top_is t ways legal σ k l
