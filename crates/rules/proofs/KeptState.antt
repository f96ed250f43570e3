-- A kept Next's state is never replaced: by rule 7 no dropped Next has it, so it is fresh once the sequentials are judged; by rules 5 and 6 it is a
-- State with an init, which no visit replaces (Along). So it stands for itself, and a test of it passes.
-- Assumes nothing.
use Prim.Native.Nat.{ℕ, zero, suc, ◌<◌}
use mathlib.Core.Path.{◌≡◌, refl, sym, ap, ◌∙◌, subst}
use mathlib.Core.Logic.{◌≢◌}
use mathlib.Core.Bool.{Bool, true, false, cond, not, ◌&&◌, ◌||◌}
use mathlib.Core.List.{List, [], ◌∷◌}
use native.Mathlib.Omega.{arith}
use lib.ListN.{length}
use lib.Dec.{eqb}
use borrow.Author.Tests.{eqb-true, eq-eqb}
use Rattle.rules.specs.Lists.{put, All}
use Rattle.rules.specs.Refusal.{Out, refused, done, ◌>>=◌}
use Rattle.rules.specs.Table.{State, Next, Node, kind_code, node_at, is, operands, with}
use Rattle.rules.specs.Model.{Model, Mode}
use Rattle.rules.specs.Check.{may_serve, check}
use Rattle.rules.specs.Legal.{AllLegal, Sequential, Once}
use Rattle.rules.specs.Walk.{St, Mark, fresh, kept, replaced, set_mark, set_row, start}
use Rattle.rules.specs.Fold.{stays}
use Rattle.rules.specs.Visit.{Ways, visit1, settle, unary, take_input, process, visit_marked, visit, visit_top}
use Rattle.rules.specs.Whole.{ways_of, trivial, drop_next, judge_sequentials, visit_all, Folded, bads, last_question, fold_bads, fold}
use Rattle.rules.specs.Call.{judge_mode, judge_room, need_of, model_from, brought, Judged, judged}
use Rattle.rules.specs.Sections.{cut}
use Rattle.rules.specs.Names.{names_of}
use Rattle.rules.specs.KeptState.{begun, ComesTo, unless_replaced, tested_next, tested_marked, tested_visit, tested_all, StatesStay, KeptState, KeptStateOfCall}
use Rattle.btor.proofs.Agreement.{cases}
use Rattle.rules.proofs.Base.{no, is-kind, kind-is, put_same, put_other, all_right, all_map, If, if-after}
use Rattle.rules.proofs.Legal.{LegalAs, legal_as, state_ok}
use Rattle.rules.proofs.Fuel.{bind_same, process-same}
use Rattle.rules.proofs.Sections.{same-done, through}
use Rattle.rules.proofs.Demand.{run-done}
use Rattle.rules.proofs.Call.{formed}
use Rattle.rules.proofs.Along.{has_init, Steps, Along, Goes, visit_along, all_along, fold_along}

-- any refusal
abbrev Any : ℕ → Type 0
Any n = Unit

-- what a visit of k leaves: k stays, and stands for itself
abbrev Itself : ℕ → St × ℕ → Type 0
Itself k p = (p.0.mark k ≡ kept) × (p.1 ≡ k)

same_after : {A B : Type 0} (P : A → Type 0) (o : Out A) (f g : A → Out B) → If P o → ((x : A) → P x → f x ≡ g x) → (o >>= f) ≡ (o >>= g)
same_after P (refused r) f g h e = refl
same_after P (done x) f g h e = e x h

module _ (t : List Node) where
  -- ---- a State with an init that is replaced was so before
  abbrev InitsStay : St → St → Type 0
  InitsStay σ σ' = (i : ℕ) → has_init (node_at t i) ≡ true → (r : ℕ) → σ'.mark i ≡ replaced r → σ.mark i ≡ replaced r

  marked : (mark : ℕ → Mark) (k i r : ℕ) (m : Mark) → (i ≡ k → m ≢ replaced r) → put mark k m i ≡ replaced r → mark i ≡ replaced r
  marked mark k i r m n = go (eqb i k) refl
    where
      go : (b : Bool) → eqb i k ≡ b → cond b m (mark i) ≡ replaced r → mark i ≡ replaced r
      go true e q = absurd (n (eqb-true i k e) q)
      go false e q = q

  steps : Steps t Any InitsStay
  steps =
      record {
        still = λ σ σ' e i h r q. ap (λ (f : ℕ → Mark). f i) (sym e) ∙ q;
        both = λ σ σ₁ σ₂ x y i h r q. x i h r (y i h r q);
        keeps = λ σ k i h r q. marked σ.mark k i r kept (λ _ z. cc) q;
        replaces = λ σ k s n i h r q. marked σ.mark k i r (replaced s) (λ e _. no (sym n ∙ ap (λ j. has_init (node_at t j)) (sym e) ∙ h)) q;
        memory_input = tt;
        wide_input = tt;
        wrong_reply = tt;
        always_bad = tt;
        possibly_bad = tt;
      }

  -- ---- the kept ones' states are fresh once the sequentials are judged
  abbrev Fresh : St → ℕ → Type 0
  Fresh σ s = Sequential t s × (σ.mark (node_at t s).a ≡ fresh)

  unmoved : (σ : St) (ss : List ℕ) (x : ℕ) → All (λ s. (node_at t s).a ≢ x) ss → (judge_sequentials t σ ss).0.mark x ≡ σ.mark x
  unfolding judge_sequentials
  unmoved σ [] x h = refl
  unmoved σ (s ∷ ss) x h =
      cases (λ (r : St × List ℕ). r.0.mark x ≡ σ.mark x) (trivial t (node_at t s))
      (λ _. unmoved (drop_next t σ (node_at t s)) ss x h.1 ∙ put_other σ.mark (node_at t s).a _ x (λ e. h.0 (sym e)))
      (λ _. unmoved σ ss x h.1)

  others : (σ : St) (x : ℕ) (m : Mark) (ss : List ℕ) → All (λ s. (node_at t s).a ≢ x) ss → All (Fresh σ) ss → All (Fresh (set_mark σ x m)) ss
  others σ x m [] n h = tt
  others σ x m (s ∷ ss) n h = ((h.0.0, put_other σ.mark x m (node_at t s).a n.0 ∙ h.0.1), others σ x m ss n.1 h.1)

  kept_fresh : (σ : St) (ss : List ℕ) → Once t ss → All (Fresh σ) ss → All (Fresh (judge_sequentials t σ ss).0) (judge_sequentials t σ ss).1
  unfolding judge_sequentials Once
  kept_fresh σ [] o h = tt
  kept_fresh σ (s ∷ ss) o h =
      cases (λ (r : St × List ℕ). All (Fresh r.0) r.1) (trivial t (node_at t s))
      (λ _. kept_fresh (drop_next t σ (node_at t s)) ss o.1 (others σ (node_at t s).a _ ss o.0 h.1))
      (λ _. ((h.0.0, unmoved σ ss (node_at t s).a o.0 ∙ h.0.1), kept_fresh σ ss o.1 h.1))

  -- so they are not replaced later
  not_replaced : AllLegal t → (σ σ' : St) → InitsStay σ σ' → (s : ℕ) → Fresh σ s → (r : ℕ) → σ'.mark (node_at t s).a ≢ replaced r
  not_replaced legal σ σ' stay s h r q =
      let nd : Node = node_at t (node_at t s).a in
      let i : has_init nd ≡ true = ap (λ K. eqb (kind_code K) 19 && eqb nd.b 1) (state_ok t s legal h.0).state ∙ eq-eqb nd.b 1 h.0.init in
      let z = stay (node_at t s).a i r q in
      let f = h.1 in
      cc

  module _ (ways : Ways) where
    -- ---- a State with an init that is not replaced stays, and stands for itself
    staying : (vis : St → ℕ → Out (St × ℕ)) (σ : St) (k : ℕ) (nd : Node) → If (Itself k) (unary t ways vis σ k nd (λ x. stays))
    unfolding unary settle
    staying vis σ k nd = if-after (Itself k) (visit1 vis σ k nd) _ (λ p. (put_same p.0.mark k kept, refl))

    stands : (f : ℕ) (σ : St) (k : ℕ) → (node_at t k).kind ≡ State → (node_at t k).b ≡ 1 → ((r : ℕ) → σ.mark k ≢ replaced r) → If (Itself k) (visit t ways (suc f) σ k)
    unfolding visit process
    stands f σ k e i n = go (σ.mark k) refl
      where
        vis : St → ℕ → Out (St × ℕ)
        vis = visit t ways f

        go : (m : Mark) → σ.mark k ≡ m → If (Itself k) (visit_marked t ways vis m σ k)
        go fresh q =
            subst (λ K. If (Itself k) (process t ways vis K σ k (node_at t k))) (sym e)
            (subst (λ b. If (Itself k) (elim b [ true ↦ unary t ways vis σ k (node_at t k) (λ x. stays) | false ↦ take_input t ways σ k (node_at t k) σ.inputs ])) (sym (eq-eqb (node_at t k).b 1 i))
            (staying vis σ k (node_at t k)))
        go kept q = (q, refl)
        go (replaced r) q = absurd (n r q)

    -- ---- with the test that was made: any node but a Next, whose operands are no Nexts
    module _ (legal : AllLegal t) where
      not_next : (x : ℕ) → may_serve (node_at t x) ≡ true → is Next (node_at t x) ≡ false
      not_next x h = go (is Next (node_at t x)) refl
        where
          go : (b : Bool) → is Next (node_at t x) ≡ b → b ≡ false
          go true e = no (sym (ap (λ K. not (eqb (kind_code K) 20 || eqb (kind_code K) 22)) (is-kind Next (node_at t x) e)) ∙ h)
          go false e = refl

      abbrev Plain : ℕ → ℕ → Type 0
      Plain f x = (σ : St) → tested_visit t ways f σ x ≡ visit t ways f σ x

      -- with so much fuel, from the visits with less
      module _ (f k : ℕ) (below : (x : ℕ) → x < k → is Next (node_at t x) ≡ false → Plain f x) where
        operands_plain : (xs : List ℕ) → All (λ x. x < k) xs → All (λ x. may_serve (node_at t x) ≡ true) xs → All (Plain f) xs
        operands_plain [] b s = tt
        operands_plain (x ∷ xs) b s = (below x b.0 (not_next x s.0), operands_plain xs b.1 s.1)

        plain_marked : k < length t → is Next (node_at t k) ≡ false → (m : Mark) (σ : St) → tested_marked t ways (tested_visit t ways f) m σ k ≡ visit_marked t ways (visit t ways f) m σ k
        plain_marked l e fresh σ =
            let nd : Node = node_at t k in
            let u : St → ℕ → Out (St × ℕ) = tested_visit t ways f in
            ap (λ b. elim b as (λ _. Out (St × ℕ)) [ true ↦ tested_next t ways u σ k nd | false ↦ process t ways u nd.kind σ k nd ]) e
            ∙ process-same t ways u (visit t ways f) k (Plain f) (λ σ x h. h σ) σ nd nd.kind (operands_plain (operands nd) (legal k l).before (legal k l).serve)
        plain_marked l e kept σ = refl
        plain_marked l e (replaced r) σ = refl

      plain : (f k : ℕ) (σ : St) → k < length t → is Next (node_at t k) ≡ false → tested_visit t ways f σ k ≡ visit t ways f σ k
      unfolding tested_visit visit
      plain zero k σ l e = refl
      plain (suc f) k σ l e = plain_marked f k (λ x b n σ. plain f x σ (omega (arith, b, l)) n) l e (σ.mark k) σ

      -- a Next for whose state itself stands
      passes : (k a : ℕ) (o : Out (St × ℕ)) (more : St → Out (St × ℕ)) → If (Itself a) o → (o >>= λ p. unless_replaced k (p.0.mark a) p.0 >>= more) ≡ (o >>= λ p. more p.0)
      passes k a (refused r) more h = refl
      passes k a (done p) more h = ap (λ m. unless_replaced k m p.0 >>= more) h.0

      tested_same : (σ : St) (k : ℕ) → Sequential t k → If (Itself (node_at t k).a) (visit t ways k σ (node_at t k).a) → tested_visit t ways (suc k) σ k ≡ visit_top t ways σ k
      unfolding tested_visit visit process
      tested_same σ k q h = go (σ.mark k)
        where
          nd : Node
          nd = node_at t k

          g : LegalAs t k Next nd
          g = legal_as t k Next nd q.next (legal k q.inside)

          u : St → ℕ → Out (St × ℕ)
          u = tested_visit t ways k

          v : St → ℕ → Out (St × ℕ)
          v = visit t ways k

          alike : (σ : St) (x : ℕ) → x < k → may_serve (node_at t x) ≡ true → u σ x ≡ v σ x
          alike σ x b s = plain k x σ (omega (arith, b, q.inside)) (not_next x s)

          go : (m : Mark) → tested_marked t ways u m σ k ≡ visit_marked t ways v m σ k
          go fresh =
              ap (λ b. elim b as (λ _. Out (St × ℕ)) [ true ↦ tested_next t ways u σ k nd | false ↦ process t ways u nd.kind σ k nd ]) (kind-is Next nd q.next)
              ∙ bind_same _ _ _ _ (alike σ nd.a g.before.0 g.serve.0) (λ p. bind_same (unless_replaced k (p.0.mark nd.a) p.0) (unless_replaced k (p.0.mark nd.a) p.0) _ _ refl (λ σ₁. bind_same _ _ _ _ (alike σ₁ nd.b g.before.1.0 g.serve.1.0) (λ r. refl)))
              ∙ passes k nd.a (v σ nd.a) (λ σ₁. v σ₁ nd.b >>= λ p. settle t ways k (set_row p.0 k (with nd nd.a p.1 nd.c)) stays) h
              ∙ ap (λ K. process t ways v K σ k nd) (sym q.next)
          go kept = refl
          go (replaced r) = refl

-- ---- the whole
module _ (m : Model) (how : Mode) (legal : AllLegal m.table) (six : All (Sequential m.table) m.sequentials) (seven : Once m.table m.sequentials) where
  abbrev t : List Node
  t = m.table

  abbrev ways : Ways
  ways = ways_of m how

  -- reached from the state once the sequentials are judged
  abbrev Reached : St → Type 0
  Reached σ = InitsStay t (begun m).0 σ

  kept! : All (Fresh t (begun m).0) (begun m).1
  kept! =
      kept_fresh t (start t m.inputs m.replies) m.sequentials seven
      (all_map (Sequential t) (Fresh t (start t m.inputs m.replies)) (λ s q. (q, refl)) m.sequentials six)

  further : (σ : St) (f k : ℕ) → Reached σ → If (λ p. Reached p.0) (visit t ways f σ k)
  further σ f k x = go (visit t ways f σ k) (visit_along t Any (InitsStay t) ways (steps t) f σ k)
    where
      go : (o : Out (St × ℕ)) → Goes t Any (InitsStay t) σ o → If (λ p. Reached p.0) o
      go (refused r) h = tt
      go (done p) h = λ i q r z. x i q r (h i q r z)

  -- the state of a kept Next, visited by it
  itself : (σ : St) (k : ℕ) → Reached σ → Fresh t (begun m).0 k → If (Itself (node_at t k).a) (visit t ways k σ (node_at t k).a)
  itself σ k x h = go k refl
    where
      go : (f : ℕ) → k ≡ f → If (Itself (node_at t k).a) (visit t ways f σ (node_at t k).a)
      go zero e = absurd (omega (arith, (legal_as t k Next (node_at t k) h.0.next (legal k h.0.inside)).before.0, e))
      go (suc f) e = stands t ways f σ (node_at t k).a (state_ok t k legal h.0).state h.0.init (not_replaced t legal (begun m).0 σ x k h)

  visited : (k : ℕ) (σ : St) (p : St × ℕ) → ComesTo m how k σ → visit t ways k σ (node_at t k).a ≡ done p → Itself (node_at t k).a p
  visited k σ p c e =
      let x : Reached σ = subst (Along t Any (InitsStay t) (λ σ. σ) (begun m).0) c.walked (all_along t Any (InitsStay t) ways (steps t) (begun m).0 c.before) in
      let h = (all_right (Fresh t (begun m).0) c.before (k ∷ c.after) (subst (All (Fresh t (begun m).0)) c.listed kept!)).0 in
      subst (If (Itself (node_at t k).a)) e (itself σ k x h)

  all_tested : (σ : St) (ks : List ℕ) → Reached σ → All (Fresh t (begun m).0) ks → tested_all t ways σ ks ≡ visit_all t ways σ ks
  unfolding tested_all visit_all
  all_tested σ [] x h = refl
  all_tested σ (k ∷ ks) x h =
      ap (λ (o : Out (St × ℕ)). o >>= λ p. tested_all t ways p.0 ks) (tested_same t ways legal σ k h.0.0 (itself σ k x h.0))
      ∙ same_after (λ p. Reached p.0) (visit_top t ways σ k) _ _ (further σ (suc k) k x) (λ p y. all_tested p.0 ks y h.1)

  -- ---- the end
  abbrev Lists : List ℕ → Folded → Type 0
  Lists ss f = f.sequentials ≡ ss

  listed : (q : Bool) (σ : St) (ss : List ℕ) → If (Lists ss) (fold_bads m how q σ ss)
  unfolding fold_bads
  listed true σ ss = if-after (Lists ss) (bads m how false true 3 σ m.initial) _ λ i. if-after (Lists ss) (last_question m how i.after i.stay) _ λ p. refl
  listed false σ ss =
      if-after (Lists ss) (bads m how true how.terminate 3 σ m.initial) _ λ i. if-after (Lists ss) (bads m how true how.terminate 4 i.after m.later) _ λ l. refl

  ended : (f : Folded) → fold m how ≡ done f → All (λ k. (r : ℕ) → f.state.mark (node_at t k).a ≢ replaced r) f.sequentials
  unfolding fold
  ended f e =
      let x : Reached f.state = subst (Along t Any (InitsStay t) (λ (f : Folded). f.state) (begun m).0) e (fold_along m how Any (InitsStay t) (steps t)) in
      let q : Lists (begun m).1 f =
      subst (If (Lists (begun m).1)) e (if-after (Lists (begun m).1) (visit_all t ways (begun m).0 (begun m).1) _ λ σ. listed how.one_query σ (begun m).1) in
      subst (All (λ k. (r : ℕ) → f.state.mark (node_at t k).a ≢ replaced r)) (sym q)
      (all_map (Fresh t (begun m).0) (λ k. (r : ℕ) → f.state.mark (node_at t k).a ≢ replaced r) (not_replaced t legal (begun m).0 f.state x) (begun m).1 kept!)

pub kept-state : KeptState
unfolding KeptState
kept-state m how legal six seven =
    record { visited = visited m how legal six seven; tested = all_tested m how legal six seven (begun m).0 (begun m).1 (λ i h r q. q) (kept! m how legal six seven); others = plain m.table (ways_of m how) legal; ended = ended m how legal six seven }

-- ---- of a call
pub kept_state_of_call : KeptStateOfCall
unfolding KeptStateOfCall KeptState judged
kept_state_of_call limits entry call j e =
    through (judge_mode call.mode) _ j e λ how _ e₁.
    through (cut limits call.words) _ j e₁ λ s _ e₂.
    through (names_of limits call.names) _ j e₂ λ names _ e₃.
    through (judge_room (need_of s) call.result_room call.scratch_room) _ j e₃ λ u _ e₄.
    let q = run-done (check (length names) s.rows (model_from names s)) _ j e₄ in
    let w = formed entry names s q.0 in
    subst (λ (j : Judged). StatesStay (model_from j.names (brought entry j.sections)) j.how) (same-done _ j q.1)
    (kept-state (model_from names (brought entry s)) how w.nodes w.sequentials w.once)
