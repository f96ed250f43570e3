-- The whole fold keeps the structural invariant: sequentials judged, visits in order, bads judged, the last question.
-- What it spends beyond what the marked nodes paid: a question for each bad entry, and one more.
-- Assumes nothing.
use Prim.Native.Nat.{ℕ, suc, ◌+◌, ◌<◌, ◌≤◌}
use mathlib.Core.Path.{◌≡◌, refl, sym, ap, ◌∙◌, subst}
use mathlib.Core.Logic.{◌≢◌}
use mathlib.Core.Bool.{Bool, true, false, ◌&&◌}
use mathlib.Core.Option.{Option}
use mathlib.Core.List.{List, [], ◌∷◌}
use native.Mathlib.Omega.{arith}
use lib.ListN.{length}
use lib.Dec.{eqb}
use Rattle.rules.specs.Lists.{All}
use Rattle.rules.specs.Refusal.{Out, refused, done}
use Rattle.rules.specs.Table.{Node, node_at, operands}
use Rattle.rules.specs.Model.{Model, Mode}
use Rattle.rules.specs.Legal.{AllLegal, Sequential, BadEntry, WellFormed}
use Rattle.rules.specs.Walk.{St, Mark, fresh, kept, replaced, start}
use Rattle.rules.specs.Fold.{const_of, is_const}
use Rattle.rules.specs.Questions.{ask}
use Rattle.rules.specs.Visit.{Ways, visit_top}
use Rattle.rules.specs.Whole.{ways_of, trivial, drop_next, judge_sequentials, Judgement, visit_all, by_reply, judge_bad, judge_bads, Folded, bads, last_question, fold_bads, fold}
use Rattle.rules.specs.Tally.{if_replaced}
use Rattle.rules.specs.Room.{unpaid}
use Rattle.rules.specs.Fine.{Stands, Took, fee, Fine}
use Rattle.btor.proofs.Agreement.{cases}
use Rattle.rules.proofs.Base.{all_map, If, if-bind, if-map}
use Rattle.rules.proofs.Budget.{unpaid-less, credit-put}
use Rattle.rules.proofs.Legal.{state_ok, init-operand}
use Rattle.rules.proofs.Standing.{stands-itself}
use Rattle.rules.proofs.Shape.{shape_mark, marked-put, start_shape, start-books}
use Rattle.rules.proofs.Went.{Went, Visited, ask_went}
use Rattle.rules.proofs.Structure.{visit_went}

module _ (t : List Node) (ways : Ways) (ins reps : List ℕ) (legal : AllLegal t) where
  -- from a fine state σ, with a questions more than the marked nodes paid
  pub record Walked (a : ℕ) (σ σ' : St) : Type 0 where
    pub fine : Fine t ways ins reps σ'
    pub few : σ'.made + unpaid (λ k. 1) (length t) σ'.mark ≤ σ.made + unpaid (λ k. 1) (length t) σ.mark
    pub asks : length σ'.asked + unpaid (λ k. 3) (length t) σ'.mark ≤ length σ.asked + unpaid (λ k. 3) (length t) σ.mark + a
    pub looks : σ'.looked + unpaid (fee t) (length t) σ'.mark ≤ σ.looked + unpaid (fee t) (length t) σ.mark

  abbrev pub Goes : ℕ → St → St → Type 0
  Goes a σ σ' = Fine t ways ins reps σ → Walked a σ σ'

  pub none_walked : (a : ℕ) (σ : St) → Goes a σ σ
  none_walked a σ f = record { fine = f; few = omega arith; asks = omega arith; looks = omega arith }

  pub both_walked : (a b : ℕ) (σ σ₁ σ₂ : St) → Goes a σ σ₁ → Goes b σ₁ σ₂ → Goes (a + b) σ σ₂
  both_walked a b σ σ₁ σ₂ x y = λ f.
      let p = x f in
      let q = y p.fine in
      record { fine = q.fine; few = omega (arith, p.few, q.few); asks = omega (arith, p.asks, q.asks); looks = omega (arith, p.looks, q.looks) }

  -- ---- the sequentials, judged before a constant is made
  at_most : (p : ℕ) (m : Mark) → if_replaced p m ≤ p
  at_most p fresh = omega arith
  at_most p kept = omega arith
  at_most p (replaced r) = omega arith

  -- a state whose Next is listed has an init, so it took no input
  has-init : {x : ℕ} (os : List ℕ) → os ≡ x ∷ [] → os ≡ [] → ⊥
  has-init os e z = cc

  drop_walked : (σ : St) (s : ℕ) → σ.made ≡ 0 → Sequential t s → Goes 0 σ (drop_next t σ (node_at t s))
  drop_walked σ s none! h = λ f.
      let q = state_ok t s legal h in
      let k : ℕ = (node_at t s).a in
      let r : ℕ = (node_at t k).a in
      let i = q.init in
      record {
        fine = record {
          shape = shape_mark t σ.rows σ.made σ.mark f.shape k (replaced r)
              ((λ _. i.before), subst (Stands t σ.rows σ.made r) i.sort (stands-itself t σ.rows σ.made r (omega (arith, i.before, q.inside)) i.serve));
          books = f.books;
          used = λ i u w. absurd (omega (arith, none!));
          marked = marked-put t σ.mark k (replaced r) σ.held (all_map (Took t) (λ g. g.state ≢ k) (λ g w z. has-init (operands (node_at t k)) (init-operand (node_at t k) q.state h.init) (ap (λ j. operands (node_at t j)) (sym z) ∙ w.bare)) σ.held f.books.took) f.marked;
          fair = f.fair;
          gained = omega (arith, f.gained, credit-put (fee t) (length t) σ.mark k (replaced r) (λ p. at_most p (σ.mark k)));
        };
        few = omega (arith, unpaid-less (λ k. 1) (length t) σ.mark k (replaced r) (λ p. refl));
        asks = omega (arith, unpaid-less (λ k. 3) (length t) σ.mark k (replaced r) (λ p. refl));
        looks = omega (arith, unpaid-less (fee t) (length t) σ.mark k (replaced r) (λ p. refl));
      }

  pub record Judged (σ : St) (r : St × List ℕ) : Type 0 where
    pub goes : Goes 0 σ r.0
    pub kept : All (λ s. s < length t) r.1

  pub sequentials_walked : (σ : St) (ss : List ℕ) → σ.made ≡ 0 → All (Sequential t) ss → Judged σ (judge_sequentials t σ ss)
  unfolding judge_sequentials
  sequentials_walked σ [] none! h = record { goes = none_walked 0 σ; kept = tt }
  sequentials_walked σ (s ∷ ss) none! h =
      let d = drop_next t σ (node_at t s) in
      cases (Judged σ) (trivial t (node_at t s))
      (λ _. let g = sequentials_walked d ss none! h.1 in record { goes = both_walked 0 0 σ d (judge_sequentials t d ss).0 (drop_walked σ s none! h.0) g.goes; kept = g.kept })
      (λ _. let g = sequentials_walked σ ss none! h.1 in record { goes = g.goes; kept = (h.0.inside, g.kept) })

  -- ---- visits
  pub went_walked : (k a : ℕ) (σ σ' : St) → Went t ways ins reps k a 0 σ σ' → Walked a σ σ'
  went_walked k a σ σ' w = record { fine = w.fine; few = w.few; asks = w.asks; looks = omega (arith, w.looks) }

  by_went : (k a : ℕ) (σ : St) (o : Out (St × ℕ)) → (Fine t ways ins reps σ → If (λ p. Went t ways ins reps k a 0 σ p.0) o) → If (λ p. Goes a σ p.0) o
  by_went k a σ (refused r) g = tt
  by_went k a σ (done p) g = λ f. went_walked k a σ p.0 (g f)

  top_walked : (σ : St) (k : ℕ) → k < length t → If (λ p. Goes 0 σ p.0) (visit_top t ways σ k)
  top_walked σ k l =
      by_went (suc k) 0 σ (visit_top t ways σ k)
      (λ f. if-map (Visited t ways ins reps k σ) (λ p. Went t ways ins reps (suc k) 0 0 σ p.0) (visit_top t ways σ k) (λ p x. x.went)
      (visit_went t ways ins reps legal (suc k) σ k l f))

  pub all_walked : (σ : St) (ks : List ℕ) → All (λ k. k < length t) ks → If (Goes 0 σ) (visit_all t ways σ ks)
  unfolding visit_all
  all_walked σ [] h = none_walked 0 σ
  all_walked σ (k ∷ ks) h =
      if-bind (λ p. Goes 0 σ p.0) (Goes 0 σ) (visit_top t ways σ k) _ (top_walked σ k h.0)
      (λ p x. if-map (Goes 0 p.0) (Goes 0 σ) (visit_all t ways p.0 ks) (λ σ₂ y. both_walked 0 0 σ p.0 σ₂ x y) (all_walked p.0 ks h.1))

  pub ask_walked : (σ : St) (q x y : ℕ) (bs : List ℕ) → If (λ p. Goes 1 σ p.0) (ask ways.reply_count σ q x y bs)
  ask_walked σ q x y bs = by_went 0 1 σ (ask ways.reply_count σ q x y bs) (λ f. ask_went t ways ins reps 0 σ q x y bs f)

  -- ---- the bads
  module _ (solver terminate : Bool) (section : ℕ) where
    reply_walked : (place : ℕ) (σ : St) (r : ℕ) → If (λ p. Goes 0 σ p.0) (by_reply t ways solver terminate section place σ r)
    reply_walked place σ r =
        cases (If (λ (p : St × Judgement). Goes 0 σ p.0)) (eqb r 1) (λ _. none_walked 0 σ)
        (λ _. cases (If (λ (p : St × Judgement). Goes 0 σ p.0)) (eqb r 2 && terminate) (λ _. tt) (λ _. none_walked 0 σ))

    bad_walked : (place : ℕ) (σ : St) (c : ℕ) (x : Option ℕ) → If (λ p. Goes 1 σ p.0) (judge_bad t ways solver terminate section place σ c x)
    bad_walked place σ c x =
        let Q : Out (St × Judgement) → Type 0 = If (λ p. Goes 1 σ p.0) in
        cases Q (is_const x 0) (λ _. none_walked 1 σ)
        (λ _. cases Q (is_const x 1) (λ _. cases Q terminate (λ _. tt) (λ _. none_walked 1 σ))
        (λ _. cases Q solver
        (λ _. if-bind (λ p. Goes 1 σ p.0) (λ p. Goes 1 σ p.0) (ask ways.reply_count σ 4 c 0 []) _ (ask_walked σ 4 c 0 [])
        (λ p y. if-map (λ (r : St × Judgement). Goes 0 p.0 r.0) (λ (r : St × Judgement). Goes 1 σ r.0) (by_reply t ways solver terminate section place p.0 p.1) (λ r z. both_walked 1 0 σ p.0 r.0 y z) (reply_walked place p.0 p.1)))
        (λ _. none_walked 1 σ)))

    pub bads_walked : (place : ℕ) (σ : St) (bs : List ℕ) → All (BadEntry t) bs → If (λ r. Goes (length bs) σ r.after) (judge_bads t ways solver terminate section place σ bs)
    unfolding judge_bads
    bads_walked place σ [] h = none_walked 0 σ
    bads_walked place σ (b ∷ bs) h =
        if-bind (λ p. Goes 0 σ p.0) (λ r. Goes (suc (length bs)) σ r.after) (visit_top t ways σ b) _ (top_walked σ b h.0.inside)
        (λ p x. if-bind (λ q. Goes 1 p.0 q.0) (λ r. Goes (suc (length bs)) σ r.after) (judge_bad t ways solver terminate section place p.0 (p.0.rows b).a (const_of p.0.rows (p.0.rows b).a)) _
        (bad_walked place p.0 (p.0.rows b).a (const_of p.0.rows (p.0.rows b).a))
        (λ q y. if-bind (λ r. Goes (length bs) q.0 r.after) (λ r. Goes (suc (length bs)) σ r.after) (judge_bads t ways solver terminate section (suc place) q.0 bs) _ (bads_walked (suc place) q.0 bs h.1)
        (λ r z f.
        let w = both_walked 0 (1 + length bs) σ p.0 r.after x (both_walked 1 (length bs) p.0 q.0 r.after y z) f in
        record { fine = w.fine; few = w.few; asks = omega (arith, w.asks); looks = w.looks })))

-- ---- the last question
module _ (m : Model) (how : Mode) (legal : AllLegal m.table) where
  abbrev Spends : St → St × ℕ → Type 0
  Spends σ p = Goes m.table (ways_of m how) m.inputs m.replies legal 1 σ p.0

  pub last-walked : (σ : St) (bs : List ℕ) → If (λ p. Goes m.table (ways_of m how) m.inputs m.replies legal 1 σ p.0) (last_question m how σ bs)
  unfolding last_question
  last-walked σ [] = none_walked m.table (ways_of m how) m.inputs m.replies legal 1 σ
  last-walked σ (b ∷ []) =
      if-bind (Spends σ) (Spends σ) (ask (length m.replies) σ 2 b 0 []) _ (ask_walked m.table (ways_of m how) m.inputs m.replies legal σ 2 b 0 []) (λ p h. h)
  last-walked σ (b ∷ b' ∷ bs) =
      if-bind (Spends σ) (Spends σ) (ask (length m.replies) σ 5 (length (b ∷ b' ∷ bs)) 0 (b ∷ b' ∷ bs)) _
      (ask_walked m.table (ways_of m how) m.inputs m.replies legal σ 5 (length (b ∷ b' ∷ bs)) 0 (b ∷ b' ∷ bs)) (λ p h. h)

-- ---- the whole
module _ (m : Model) (how : Mode) (wf : WellFormed m) where
  abbrev pub FineEnd : St → Type 0
  FineEnd σ = Fine m.table (ways_of m how) m.inputs m.replies σ

  abbrev pub Goes! : ℕ → St → St → Type 0
  Goes! a σ σ' = Goes m.table (ways_of m how) m.inputs m.replies wf.nodes a σ σ'

  then : (a b : ℕ) (σ σ₁ σ₂ : St) → Goes! a σ σ₁ → Goes! b σ₁ σ₂ → Goes! (a + b) σ σ₂
  then = both_walked m.table (ways_of m how) m.inputs m.replies wf.nodes

  more : (a b : ℕ) (σ σ' : St) → a ≤ b → Goes! a σ σ' → Goes! b σ σ'
  more a b σ σ' h x = λ f. let w = x f in record { fine = w.fine; few = w.few; asks = omega (arith, w.asks); looks = w.looks }

  judged : (solver terminate : Bool) (section : ℕ) (σ : St) (bs : List ℕ) → All (BadEntry m.table) bs → If (λ r. Goes! (length bs) σ r.after) (bads m how solver terminate section σ bs)
  judged solver terminate section σ bs h = bads_walked m.table (ways_of m how) m.inputs m.replies wf.nodes solver terminate section 0 σ bs h

  abbrev pub beyond : ℕ
  beyond = length m.initial + length m.later + 1

  fold_bads-walked : (q : Bool) (σ : St) (seqs : List ℕ) → If (λ f. Goes! beyond σ f.state) (fold_bads m how q σ seqs)
  unfolding fold_bads
  fold_bads-walked true σ seqs =
      if-bind (λ r. Goes! (length m.initial) σ r.after) (λ f. Goes! beyond σ f.state) (bads m how false true 3 σ m.initial) _ (judged false true 3 σ m.initial wf.initial)
      (λ i x. if-bind (λ p. Goes! 1 i.after p.0) (λ f. Goes! beyond σ f.state) (last_question m how i.after i.stay) _ (last-walked m how wf.nodes i.after i.stay)
      (λ p y. more (length m.initial + 1) beyond σ p.0 (omega arith) (then (length m.initial) 1 σ i.after p.0 x y)))
  fold_bads-walked false σ seqs =
      if-bind (λ r. Goes! (length m.initial) σ r.after) (λ f. Goes! beyond σ f.state) (bads m how true how.terminate 3 σ m.initial) _ (judged true how.terminate 3 σ m.initial wf.initial)
      (λ i x. if-bind (λ r. Goes! (length m.later) i.after r.after) (λ f. Goes! beyond σ f.state) (bads m how true how.terminate 4 i.after m.later) _ (judged true how.terminate 4 i.after m.later wf.later)
      (λ r y. more (length m.initial + length m.later) beyond σ r.after (omega arith) (then (length m.initial) (length m.later) σ i.after r.after x y)))

  abbrev pub begin : St
  begin = start m.table m.inputs m.replies

  begin-fine : FineEnd begin
  begin-fine = record { shape = start_shape m.table wf.nodes (λ k. fresh) (λ k. refl); books = start-books m.table how.reading m.inputs m.replies; used = λ r l u. absurd (omega arith); marked = tt; fair = omega arith; gained = omega arith }

  fold-walked : If (λ f. Goes! beyond begin f.state) (fold m how)
  unfolding fold
  fold-walked =
      let t : List Node = m.table in
      let j = judge_sequentials t begin m.sequentials in
      let g = sequentials_walked t (ways_of m how) m.inputs m.replies wf.nodes begin m.sequentials refl wf.sequentials in
      if-bind (Goes! 0 j.0) (λ f. Goes! beyond begin f.state) (visit_all t (ways_of m how) j.0 j.1) _
      (all_walked t (ways_of m how) m.inputs m.replies wf.nodes j.0 j.1 g.kept)
      (λ σ x. if-map (λ f. Goes! beyond σ f.state) (λ f. Goes! beyond begin f.state) (fold_bads m how how.one_query σ j.1)
      (λ f y. more (0 + (0 + beyond)) beyond begin f.state (omega arith) (then 0 (0 + beyond) begin j.0 f.state g.goes (then 0 beyond j.0 σ f.state x y)))
      (fold_bads-walked how.one_query σ j.1))

  -- what a fold leaves
  pub folded : (f : Folded) → fold m how ≡ done f → Walked m.table (ways_of m how) m.inputs m.replies wf.nodes beyond begin f.state
  folded f e = subst (If (λ f. Goes! beyond begin f.state)) e fold-walked begin-fine
