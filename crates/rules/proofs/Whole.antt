-- The whole fold keeps every value: sequentials judged, visits in order, bads judged, the last question.
-- Assumes nothing.
use Prim.Native.Nat.{ℕ, zero, suc, ◌+◌, ◌-◌, ◌<◌}
use mathlib.Core.Path.{◌≡◌, refl, sym, ap, ◌∙◌, subst}
use mathlib.Core.Bool.{Bool, true, false, ◌&&◌}
use mathlib.Core.Option.{Option}
use mathlib.Core.List.{List, [], ◌∷◌}
use native.Mathlib.Omega.{arith}
use native.Mathlib.Nat.{add-zero}
use lib.ListN.{length, get_or}
use lib.Dec.{eqb}
use borrow.Author.Tests.{eqb-true}
use Rattle.rules.specs.Lists.{All}
use Rattle.rules.specs.Table.{Write, Node, constant, unknown, node_at, is}
use Rattle.rules.specs.Model.{Model, Mode}
use Rattle.rules.specs.Legal.{Legal, AllLegal, Sequential, BadEntry, WellFormed}
use Rattle.rules.specs.Value.{Value, number, num, meaning, worth, Fits}
use Rattle.rules.specs.Walk.{St, replaced, start_rows, start}
use Rattle.rules.specs.Fold.{const_of, is_const}
use Rattle.rules.specs.Questions.{ask}
use Rattle.rules.specs.Visit.{Ways, visit_top}
use Rattle.rules.specs.Whole.{ways_of, trivial, drop_next, judge_sequentials, Bads, Judgement, stay, drop, visit_all, by_reply, judge_bad, if_dropped, judge_bads, Folded, bads, last_question, fold_bads, fold}
use Rattle.rules.specs.Demand.{SameInit}
use Rattle.btor.proofs.Agreement.{cases}
use Rattle.rules.proofs.Base.{no, put_all, all_join, If, if-bind, inside-or-past, is-kind, if-map}
use Rattle.rules.proofs.Legal.{legal_as}
use Rattle.rules.proofs.Values.{word-num}
use Rattle.rules.proofs.Folds.{ConstOk, is_const_ok, RowOk, const_ok}
use Rattle.rules.proofs.Start.{given-row, new_row}
use Rattle.rules.proofs.Triple.{Ok, GivenOk, Inv, MarkOk, Goes, bind, weaken, ask_ok}
use Rattle.rules.proofs.Visit.{visit_ok}

-- what the proof knows of the values
pub record Env (t : List Node) (ways : Ways) (v : ℕ → Value) : Type 0 where
  pub n_false : v (length t) ≡ number 0
  pub n_true : v (length t + 1) ≡ number 1
  pub fits : (k : ℕ) → k < length t → Fits (node_at t k).sort (v k)
  pub known : (k : ℕ) → k < length t → worth ways.reading v (v k) (node_at t k) ≡ v k
  pub legal : AllLegal t

-- σ' comes after σ
abbrev Later : List Node → Ways → (ℕ → Value) → St → St → Type 0
Later t ways v σ σ' = Ok t ways v σ' → Ok t ways v σ × (Inv t ways v σ → Inv t ways v σ')

-- a bad that the fold may drop
pub record Gone (t : List Node) (ways : Ways) (v : ℕ → Value) (b : ℕ) : Type 0 where
  pub entry : BadEntry t b
  pub zero! : v b ≡ number 0

abbrev Swept : List Node → Ways → (ℕ → Value) → St → St → List ℕ → Type 0
Swept t ways v σ σ' ds = Ok t ways v σ' → Ok t ways v σ × (Inv t ways v σ → Inv t ways v σ' × All (Gone t ways v) ds)

abbrev JudgementOk : (ℕ → Value) → ℕ → Judgement → Type 0
JudgementOk v c stay = Unit
JudgementOk v c drop = v c ≡ number 0

module _ (t : List Node) (ways : Ways) (v : ℕ → Value) (env : Env t ways v) where
  -- ---- the sequentials
  drop-later : (σ : St) (nx : Node) → v nx.a ≡ v (node_at t nx.a).a → Later t ways v σ (drop_next t σ nx)
  drop-later σ nx e = λ o. (
    assumption o,
    λ i. record { given_ok = i.given_ok; rows_ok = i.rows_ok; marks_ok = put_all (MarkOk v) σ.mark nx.a (replaced (node_at t nx.a).a) (sym e) i.marks_ok },
  )

  Judged : St → St × List ℕ → Type 0
  Judged σ r = Later t ways v σ r.0 × All (λ s. s < length t) r.1

  sequentials_ok : (σ : St) (ss : List ℕ) → All (Sequential t) ss → All (SameInit t v) ss → Judged σ (judge_sequentials t σ ss)
  unfolding judge_sequentials Judged
  sequentials_ok σ [] h q = ((λ o. (o, λ i. i)), tt)
  sequentials_ok σ (s ∷ ss) h q =
      cases (Judged σ) (trivial t (node_at t s))
      (λ e.
      let g = sequentials_ok (drop_next t σ (node_at t s)) ss h.1 q.1 in
      ((λ o. let a = g.0 o in let b = drop-later σ (node_at t s) (q.0 e) a.0 in (b.0, λ i. a.1 (b.1 i))), g.1))
      (λ _. let g = sequentials_ok σ ss h.1 q.1 in (g.0, (h.0.inside, g.1)))

  -- ---- visits in order
  module _ where
    visit_top_ok : (σ : St) (k : ℕ) → k < length t → Goes t ways v (Unit {0}) σ (λ r. v r ≡ v k) (visit_top t ways σ k)
    visit_top_ok σ k l = visit_ok t ways v env.n_false env.n_true env.fits env.known env.legal (suc k) (Unit {0}) σ k l

    visit_all_ok : (σ : St) (ks : List ℕ) → All (λ s. s < length t) ks → If (Later t ways v σ) (visit_all t ways σ ks)
    unfolding visit_all
    visit_all_ok σ [] h = λ o. (o, λ i. i)
    visit_all_ok σ (k ∷ ks) h =
        if-bind _ (Later t ways v σ) (visit_top t ways σ k) _ (visit_top_ok σ k h.0)
        (λ p g. if-map (Later t ways v p.0) (Later t ways v σ) (visit_all t ways p.0 ks)
        (λ σ₂ f o. let b = f o in let a = g b.0 in (a.0, λ i. b.1 (a.1 tt i).0)) (visit_all_ok p.0 ks h.1))

    -- ---- the bads
    module _ (solver terminate : Bool) (section : ℕ) where
      by_reply_ok : (place : ℕ) (σ : St) (r c : ℕ) → Goes t ways v (r ≡ 1 → v c ≡ number 0) σ (JudgementOk v c) (by_reply t ways solver terminate section place σ r)
      by_reply_ok place σ r c =
          cases (Goes t ways v (r ≡ 1 → v c ≡ number 0) σ (JudgementOk v c)) (eqb r 1)
          (λ e o. (o, λ p i. (i, p (eqb-true r 1 e))))
          (λ _. cases (Goes t ways v (r ≡ 1 → v c ≡ number 0) σ (JudgementOk v c)) (eqb r 2 && terminate) (λ _. tt) (λ _ o. (o, λ p i. (i, tt))))

      judge_bad_ok : (place : ℕ) (σ : St) (c : ℕ) (x : Option ℕ) → Goes t ways v (ConstOk x (v c)) σ (JudgementOk v c) (judge_bad t ways solver terminate section place σ c x)
      judge_bad_ok place σ c x =
          cases (Goes t ways v (ConstOk x (v c)) σ (JudgementOk v c)) (is_const x 0)
          (λ e o. (o, λ p i. (i, is_const_ok x (v c) 0 p e)))
          (λ _. cases (Goes t ways v (ConstOk x (v c)) σ (JudgementOk v c)) (is_const x 1)
          (λ _. cases (Goes t ways v (ConstOk x (v c)) σ (JudgementOk v c)) terminate (λ _. tt) (λ _ o. (o, λ p i. (i, tt))))
          (λ _. cases (Goes t ways v (ConstOk x (v c)) σ (JudgementOk v c)) solver
          (λ _. bind t ways v (ConstOk x (v c)) σ (λ r. r ≡ 1 → v c ≡ number 0) (JudgementOk v c) (ask ways.reply_count σ 4 c 0 []) _ (ask_ok t ways v ways.reply_count (ConstOk x (v c)) σ 4 c 0 [])
          (λ σ₁ r. weaken t ways v (r ≡ 1 → v c ≡ number 0) (ConstOk x (v c) × (r ≡ 1 → v c ≡ number 0)) σ₁ (JudgementOk v c) (by_reply t ways solver terminate section place σ₁ r) (λ p. p.1) (by_reply_ok place σ₁ r c)))
          (λ _ o. (o, λ p i. (i, tt)))))

      noted_ok : (d : Judgement) (b c : ℕ) (bs : List ℕ) → v c ≡ v b → BadEntry t b → JudgementOk v c d → All (Gone t ways v) bs → All (Gone t ways v) (if_dropped d b bs)
      noted_ok stay b c bs e h d g = g
      noted_ok drop b c bs e h d g = (record { entry = h; zero! = sym e ∙ d }, g)

      -- a Bad's rewritten condition is worth what the Bad is
      condition : (σ : St) (b : ℕ) → BadEntry t b → Inv t ways v σ → v (σ.rows b).a ≡ v b
      condition σ b h i = subst (λ K. meaning ways.reading K v (v b) (σ.rows b) ≡ v b) ((i.given_ok b h.inside).kind ∙ h.bad) (i.rows_ok b).worth!

      judge_bads_ok : (place : ℕ) (σ : St) (bs : List ℕ) → All (BadEntry t) bs
          → If (λ r. Swept t ways v σ r.after r.dropped) (judge_bads t ways solver terminate section place σ bs)
      unfolding judge_bads
      judge_bads_ok place σ [] h = λ o. (o, λ i. (i, tt))
      judge_bads_ok place σ (b ∷ bs) h =
          if-bind _ (λ r. Swept t ways v σ r.after r.dropped) (visit_top t ways σ b) _ (visit_top_ok σ b h.0.inside)
          (λ p g. if-bind _ (λ r. Swept t ways v σ r.after r.dropped)
          (judge_bad t ways solver terminate section place p.0 (p.0.rows b).a (const_of p.0.rows (p.0.rows b).a)) _
          (judge_bad_ok place p.0 (p.0.rows b).a (const_of p.0.rows (p.0.rows b).a))
          (λ q k. if-bind _ (λ r. Swept t ways v σ r.after r.dropped) (judge_bads t ways solver terminate section (suc place) q.0 bs) _ (judge_bads_ok (suc place) q.0 bs h.1)
          (λ r w. last p g q k r w q.1)))
        where
          last : (p : St × ℕ) → (Ok t ways v p.0 → Ok t ways v σ × (Unit {0} → Inv t ways v σ → Inv t ways v p.0 × (v p.1 ≡ v b)))
              → (q : St × Judgement)
              → (Ok t ways v q.0 → Ok t ways v p.0 × (ConstOk (const_of p.0.rows (p.0.rows b).a) (v (p.0.rows b).a) → Inv t ways v p.0 → Inv t ways v q.0 × JudgementOk v (p.0.rows b).a q.1))
              → (r : Bads) → Swept t ways v q.0 r.after r.dropped → (d : Judgement)
              → Swept t ways v σ r.after (if_dropped q.1 b r.dropped)
          last p g q k r w d = λ o.
              let z = w o in
              let y = k z.0 in
              let x = g y.0 in (
                x.0,
                λ i.
                    let ip = (x.1 tt i).0 in
                    let c = (p.0.rows b).a in
                    let iq = y.1 (const_ok v ways.reading p.0.rows c (ip.rows_ok c)) ip in
                    let ir = z.1 iq.0 in (
                      ir.0,
                      noted_ok q.1 b c r.dropped (condition p.0 b h.0 ip) h.0 iq.1 ir.1,
                    ),
              )

  -- ---- the whole
  module _ (m : Model) (how : Mode) where
    ask_later : (σ : St) (q x y : ℕ) (bs : List ℕ) → If (λ p. Later t ways v σ p.0) (ask (length m.replies) σ q x y bs)
    ask_later σ q x y bs =
        if-map _ (λ p. Later t ways v σ p.0) (ask (length m.replies) σ q x y bs) (λ p g o. let a = g o in (a.0, λ i. (a.1 tt i).0))
        (ask_ok t ways v (length m.replies) (Unit {0}) σ q x y bs)

    last_question_ok : (σ : St) (bs : List ℕ) → If (λ p. Later t ways v σ p.0) (last_question m how σ bs)
    unfolding last_question
    last_question_ok σ [] = λ o. (o, λ i. i)
    last_question_ok σ (b ∷ []) = if-bind _ (λ p. Later t ways v σ p.0) (ask (length m.replies) σ 2 b 0 []) _ (ask_later σ 2 b 0 []) (λ p g. g)
    last_question_ok σ (b ∷ b' ∷ bs) =
        if-bind _ (λ p. Later t ways v σ p.0) (ask (length m.replies) σ 5 (length (b ∷ b' ∷ bs)) 0 (b ∷ b' ∷ bs)) _
        (ask_later σ 5 (length (b ∷ b' ∷ bs)) 0 (b ∷ b' ∷ bs)) (λ p g. g)

-- ---- the rows as given
module _ (t : List Node) (ways : Ways) (v : ℕ → Value) (env : Env t ways v) where
  -- what a given Write stores is a number
  stored-given : (k : ℕ) (nd : Node) → k < length t → Legal t k nd → is Write nd ≡ true → v nd.c ≡ number (num (v nd.c))
  stored-given k nd l g e =
      let h = legal_as t k Write nd (is-kind Write nd e) g in
      let lc : nd.c < length t = omega (arith, h.before.1.1.0) in
      (word-num 2 (v nd.c) refl (subst (λ i. Fits i (v nd.c)) (eqb-true (node_at t nd.c).sort 2 h.sorts.1.1.1.0) (env.fits nd.c lc))).0

  past_end : (i : ℕ) → RowOk v ways.reading (length t + i) (get_or (constant 1 0 ∷ constant 1 1 ∷ []) i unknown)
  past_end zero = record { worth! = sym (ap v (add-zero (length t)) ∙ env.n_false); stored = λ e. no e }
  past_end (suc zero) = record { worth! = sym env.n_true; stored = λ e. no e }
  past_end (suc (suc i)) = record { worth! = refl; stored = λ e. no e }

  start-rows : (r : ℕ) → RowOk v ways.reading r (start_rows t r)
  start-rows r =
      inside-or-past (RowOk v ways.reading r (start_rows t r)) r (length t)
      (λ l. subst (RowOk v ways.reading r) (sym (given-row t r l)) (record { worth! = env.known r l; stored = stored-given r (node_at t r) l (env.legal r l) }))
      (λ l.
      let q : length t + (r - length t) ≡ r = omega arith in
      subst (λ j. RowOk v ways.reading j (start_rows t j)) q
      (subst (RowOk v ways.reading (length t + (r - length t))) (sym (new_row t (r - length t))) (past_end (r - length t))))

  start_inv : (is rs : List ℕ) → Inv t ways v (start t is rs)
  start_inv is rs = record { given_ok = λ k l. subst (GivenOk t v k) (sym (given-row t k l)) (record { kind = refl; worths = refl }); rows_ok = start-rows; marks_ok = λ k. tt }

-- ---- from the start to the end
module _ (m : Model) (how : Mode) (wf : WellFormed m) (v : ℕ → Value) (env : Env m.table (ways_of m how) v) (inits : All (SameInit m.table v) m.sequentials) where
  Ended : St → Folded → Type 0
  Ended σ f = Swept m.table (ways_of m how) v σ f.state f.dropped

  fold_bads_ok : (q : Bool) (σ : St) (seqs : List ℕ) → If (Ended σ) (fold_bads m how q σ seqs)
  unfolding fold_bads Ended
  fold_bads_ok true σ seqs =
      if-bind _ (Ended σ) (bads m how false true 3 σ m.initial) _
      (judge_bads_ok m.table (ways_of m how) v env false true 3 0 σ m.initial wf.initial)
      (λ i g. if-bind _ (Ended σ) (last_question m how i.after i.stay) _ (last_question_ok m.table (ways_of m how) v env m how i.after i.stay)
      (λ p k o. let y = k o in let x = g y.0 in (x.0, λ s. let z = x.1 s in (y.1 z.0, z.1))))
  fold_bads_ok false σ seqs =
      if-bind _ (Ended σ) (bads m how true how.terminate 3 σ m.initial) _
      (judge_bads_ok m.table (ways_of m how) v env true how.terminate 3 0 σ m.initial wf.initial)
      (λ i g. if-bind _ (Ended σ) (bads m how true how.terminate 4 i.after m.later) _
      (judge_bads_ok m.table (ways_of m how) v env true how.terminate 4 0 i.after m.later wf.later)
      (λ r k o.
      let y = k o in
      let x = g y.0 in
      (x.0, λ s. let z = x.1 s in let w = y.1 z.0 in (w.0, all_join (Gone m.table (ways_of m how) v) i.dropped r.dropped z.1 w.1))))

  pub fold_ok : If (λ f. Ok m.table (ways_of m how) v f.state → Inv m.table (ways_of m how) v f.state × All (Gone m.table (ways_of m how) v) f.dropped) (fold m how)
  unfolding fold Judged Ended
  fold_ok =
      let t : List Node = m.table in
      let σ₀ : St = start t m.inputs m.replies in
      let j = sequentials_ok t (ways_of m how) v env σ₀ m.sequentials wf.sequentials inits in
      if-bind _ (λ f. Ok t (ways_of m how) v f.state → Inv t (ways_of m how) v f.state × All (Gone t (ways_of m how) v) f.dropped)
      (visit_all t (ways_of m how) (judge_sequentials t σ₀ m.sequentials).0 (judge_sequentials t σ₀ m.sequentials).1) _
      (visit_all_ok t (ways_of m how) v env (judge_sequentials t σ₀ m.sequentials).0 (judge_sequentials t σ₀ m.sequentials).1 j.1)
      (λ σ g. if-map (Ended σ) _ (fold_bads m how how.one_query σ (judge_sequentials t σ₀ m.sequentials).1) (λ f h o.
      let y = h o in
      let x = g y.0 in
      let s = j.0 x.0 in
      y.1 (x.1 (s.1 (start_inv t (ways_of m how) v env m.inputs m.replies)))) (fold_bads_ok how.one_query σ (judge_sequentials t σ₀ m.sequentials).1))
