-- The result's words: 22n + 5b + s + i + 22 are enough. The kept lists are no longer than the given ones, and the rest is what a fold spends.
-- Assumes nothing.
use Prim.Native.Nat.{ℕ, zero, suc, ◌+◌, ◌-◌, ◌*◌, ◌≤◌}
use mathlib.Core.Path.{◌≡◌, refl, ap, ◌∙◌, subst}
use mathlib.Core.Bool.{Bool, true, false}
use mathlib.Core.List.{List, [], ◌∷◌}
use native.Mathlib.Omega.{arith}
use lib.ListN.{length, length-append, length-drop}
use Rattle.rules.specs.Lists.{sum}
use Rattle.rules.specs.Table.{Node, node_at}
use Rattle.rules.specs.Model.{Model, Mode}
use Rattle.rules.specs.Walk.{St, Mark, fresh, kept, replaced, Question, start}
use Rattle.rules.specs.Fold.{const_of}
use Rattle.rules.specs.Visit.{Ways, visit_top}
use Rattle.rules.specs.Whole.{ways_of, trivial, drop_next, judge_sequentials, Bads, Judgement, stay, drop, visit_all, judge_bad, noted, judge_bads, Folded, bads, last_question, fold_bads, fold}
use Rattle.rules.specs.Result.{node_words, const_words, mark_words, is_replaced, gather, question_words, result_words, size}
use Rattle.rules.specs.Room.{SpendRule, RoomRule}
use Rattle.btor.proofs.Agreement.{cases}
use Rattle.rules.proofs.Base.{If, if-bind, if-after, if-map}
use Rattle.rules.proofs.Budget.{unpaid-all}
use Rattle.rules.proofs.Walked.{folded}

gather-length : (c k p : ℕ) (f : ℕ → List ℕ) → ((i : ℕ) → length (f i) ≤ p) → length (gather c k f) ≤ c * p
unfolding gather
gather-length zero k p f h = omega arith
gather-length (suc c) k p f h = omega (arith, length-append (f k) (gather c (suc k) f), h k, gather-length c (suc k) p f h)

mark-length : (k : ℕ) (m : Mark) → length (mark_words k m) ≤ 2
mark-length k fresh = omega arith
mark-length k kept = omega arith
mark-length k (replaced r) = omega arith

pub question-length : (qs : List Question) → length (question_words qs) ≡ 4 * length qs
unfolding question_words
question-length [] = refl
question-length (q ∷ qs) = omega (arith, question-length qs)

-- ---- the kept lists are no longer than the given ones
sequentials-length : (t : List Node) (σ : St) (ss : List ℕ) → length (judge_sequentials t σ ss).1 ≤ length ss
unfolding judge_sequentials
sequentials-length t σ [] = omega arith
sequentials-length t σ (s ∷ ss) =
    cases (λ (r : St × List ℕ). length r.1 ≤ suc (length ss)) (trivial t (node_at t s))
    (λ _. omega (arith, sequentials-length t (drop_next t σ (node_at t s)) ss)) (λ _. omega (arith, sequentials-length t σ ss))

module _ (t : List Node) (ways : Ways) (solver terminate : Bool) (section : ℕ) where
  noted-length : (d : Judgement) (b : ℕ) (r : Bads) (n : ℕ) → length r.stay ≤ n → length (noted d b r).stay ≤ suc n
  noted-length stay b r n h = omega arith
  noted-length drop b r n h = omega arith

  abbrev Fewer : ℕ → Bads → Type 0
  Fewer n r = length r.stay ≤ n

  judged-length : (place : ℕ) (σ : St) (bs : List ℕ) → If (Fewer (length bs)) (judge_bads t ways solver terminate section place σ bs)
  unfolding judge_bads
  judged-length place σ [] = omega arith
  judged-length place σ (b ∷ bs) =
      if-after (Fewer (suc (length bs))) (visit_top t ways σ b) _
      (λ p. if-after (Fewer (suc (length bs))) (judge_bad t ways solver terminate section place p.0 (p.0.rows b).a (const_of p.0.rows (p.0.rows b).a)) _
      (λ q. if-bind (Fewer (length bs)) (Fewer (suc (length bs))) (judge_bads t ways solver terminate section (suc place) q.0 bs) _ (judged-length (suc place) q.0 bs)
      (λ r h. noted-length q.1 b r (length bs) h)))

module _ (m : Model) (how : Mode) where
  abbrev Short : List ℕ → Folded → Type 0
  Short seqs f = (length f.sequentials ≤ length seqs) × (length f.initial ≤ length m.initial) × (length f.later ≤ length m.later)

  bads-length : (solver terminate : Bool) (section : ℕ) (σ : St) (bs : List ℕ) → If (λ r. length r.stay ≤ length bs) (bads m how solver terminate section σ bs)
  bads-length solver terminate section σ bs = judged-length m.table (ways_of m how) solver terminate section 0 σ bs

  fold_bads-length : (q : Bool) (σ : St) (seqs : List ℕ) → If (Short seqs) (fold_bads m how q σ seqs)
  unfolding fold_bads
  fold_bads-length true σ seqs =
      if-bind (λ r. length r.stay ≤ length m.initial) (Short seqs) (bads m how false true 3 σ m.initial) _ (bads-length false true 3 σ m.initial)
      (λ i h. if-after (Short seqs) (last_question m how i.after i.stay) _ (λ p. (omega arith, h, omega arith)))
  fold_bads-length false σ seqs =
      if-bind (λ r. length r.stay ≤ length m.initial) (Short seqs) (bads m how true how.terminate 3 σ m.initial) _ (bads-length true how.terminate 3 σ m.initial)
      (λ i h. if-bind (λ r. length r.stay ≤ length m.later) (Short seqs) (bads m how true how.terminate 4 i.after m.later) _ (bads-length true how.terminate 4 i.after m.later)
      (λ r g. (omega arith, h, g)))

  fold-length : If (Short m.sequentials) (fold m how)
  unfolding fold
  fold-length =
      let t : List Node = m.table in
      let σ₀ : St = start t m.inputs m.replies in
      let j : St × List ℕ = judge_sequentials t σ₀ m.sequentials in
      if-after (Short m.sequentials) (visit_all t (ways_of m how) j.0 j.1) _
      (λ σ. if-map (Short j.1) (Short m.sequentials) (fold_bads m how how.one_query σ j.1)
      (λ f h. (omega (arith, h.0, sequentials-length t σ₀ m.sequentials), h.1, h.2)) (fold_bads-length how.one_query σ j.1))

pub sum_bound : (c : ℕ) (f : ℕ → ℕ) → ((i : ℕ) → f i ≤ 1) → sum c f ≤ c
unfolding sum
sum_bound zero f h = omega arith
sum_bound (suc c) f h = omega (arith, h c, sum_bound c f h)

mark_one : (m : Mark) → is_replaced m ≤ 1
mark_one fresh = omega arith
mark_one kept = omega arith
mark_one (replaced r) = omega arith

pub spend_rule : SpendRule
unfolding SpendRule
spend_rule m how f wf e =
    let w = folded m how wf f e in
    record {
      made = omega (arith, w.few, unpaid-all 1 (length m.table));
      replaced = sum_bound (length m.table) (λ k. is_replaced (f.state.mark k)) (λ i. mark_one (f.state.mark i));
      asked = omega (arith, w.asks, unpaid-all 3 (length m.table));
    }

pub room_rule : RoomRule
unfolding RoomRule SpendRule size result_words
room_rule m how f wf e =
    let n : ℕ = length m.table in
    let σ : St = f.state in
    let s = spend_rule m how f wf e in
    let b = (folded m how wf f e).fine.books in
    let i : length σ.inputs ≡ length m.inputs - length σ.held = ap length b.left ∙ length-drop (length σ.held) m.inputs in
    let h : Short m how m.sequentials f = subst (If (Short m how m.sequentials)) e (fold-length m how) in
    let g₁ = gather-length n 0 6 (λ k. node_words (σ.rows k)) (λ i. omega arith) in
    let g₂ = gather-length (2 + σ.made) n 2 (λ k. const_words (σ.rows k)) (λ i. omega arith) in
    let g₃ = gather-length n 0 2 (λ k. mark_words k (σ.mark k)) (λ i. mark-length i (σ.mark i)) in
    omega (arith, g₁, g₂, g₃, question-length σ.asked, s.made, s.asked, i, h.0, h.1, h.2)
