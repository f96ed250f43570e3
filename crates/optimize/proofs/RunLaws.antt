-- The rules' fold, outcome by outcome.
-- Assumes nothing.
use Prim.Native.Nat.{ℕ}
use mathlib.Core.Path.{◌≡◌, refl, sym, ap, ◌∙◌}
use mathlib.Core.Bool.{true, false}
use mathlib.Core.List.{List, ◌++◌}
use Rattle.rules.specs.Refusal as rules
use Rattle.rules.specs.Refusal.{Out, refused, done, ◌>>=◌}
use Rattle.rules.specs.Model.{Model, Mode}
use Rattle.rules.specs.Walk.{St, start}
use Rattle.rules.specs.Whole.{Bads, bads, Folded, last_question, ways_of, judge_sequentials, visit_all, fold_bads, fold}
use Rattle.optimize.specs.LastQuestion.{forgotten}
use Rattle.optimize.specs.Runs.{bared}

-- ---- the rules' fold, outcome by outcome
module _ (m : Model) (how : Mode) where
  module _ (σ : St) (seqs : List ℕ) where
    -- what both lists leave
    abbrev judged : Bads → Bads → Folded
    judged i l = record { state = l.after; sequentials = seqs; initial = i.stay; later = l.stay; dropped = i.dropped ++ l.dropped; verdict = 0 }

    abbrev judge_later : Bads → Out Folded
    judge_later i = bads m how true how.terminate 4 i.after m.later >>= λ l. done (judged i l)

    pub first-refused : (z : rules.Refusal) → bads m how true how.terminate 3 σ m.initial ≡ refused z → fold_bads m how false σ seqs ≡ refused z
    unfolding fold_bads
    first-refused z e = ap (λ (o : Out Bads). o >>= judge_later) e

    module _ (i : Bads) (e : bads m how true how.terminate 3 σ m.initial ≡ done i) where
      then-later : fold_bads m how false σ seqs ≡ judge_later i
      unfolding fold_bads
      then-later = ap (λ (o : Out Bads). o >>= judge_later) e

      pub later-refused : (z : rules.Refusal) → bads m how true how.terminate 4 i.after m.later ≡ refused z → fold_bads m how false σ seqs ≡ refused z
      later-refused z d = then-later ∙ ap (λ (o : Out Bads). o >>= λ l. done (judged i l)) d

      pub both-judged : (l : Bads) → bads m how true how.terminate 4 i.after m.later ≡ done l
          → fold_bads m how false σ seqs ≡ done (judged i l)
      both-judged l d = then-later ∙ ap (λ (o : Out Bads). o >>= λ l. done (judged i l)) d

  module _ (σ₀ : St) (seqs : List ℕ) (e : judge_sequentials m.table (start m.table m.inputs m.replies) m.sequentials ≡ (σ₀, seqs)) where
    whole-fold : fold m how ≡ (visit_all m.table (ways_of m how) σ₀ seqs >>= λ σ. fold_bads m how how.one_query σ seqs)
    unfolding fold
    whole-fold = ap (λ (j : St × List ℕ). visit_all m.table (ways_of m how) j.0 j.1 >>= λ σ. fold_bads m how how.one_query σ j.1) e

    pub visit-refused : (z : rules.Refusal) → visit_all m.table (ways_of m how) σ₀ seqs ≡ refused z → fold m how ≡ refused z
    visit-refused z d = whole-fold ∙ ap (λ (o : Out St). o >>= λ σ. fold_bads m how how.one_query σ seqs) d

    pub visits-done : (σ : St) → visit_all m.table (ways_of m how) σ₀ seqs ≡ done σ → fold m how ≡ fold_bads m how how.one_query σ seqs
    visits-done σ d = whole-fold ∙ ap (λ (o : Out St). o >>= λ σ. fold_bads m how how.one_query σ seqs) d

-- ---- the same under one-query, with the last question
after-last : (o : Out (St × ℕ)) (seqs initial later dropped : List ℕ)
    → bared (o >>= λ p. done (record { state = p.0; sequentials = seqs; initial = initial; later = later; dropped = dropped; verdict = p.1 }))
    ≡ (forgotten o >>= λ p. done (record { state = p.0; sequentials = seqs; initial = initial; later = later; dropped = dropped; verdict = p.1 }))
after-last (refused z) seqs initial later dropped = refl
after-last (done p) seqs initial later dropped = refl

module _ (m : Model) (how : Mode) (σ : St) (seqs : List ℕ) where
  -- what the initial bads and the last question leave
  abbrev judged_once : Bads → St × ℕ → Out Folded
  judged_once i p = done (record { state = p.0; sequentials = seqs; initial = i.stay; later = m.later; dropped = i.dropped; verdict = p.1 })

  abbrev after_bads : Bads → Out Folded
  after_bads i = last_question m how i.after i.stay >>= judged_once i

  once_is : fold_bads m how true σ seqs ≡ (bads m how false true 3 σ m.initial >>= after_bads)
  unfolding fold_bads
  once_is = refl

  pub once-refused : (z : rules.Refusal) → bads m how false true 3 σ m.initial ≡ refused z → refused z ≡ bared (fold_bads m how true σ seqs)
  once-refused z e = sym (ap bared (once_is ∙ ap (λ (o : Out Bads). o >>= after_bads) e))

  pub once-last : (i : Bads) (o : Out (St × ℕ)) → bads m how false true 3 σ m.initial ≡ done i → o ≡ forgotten (last_question m how i.after i.stay)
      → (o >>= judged_once i) ≡ bared (fold_bads m how true σ seqs)
  once-last i o e d =
      ap (λ (o : Out (St × ℕ)). o >>= judged_once i) d
      ∙ sym (ap bared (once_is ∙ ap (λ (o : Out Bads). o >>= after_bads) e) ∙ after-last (last_question m how i.after i.stay) seqs i.stay m.later i.dropped)
