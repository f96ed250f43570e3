-- Joining the parts of a fold of the bads: the lists judged, the last question, and what the walk leaves where it is over.
-- Assumes nothing.
use Prim.Native.Nat.{ℕ}
use mathlib.Core.Path.{◌≡◌, sym, ap, ◌∙◌, subst}
use mathlib.Core.Bool.{true, false}
use mathlib.Core.List.{List, ◌++◌}
use native.Mathlib.Omega.{arith}
use lib.ListN.{length, take}
use Rattle.std.specs.Prelude.{Ok, Err}
use Rattle.std.specs.Borrow.{Bor}
use Rattle.rules.specs.Refusal.{Out}
use Rattle.rules.specs.Sections.{word_of}
use Rattle.rules.specs.Walk.{Held}
use Rattle.rules.specs.Whole.{Bads}
use Rattle.tables.specs.declared.refusal.Refusal.{Refusal}
use Rattle.tables.specs.Refusals.{refusal_of}
use Rattle.optimize.specs.declared.bads.Judging.{Judging}
use Rattle.optimize.specs.declared.last_question.Verdict.{Verdict}
use Rattle.optimize.specs.LastQuestion.{answered_of}
use Rattle.optimize.specs.declared.call.Call.{Call}
use Rattle.optimize.specs.declared.folder.ConstantFolder.{ConstantFolder}
use Rattle.optimize.specs.Bounds.{count_of}
use Rattle.optimize.specs.View.{Coded}
use Rattle.optimize.specs.Call.{mode_is, ways_of}
use Rattle.optimize.specs.Folder.{count_in, seen, Keeps, LaidIn}
use Rattle.optimize.specs.Bads.{judged_of, list_rule}
use Rattle.optimize.specs.Runs.{Over, model_by, bads_of, once_of, FoldsBads, FoldsOnce}
use Rattle.optimize.specs.ResultView.{folded_in}
use Rattle.optimize.specs.Clauses.{JudgesBads, AnswersLast}
use Rattle.optimize.proofs.Keeps.{codes_known}
use Rattle.optimize.proofs.RunLaws.{first-refused, later-refused, both-judged, once-refused, once-last}

-- how the lists are judged
abbrev pub by_solver : ConstantFolder → ℕ → Judging
by_solver f section = record { solver = true; terminate = f.call.mode.terminate; section = section }

abbrev pub by_condition : Judging
by_condition = record { solver = false; terminate = true; section = 3 }

-- ---- both lists
module _ (f f₁ : ConstantFolder) (initial later kept : List ℕ) where
  pub first_ends : (z : Refusal) → JudgesBads f f₁ (by_solver f 3) initial kept (Err z) → FoldsBads f f₁ initial later (Err z)
  unfolding judged_of bads_of
  first_ends z v = λ h ss seqs.
      let p = v h in
      (p.0, p.1, sym (first-refused (model_by f.call ss initial later) (mode_is f.call.mode) (seen h f) seqs (refusal_of z) (sym p.2)))

module _ (f f₁ f₂ : ConstantFolder) (initial later I L : List ℕ) (same : f₁.call ≡ f.call) (i : ℕ) (v : JudgesBads f f₁ (by_solver f 3) initial I (Ok i)) where
  -- the second list, judged from the state that the first left
  abbrev second_by : Call → List Held → Out Bads
  second_by c h = list_rule c.given.now (ways_of c) (by_solver f 4) 0 (seen h f₁) later

  pub later_ends : (z : Refusal) → JudgesBads f₁ f₂ (by_solver f 4) later L (Err z) → FoldsBads f f₂ initial later (Err z)
  unfolding judged_of bads_of
  later_ends z w = λ h ss seqs.
      let p = v h in
      let q = w p.0 in
      (q.0, p.1, sym (later-refused (model_by f.call ss initial later) (mode_is f.call.mode) (seen h f) seqs _ (sym p.2) (refusal_of z) (sym (q.2 ∙ ap (λ c. second_by c p.0) same))))

  pub both_end : (k : ℕ) → JudgesBads f₁ f₂ (by_solver f 4) later L (Ok k) → (a b : Bor (List ℕ)) → a.now ≡ take i I → b.now ≡ take k L → FoldsBads f f₂ initial later (Ok (a, b))
  unfolding judged_of bads_of folded_in
  both_end k w a b e₁ e₂ = λ h ss seqs.
      let p = v h in
      let q = w p.0 in
      (q.0, p.1 ++ q.1, rw (e₁, e₂) (sym (both-judged (model_by f.call ss initial later) (mode_is f.call.mode) (seen h f) seqs _ (sym p.2) _ (sym (q.2 ∙ ap (λ c. second_by c p.0) same)))))

-- ---- one-query
module _ (f f₁ : ConstantFolder) (initial kept : List ℕ) where
  pub once_first : (z : Refusal) → JudgesBads f f₁ by_condition initial kept (Err z) → FoldsOnce f f₁ initial (Err z)
  unfolding judged_of once_of
  once_first z v = λ h ss seqs later.
      let p = v h in
      (p.0, p.1, once-refused (model_by f.call ss initial later) (mode_is f.call.mode) (seen h f) seqs (refusal_of z) (sym p.2))

  module _ (f₂ : ConstantFolder) (same : f₁.call ≡ f.call) (i : ℕ) (v : JudgesBads f f₁ by_condition initial kept (Ok i)) where
    pub once_last : (z : Refusal) → AnswersLast f₁ f₂ (take i kept) (Err z) → FoldsOnce f f₂ initial (Err z)
    unfolding judged_of once_of answered_of
    once_last z w = λ h ss seqs later.
        let p = v h in
        (p.0, p.1, once-last (model_by f.call ss initial later) (mode_is f.call.mode) (seen h f) seqs _ _ (sym p.2) (w p.0 (model_by f.call ss initial later) (mode_is f.call.mode) (ap (λ (c : Call). length c.replies.now) (sym same))))

    pub once_end : (verdict : Verdict) → AnswersLast f₁ f₂ (take i kept) (Ok verdict) → (a : Bor (List ℕ)) → a.now ≡ take i kept → FoldsOnce f f₂ initial (Ok (a, verdict))
    unfolding judged_of once_of answered_of folded_in
    once_end verdict w a e = λ h ss seqs later.
        let p = v h in
        (p.0, p.1, rw e (once-last (model_by f.call ss initial later) (mode_is f.call.mode) (seen h f) seqs _ _ (sym p.2) (w p.0 (model_by f.call ss initial later) (mode_is f.call.mode) (ap (λ (c : Call). length c.replies.now) (sym same)))))

-- ---- where the walk is over
pub over-laid : (f : ConstantFolder) → LaidIn f → Over f
over-laid f l = codes_known f.call.given.now f.call.dumps.now f.call.inputs.now f.call.replies.now (mode_is f.call.mode) 0 f.res.now f.scratch.now f.walk f.call.table.legal l

pub over-asked : (f f' : ConstantFolder) → LaidIn f → Keeps f f' → f'.res.now ≡ f.res.now → Over f'
over-asked f f' l k e =
    let c : count_in f' ≡ count_in f = ap (λ (c : Call). count_of c.given.now) k.call in
    λ v b. subst (λ (R : List ℕ). Coded (word_of R v 0)) (sym e) (over-laid f l v (omega (arith, c)))
