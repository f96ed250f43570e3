-- Judging a list of bads: the rules' steps in the code's order, and what its answers are in the rules' terms.
--     Spare                 room for so many more questions than the nodes may ask, and for the words in reserve
--     visited_rule           the rules' judgement of a bad by what its visit came to
--     retain_rule, list_rule  their judgement of a bad, of a list           retained_of, judged_of   the outcomes
-- Assumes nothing.
use Rattle.std.specs.Prelude.{ℕ, ◌+◌, ◌*◌, ◌≤◌, Bool, true, false, List, length, take, Result, Ok, Err}
use Rattle.rules.specs.Refusal.{Out, refused, done, ◌>>=◌}
use Rattle.rules.specs.Room.{unpaid}
use Rattle.rules.specs.Walk.{St}
use Rattle.rules.specs.Fold.{const_of}
use Rattle.rules.specs.Visit.{Ways, visit_top}
use Rattle.rules.specs.Whole as whole
use Rattle.rules.specs.Whole.{Bads, Judgement, by_reply, judge_bad}
use Rattle.tables.specs.Refusals.{refusal_of}
use Rattle.optimize.specs.declared.walk.Walk.{Walk}
use Rattle.optimize.specs.declared.bads.Judging.{Judging}
use Rattle.optimize.specs.declared.folder.ConstantFolder.{ConstantFolder}
use Rattle.tables.specs.declared.refusal.Refusal.{Refusal}
use Rattle.optimize.specs.Bounds.{count_of}
use Rattle.optimize.specs.View.{table_of, mark_of}
use Rattle.optimize.specs.Folder.{given_in}

abbrev pub Spare : ℕ → List ℕ → List ℕ → Walk → ℕ → Type 0
Spare reserve g S w c = 2 * count_of g + 4 * (w.asked + unpaid (λ k. 3) (count_of g) (mark_of (count_of g) S) + c) + reserve ≤ length S

abbrev pub SpareIn : ConstantFolder → ℕ → Type 0
SpareIn f c = Spare 0 (given_in f) f.scratch.now f.walk c

abbrev pub judgement : Bool → Judgement
judgement true = whole.stay
judgement false = whole.drop

unfoldable pub retained_of : St → Result Bool Refusal → Out (St × Judgement)
retained_of σ (Ok stays) = done (σ, judgement stays)
retained_of σ (Err r) = refused (refusal_of r)

module _ (g : List ℕ) (ways : Ways) (how : Judging) (place : ℕ) where
  abbrev pub reply_rule : St → ℕ → Out (St × Judgement)
  reply_rule σ r = by_reply (table_of g) ways how.solver how.terminate how.section place σ r

  abbrev pub bad_rule : St → ℕ → Out (St × Judgement)
  bad_rule σ c = judge_bad (table_of g) ways how.solver how.terminate how.section place σ c (const_of σ.rows c)

  -- by what the bad's visit came to
  abbrev pub visited_rule : ℕ → Out (St × ℕ) → Out (St × Judgement)
  visited_rule b o = o >>= λ p. bad_rule p.0 (p.0.rows b).a

  abbrev pub retain_rule : ℕ → St → Out (St × Judgement)
  retain_rule b σ = visited_rule b (visit_top (table_of g) ways σ b)

  abbrev pub list_rule : St → List ℕ → Out Bads
  list_rule σ bs = whole.judge_bads (table_of g) ways how.solver how.terminate how.section place σ bs

-- the bads that stay stand at the start of a list; the bads dropped lie in no buffer
unfoldable pub judged_of : List ℕ → St → List ℕ → Result ℕ Refusal → Out Bads
judged_of dropped σ list (Ok count) = done (record { after = σ; stay = take count list; dropped = dropped })
judged_of dropped σ list (Err r) = refused (refusal_of r)
