-- The initial bads, then the last question about those that stay.
-- Assumes nothing.
use mathlib.Core.Path.{refl}
use native.Mathlib.Omega.{arith}
use Rattle.optimize.proofs.Asks.{raised}
use Rattle.optimize.proofs.BadsJoined.{once_first, once_last, once_end, over-asked}
use Rattle.optimize.proofs.folder.ConstantFolder.fold_once.Goals as goal

pub returns-in_err-staying-clause-folds_once : goal.returns-in_err-staying-clause-folds_once
returns-in_err-staying-clause-folds_once c =
    rw (raised c.from_residual.result c.in_err-staying.field-0.0 c.from_residual.ensures.1)
    (once_first c.args.self.now c.judge_bads.new.self c.args.initial.now c.judge_bads.new.kept _ c.in_err-staying.ensures.judges_bads)

pub put_last_question-requires : goal.put_last_question-requires
put_last_question-requires c =
    let laid = c.in_ok-staying.ensures.laid in
    let spare = c.in_ok-staying.ensures.spare 1 c.requires.underway.spare in
    omega (arith, spare)

pub returns-in_err-verdict-clause-folds_once : goal.returns-in_err-verdict-clause-folds_once
returns-in_err-verdict-clause-folds_once c =
    rw (raised c.from_residual-in_err-verdict.result c.in_err-verdict.field-0.0 c.from_residual-in_err-verdict.ensures.1)
    (once_last c.args.self.now c.judge_bads.new.self c.args.initial.now c.judge_bads.new.kept c.put_last_question.new.self c.judge_bads.ensures.keeps.call c.in_ok-staying.staying c.in_ok-staying.ensures.judges_bads _ c.in_err-verdict.ensures.answers_last)

pub returns-clause-folds_once : goal.returns-clause-folds_once
returns-clause-folds_once c =
    once_end c.args.self.now c.judge_bads.new.self c.args.initial.now c.judge_bads.new.kept c.put_last_question.new.self c.judge_bads.ensures.keeps.call c.in_ok-staying.staying c.in_ok-staying.ensures.judges_bads c.in_ok-verdict.verdict c.in_ok-verdict.ensures.answers_last _ refl

pub returns-clause-over : goal.returns-clause-over
returns-clause-over c =
    over-asked c.judge_bads.new.self c.put_last_question.new.self c.in_ok-staying.ensures.laid c.put_last_question.ensures.keeps c.put_last_question.ensures.result_stays
