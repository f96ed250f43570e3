-- The sequentials are judged from the start of the walk, then the model is folded, and the result written.
-- Assumes nothing.
use mathlib.Core.Path.{sym, ◌∙◌}
use native.Mathlib.Omega.{arith}
use Rattle.std.proofs.Common.{rules}
use Rattle.optimize.proofs.Asks.{raised}
use Rattle.optimize.proofs.RunJoined.{runs_refused, runs_done}
use Rattle.optimize.proofs.run.run.Goals as goal

pub returns-in_err-kept : goal.returns-in_err-kept
returns-in_err-kept c =
    rw (raised c.from_residual.result c.in_err-kept.field-0.0 c.from_residual.ensures.1)
    (runs_refused c.judge_sequentials-count.new.self _ c.args.lists c.args.call c.judge_sequentials-count.ensures.keeps.call _ c.in_err-kept.ensures.folds _ _)

pub returns : goal.returns
returns c =
    let judged = c.judge_sequentials-count.ensures.keeps in
    let still = sym (c.fold.ensures.keeps.res ∙ judged.res) in
    let size = judged.res_length in
    runs_done c.judge_sequentials-count.new.self c.fold.new.self c.args.lists c.args.call judged.call c.fold.ensures.keeps c.in_ok-kept.kept c.in_ok-kept.verdict c.in_ok-kept.ensures.folds
    _ _ _ _ (omega (arith, size, c.set_up.auto.res)) c.write_result.ensures (search rules)
