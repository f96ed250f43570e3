-- A bad is visited, then judged by its rewritten condition.
-- Assumes nothing.
use native.Mathlib.Omega.{arith}
use Rattle.optimize.proofs.Asks.{raised}
use Rattle.optimize.proofs.Keeps.{keeps_then}
use Rattle.optimize.proofs.BadLaws.{retain_refused, retain_done, laid_judged, spare_judged, bad-inside}
use Rattle.optimize.proofs.Keeps.{spare-visited}
use Rattle.optimize.proofs.folder.ConstantFolder.should_retain_bad_state.Goals as goal
use Rattle.optimize.proofs.folder.ConstantFolder.should_retain_bad_state.Goals.{After-judge_bad}
use Rattle.optimize.specs.Clauses.{RetainsBad}

retained : (c : After-judge_bad) → RetainsBad c.args.self.now c.judge_bad.new.self c.args.how c.args.place c.args.bad c.judge_bad.result
retained c =
    retain_done c.args.self.now c.visit.new.self c.args.how c.args.place c.args.bad _ c.visit.ensures.walks _ c.in_ok-visit.was c.visit.ensures.keeps.call (bad-inside _ _ c.requires.entry) _ c.condition_of-condition.ensures c.judge_bad.new.self c.judge_bad.result c.judge_bad.ensures.judges_bad

pub visit-requires-clause-node_bound : goal.visit-requires-clause-node_bound
visit-requires-clause-node_bound c = bad-inside _ _ c.requires.entry

pub returns-in_err-visit-clause-retains_bad : goal.returns-in_err-visit-clause-retains_bad
returns-in_err-visit-clause-retains_bad c =
    rw (raised c.from_residual.result c.in_err-visit.field-0.0 c.from_residual.ensures.1)
    (retain_refused c.args.self.now _ c.args.how c.args.place c.args.bad _ c.visit.ensures.walks _ c.in_err-visit.was)

pub condition_of-condition-requires : goal.condition_of-condition-requires
condition_of-condition-requires c =
    omega (arith, bad-inside _ _ c.requires.entry, c.args.self.now.room, c.visit.ensures.keeps.res_length)

pub judge_bad-requires : goal.judge_bad-requires
judge_bad-requires c =
    let spare = spare-visited c.args.self.now c.visit.new.self c.args.bad c.in_ok-visit.field-0 c.visit.ensures.keeps c.requires.laid (bad-inside _ _ c.requires.entry) c.in_ok-visit.ensures.walks 1 c.requires.spare in
    omega (arith, spare)

pub returns-clause-retains_bad : goal.returns-clause-retains_bad
returns-clause-retains_bad c = retained c

pub returns-clause-laid : goal.returns-clause-laid
returns-clause-laid c = laid_judged c.args.self.now c.judge_bad.new.self c.args.how c.args.place c.args.bad c.requires.laid c.requires.entry (keeps_then _ _ _ c.visit.ensures.keeps c.judge_bad.ensures.keeps) c.judge_bad.result (retained c) c.requires.spare

pub returns-clause-spare : goal.returns-clause-spare
returns-clause-spare c = spare_judged c.args.self.now c.judge_bad.new.self c.args.how c.args.place c.args.bad c.requires.laid c.requires.entry (keeps_then _ _ _ c.visit.ensures.keeps c.judge_bad.ensures.keeps) c.judge_bad.result (retained c)
