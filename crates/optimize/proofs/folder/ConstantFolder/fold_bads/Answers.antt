-- The bads of one list, then those of the other.
-- Assumes nothing.
use Prim.Native.Nat.{◌+◌}
use mathlib.Core.Path.{refl}
use native.Mathlib.Omega.{arith}
use lib.ListN.{length}
use Rattle.optimize.proofs.Asks.{raised}
use Rattle.optimize.proofs.BadLaws.{spare-less}
use Rattle.optimize.proofs.BadsJoined.{first_ends, later_ends, both_end, over-laid}
use Rattle.optimize.proofs.folder.ConstantFolder.fold_bads.Goals as goal

pub returns-in_err-staying-clause-folds_bads : goal.returns-in_err-staying-clause-folds_bads
returns-in_err-staying-clause-folds_bads c =
    rw (raised c.from_residual.result c.in_err-staying.field-0.0 c.from_residual.ensures.1)
    (first_ends c.args.self.now c.judge_bads.new.self c.args.initial.now c.args.later.now _ _ c.in_err-staying.ensures.judges_bads)

pub judge_bads-requires-2-clause-spare : goal.judge_bads-requires-2-clause-spare
judge_bads-requires-2-clause-spare c =
    spare-less c.judge_bads.new.self (length c.args.later.now + 1) (length c.args.later.now) (omega arith) (c.in_ok-staying.ensures.spare (length c.args.later.now + 1) c.requires.underway.spare)

pub returns-in_err-remaining-clause-folds_bads : goal.returns-in_err-remaining-clause-folds_bads
returns-in_err-remaining-clause-folds_bads c =
    rw (raised c.from_residual-in_err-remaining.result c.in_err-remaining.field-0.0 c.from_residual-in_err-remaining.ensures.1)
    (later_ends c.args.self.now c.judge_bads.new.self c.judge_bads-2.new.self c.args.initial.now c.args.later.now c.judge_bads.new.kept c.judge_bads-2.new.kept c.judge_bads.ensures.keeps.call c.in_ok-staying.staying c.in_ok-staying.ensures.judges_bads _ c.in_err-remaining.ensures.judges_bads)

pub returns-clause-folds_bads : goal.returns-clause-folds_bads
returns-clause-folds_bads c =
    both_end c.args.self.now c.judge_bads.new.self c.judge_bads-2.new.self c.args.initial.now c.args.later.now c.judge_bads.new.kept c.judge_bads-2.new.kept c.judge_bads.ensures.keeps.call c.in_ok-staying.staying c.in_ok-staying.ensures.judges_bads c.in_ok-remaining.remaining c.in_ok-remaining.ensures.judges_bads _ _ refl refl

pub returns-clause-over : goal.returns-clause-over
returns-clause-over c =
    over-laid c.judge_bads-2.new.self c.in_ok-remaining.ensures.laid
