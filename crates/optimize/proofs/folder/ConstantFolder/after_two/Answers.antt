-- By what the node does with its operands: its rule's fold, or the Read's.
-- Assumes nothing.
use mathlib.Core.Path.{◌∙◌}
use Rattle.optimize.proofs.Finishes.{two-folds, two_reads}
use Rattle.optimize.proofs.folder.ConstantFolder.after_two.Goals as goal

pub returns-in-Folds-clause-settles : goal.returns-in-Folds-clause-settles
returns-in-Folds-clause-settles c =
    λ h. c.after_rule.ensures.settles h ∙ two-folds _ _ _ _ _ _ _ _ c.in-Folds.is

pub returns-in-Reads-clause-settles : goal.returns-in-Reads-clause-settles
returns-in-Reads-clause-settles c =
    λ h. c.read.ensures.settles h ∙ two_reads _ _ _ _ _ _ _ c.in-Reads.is
