-- The number of a constant: a row of the table with Const's code, or one of the constants made.
-- Assumes nothing.
use mathlib.Core.Path.{◌∙◌}
use native.Mathlib.Omega.{arith}
use Rattle.optimize.proofs.RowLaws.{constant-row, constant-made, constant-none}
use Rattle.optimize.proofs.folder.ConstantFolder.get_constant.Goals as goal

pub returns-then-at-n : goal.returns-then-at-n
returns-then-at-n c = c.row_constant.ensures ∙ constant-row _ _ _ _ (omega arith)

pub returns-then-j-self : goal.returns-then-j-self
returns-then-j-self c =
    rw c.node_count-n.ensures.value (constant-made _ _ _ _ (omega arith) (omega arith))

pub returns : goal.returns
returns c = constant-none _ _ _ _ (omega arith) (omega arith)
