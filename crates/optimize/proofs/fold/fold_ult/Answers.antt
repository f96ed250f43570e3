-- `fold_ult` compares two constants.
-- Assumes nothing.
use mathlib.Core.Path.{◌∙◌}
use Rattle.std.proofs.Common.{rules}
use Rattle.btor.specs.Operators.{less}
use Rattle.rules.specs.Fold.{shared}
use Rattle.optimize.specs.View.{constant_is}
use Rattle.optimize.proofs.FoldLaws.{test_by}
use Rattle.optimize.proofs.fold.fold_ult.Goals as goal

pub returns : goal.returns
returns c = λ n. c.fold_constants.ensures n (λ x y. shared n (less x y)) (λ x y r p. let q = p in search rules) ∙ test_by n less (constant_is c.args.left) (constant_is c.args.right)
