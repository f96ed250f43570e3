-- `fold_any_binary` makes one number of two, of the node's sort.
-- Assumes nothing.
use mathlib.Core.Path.{◌∙◌}
use Rattle.std.proofs.Common.{rules}
use Rattle.rules.specs.Fold.{make}
use Rattle.optimize.proofs.FoldLaws.{words_by}
use Rattle.optimize.proofs.fold.fold_any_binary.Goals as goal

pub returns : goal.returns
returns g c = λ n f by. c.fold_constants.ensures n (λ x y. make c.args.sort (f x y)) (λ x y r p. let q = p in search rules) ∙ words_by c.args.sort f _ _
