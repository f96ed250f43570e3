-- `all_ones` has the sort's ones, and 0 where the code names no sort.
-- Assumes nothing.
use mathlib.Core.Path.{sym}
use Rattle.std.proofs.Common.{rules}
use Rattle.optimize.proofs.FoldLaws.{ones-named}
use Rattle.optimize.proofs.fold.all_ones.Goals as goal

pub returns : goal.returns
returns c = ones-named c.args.sort _ _ (λ s p. let q = p in search rules) _ (sym c.try_from.ensures) c.map_or.ensures
