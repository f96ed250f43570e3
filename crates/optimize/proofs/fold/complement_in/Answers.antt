-- `complement_in` has the complement within the sort's width, and 0 where the code names no sort.
-- Assumes nothing.
use mathlib.Core.Path.{sym}
use Rattle.std.proofs.Common.{rules}
use Rattle.optimize.proofs.FoldLaws.{complement-named}
use Rattle.optimize.proofs.fold.complement_in.Goals as goal

pub returns : goal.returns
returns c = complement-named c.args.sort c.args.value _ _ (λ s p. let q = p in search rules) _ (sym c.try_from.ensures) c.map_or.ensures
