-- `counts` is two stores.
-- Assumes nothing.
use mathlib.Core.Path.{refl, ◌∙◌}
use native.Mathlib.Omega.{arith}
use Prim.Native.Nat.{◌+◌}
use lib.ListN.{length-set, set}
use Rattle.optimize.specs.Bounds.{rows_end}
use Rattle.optimize.proofs.WriteLaws.{writes_by, wrote_counts}
use Rattle.optimize.proofs.result.ResultWords.counts.Goals as goal

pub returns-clause-writes : goal.returns-clause-writes
returns-clause-writes c =
    let u = c.args.self.now in
    let n = c.args.n in
    let size = length-set (set u.res.now 0 n) (rows_end n) (2 + c.args.made) ∙ length-set u.res.now 0 n in
    writes_by u _ _ (omega (arith, c.requires.0)) refl size (rw c.requires.0 (wrote_counts u.res.now n c.args.made c.requires.1 c.requires.3))
