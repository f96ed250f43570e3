-- `lists` is three lists.
-- Assumes nothing.
use native.Mathlib.Omega.{arith}
use Rattle.optimize.proofs.WriteLaws.{writes_then}
use Rattle.optimize.proofs.result.ResultWords.lists.Goals as goal

pub list-requires-2 : goal.list-requires-2
list-requires-2 c = omega (arith, c.list.ensures.size, c.list.ensures.place)

pub list-requires-3 : goal.list-requires-3
list-requires-3 c =
    omega (arith, c.list.ensures.size, c.list.ensures.place, c.list-2.ensures.size, c.list-2.ensures.place)

pub returns-clause-writes : goal.returns-clause-writes
returns-clause-writes c =
    writes_then _ _ _ _ _ c.list.ensures (writes_then _ _ _ _ _ c.list-2.ensures c.list-3.ensures)

pub returns-clause-place : goal.returns-clause-place
returns-clause-place c =
    omega (arith, c.list.ensures.place, c.list-2.ensures.place, c.list-3.ensures.place)
