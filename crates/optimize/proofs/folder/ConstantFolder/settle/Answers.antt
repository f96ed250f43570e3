-- What a fold is, a mark and, for a constant made, a constant before it record.
-- Assumes nothing.
use Prim.Native.Nat.{◌<◌}
use mathlib.Core.Path.{sym, subst}
use Rattle.optimize.specs.declared.call.Call.{Call}
use Rattle.optimize.specs.Bounds.{count_of}
use Rattle.optimize.specs.Folder.{given_in, seen}
use Rattle.optimize.specs.Call.{ways_of}
use Rattle.optimize.proofs.Steps.{settled-stays, settled_swap, settled_shared, settled_make, made-is}
use Rattle.optimize.proofs.folder.ConstantFolder.settle.Goals as goal

pub put_mark-requires-in-Make : goal.put_mark-requires-in-Make
put_mark-requires-in-Make c =
    subst (λ (d : Call). c.args.node < count_of d.given.now) (sym c.push.ensures.keeps.call) c.requires.node_bound

pub returns-in-Stays-clause-settles : goal.returns-in-Stays-clause-settles
returns-in-Stays-clause-settles c =
    let f = c.args.self.now in
    λ h. settled-stays (given_in f) (ways_of f.call) c.args.node _ (seen h f) _ c.in-Stays.is (c.put_mark.ensures.puts_mark h)

pub returns-in-Swap-clause-settles : goal.returns-in-Swap-clause-settles
returns-in-Swap-clause-settles c =
    let f = c.args.self.now in
    λ h. settled_swap (given_in f) (ways_of f.call) c.args.node _ (seen h f) _ _ c.in-Swap.is (c.put_mark-in-Swap.ensures.puts_mark h)

pub returns-in-Shared-clause-settles : goal.returns-in-Shared-clause-settles
returns-in-Shared-clause-settles c =
    let f = c.args.self.now in
    λ h. settled_shared (given_in f) (ways_of f.call) c.args.node _ (seen h f) _ _ _ _ c.in-Shared.is c.node_count.ensures.value c.from.ensures (c.put_mark-in-Shared.ensures.puts_mark h)

pub returns-in-Make-clause-settles : goal.returns-in-Make-clause-settles
returns-in-Make-clause-settles c =
    let f = c.args.self.now in
    λ h. settled_make (given_in f) (ways_of f.call) c.args.node _ (seen h f) _ _ _ _ _ c.in-Make.is c.node_count-in-Make.ensures.value (made-is h (given_in f) _ _ f.res.now f.scratch.now f.walk) (c.push.ensures.pushes h) (c.put_mark-in-Make.ensures.puts_mark h)
