-- A constant pushed is one more constant of the state.
-- Assumes nothing.
use native.Mathlib.Omega.{arith}
use Rattle.optimize.proofs.Stores.{pushed}
use Rattle.optimize.proofs.folder.ConstantFolder.push.Goals as goal

pub returns-clause-pushes : goal.returns-clause-pushes
returns-clause-pushes c =
    let f = c.args.self.now in
    λ h. pushed h f.call.given.now _ _ f.res.now f.scratch.now f.walk _ _ _ c.node_count-n.ensures.value (omega (arith, c.node_count-n.ensures.value, f.room, c.requires))
