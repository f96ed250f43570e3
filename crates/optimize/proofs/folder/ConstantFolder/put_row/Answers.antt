-- Three stores make the row with its new operands.
-- Assumes nothing.
use mathlib.Core.Path.{refl}
use native.Mathlib.Omega.{arith}
use Rattle.optimize.proofs.Stores.{rowed}
use Rattle.optimize.proofs.Keeps.{ready-kept, ready-room}
use Rattle.optimize.proofs.folder.ConstantFolder.put_row.Goals as goal

pub returns-clause-puts_row : goal.returns-clause-puts_row
returns-clause-puts_row c =
    let f = c.args.self.now in
    λ h. rowed h f.call.given.now _ _ f.res.now f.scratch.now f.walk _ _ _ _ _ _ _ c.requires.inside (omega (arith, c.requires.inside, f.room)) (ready-kept f c.args.node c.requires) refl refl refl

pub returns-clause-room : goal.returns-clause-room
returns-clause-room c = ready-room c.args.self.now c.args.node c.requires
