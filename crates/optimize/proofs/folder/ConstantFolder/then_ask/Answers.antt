-- A fold that was found ends the asking.
-- Assumes nothing.
use mathlib.Core.Path.{◌∙◌}
use Rattle.optimize.specs.Folder.{count_in, seen}
use native.Mathlib.Omega.{arith}
use Rattle.std.proofs.lemmas.Grind.{common_steps}
use Rattle.optimize.proofs.Asks.{over-in, ask-goes}
use Rattle.optimize.proofs.folder.ConstantFolder.then_ask.Goals as goal

pub returns-then-ne-clause-solves : goal.returns-then-ne-clause-solves
returns-then-ne-clause-solves c =
    λ h. over-in (count_in c.args.self.now) (seen h c.args.self.now) (seen h c.args.self.now) _ _ _ _ _ c.args.before (grind (arith, common_steps))

pub returns-clause-solves : goal.returns-clause-solves
returns-clause-solves c =
    λ h. c.ask_or.ensures.solves h ∙ ask-goes _ _ _ _ _ _ _ (grind (arith, common_steps))
