-- A mark put is the state's mark set.
-- Assumes nothing.
use mathlib.Core.Path.{refl, ap, ◌∙◌}
use native.Mathlib.Omega.{arith}
use Rattle.rules.specs.Walk.{set_mark}
use Rattle.optimize.specs.Folder.{seen}
use Rattle.optimize.proofs.Stores.{marked}
use Rattle.optimize.proofs.folder.ConstantFolder.put_mark.Goals as goal

pub returns-clause-puts_mark : goal.returns-clause-puts_mark
returns-clause-puts_mark c =
    let f = c.args.self.now in
    λ h. marked h f.call.given.now _ _ f.res.now f.scratch.now f.walk _ _ _ _ _ c.node_count-n.ensures.value refl c.requires (omega (arith, c.node_count-n.ensures.value, c.requires, f.asks))
    ∙ ap (set_mark (seen h f) c.args.node) c.from-word.ensures
