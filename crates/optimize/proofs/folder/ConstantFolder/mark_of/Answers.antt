-- What the two words of a node say.
-- Assumes nothing.
use mathlib.Core.Path.{ap, sym, ◌∙◌}
use Prim.Native.Nat.{◌+◌}
use lib.ListN.{get_or}
use Rattle.optimize.specs.Folder.{count_in}
use Rattle.optimize.specs.View.{mark_by}
use Rattle.optimize.proofs.Views.{mark-below}
use Rattle.optimize.proofs.folder.ConstantFolder.mark_of.Goals as goal

pub returns : goal.returns
returns c =
    let S = c.args.self.now.scratch.now in
    let k = c.args.node in
    c.from.ensures ∙ ap (λ n. mark_by (get_or S k 0) (get_or S (n + k) 0)) c.node_count-n.ensures.value ∙ sym (mark-below (count_in c.args.self.now) S k c.requires)
