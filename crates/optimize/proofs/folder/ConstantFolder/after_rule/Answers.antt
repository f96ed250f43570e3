-- What fold_two says of the operands is recorded, or asked about.
-- Assumes nothing.
use mathlib.Core.Path.{refl, ◌∙◌}
use Rattle.optimize.specs.Call.{ways_of}
use Rattle.optimize.specs.Folder.{count_in}
use Rattle.optimize.proofs.Finishes.{rule_is}
use Rattle.optimize.proofs.folder.ConstantFolder.after_rule.Goals as goal

pub returns-clause-settles : goal.returns-clause-settles
returns-clause-settles c =
    let f = c.args.self.now in
    λ h. c.finish.ensures.settles h ∙ rule_is h f.call.given.now f.call.inputs.now f.call.replies.now f.res.now f.scratch.now f.walk (ways_of f.call) c.args.node c.args.rule c.args.x c.args.y _ _ _ refl (c.fold_two-fold.ensures (count_in f) ∙ rw (c.word-sort.ensures, c.get_constant-left.ensures, c.get_constant-right.ensures)) (c.asks_bit.ensures ∙ rw c.word-sort.ensures)
