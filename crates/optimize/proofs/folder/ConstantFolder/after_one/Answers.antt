-- What fold_one says of the operand is recorded.
-- Assumes nothing.
use mathlib.Core.Path.{◌∙◌}
use Rattle.optimize.specs.Call.{ways_of}
use Rattle.optimize.specs.Folder.{count_in}
use Rattle.optimize.proofs.Finishes.{one_is}
use Rattle.optimize.proofs.folder.ConstantFolder.after_one.Goals as goal

pub returns-clause-settles : goal.returns-clause-settles
returns-clause-settles c =
    let f = c.args.self.now in
    λ h. c.settle.ensures.settles h ∙ one_is h f.call.given.now f.call.inputs.now f.call.replies.now f.res.now f.scratch.now f.walk (ways_of f.call) c.args.node c.args.rule c.args.x _ (c.fold_one-fold.ensures (count_in f) ∙ rw (c.word-sort.ensures, c.get_constant.ensures))
