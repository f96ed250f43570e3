-- The first question's yes or refusal ends the asking, else the second decides.
-- Assumes nothing.
use mathlib.Core.Path.{◌∙◌}
use Rattle.std.specs.Prelude.{false}
use lib.ListN.{length}
use Rattle.optimize.specs.declared.fold.Folded.{Folded}
use Rattle.optimize.specs.Folder.{count_in, seen}
use Rattle.optimize.proofs.Asks.{chain-stop, chain-next, chain_bit, raised}
use Rattle.optimize.proofs.folder.ConstantFolder.ask_bit.Goals as goal

pub returns-in_err-first-clause-solves : goal.returns-in_err-first-clause-solves
returns-in_err-first-clause-solves c =
    let f = c.args.self.now in
    rw (raised c.from_residual.result c.in_err-first.field-0.0 c.from_residual.ensures.1) (λ h. chain-stop (count_in f) _ _ _ _ _ _ _ _ _ (c.in_err-first.ensures.solves h) ∙ chain_bit (length f.call.replies.now) (count_in f) c.args.node (seen h f))

pub returns-clause-solves : goal.returns-clause-solves
returns-clause-solves c =
    let f = c.args.self.now in
    λ h. chain-next f c.ask_or.new.self c.then_ask.new.self c.in_ok-first.ensures.keeps.call _ _ _ (Folded.Shared false) _ _ _ h (c.in_ok-first.ensures.solves h) (c.then_ask.ensures.solves h) ∙ chain_bit (length f.call.replies.now) (count_in f) c.args.node (seen h f)
