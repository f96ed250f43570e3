-- A yes gives the fold, any other reply leaves the node as it stays.
-- Assumes nothing.
use mathlib.Core.Path.{refl, ap}
use Rattle.optimize.specs.Process.{reply_is}
use Rattle.optimize.specs.Folder.{count_in, seen}
use Rattle.optimize.proofs.Asks.{stop_in, yes_in, no_in, no-yes, raised}
use Rattle.optimize.proofs.folder.ConstantFolder.ask_or.Goals as goal

pub returns-in_err-reply-clause-solves : goal.returns-in_err-reply-clause-solves
returns-in_err-reply-clause-solves c =
    rw (raised c.from_residual.result c.in_err-reply.field-0.0 c.from_residual.ensures.1) (λ h. stop_in (count_in c.args.self.now) (seen h c.args.self.now) _ _ _ _ _ _ _ (c.in_err-reply.ensures.asks h))

pub returns-in-Yes-clause-solves : goal.returns-in-Yes-clause-solves
returns-in-Yes-clause-solves c =
    λ h. yes_in (count_in c.args.self.now) (seen h c.args.self.now) _ _ _ _ _ _ _ _ (c.in_ok-reply.ensures.asks h) (ap reply_is c.in-Yes.is) refl

pub returns-in_default-clause-solves : goal.returns-in_default-clause-solves
returns-in_default-clause-solves c =
    λ h. no_in (count_in c.args.self.now) (seen h c.args.self.now) _ _ _ _ _ _ _ (c.in_ok-reply.ensures.asks h) (no-yes _ c.in_default.not-Yes)
