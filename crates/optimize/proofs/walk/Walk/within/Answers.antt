-- The state has the same inputs and replies left.
-- Assumes nothing.
use Rattle.optimize.proofs.EndLaws.{least-left, same-counted}
use Rattle.optimize.proofs.walk.Walk.within.Goals as goal

pub returns-clause-state : goal.returns-clause-state
returns-clause-state c =
    λ h g R S. same-counted h g c.args.call.inputs.now c.args.call.replies.now R S c.args.self _ _ (least-left _ _ _ c.min.ensures) (least-left _ _ _ c.min-2.ensures)
