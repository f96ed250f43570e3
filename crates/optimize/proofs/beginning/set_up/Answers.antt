-- `set_up` leaves the state at the start of the walk: by SetUpLaws, from what the copies and the clearing leave.
-- Assumes nothing.
use Rattle.optimize.proofs.SetUpLaws.{set_up_left}
use Rattle.optimize.proofs.beginning.set_up.Goals as goal

pub returns : goal.returns
returns c =
    set_up_left c.args.call.given.now c.args.res.now c.args.scratch.now _ _ _ _ _ c.args.call.table c.requires c.node_count-n.ensures.value c.copy_from_slice.ensures.after c.copy_from_slice-2.ensures.after (c.fill.ensures.after (λ y e. e))
