-- What the questions of a bit gave is recorded.
-- Assumes nothing.
use Rattle.optimize.specs.Folder.{given_in, count_in}
use Rattle.optimize.specs.Call.{ways_of}
use Rattle.optimize.proofs.Asks.{settled-stop, solved-settles, raised}
use Rattle.optimize.proofs.folder.ConstantFolder.solve_boolean_binary.Goals as goal

pub returns-in_err-solved-clause-settles : goal.returns-in_err-solved-clause-settles
returns-in_err-solved-clause-settles c =
    let f = c.args.self.now in
    rw (raised c.from_residual.result c.in_err-solved.field-0.0 c.from_residual.ensures.1) (λ h. settled-stop (count_in f) (given_in f) (ways_of f.call) c.args.node _ _ _ _ (c.in_err-solved.ensures.solves h))

pub returns-clause-settles : goal.returns-clause-settles
returns-clause-settles c =
    λ h. solved-settles c.args.self.now c.ask_bit.new.self c.settle.new.self c.in_ok-solved.ensures.keeps.call c.args.node _ _ _ h (c.in_ok-solved.ensures.solves h) (c.settle.ensures.settles h)
