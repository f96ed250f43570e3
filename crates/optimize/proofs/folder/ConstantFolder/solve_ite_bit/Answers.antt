-- What the questions of an Ite gave, one after the other, is recorded.
-- Assumes nothing.
use mathlib.Core.Path.{◌∙◌}
use Rattle.optimize.specs.Folder.{given_in, count_in, seen}
use Rattle.optimize.specs.declared.fold.Folded.{Folded}
use Rattle.optimize.specs.Call.{ways_of}
use Rattle.optimize.proofs.Asks.{chain-stop, chain-next, settled-stop, solved-settles, raised}
use Rattle.optimize.proofs.folder.ConstantFolder.solve_ite_bit.Goals as goal

pub returns-in_err-bit-clause-settles : goal.returns-in_err-bit-clause-settles
returns-in_err-bit-clause-settles c =
    let f = c.args.self.now in
    rw (raised c.from_residual.result c.in_err-bit.field-0.0 c.from_residual.ensures.1) (λ h. settled-stop (count_in f) (given_in f) (ways_of f.call) c.args.node _ _ _ _ (chain-stop (count_in f) _ _ _ _ _ _ _ (seen h c.ask_bit.new.self) _ (c.in_err-bit.ensures.solves h)))

pub returns-in_err-solved-clause-settles : goal.returns-in_err-solved-clause-settles
returns-in_err-solved-clause-settles c =
    let f = c.args.self.now in
    let e = c.from_residual-in_err-solved in
    rw (raised e.result c.in_err-solved.field-0.0 e.ensures.1) (λ h. settled-stop (count_in f) (given_in f) (ways_of f.call) c.args.node _ _ _ _ (chain-next f c.ask_bit.new.self c.then_ask.new.self c.in_ok-bit.ensures.keeps.call _ _ _ (Folded.Swap c.args.x) _ _ _ h (c.in_ok-bit.ensures.solves h) (c.in_err-solved.ensures.solves h)))

pub returns-clause-settles : goal.returns-clause-settles
returns-clause-settles c =
    let f = c.args.self.now in
    λ h. solved-settles f c.then_ask.new.self c.settle.new.self (c.in_ok-solved.ensures.keeps.call ∙ c.in_ok-bit.ensures.keeps.call) c.args.node _ _ _ h (chain-next f c.ask_bit.new.self c.then_ask.new.self c.in_ok-bit.ensures.keeps.call _ _ _ (Folded.Swap c.args.x) _ _ _ h (c.in_ok-bit.ensures.solves h) (c.in_ok-solved.ensures.solves h)) (c.settle.ensures.settles h)
