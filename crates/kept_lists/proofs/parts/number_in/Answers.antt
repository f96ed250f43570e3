-- `number_in` reads decimal digits alone, and the number that they have.
-- Assumes nothing.
use mathlib.Core.Path.{refl}
use native.Mathlib.Omega.{arith}
use Rattle.std.proofs.Common.{rules}
use Rattle.kept_lists.proofs.Digits.{digits-next, digits-stop, digits-whole}
use Rattle.kept_lists.proofs.parts.number_in.Goals as goal

pub loop-b-init : goal.loop-b-init
loop-b-init c = record { digits = tt; number = refl; small = omega arith }

pub loop-b-preserved : goal.loop-b-preserved
loop-b-preserved c =
    let k = c.in-Ok.ensures in
    digits-next c.args.digits.now c.loop-b.b-index c.loop-b.value c.loop-b.invariant c.loop-b-test.true k.0 c.in-Ok.next k.1

pub returns-in_default : goal.returns-in_default
returns-in_default c =
    digits-stop c.args.digits.now c.loop-b.b-index c.loop-b.value c.loop-b.invariant c.loop-b-test.true (search rules)

pub returns : goal.returns
returns c = digits-whole c.args.digits.now c.loop-b.b-index c.loop-b.value c.loop-b.invariant (omega (arith, c.loop-b-test.false)) (search rules)
