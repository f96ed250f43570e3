-- `put_names` meets its contract. The invariant: the count and the values passed stand at the front.
-- Assumes nothing.
use native.Mathlib.Omega.{arith}
use Rattle.text.proofs.Splitting.{byte_at, value_put}
use Rattle.text.proofs.split.put_names.Goals as goal

pub loop-i-preserved : goal.loop-i-preserved
loop-i-preserved c = value_put c.loop-i.out _ c.args.values.now c.args.count c.loop-i.i c.loop-i.invariant c.loop-i-test.true (omega (arith, c.requires.1))

pub overflow_cast-out : goal.overflow_cast-out
overflow_cast-out c = record { fits = byte_at c.args.values.now c.loop-i.i c.requires.2 c.loop-i-test.true }
