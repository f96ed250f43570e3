-- `judge_lengths` meets its contract: a name more that is within its limit, and whole.
-- Assumes nothing.
use Prim.Native.Nat.{◌-◌}
use native.Mathlib.Omega.{arith}
use lib.ListN.{length, drop, length-drop}
use lib.Seq.{take_all}
use Rattle.text.proofs.Splitting.{lengths_over, lengths_short, lengths_next}
use Rattle.text.proofs.split.judge_lengths.Goals as goal

pub returns-then-size-from : goal.returns-then-size-from
returns-then-size-from c = lengths_over _ _ _ _ c.loop.invariant (omega arith) _ _ c.in-Some.ensures.cases.0 (omega arith)

pub returns-then-size-after : goal.returns-then-size-after
returns-then-size-after c = lengths_short _ _ _ _ c.loop.invariant (omega arith) _ _ c.in-Some.ensures.cases.0 (omega arith) (omega arith)

pub loop-preserved : goal.loop-preserved
loop-preserved c =
    let after = c.in-Some.after.now in
    let size = c.in-Some.field-0-0.now in
    let part = take_all (length after - size) (drop size after) (omega (arith, length-drop size after)) in
    lengths_next _ _ _ _ c.loop.invariant (omega arith) _ _ c.in-Some.ensures.cases.0 _ _ part (omega arith) (omega arith) (omega arith)
