-- The bads are judged one by one; what the rules make of the list is what they make of the rest, after those that stay.
-- Assumes nothing.
use Prim.Native.Nat.{◌+◌, ◌-◌}
use mathlib.Core.Path.{refl}
use native.Mathlib.Omega.{arith}
use lib.ListN.{length, take}
use Rattle.optimize.proofs.Asks.{raised}
use Rattle.optimize.proofs.Keeps.{keeps_none, keeps_then}
use Rattle.optimize.proofs.BadLaws.{bads_none, bads-on, bads-stop, bads_end, entry-kept, entry-none, spare-less}
use Rattle.optimize.proofs.folder.ConstantFolder.judge_bads.Goals as goal
use Rattle.optimize.proofs.folder.ConstantFolder.judge_bads.Goals.{then-stays, else-stays}

pub loop-place-init : goal.loop-place-init
loop-place-init c =
    record {
      keeps = keeps_none c.args.self.now;
      laid = c.requires.laid;
      few = omega arith;
      spare = λ d s. spare-less c.args.self.now (length c.args.bads.now + d) (length c.args.bads.now - 0 + d) (omega arith) s;
      judged = bads_none c.args.self.now c.args.how c.args.bads.now _ refl;
    }

pub should_retain_bad_state-requires-clause-spare :
    goal.should_retain_bad_state-requires-clause-spare
should_retain_bad_state-requires-clause-spare c =
    spare-less c.loop-place.self (length c.args.bads.now - c.loop-place.place + 0) 1 (omega arith)
    (c.loop-place.invariant.spare 0 (spare-less c.args.self.now (length c.args.bads.now) (length c.args.bads.now + 0) (omega arith) c.requires.spare))

pub returns-in_err-stays-clause-judges_bads :
    goal.returns-in_err-stays-clause-judges_bads
returns-in_err-stays-clause-judges_bads c =
    rw (raised c.from_residual.result c.in_err-stays.field-0.0 c.from_residual.ensures.1)
    (bads-stop c.args.self.now c.loop-place.self c.should_retain_bad_state.new.self c.args.how c.args.bads.now c.loop-place.place _ c.loop-place.invariant.keeps.call refl (omega arith) _ c.loop-place.invariant.judged _ c.in_err-stays.ensures.retains_bad c.loop-place.kept)

pub loop-place-preserved : goal.loop-place-preserved
loop-place-preserved c =
    record {
      keeps = keeps_then _ _ _ c.loop-place.invariant.keeps c.should_retain_bad_state.ensures.keeps;
      laid = c.in_ok-stays.ensures.laid;
      few = elim c.if-stays.branch [ then-stays w ↦ omega (arith, w.count-is, c.loop-place.invariant.few) | else-stays w ↦ omega (arith, w.count-is, c.loop-place.invariant.few) ];
      spare = λ d s. c.in_ok-stays.ensures.spare (length c.args.bads.now - (c.loop-place.place + 1) + d)
          (spare-less c.loop-place.self (length c.args.bads.now - c.loop-place.place + d) (length c.args.bads.now - (c.loop-place.place + 1) + d + 1) (omega arith) (c.loop-place.invariant.spare d s));
      judged = bads-on c.args.self.now c.loop-place.self c.should_retain_bad_state.new.self c.args.how c.args.bads.now c.loop-place.place _ c.loop-place.invariant.keeps.call refl (omega arith) (take c.loop-place.count c.loop-place.kept) c.loop-place.invariant.judged c.in_ok-stays.stays c.in_ok-stays.ensures.retains_bad _
          (elim c.if-stays.branch [
            | then-stays w ↦ entry-kept c.loop-place.kept c.if-stays.kept c.loop-place.count c.if-stays.count _ _ c.in_ok-stays.stays w.if-stays.true (omega (arith, c.loop-place.invariant.few, c.requires.room)) refl w.kept-is w.count-is
            | else-stays w ↦ entry-none c.loop-place.kept c.if-stays.kept c.loop-place.count c.if-stays.count _ c.in_ok-stays.stays w.if-stays.false w.kept-is w.count-is
          ]);
    }

pub returns-clause-judges_bads : goal.returns-clause-judges_bads
returns-clause-judges_bads c =
    bads_end c.args.self.now c.loop-place.self c.args.how c.args.bads.now c.loop-place.kept c.loop-place.place c.loop-place.count (omega arith) c.loop-place.invariant.judged

pub returns-clause-spare : goal.returns-clause-spare
returns-clause-spare c =
    λ d s. spare-less c.loop-place.self (length c.args.bads.now - c.loop-place.place + d) d (omega arith) (c.loop-place.invariant.spare d s)
