-- `find_in_memory` keeps the invariant Searched: each look is a step of the rules' walk. The measure is the fuel that is left.
-- Assumes nothing.
use native.Mathlib.Omega.{arith}
use Rattle.optimize.proofs.SearchLaws.{search_start, search_settled, search_unsettled, hit_within, search_hit, stop_within, search_stop, search_end}
use Rattle.optimize.proofs.folder.ConstantFolder.find_in_memory.Goals as goal
use Rattle.optimize.proofs.folder.ConstantFolder.find_in_memory.Goals.{in-Settled, in-Unsettled}

pub loop-value-init : goal.loop-value-init
loop-value-init c = search_start _ _ _ _ _ _

pub loop-value-smaller : goal.loop-value-smaller
loop-value-smaller c =
    elim c.match-look_at.branch [
      | in-Settled w ↦
          let q = (search_settled _ _ _ _ _ _ _ _ _ c.loop-value.invariant _ c.look_at.ensures _ _ _ w.in-Settled.is w.at-is w.passed-is).within in
          omega arith
      | in-Unsettled w ↦
          let q = (search_unsettled _ _ _ _ _ _ _ _ _ c.loop-value.invariant _ c.look_at.ensures _ _ _ w.in-Unsettled.is w.at-is w.passed-is).within in
          omega arith
    ]

pub loop-value-preserved : goal.loop-value-preserved
loop-value-preserved c =
    elim c.match-look_at.branch [
      | in-Settled w ↦ search_settled _ _ _ _ _ _ _ _ _ c.loop-value.invariant _ c.look_at.ensures _ _ _ w.in-Settled.is w.at-is w.passed-is
      | in-Unsettled w ↦ search_unsettled _ _ _ _ _ _ _ _ _ c.loop-value.invariant _ c.look_at.ensures _ _ _ w.in-Unsettled.is w.at-is w.passed-is
    ]

pub returns-in-End : goal.returns-in-End
returns-in-End c =
    record {
      result_value = search_end _ _ _ _ _ _ _ _ _ c.loop-value.invariant _ c.look_at.ensures c.in-End.is;
      looked_bound = (c.loop-value.invariant.within, c.loop-value.invariant.among);
    }

pub returns-in-Hit : goal.returns-in-Hit
returns-in-Hit c =
    record {
      result_value = search_hit _ _ _ _ _ _ _ _ _ c.loop-value.invariant _ c.look_at.ensures _ c.in-Hit.is;
      looked_bound = (hit_within _ _ _ _ _ _ _ _ _ c.loop-value.invariant _ c.look_at.ensures _ c.in-Hit.is, omega (arith, c.loop-value.invariant.among));
    }

pub returns-in-Stop : goal.returns-in-Stop
returns-in-Stop c =
    record {
      result_value = search_stop _ _ _ _ _ _ _ _ _ c.loop-value.invariant _ c.look_at.ensures c.in-Stop.is;
      looked_bound = (stop_within _ _ _ _ _ _ _ _ _ c.loop-value.invariant _ c.look_at.ensures c.in-Stop.is, omega (arith, c.loop-value.invariant.among));
    }
