-- Judged, then folded: both answers of `judge` leave what the rules leave.
-- Assumes nothing.
use mathlib.Core.Path.{ap, ◌∙◌}
use lib.ListN.{length}
use Rattle.optimize.specs.Entries.{answered, entry_is}
use Rattle.optimize.proofs.EntryLaws.{in_order, refused-left}
use Rattle.optimize.proofs.optimize.optimize.Goals as goal

pub fold_judged-requires : goal.fold_judged-requires
fold_judged-requires c =
    let ws = c.args.words.now in
    let bs = c.args.names.now in
    let room = length c.args.res.now in
    let scratch = length c.args.scratch.now in
    let judged = rw c.house.ensures at c.in-Ok.ensures.result_value in
    let cut = rw c.house.ensures at c.in-Ok.ensures.cut in
    in_order c.args.mode ws bs room scratch c.in-Ok.accepted judged cut

pub returns-in-Err : goal.returns-in-Err
returns-in-Err c =
    let ws = c.args.words.now in
    let bs = c.args.names.now in
    let room = length c.args.res.now in
    let scratch = length c.args.scratch.now in
    let judged = rw c.house.ensures at c.in-Err.ensures.result_value in
    let refused = refused-left (entry_is c.args.entry) c.args.mode ws bs room scratch c.in-Err.refusal judged in
    record {
      result_value = ap answered c.finish_call.ensures.value ∙ refused.0;
      res_after = c.finish_call.ensures.res_after ∙ refused.1;
      scratch_after = c.finish_call.ensures.scratch_after ∙ refused.2;
    }
