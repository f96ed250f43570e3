-- What the walk hands back of a call in order is what the rules leave.
-- Assumes nothing.
use mathlib.Core.Path.{ap, ◌∙◌}
use Rattle.tables.specs.Judging.{call_with}
use lib.ListN.{length}
use Rattle.optimize.specs.Entries.{answered, entry_is}
use Rattle.optimize.proofs.EntryLaws.{parts_ready, parts_left, scratch-left, table}
use Rattle.optimize.proofs.optimize.fold_judged.Goals as goal

pub invariant_of-call : goal.invariant_of-call
invariant_of-call c =
    let call = call_with c.args.mode c.args.words.now c.args.names.now (length c.args.res.now) (length c.args.scratch.now) in
    record { table = table call c.args.sections c.requires _ c.mark_memory_dumps.ensures.by_index }

pub cut-requires : goal.cut-requires
cut-requires c = c.requires.is_cut.inside

pub run-outcome-requires : goal.run-outcome-requires
run-outcome-requires c =
    let call = call_with c.args.mode c.args.words.now c.args.names.now (length c.args.res.now) (length c.args.scratch.now) in
    parts_ready call c.args.sections c.requires _ c.mark_memory_dumps.ensures.by_index (entry_is c.args.entry) _ _ c.cut.result c.cut.ensures (rw c.brings_inputs.ensures at c.brought.ensures)

pub returns : goal.returns
returns c =
    let call = call_with c.args.mode c.args.words.now c.args.names.now (length c.args.res.now) (length c.args.scratch.now) in
    let e = entry_is c.args.entry in
    let inputs = rw c.brings_inputs.ensures at c.brought.ensures in
    let replies = rw c.brings_replies.ensures at c.brought-2.ensures in
    let left = parts_left call c.args.sections c.requires _ c.mark_memory_dumps.ensures.by_index e _ _ c.cut.result c.cut.ensures inputs replies _ c.from.ensures _ _ c.run-outcome.auto.res c.run-outcome.ensures in
    record {
      result_value = ap answered c.finish_call.ensures.value ∙ left.0;
      res_after = c.finish_call.ensures.res_after ∙ left.1;
      scratch_after = c.finish_call.ensures.scratch_after ∙ scratch-left e call _ c.run-outcome.auto.scratch;
    }
