-- `print_call` meets its contract: there is room for every result, so all of it is printed.
-- Assumes nothing.
use mathlib.Core.Path.{◌≡◌, refl, sym, ap, ◌∙◌}
use native.Mathlib.Omega.{arith}
use Rattle.std.proofs.Common.{rules}
use Rattle.std.specs.Prelude.{Err}
use Rattle.optimize.specs.Entries.{answered}
use Rattle.text_answer.specs.Answering.{call_of}
use Rattle.text_answer.proofs.Answering.{shown_at, shown_as, call_done, call_refused}
use Rattle.text_answer.proofs.answer.print_call.Goals as goal

pub returns-in_err-optimize_model_impl : goal.returns-in_err-optimize_model_impl
returns-in_err-optimize_model_impl c =
    let why = c.in_err-optimize_model_impl.field-0.0 in
    let same : c.from_residual.result ≡ Err why = search rules in
    let left = c.optimize_model_impl.ensures in
    rw same (call_refused (call_of c.args.mode c.args.words.now c.args.names.now) why (ap answered (sym c.in_err-optimize_model_impl.was) ∙ left.result_value), refl)

pub returns : goal.returns
returns c =
    let left = c.optimize_model_impl.ensures in
    let print = c.print_accepted.ensures in
    shown_as (call_done (call_of c.args.mode c.args.words.now c.args.names.now) c.in_ok-optimize_model_impl.field-0 _ (ap answered (sym c.in_ok-optimize_model_impl.was) ∙ left.result_value) left.res_after)
    (shown_at _ _ _ _ _ c.unwrap.ensures print.result_after (print.room (omega arith)))
