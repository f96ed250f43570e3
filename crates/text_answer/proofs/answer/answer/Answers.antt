-- `answer` meets its contract: there is room for every refusal, so all of it is printed, on the buffer as it was.
-- Assumes nothing.
use mathlib.Core.Path.{sym, ap, subst}
use native.Mathlib.Omega.{arith}
use Rattle.rules.specs.Text.{printed}
use Rattle.text.specs.Reading.{answer_of}
use Rattle.text_answer.specs.Answering.{Shown, answer_after}
use Rattle.text_answer.proofs.Answering.{shown_at, shown_as}
use Rattle.text_answer.proofs.answer.answer.Goals as goal

pub returns-in-Err : goal.returns-in-Err
returns-in-Err c =
    let print = c.print_refused.ensures in
    let kept = c.in-Err.ensures in
    subst (λ entry. Shown entry c.print_refused.new.out c.unwrap.result (printed (answer_after (answer_of c.args.read c.args.numbers.now)))) kept.1
    (shown_as (ap printed (sym kept.0)) (shown_at _ _ _ _ _ c.unwrap.ensures print.result_after (print.room (omega arith))))
