-- `judge_known`: what an operand breaks is the first that the node breaks, as rule 3 holds.
-- Assumes nothing.
use mathlib.Core.Path.{◌≡◌, sym, ap, ◌∙◌}
use borrow.Author.Rules.{rules}
use Rattle.std.specs.Prelude.{Err}
use Rattle.tables.specs.Refusals.{refusal_of}
use Rattle.tables.specs.NodeAnswers.{node_is}
use Rattle.tables.specs.Judging.{judged_of, nodes_of}
use Rattle.tables.proofs.JudgeLaws.{operands_stop}
use Rattle.tables.proofs.table.Table.judge_known.Goals as goal

pub returns-in_err-judge_operands_of : goal.returns-in_err-judge_operands_of
returns-in_err-judge_operands_of c =
    let a = c.args in
    let why = c.in_err-judge_operands_of.field-0.0 in
    let same : c.from_residual.result ≡ Err why = search rules in
    rw same (
    operands_stop a.names (nodes_of a.self) a.node (node_is a.known) (refusal_of why) (sym c.is_formed.ensures ∙ c.if-not-is_formed.false)
    (sym c.judge_operands_of.ensures ∙ ap judged_of c.in_err-judge_operands_of.was)
    )
