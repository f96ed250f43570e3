-- `judge_nodes` judges node after node.
-- Assumes nothing.
use mathlib.Core.Path.{◌≡◌, sym, ap, ◌∙◌}
use native.Mathlib.Omega.{arith}
use borrow.Author.Rules.{rules}
use Rattle.std.specs.Prelude.{Err}
use Rattle.tables.specs.Refusals.{refusal_of}
use Rattle.tables.specs.Judging.{judged_of, rows_of, nodes_of}
use Rattle.tables.proofs.JudgeLaws.{rows-count, nodes-pass, nodes-stop, nodes_end}
use Rattle.tables.proofs.table.Table.judge_nodes.Goals as goal

pub loop-node-preserved : goal.loop-node-preserved
loop-node-preserved c =
    let t = c.args.self in
    let all = rows-count t.words.now t.sections in
    nodes-pass c.args.names (nodes_of t) (rows_of t) c.loop-node.node (omega (arith, all)) (sym c.judge_node.ensures ∙ ap judged_of c.in_ok-judge_node.was)
    ∙ c.loop-node.invariant

pub returns-in_err-judge_node : goal.returns-in_err-judge_node
returns-in_err-judge_node c =
    let t = c.args.self in
    let all = rows-count t.words.now t.sections in
    let why = c.in_err-judge_node.field-0.0 in
    let same : c.from_residual.result ≡ Err why = search rules in
    rw same (
    nodes-stop c.args.names (nodes_of t) (rows_of t) c.loop-node.node (refusal_of why) (omega (arith, all)) (sym c.judge_node.ensures ∙ ap judged_of c.in_err-judge_node.was)
    ∙ c.loop-node.invariant
    )

pub returns : goal.returns
returns c =
    let t = c.args.self in
    let all = rows-count t.words.now t.sections in
    sym (nodes_end c.args.names (nodes_of t) (rows_of t) c.loop-node.node (omega (arith, all))) ∙ c.loop-node.invariant
