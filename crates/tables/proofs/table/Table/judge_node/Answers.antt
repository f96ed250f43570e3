-- `judge_node` tells the first rule that the node breaks.
-- Assumes nothing.
use mathlib.Core.Path.{◌≡◌, sym, ap, ◌∙◌}
use lib.ListN.{get_or}
use Rattle.rules.specs.Check.{check_node}
use Rattle.tables.specs.NodeAnswers.{row_is, node_is, row_unknown}
use Rattle.tables.specs.Judging.{rows_of, nodes_of}
use Rattle.tables.proofs.JudgeLaws.{row_in, kind_unknown, broken_is}
use Rattle.tables.proofs.table.Table.judge_node.Goals as goal
use Rattle.tables.proofs.table.Table.judge_node.Goals.{After-row_at}

-- the row that was read is the table's
here : (c : After-row_at) → row_is c.row_at.result ≡ get_or (rows_of c.args.self) c.args.node row_unknown
here c =
    let t = c.args.self in
    c.row_at.ensures ∙ sym (row_in t.words.now t.sections t.inside c.args.node c.requires)

pub returns-in-Ok : goal.returns-in-Ok
returns-in-Ok c =
    let t = nodes_of c.args.self in
    c.judge_known.ensures
    ∙ broken_is c.args.names t c.args.node (row_is c.row_at.result) (node_is c.in-Ok.known) c.in-Ok.ensures
    ∙ ap (check_node c.args.names t c.args.node) (here (goal.at.returns-in-Ok c).After-row_at)

pub returns-in-Err : goal.returns-in-Err
returns-in-Err c =
    let t = nodes_of c.args.self in
    kind_unknown c.args.names t c.args.node (row_is c.row_at.result) c.in-Err.ensures
    ∙ ap (check_node c.args.names t c.args.node) (here (goal.at.returns-in-Err c).After-row_at)
