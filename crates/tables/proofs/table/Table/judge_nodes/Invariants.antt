-- `judge_nodes`: what is left to judge, from the node on, is what there was to judge.
-- Assumes nothing.
use mathlib.Core.Path.{◌≡◌}
use lib.ListN.{drop}
use Rattle.rules.specs.Check.{check_nodes}
use Rattle.tables.specs.Judging.{rows_of, nodes_of}
use Rattle.tables.proofs.table.Table.judge_nodes.Given as goal

abbrev pub invariant-loop-node : goal.invariant-loop-node
invariant-loop-node l = check_nodes l.names (nodes_of l.self) l.node (drop l.node (rows_of l.self)) ≡ check_nodes l.names (nodes_of l.self) 0 (rows_of l.self)
