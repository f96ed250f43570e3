-- `judge_marked`: the marks tell which states were listed, as far as they reach, and what is left to judge is what there was.
-- Assumes nothing.
use mathlib.Core.Path.{◌≡◌}
use lib.ListN.{take, drop}
use Rattle.rules.specs.Check.{check_sequentials}
use Rattle.tables.specs.Judging.{nodes_of, states_of, Marks, sequentials_in}
use Rattle.tables.proofs.table.Table.judge_marked.Given as goal

abbrev pub invariant-loop-place : goal.invariant-loop-place
invariant-loop-place l =
    Marks (states_of (nodes_of l.self) (take l.place l.sequentials)) l.seen
    × (check_sequentials (nodes_of l.self) l.place (states_of (nodes_of l.self) (take l.place l.sequentials)) (drop l.place l.sequentials) ≡ sequentials_in l.self.words.now l.self.sections)
