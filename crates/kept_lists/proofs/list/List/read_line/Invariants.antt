-- The case grows only while it is shorter than the most.
use Rattle.std.proofs.Common.{◌≤◌, max, vec_len}
use Rattle.kept_lists.proofs.list.List.read_line.Given as goal

abbrev pub invariant-loop : goal.invariant-loop
invariant-loop g l = vec_len l.case ≤ max l.most (vec_len l.initial.case)
