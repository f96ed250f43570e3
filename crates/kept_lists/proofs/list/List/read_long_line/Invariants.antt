-- The case grows only while it is shorter than the most; what is kept of its front is no longer than that front.
use Rattle.std.proofs.Common.{◌≤◌, max, vec_len}
use Rattle.kept_lists.proofs.list.List.read_long_line.Given as goal

abbrev pub invariant-loop-byte : goal.invariant-loop-byte
invariant-loop-byte g l = vec_len l.short ≤ l.byte-index

abbrev pub invariant-loop : goal.invariant-loop
invariant-loop g l = vec_len l.case ≤ max l.most (vec_len l.initial.case)
