-- What is put behind the case and what is left are no more than the count.
use Rattle.std.proofs.Common.{◌≤◌, ◌+◌, vec_len}
use Rattle.kept_lists.proofs.list.List.put_bytes.Given as goal

abbrev pub invariant-loop : goal.invariant-loop
invariant-loop g l = vec_len l.case + l.left ≤ vec_len l.initial.case + l.count
