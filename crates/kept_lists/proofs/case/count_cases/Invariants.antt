-- Each case takes a byte of the list at least, so what is left falls, and there are no more cases than bytes.
use Rattle.std.proofs.Common.{length, ◌≤◌, ◌+◌}
use Rattle.kept_lists.proofs.case.count_cases.Given as goal

abbrev pub decreases-loop-rest : goal.decreases-loop-rest
decreases-loop-rest g l = length l.rest

abbrev pub invariant-loop-rest : goal.invariant-loop-rest
invariant-loop-rest g l = (l.tally.wrong ≤ l.tally.cases) × (l.tally.cases + length l.rest ≤ length l.list)
