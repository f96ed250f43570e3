-- Of so many cases no more are wrong, and there are no more cases than turns.
use Rattle.std.proofs.Common.{◌≤◌}
use Rattle.kept_lists.proofs.streamed.count_streamed.Given as goal

abbrev pub invariant-loop : goal.invariant-loop
invariant-loop g l = (l.tally.wrong ≤ l.tally.cases) × (l.tally.cases ≤ l.counter)
