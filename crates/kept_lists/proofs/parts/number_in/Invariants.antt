-- The bytes passed are digits, and the value is their number.
use Rattle.kept_lists.proofs.Digits.{Passed}
use Rattle.kept_lists.proofs.parts.number_in.Given as goal

abbrev pub invariant-loop-b : goal.invariant-loop-b
invariant-loop-b l = Passed l.digits l.b-index l.value
