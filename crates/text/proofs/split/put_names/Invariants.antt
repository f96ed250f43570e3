-- `put_names` meets its contract. The invariant: the count and the values passed stand at the front.
-- Assumes nothing.
use mathlib.Core.Path.{◌≡◌}
use lib.ListN.{take}
use Rattle.rules.specs.Refusal.{done}
use Rattle.text.specs.Front.{on_front}
use Rattle.text.specs.Splitting.{counted}
use Rattle.text.proofs.split.put_names.Given as goal

abbrev pub invariant-loop-i : goal.invariant-loop-i
invariant-loop-i l = l.out ≡ on_front (done (counted l.count (take l.i l.values))) l.initial.out
