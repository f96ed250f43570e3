-- `judge_lengths` meets its contract. The invariant: the names that are left have the fault that all have.
-- Assumes nothing.
use Prim.Native.Nat.{◌-◌}
use mathlib.Core.Path.{◌≡◌}
use Rattle.rules.specs.Limits.{house}
use Rattle.rules.proofs.NameWalk.{fault, fault_from}
use Rattle.text.specs.Splitting.{cut_all}
use Rattle.text.proofs.split.judge_lengths.Given as goal

abbrev pub invariant-loop : goal.invariant-loop
invariant-loop l = fault_from house l.rest (l.count - l.counter) 0 ≡ fault (cut_all house l.count l.values)
