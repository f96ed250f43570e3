-- `cut_names`: the place is within the bytes, and what the names that are left come to is what the bytes come to.
-- Assumes nothing.
use Prim.Native.Nat.{◌-◌, ◌≤◌}
use mathlib.Core.Path.{◌≡◌}
use lib.ListN.{length, drop}
use Rattle.tables.specs.LimitAnswers.{limits_is}
use Rattle.tables.specs.NameAnswers.{names_count}
use Rattle.tables.proofs.NameLaws.{judged}
use Rattle.tables.proofs.names.cut_names.Given as goal

abbrev pub invariant-loop : goal.invariant-loop
invariant-loop l = (l.at ≤ length l.names) × (judged (limits_is l.limits) l.count (l.count - l.counter) (drop l.at l.names) ≡ names_count (limits_is l.limits) l.names)
