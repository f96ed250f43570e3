-- `mark_names`: the rest is what follows so many names, and their marks are right.
-- Assumes nothing.
use Prim.Native.Nat.{ℕ, ◌+◌, ◌<◌}
use mathlib.Core.Path.{◌≡◌}
use lib.ListN.{get_or, drop}
use Rattle.rules.specs.Limits.{house}
use Rattle.rules.specs.Names.{length_place}
use Rattle.tables.specs.NameAnswers.{dump_mark}
use Rattle.tables.proofs.names.mark_names.Given as goal

abbrev pub invariant-loop-mark : goal.invariant-loop-mark
invariant-loop-mark l =
    (l.rest ≡ drop (length_place l.mark-index l.names 2) l.names) × ((k : ℕ) → k < l.mark-index → get_or l.marks k 0 ≡ dump_mark house l.names (k + 1))
