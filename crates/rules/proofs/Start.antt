-- The rows at the start: the table's as given, then the two shared constants.
-- Assumes nothing.
use Prim.Native.Nat.{ℕ, ◌+◌, ◌<◌}
use mathlib.Core.Path.{◌≡◌}
use mathlib.Core.List.{List, [], ◌∷◌}
use lib.ListN.{length, get_or, get_or-append}
use lib.Seq.{get_or-append-add}
use Rattle.rules.specs.Table.{Node, constant, unknown, node_at}
use Rattle.rules.specs.Walk.{start_rows}

pub given-row : (t : List Node) (k : ℕ) → k < length t → start_rows t k ≡ node_at t k
given-row t k l = get_or-append t (constant 1 0 ∷ constant 1 1 ∷ []) unknown k l

pub new_row : (t : List Node) (i : ℕ) → start_rows t (length t + i) ≡ get_or (constant 1 0 ∷ constant 1 1 ∷ []) i unknown
new_row t i = get_or-append-add t (constant 1 0 ∷ constant 1 1 ∷ []) i unknown
