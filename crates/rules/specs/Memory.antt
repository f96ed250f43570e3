-- The walk down the Writes of a Read at a constant address (docs/FORMAT.md, "Reads"; find_in_memory of optimize.rs).
--     Found    the value that a write holds, if one holds the address; writes looked at; unsettled writes passed
--     find     the walk
-- Assumes nothing.
use Rattle.std.specs.Prelude.{ℕ, zero, suc, ◌+◌, true, false, cond, eqb}
use Rattle.std.proofs.Math.Option.{Option, none, some}
use Rattle.btor.specs.Operators.{Reading, rust, standard}
use Rattle.rules.specs.Table.{Write, Node, is}
use Rattle.rules.specs.Fold.{Fold, stays, swap, const_of}

pub record Found : Type 0 where
  pub value : Option ℕ
  pub looked : ℕ
  pub unsettled : ℕ

-- "At anything but a Write the walk gives up, and the Read stays."
abbrev pub lost : Found
lost = record { value = none; looked = 0; unsettled = 0 }

-- "At a Write whose address is a constant with the same number it has found its value"; it is counted, "the hit too"
abbrev pub hit : ℕ → Found
hit v = record { value = some v; looked = 1; unsettled = 0 }

-- "Any other Write is passed": one more looked at, and u more unsettled
abbrev pub past : ℕ → Found → Found
past u r = record { value = r.value; looked = r.looked + 1; unsettled = r.unsettled + u }

-- "also one whose address is no constant, which is called unsettled"; the standard's reading would give up there
abbrev pub meet_unsettled : Reading → Found → Found
meet_unsettled rust r = past 1 r
meet_unsettled standard r = record { value = none; looked = 1; unsettled = 0 }

-- at a write of the value v, whose address is a constant or none; r is what the walk finds below it
abbrev pub meet : Reading → ℕ → ℕ → Option ℕ → Found → Found
meet how x v none r = meet_unsettled how r
meet how x v (some y) r = cond (eqb y x) (hit v) (past 0 r)

unfoldable pub look_at : Reading → (ℕ → Node) → (ℕ → Found) → ℕ → Node → Found
look_at how rows go x nd = elim (is Write nd) [ true ↦ meet how x nd.c (const_of rows nd.b) (go nd.a) | false ↦ lost ]

-- "A Read whose address is a constant walks down from its memory, as the rows stand at that moment."; the length of the table is fuel enough
unfoldable pub find : Reading → ℕ → (ℕ → Node) → ℕ → ℕ → Found
find how zero rows x m = lost
find how (suc f) rows x m = look_at how rows (find how f rows x) x (rows m)

-- "what stands in the Write's row as the value replaces the Read, as it stands"
abbrev pub fold_found : Option ℕ → Fold
fold_found none = stays
fold_found (some v) = swap v

-- "The unsettled Writes that it passed are counted only where it found a value."
abbrev pub passed_by : Option ℕ → ℕ → ℕ
passed_by none u = 0
passed_by (some v) u = u
