-- The number, section and position of each refusal (docs/FORMAT.md, "Refusals").
--     refusal_of   what a case stands for       RefusalsListed   each case has a number of the rules' list, so none has 0 or 9
--     refusal_by   the case by its number, section and position
-- Assumes nothing.
use Rattle.std.specs.Prelude.{ℕ, true, false, List, [], ◌∷◌, get_or, eqb}
use Rattle.rules.specs.Refusal as rules
use Rattle.rules.specs.Numbered.{IsReason}
use Rattle.tables.specs.declared.refusal.Refusal.{Refusal}
use Rattle.tables.specs.declared.refusal.Refusal.TheVariants.{Mode, Short, OverLimit, Malformed, OperandNotBefore, Sorts, Entry, SecondSequential, MemoryInput, InputTooWide, Reply, ResultRoom, ScratchRoom, AlwaysTrue, Satisfiable}

abbrev pub refusal_at : ℕ → ℕ → ℕ → rules.Refusal
refusal_at n s p = record { reason = n; section = s; position = p }

abbrev pub refusal_of : Refusal → rules.Refusal
refusal_of Mode = refusal_at 1 0 0
refusal_of (Short section) = refusal_at 1 section 0
refusal_of (OverLimit section) = refusal_at 2 section 0
refusal_of (Malformed node) = refusal_at 3 1 node
refusal_of (OperandNotBefore node) = refusal_at 4 1 node
refusal_of (Sorts node) = refusal_at 5 1 node
refusal_of (Entry section place) = refusal_at 6 section place
refusal_of (SecondSequential place) = refusal_at 7 2 place
refusal_of (MemoryInput node) = refusal_at 8 1 node
refusal_of (InputTooWide node) = refusal_at 10 1 node
refusal_of (Reply place) = refusal_at 11 6 place
refusal_of ResultRoom = refusal_at 12 8 0
refusal_of ScratchRoom = refusal_at 12 8 1
refusal_of (AlwaysTrue section place) = refusal_at 13 section place
refusal_of (Satisfiable section place) = refusal_at 14 section place

unfoldable pub RefusalsListed : Type 0
RefusalsListed = (z : Refusal) → IsReason (refusal_of z).reason

-- ---- back
-- the room that is short: 0 is the result, else scratch
abbrev pub room_at : ℕ → Refusal
room_at p = elim (eqb p 0) [ true ↦ Refusal.ResultRoom | false ↦ Refusal.ScratchRoom ]

-- a refusal by its number, section and position; a mode over the highest reads as section 0 short, whose number and place are the same;
-- it stands at 0 and 9 too, which no refusal has
abbrev pub refusals_at : ℕ → ℕ → List Refusal
refusals_at s p =
    Refusal.Mode ∷ Refusal.Short s ∷ Refusal.OverLimit s ∷ Refusal.Malformed p ∷ Refusal.OperandNotBefore p ∷ Refusal.Sorts p ∷ Refusal.Entry s p
    ∷ Refusal.SecondSequential p ∷ Refusal.MemoryInput p ∷ Refusal.Mode ∷ Refusal.InputTooWide p ∷ Refusal.Reply p ∷ room_at p
    ∷ Refusal.AlwaysTrue s p ∷ Refusal.Satisfiable s p ∷ []

unfoldable pub refusal_by : ℕ → ℕ → ℕ → Refusal
refusal_by n s p = get_or (refusals_at s p) n Refusal.Mode
