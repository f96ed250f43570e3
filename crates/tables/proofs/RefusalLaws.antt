-- Each refusal has a number of the rules' list, so none has the number 0, and is found again by its number, section and position.
-- A number that no refusal has is found as a mode.
-- Assumes nothing.
use Prim.Native.Nat.{ℕ, zero, suc, ◌<◌}
use mathlib.Core.Path.{◌≡◌, refl, ap}
use mathlib.Core.Logic.{◌≢◌}
use mathlib.Core.Bool.{Bool, true, false}
use native.Mathlib.Omega.{arith}
use lib.ListN.{get_or, get_or-eq_default}
use lib.Dec.{eqb}
use borrow.Author.Tests.{eqb-true, eqb-false}
use Rattle.rules.proofs.Base.{inside-or-past}
use Rattle.rules.proofs.Numbered.{reason-positive}
use Rattle.tables.specs.declared.refusal.Refusal.{Refusal}
use Rattle.tables.specs.Refusals.{refusal_of, refusals_at, refusal_by, RefusalsListed}

pub listed : RefusalsListed
unfolding RefusalsListed
listed Refusal.Mode = refl
listed (Refusal.Short s) = refl
listed (Refusal.OverLimit s) = refl
listed (Refusal.Malformed k) = refl
listed (Refusal.OperandNotBefore k) = refl
listed (Refusal.Sorts k) = refl
listed (Refusal.Entry s k) = refl
listed (Refusal.SecondSequential k) = refl
listed (Refusal.MemoryInput k) = refl
listed (Refusal.InputTooWide k) = refl
listed (Refusal.Reply k) = refl
listed Refusal.ResultRoom = refl
listed Refusal.ScratchRoom = refl
listed (Refusal.AlwaysTrue s k) = refl
listed (Refusal.Satisfiable s k) = refl

pub numbered : (z : Refusal) → 0 < (refusal_of z).reason
unfolding RefusalsListed
numbered z = reason-positive (refusal_of z).reason (listed z)

-- a refusal is found again by its number, section and position
pub found_again : (z : Refusal) → refusal_of (refusal_by (refusal_of z).reason (refusal_of z).section (refusal_of z).position) ≡ refusal_of z
unfolding refusal_by
found_again Refusal.Mode = refl
found_again (Refusal.Short s) = refl
found_again (Refusal.OverLimit s) = refl
found_again (Refusal.Malformed p) = refl
found_again (Refusal.OperandNotBefore p) = refl
found_again (Refusal.Sorts p) = refl
found_again (Refusal.Entry s p) = refl
found_again (Refusal.SecondSequential p) = refl
found_again (Refusal.MemoryInput p) = refl
found_again (Refusal.InputTooWide p) = refl
found_again (Refusal.Reply p) = refl
found_again Refusal.ResultRoom = refl
found_again Refusal.ScratchRoom = refl
found_again (Refusal.AlwaysTrue s p) = refl
found_again (Refusal.Satisfiable s p) = refl

-- no refusal has another number, and none has 9
pub refusal-none : (s p n : ℕ) → ((0 < n) × (n < 15) → n ≢ 9 → ⊥) → refusal_by n s p ≡ Refusal.Mode
unfolding refusal_by
refusal-none s p zero h = refl
refusal-none s p (suc n) h = inside-or-past _ (suc n) 15 (λ l. nine (eqb (suc n) 9) refl l) (λ l. get_or-eq_default (refusals_at s p) Refusal.Mode {n = suc n} l)
  where
    nine : (b : Bool) → eqb (suc n) 9 ≡ b → suc n < 15 → get_or (refusals_at s p) (suc n) Refusal.Mode ≡ Refusal.Mode
    nine true e l = ap (λ m. get_or (refusals_at s p) m Refusal.Mode) (eqb-true (suc n) 9 e)
    nine false e l = absurd (h (omega arith, l) (eqb-false (suc n) 9 e))
