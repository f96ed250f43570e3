-- Refusals and outcomes (docs/FORMAT.md, "Refusals").
--     Refusal   its number, section and position       Out       refused, or done with something
--     ◌>>=◌     what comes next, unless refused        first_of   the first of several refusals, in order
--     OfDone    what holds of an outcome that is not refused
-- Assumes nothing.
use Rattle.std.specs.Prelude.{ℕ, Bool, true, false, List, [], ◌∷◌}
use Rattle.std.proofs.Math.Option.{Option, none, some}

infixl 10 ◌>>=◌
-- "a number, a section and a position"
pub record Refusal : Type 0 where
  pub reason : ℕ
  pub section : ℕ
  pub position : ℕ

pub data Out (A : Type 0) : Type 0 where
  refused : Refusal → Out A
  done : A → Out A

abbrev pub refuse : {A : Type 0} → ℕ → ℕ → ℕ → Out A
refuse r s p = refused (record { reason = r; section = s; position = p })

abbrev pub ◌>>=◌ : {A B : Type 0} → Out A → (A → Out B) → Out B
◌>>=◌ (refused r) f = refused r
◌>>=◌ (done x) f = f x

-- it is done, and P holds of what it comes to
abbrev pub OfDone : {A : Type 0} → (A → Type 0) → Out A → Type 0
OfDone P (refused r) = ⊥
OfDone P (done x) = P x

-- a test that must hold, and the refusal where it does not
abbrev pub unless : Bool → ℕ → ℕ → ℕ → Option Refusal
unless true r s p = none
unless false r s p = some (record { reason = r; section = s; position = p })

abbrev pub first_of : List (Option Refusal) → Option Refusal
first_of [] = none
first_of (some r ∷ os) = some r
first_of (none ∷ os) = first_of os

abbrev pub unless_refused : {A : Type 0} → Option Refusal → Out A → Out A
unless_refused (some r) o = refused r
unless_refused none o = o
