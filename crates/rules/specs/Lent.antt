-- A lent slice or array at a function's two moments, so that a definition takes the parameter of a contract itself.
--     Lent      a parameter behind a `&`, as an `ensures` has it             was         what it holds
--     LentMut   a parameter behind a `&mut`, as an `ensures` has it          old, ends   what it holds at entry and at exit
-- Assumes nothing.
use Rattle.std.specs.Prelude.{ℕ, List}
use Rattle.std.specs.Borrow.{Bor, MutBor}
use denote.Triple.Both.{Both}

abbrev pub Lent : Type 0
Lent = Both (Bor (List ℕ)) (Bor (List ℕ))

abbrev pub was : Lent → List ℕ
was x = x.entry.now

abbrev pub LentMut : Type 0
LentMut = Both (MutBor (List ℕ)) (MutBor (List ℕ))

abbrev pub old : LentMut → List ℕ
old x = x.entry.now

abbrev pub ends : LentMut → List ℕ
ends x = x.exit.now
