-- What stands at a number, by where the number lies: a row of the table, a constant, or nothing.
-- Assumes nothing.
use Prim.Native.Nat.{ℕ, ◌+◌, ◌-◌, ◌*◌, ◌<◌, ◌≤◌}
use mathlib.Core.Path.{◌≡◌, refl, sym, ap, ◌∙◌}
use mathlib.Core.Bool.{true, false}
use mathlib.Core.Option.{none, some}
use mathlib.Core.List.{List}
use lib.ListN.{get_or}
use lib.Dec.{eqb}
use borrow.Author.Tests.{eq-eqb, ne_eqb}
use Rattle.rules.specs.Table.{Write, Node, kind_of, is}
use Rattle.rules.specs.Fold.{const_of}
use Rattle.rules.proofs.Base.{inside-or-past}
use Rattle.tables.proofs.NodeLaws.{is_code, names-kind, names-none, unknown-kind}
use Rattle.std.specs.Prelude.{Result, Ok, Err}
use Rattle.std.specs.Result.{result_unwrap_or}
use Rattle.tables.specs.declared.node.NodeKind.{NodeKind}
use Rattle.tables.specs.declared.node.UnknownKind.{UnknownKind}
use Rattle.tables.specs.NodeAnswers.{coded_kind_of, kind_in, kind_is}
use Rattle.rules.specs.Sections.{word_of}
use Rattle.optimize.specs.Bounds.{constants_at}
use Rattle.optimize.specs.View.{node_of, rows_of}
use Rattle.optimize.proofs.Views.{row_below, row_made, row-past}

module _ (n made : ℕ) (R : List ℕ) (k : ℕ) where
  -- ---- Consts
  pub constant-row : k < n → const_of (node_of R) k ≡ const_of (rows_of n made R) k
  constant-row l = ap (λ (nd : Node). const_of (λ _. nd) k) (sym (row_below n made R k l))

  pub constant-made : n ≤ k → k - n < 2 + made → some (get_or R (constants_at n + 2 * (k - n) + 1) 0) ≡ const_of (rows_of n made R) k
  constant-made l e = sym (ap (λ (nd : Node). const_of (λ _. nd) k) (row_made n made R k l e))

  pub constant-none : n ≤ k → 2 + made ≤ k - n → none ≡ const_of (rows_of n made R) k
  constant-none l e = sym (ap (λ (nd : Node). const_of (λ _. nd) k) (row-past n made R k l e))

  -- ---- Writes
  row_write : k < n → is Write (rows_of n made R k) ≡ eqb (word_of R k 0) 3
  row_write l = ap (is Write) (row_below n made R k l) ∙ is_code 3 refl refl (word_of R k 0)

  pub write-row : k < n → word_of R k 0 ≡ 3 → is Write (rows_of n made R k) ≡ true
  write-row l e = row_write l ∙ eq-eqb (word_of R k 0) 3 e

  pub no-write-row : k < n → (word_of R k 0 ≡ 3 → ⊥) → is Write (rows_of n made R k) ≡ false
  no-write-row l e = row_write l ∙ ne_eqb (word_of R k 0) 3 e

  pub no-write-past : n ≤ k → is Write (rows_of n made R k) ≡ false
  no-write-past l =
      inside-or-past (is Write (rows_of n made R k) ≡ false) (k - n) (2 + made) (λ h. ap (is Write) (row_made n made R k l h)) (λ h. ap (is Write) (row-past n made R k l h))

-- ---- kinds
-- a code's kind, and Input where it names none
pub kind-or : (code : ℕ) (r : Result NodeKind UnknownKind) → coded_kind_of r ≡ kind_in code → kind_is (result_unwrap_or r NodeKind.Input) ≡ kind_of code
kind-or code (Ok k) e = (names-kind code (kind_is k) e).1
kind-or code (Err z) e = sym (unknown-kind code (names-none code e))
