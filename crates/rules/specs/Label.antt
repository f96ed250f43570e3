-- The label of a node: a part of the names bytes, or the caller's substitute (docs/FORMAT.md, "Entry points and labels").
--     label_of            the label's bytes
-- Assumes nothing.
use Rattle.std.specs.Prelude.{ℕ, zero, suc, List, [], ◌∷◌}
use Rattle.std.proofs.Math.Option.{Option, none, some}
use Rattle.rules.specs.Refusal.{Out, refused, done, ◌>>=◌}
use Rattle.rules.specs.Table.{Row, row_width}
use Rattle.rules.specs.Limits.{Limits}
use Rattle.rules.specs.Sections.{cut_section, rows_of}
use Rattle.rules.specs.Names.{names_of}

-- what stands at a place, if it is in the list
unfoldable pub at : {A : Type 0} → List A → ℕ → Option A
at [] k = none
at (x ∷ xs) zero = some x
at (x ∷ xs) (suc k) = at xs k

-- "name 0 or past the last"
abbrev pub named : List (List ℕ) → ℕ → Option (List ℕ)
named names zero = none
named names (suc k) = at names k

-- "a node past the table"
abbrev pub name_of_row : List (List ℕ) → Option Row → Option (List ℕ)
name_of_row names none = none
name_of_row names (some r) = named names r.name

-- the node's name in the names bytes, section 1 and section 7 alone being cut
unfoldable pub name_of_node : Limits → ℕ → List ℕ → List ℕ → Out (Option (List ℕ))
name_of_node limits node words names = do
  nodes ← cut_section 1 limits.nodes row_width words
  known ← names_of limits names
  done (name_of_row known (at (rows_of nodes.count nodes.content) node))

-- "its name, as a part of the names bytes, or a substitute that you lend"
abbrev pub or_substitute : List ℕ → Out (Option (List ℕ)) → List ℕ
or_substitute substitute (refused r) = substitute
or_substitute substitute (done none) = substitute
or_substitute substitute (done (some name)) = name

-- the substitute "for a node past the table, for one with name 0 or past the last, and where section 1 or the names would draw refusal 1 or 2"
abbrev pub label_of : Limits → ℕ → List ℕ → List ℕ → List ℕ → List ℕ
label_of limits node words names substitute = or_substitute substitute (name_of_node limits node words names)
