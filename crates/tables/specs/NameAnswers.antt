-- What the functions over the names bytes answer, by the rules' own reading of section 7 (docs/FORMAT.md, "Names").
--     count_of, names_count   how many names there are, or the refusal
--     read_of, read_at     the name whose length byte stands at a place, or the refusal
--     placed, place_of    where name k stands
--     is_dump, dump_mark   whether name k starts with "memory-dump", and the same as a 1 or a 0
--     nodes_in, name_word_of   how many nodes section 1 has, and the name word of one of them
-- Assumes nothing.
use Rattle.std.specs.Prelude.{ℕ, ◌+◌, Bool, false, List, length, get_or, drop, Result, Ok, Err, Some, None}
use Rattle.std.specs.Prelude as rust
use Rattle.std.proofs.Math.Option.{Option, none, some}
use Rattle.btor.specs.Operators.{bit}
use Rattle.rules.specs.Refusal.{Out, refused, done, ◌>>=◌}
use Rattle.rules.specs.Table.{Row, row_width}
use Rattle.rules.specs.Limits.{Limits}
use Rattle.rules.specs.Sections.{Part, cut_section, rows_of}
use Rattle.rules.specs.Names.{cut_names, names_of, name_start, name_size, dump}
use Rattle.rules.specs.Label.{at, named}
use Rattle.tables.specs.Refusals.{refusal_of}
use Rattle.tables.specs.declared.names.NameSpan.{NameSpan}
use Rattle.tables.specs.declared.refusal.Refusal.{Refusal}

-- ---- how many names
abbrev pub count_of : Result ℕ Refusal → Out ℕ
count_of (Ok count) = done count
count_of (Err r) = refused (refusal_of r)

unfoldable pub counted : Out (List (List ℕ)) → Out ℕ
counted (refused r) = refused r
counted (done names) = done (length names)

abbrev pub names_count : Limits → List ℕ → Out ℕ
names_count limits bs = counted (names_of limits bs)

-- ---- one name, its length byte at a place: where its bytes start, and how many they are
abbrev pub read_of : Result NameSpan Refusal → Out (ℕ × ℕ)
read_of (Ok n) = done (n.start, n.len)
read_of (Err r) = refused (refusal_of r)

unfoldable pub read_at : Limits → List ℕ → ℕ → Out (ℕ × ℕ)
read_at limits bs at = cut_names limits 1 (drop at bs) >>= λ p. done (at + 1, get_or bs at 0)

-- ---- "k for the k-th name, from 1, and 0 for none": where its bytes start, and how many they are, if the bytes are not refused and have a name k
abbrev pub placed : rust.Option NameSpan → Option (ℕ × ℕ)
placed (Some n) = some (n.start, n.len)
placed None = none

abbrev pub place_if : List ℕ → ℕ → Option (List ℕ) → Option (ℕ × ℕ)
place_if bs k none = none
place_if bs k (some name) = some (name_start bs k, name_size bs k)

unfoldable pub place_among : List ℕ → ℕ → Out (List (List ℕ)) → Option (ℕ × ℕ)
place_among bs k (refused r) = none
place_among bs k (done names) = place_if bs k (named names k)

abbrev pub place_of : Limits → List ℕ → ℕ → Option (ℕ × ℕ)
place_of limits bs k = place_among bs k (names_of limits bs)

-- ---- "whether its bytes begin with `memory-dump`": no name's do where the bytes are refused
unfoldable pub dump_among : Out (List (List ℕ)) → ℕ → Bool
dump_among (refused r) k = false
dump_among (done names) k = dump names k

abbrev pub is_dump : Limits → List ℕ → ℕ → Bool
is_dump limits bs k = dump_among (names_of limits bs) k

abbrev pub dump_mark : Limits → List ℕ → ℕ → ℕ
dump_mark limits bs k = bit (is_dump limits bs k)

-- ---- section 1 alone: none of its nodes is there where it is refused
unfoldable pub nodes_cut : Out Part → ℕ
nodes_cut (refused r) = 0
nodes_cut (done nodes) = nodes.count

abbrev pub nodes_in : Limits → List ℕ → ℕ
nodes_in limits words = nodes_cut (cut_section 1 limits.nodes row_width words)

-- the name word of a node, 0 for a node past the table
abbrev pub name_word : Option Row → ℕ
name_word none = 0
name_word (some r) = r.name

unfoldable pub name_word_among : ℕ → Out Part → ℕ
name_word_among node (refused r) = 0
name_word_among node (done nodes) = name_word (at (rows_of nodes.count nodes.content) node)

abbrev pub name_word_of : Limits → List ℕ → ℕ → ℕ
name_word_of limits words node = name_word_among node (cut_section 1 limits.nodes row_width words)
