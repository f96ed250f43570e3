-- The names bytes, section 7: a two-byte count, low byte first, then each name after a one-byte length (docs/FORMAT.md, "Names").
--     names_of            the names in the bytes: refusal 2, then refusal 1
--     name_of, dump       name k, and whether it starts with "memory-dump"
--     name_start, name_size   where name k stands in the bytes
--     name_bytes          the bytes of given names
-- Assumes nothing.
use Rattle.std.specs.Prelude.{ℕ, zero, suc, ◌+◌, ◌-◌, ◌*◌, ◌/◌, ◌%◌, ◌≤◌, Bool, true, false, ◌&&◌, List, [], ◌∷◌, ◌++◌, length, get_or, take, drop, ltb, eqb}
use Rattle.rules.specs.Refusal.{Out, done, refuse, ◌>>=◌}
use Rattle.rules.specs.Lists.{All}
use Rattle.rules.specs.Limits.{Limits}
use Rattle.rules.specs.Sections.{none_left}

-- "each name after a one-byte length": so many names, and what follows them. A length over its limit is 2, a length or a name that is
-- not there whole is 1. After a short name no further length can be found, so this order is 2 before 1 for the section as a whole.
unfoldable pub cut_names : Limits → ℕ → List ℕ → Out (List (List ℕ) × List ℕ)
cut_names limits zero bs = done ([], bs)
cut_names limits (suc count) [] = refuse 1 7 0
cut_names limits (suc count) (size ∷ bs) =
    elim (ltb limits.name_length size) [
      | true ↦ refuse 2 7 0
      | false ↦ elim (ltb (length bs) size) [
        | true ↦ refuse 1 7 0
        | false ↦ cut_names limits count (drop size bs) >>= λ p. done (take size bs ∷ p.0, p.1)
      ]
    ]

-- the names after their count, and nothing left over
unfoldable pub counted_names : Limits → ℕ → List ℕ → Out (List (List ℕ))
counted_names limits count bs =
    elim (ltb limits.names count) [
      | true ↦ refuse 2 7 0
      | false ↦ cut_names limits count bs >>= λ p. none_left 7 p.0 p.1
    ]

-- "a two-byte count, low byte first"
unfoldable pub names_of : Limits → List ℕ → Out (List (List ℕ))
names_of limits [] = refuse 1 7 0
names_of limits (low ∷ []) = refuse 1 7 0
names_of limits (low ∷ high ∷ bs) = counted_names limits (low + 256 * high) bs

-- "k for the k-th name, from 1, and 0 for none"; none has no bytes, nor has one past the last
abbrev pub name_of : List (List ℕ) → ℕ → List ℕ
name_of names zero = []
name_of names (suc k) = get_or names k []

-- ---- "whether its bytes begin with `memory-dump`"
-- the eleven bytes of memory-dump
abbrev pub memory_dump : List ℕ
memory_dump = 109 ∷ 101 ∷ 109 ∷ 111 ∷ 114 ∷ 121 ∷ 45 ∷ 100 ∷ 117 ∷ 109 ∷ 112 ∷ []

-- whether bytes start with a prefix
unfoldable pub starts_with : List ℕ → List ℕ → Bool
starts_with [] bs = true
starts_with (p ∷ ps) [] = false
starts_with (p ∷ ps) (b ∷ bs) = eqb b p && starts_with ps bs

-- whether name k is such a name; no name is none
abbrev pub dump : List (List ℕ) → ℕ → Bool
dump names k = starts_with memory_dump (name_of names k)

-- ---- where the names stand: the place of the length byte after k names more, from a place on
unfoldable pub length_place : ℕ → List ℕ → ℕ → ℕ
length_place zero bs at = at
length_place (suc k) bs at = length_place k bs (at + 1 + get_or bs at 0)

-- how many bytes name k has, from 1
abbrev pub name_size : List ℕ → ℕ → ℕ
name_size bs k = get_or bs (length_place (k - 1) bs 2) 0

-- and where the first of them stands
abbrev pub name_start : List ℕ → ℕ → ℕ
name_start bs k = length_place (k - 1) bs 2 + 1

-- ---- the bytes of names
-- "each name after a one-byte length"
unfoldable pub sized_names : List (List ℕ) → List ℕ
sized_names [] = []
sized_names (name ∷ names) = (length name ∷ name) ++ sized_names names

-- "a two-byte count, low byte first, then each name"
abbrev pub name_bytes : List (List ℕ) → List ℕ
name_bytes names = length names % 256 ∷ length names / 256 ∷ sized_names names

-- every count is at most its limit
pub record NamesWithin (limits : Limits) (names : List (List ℕ)) : Type 0 where
  pub count : length names ≤ limits.names
  pub sizes : All (λ name. length name ≤ limits.name_length) names
