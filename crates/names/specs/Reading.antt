-- Reading the names bytes from place to place (docs/FORMAT.md, "Names"), by the rules' own cutting of one name.
-- A place is that of a length byte; the first name's is 2. At a place where no name can be read nothing moves and no bytes are handed back.
--     next_of, next_at     what stands at a place: where a name's bytes start and how many they are, the end, or the refusal
--     name_at, after_at    the bytes of the name at a place, and the place after it
--     read_from, read_names   the names that a reader hands back one after the other, up to the end of the bytes
--     begins_at, name_in, is_named   the place of name k, its bytes, and whether there is one
-- Assumes nothing.
use Rattle.std.specs.Prelude.{ℕ, zero, suc, ◌+◌, ◌-◌, Bool, true, false, List, [], ◌∷◌, length, drop, ltb, Result, Ok, Err, Some, None}
use Rattle.std.specs.Prelude as rust
use Rattle.std.proofs.Math.Option.{Option, none, some}
use Rattle.rules.specs.Refusal.{Out, refused, done, ◌>>=◌}
use Rattle.rules.specs.Limits.{house}
use Rattle.rules.specs.Names.{cut_names, names_of, name_of}
use Rattle.tables.specs.NameAnswers.{read_at, place_of}
use Rattle.tables.specs.Refusals.{refusal_of}
use Rattle.tables.specs.declared.names.NameSpan.{NameSpan}
use Rattle.tables.specs.declared.refusal.Refusal.{Refusal}

-- ---- what stands at a place: none is the end of the bytes
abbrev pub next_of : Result (rust.Option NameSpan) Refusal → Out (Option (ℕ × ℕ))
next_of (Ok (Some n)) = done (some (n.start, n.len))
next_of (Ok None) = done none
next_of (Err r) = refused (refusal_of r)

unfoldable pub next_at : List ℕ → ℕ → Out (Option (ℕ × ℕ))
next_at bs at =
    elim (ltb at (length bs)) [
      | true ↦ read_at house bs at >>= λ q. done (some q)
      | false ↦ done none
    ]

-- ---- the name at a place: what the rules cut there as one name
abbrev pub first_cut : Out (List (List ℕ) × List ℕ) → List ℕ
first_cut (refused r) = []
first_cut (done p) = name_of p.0 1

unfoldable pub name_at : List ℕ → ℕ → List ℕ
name_at bs at = first_cut (cut_names house 1 (drop at bs))

-- the place after it, its length byte and its bytes being passed
abbrev pub past_read : ℕ → Out (ℕ × ℕ) → ℕ
past_read at (refused r) = at
past_read at (done q) = q.0 + q.1

unfoldable pub after_at : List ℕ → ℕ → ℕ
after_at bs at = past_read at (read_at house bs at)

-- ---- reading on to the end: a refusal on the way is the answer. Each name has a length byte, so there are fewer names than bytes.
abbrev pub read_on : Option (ℕ × ℕ) → List ℕ → Out (List (List ℕ)) → Out (List (List ℕ))
read_on none name rest = done []
read_on (some q) name rest = rest >>= λ names. done (name ∷ names)

unfoldable pub read_from : ℕ → List ℕ → ℕ → Out (List (List ℕ))
read_from zero bs at = done []
read_from (suc most) bs at = next_at bs at >>= λ next. read_on next (name_at bs at) (read_from most bs (after_at bs at))

abbrev pub read_names : List ℕ → Out (List (List ℕ))
read_names bs = read_from (length bs) bs 2

-- ---- name k: "k for the k-th name, from 1, and 0 for none", and there is none where the bytes are refused
abbrev pub begins_or : ℕ → Option (ℕ × ℕ) → ℕ
begins_or end none = end
begins_or end (some q) = q.0 - 1

abbrev pub begins_at : List ℕ → ℕ → ℕ
begins_at bs k = begins_or (length bs) (place_of house bs k)

unfoldable pub name_among : Out (List (List ℕ)) → ℕ → List ℕ
name_among (refused r) k = []
name_among (done names) k = name_of names k

abbrev pub name_in : List ℕ → ℕ → List ℕ
name_in bs k = name_among (names_of house bs) k

abbrev pub is_some : {A : Type 0} → Option A → Bool
is_some none = false
is_some (some x) = true

abbrev pub is_named : List ℕ → ℕ → Bool
is_named bs k = is_some (place_of house bs k)
