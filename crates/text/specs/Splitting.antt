-- The numbers after the mode, as the library call wants them: where sections 1 to 6 end, and the names as bytes (docs/FORMAT.md, "The program's text").
--     end_of, rest_of      where the sections end, or the refusal; the numbers after the sections, or the refusal
--     names_of, bytes_in   the names bytes, or the refusal; the same as the rules have it
-- Assumes nothing.
use Rattle.std.specs.Prelude.{ℕ, ◌/◌, ◌%◌, ◌≡◌, List, ◌∷◌, take, drop, Result, Ok, Err}
use Rattle.rules.specs.Refusal.{Out, refused, done, ◌>>=◌}
use Rattle.rules.specs.Limits.{Limits}
use Rattle.rules.specs.Sections.{cut_six, none_left}
use Rattle.rules.specs.Names.{cut_names, name_bytes}
use Rattle.rules.specs.Text.{names_in_numbers}
use Rattle.tables.specs.Refusals.{refusal_of}
use Rattle.tables.specs.declared.refusal.Refusal.{Refusal}

-- ---- sections 1 to 6
-- what follows the place, or the refusal
abbrev pub end_of : Result ℕ Refusal → List ℕ → Out (List ℕ)
end_of (Ok end) ws = done (drop end ws)
end_of (Err why) ws = refused (refusal_of why)

-- the numbers after the six sections
abbrev pub rest_of : Limits → List ℕ → Out (List ℕ)
rest_of limits ws = cut_six limits ws >>= λ p. done p.1

-- ---- names
-- the bytes at the front of the buffer, or the refusal
abbrev pub names_of : Result ℕ Refusal → List ℕ → Out (List ℕ)
names_of (Ok n) bytes = done (take n bytes)
names_of (Err why) bytes = refused (refusal_of why)

-- so many names, and nothing after them
abbrev pub cut_all : Limits → ℕ → List ℕ → Out (List (List ℕ))
cut_all limits count values = cut_names limits count values >>= λ p. none_left 7 p.0 p.1

-- a judgement is right of an outcome: something, or the refusal
abbrev pub Judges : {A : Type 0} → Result Unit Refusal → Out A → Type 0
Judges {A} (Ok _) o = (x : A) × (o ≡ done x)
Judges (Err why) o = o ≡ refused (refusal_of why)

-- "a two-byte count, low byte first", and the values as they are
abbrev pub counted : ℕ → List ℕ → List ℕ
counted count values = count % 256 ∷ count / 256 ∷ values

-- the bytes of the names in numbers
abbrev pub bytes_in : Limits → List ℕ → Out (List ℕ)
bytes_in limits xs = names_in_numbers limits xs >>= λ names. done (name_bytes names)
