-- The house's limits, the room that a call needs, and what a mode adds up (docs/FORMAT.md, "A call", "Limits and room", "Modes").
--     Limits, house      the most of everything, and the house's own numbers
--     node_room, bad_room, least_room, need   the words of room
--     highest_mode, mode_of
-- Assumes nothing.
use Rattle.std.specs.Prelude.{ℕ, ◌+◌, ◌*◌, ◌/◌, ◌%◌, Bool, eqb}
use Rattle.btor.specs.Operators.{rust}
use Rattle.rules.specs.Model.{Mode}

-- the most nodes, entries in each of sections 2, 3, 4, inputs, replies, names, and bytes of a name
pub record Limits : Type 0 where
  pub nodes : ℕ
  pub entries : ℕ
  pub inputs : ℕ
  pub replies : ℕ
  pub names : ℕ
  pub name_length : ℕ

-- 4,096 nodes, 1,024 entries in each of sections 2, 3 and 4, 4,096 inputs, 16,384 replies; "at most 4,096 names, of 0 to 64 bytes each"
abbrev pub house : Limits
house = record { nodes = 4096; entries = 1024; inputs = 4096; replies = 16384; names = 4096; name_length = 64 }

-- the room of each node, of each bad entry, and of a table that has none
abbrev pub node_room : ℕ
node_room = 22

abbrev pub bad_room : ℕ
bad_room = 5

abbrev pub least_room : ℕ
least_room = 22

-- "With n nodes, s sequentials, b bad entries in sections 3 and 4 together and i inputs, result and scratch each need 22n + 5b + s + i + 22 words."
abbrev pub need : ℕ → ℕ → ℕ → ℕ → ℕ
need n s b i = node_room * n + bad_room * b + s + i + least_room

-- refusal 1: "a mode above 7"
abbrev pub highest_mode : ℕ
highest_mode = 7

-- whether a mode has added a part (1, 2 or 4)
abbrev pub adds : ℕ → ℕ → Bool
adds mode part = eqb (mode / part % 2) 1

-- "A mode is the sum of what it asks for: 1 minimise, 2 terminate, 4 one-query."
abbrev pub mode_of : ℕ → Mode
mode_of mode = record { minimise = adds mode 1; terminate = adds mode 2; one_query = adds mode 4; reading = rust }
