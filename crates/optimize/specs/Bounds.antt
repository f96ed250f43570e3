-- What the walk's leaves ask of a table and of the two buffers, by name. The bounds admit tables of more nodes than the house's: whatever walks over
-- a table shares the leaves, and only where a call is judged does its own limit stand.
--     most_nodes, most_looked    the most nodes, and the most Writes that the Reads of so many can look at
--     rows_end, constants_at     where the rows of n nodes end in words that start with them, and where the made constants start behind them
--     room_of                   the room of n nodes without lists        HasWord   that a word of a row is there
-- Assumes nothing.
use Rattle.std.specs.Prelude.{ℕ, ◌+◌, ◌*◌, ◌<◌, List, length, get_or}
use Rattle.rules.specs.Table.{row_width}
use Rattle.rules.specs.Limits.{node_room, least_room}

abbrev pub most_nodes : ℕ
most_nodes = 65536

-- each of them may look at all the others
abbrev pub most_looked : ℕ
most_looked = most_nodes * most_nodes

-- ---- places
-- the count of nodes stands first, then their rows
abbrev pub rows_end : ℕ → ℕ
rows_end n = 1 + row_width * n

-- behind the rows the count of the constants, then those
abbrev pub constants_at : ℕ → ℕ
constants_at n = 2 + row_width * n

abbrev pub room_of : ℕ → ℕ
room_of n = node_room * n + least_room

-- ---- clauses
abbrev pub count_of : List ℕ → ℕ
count_of g = get_or g 0 0

-- word k of node's row stands in the words
abbrev pub HasWord : List ℕ → ℕ → ℕ → Type 0
HasWord words node k = 1 + row_width * node + k < length words
