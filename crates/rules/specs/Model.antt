-- What a call hands over, its words cut into sections (docs/FORMAT.md, "A call", "Modes").
--     Model   the decoded table, the lists, inputs and replies     Mode   what the mode's bits ask for
-- Assumes nothing.
use Rattle.std.specs.Prelude.{ℕ, Bool, List, map}
use Rattle.btor.specs.Operators.{Reading}
use Rattle.rules.specs.Table.{Row, Node, decode}

-- sections 1 to 6; initial are the initial bads, later the sequential ones; dump tells which names start with "memory-dump"
pub record Model : Type 0 where
  pub table : List Node
  pub dump : ℕ → Bool
  pub sequentials : List ℕ
  pub initial : List ℕ
  pub later : List ℕ
  pub inputs : List ℕ
  pub replies : List ℕ

abbrev pub model_of : List Row → (ℕ → Bool) → List ℕ → List ℕ → List ℕ → List ℕ → List ℕ → Model
model_of rs dump ss initial later ins reps =
    record { table = map decode rs; dump = dump; sequentials = ss; initial = initial; later = later; inputs = ins; replies = reps }

-- "A mode is the sum of what it asks for: 1 minimise, 2 terminate, 4 one-query."; the reading says whose operators fold
pub record Mode : Type 0 where
  pub minimise : Bool
  pub terminate : Bool
  pub one_query : Bool
  pub reading : Reading
