-- What the reader hands back, in the rules' names.
--     ReadsAll           reading accepted bytes from the start to the end gives their names
--     AcceptsRead        bytes that are read to the end without a refusal, as many names as they say, are accepted
-- Assumes nothing.
use Rattle.std.specs.Prelude.{ℕ, ◌+◌, ◌*◌, ◌≤◌, ◌≡◌, List, length, get_or}
use Rattle.rules.specs.Refusal.{done}
use Rattle.rules.specs.Limits.{house}
use Rattle.rules.specs.Names.{names_of}
use Rattle.names.specs.Reading.{read_names}

unfoldable pub ReadsAll : Type 0
ReadsAll = (bs : List ℕ) (names : List (List ℕ)) → names_of house bs ≡ done names → read_names bs ≡ done names

unfoldable pub AcceptsRead : Type 0
AcceptsRead =
    (bs : List ℕ) (names : List (List ℕ)) → 2 ≤ length bs → length names ≡ get_or bs 0 0 + 256 * get_or bs 1 0 → length names ≤ house.names
    → read_names bs ≡ done names → names_of house bs ≡ done names
