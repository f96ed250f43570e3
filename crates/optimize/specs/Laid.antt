-- What the walk keeps from call to call, and what a step at a fresh node may spend.
--     Laid    the rules' invariant of the state that lies in the buffers, and what was made, asked and looked at is paid for by visited nodes
--     Room    the same as a step at one node needs it
-- Assumes nothing.
use Rattle.std.specs.Prelude.{ℕ, ◌+◌, ◌*◌, ◌<◌, ◌≤◌, List, length}
use Rattle.rules.specs.Model.{Mode}
use Rattle.rules.specs.Walk.{Held}
use Rattle.rules.specs.Room.{unpaid}
use Rattle.rules.specs.Fine.{Fine, fee}
use Rattle.optimize.specs.declared.walk.Walk.{Walk}
use Rattle.optimize.specs.Bounds.{count_of, most_looked}
use Rattle.optimize.specs.View.{table_of, ways_in, mark_of, view}

-- held are the states that took an input; scratch keeps some words in reserve, behind the questions that may still be put
pub record Laid (g dumps inputs replies : List ℕ) (mode : Mode) (reserve : ℕ) (R S : List ℕ) (w : Walk) : Type 0 where
  pub held : List Held
  pub fine : Fine (table_of g) (ways_in dumps mode replies) inputs replies (view held g inputs replies R S w)
  pub few : w.made + unpaid (λ k. 1) (count_of g) (mark_of (count_of g) S) ≤ count_of g
  pub asks : 2 * count_of g + 4 * (w.asked + unpaid (λ k. 3) (count_of g) (mark_of (count_of g) S)) + reserve ≤ length S
  pub looks : w.looked + unpaid (fee (table_of g)) (count_of g) (mark_of (count_of g) S) ≤ most_looked

pub record Room (g S : List ℕ) (w : Walk) (k : ℕ) : Type 0 where
  pub inside : k < count_of g
  pub few : w.made < count_of g
  pub asks : 2 * count_of g + 4 * (w.asked + 3) ≤ length S
  pub looks : w.looked ≤ most_looked
  pub passed : w.passed ≤ most_looked
