-- The sequentials before the index are judged; what the rules make of the list is what they make of the rest, after those kept.
-- Assumes nothing.
use Prim.Native.Nat.{◌≤◌}
use mathlib.Core.Path.{◌≡◌}
use mathlib.Core.List.{List}
use lib.ListN.{take, drop}
use Rattle.rules.specs.Walk.{Held}
use Rattle.rules.specs.Whole.{judge_sequentials}
use Rattle.optimize.specs.Folder.{Keeps, given_in, seen}
use Rattle.optimize.specs.View.{table_of}
use Rattle.optimize.specs.Lists.{joined}
use Rattle.optimize.proofs.folder.ConstantFolder.judge_sequentials.Given as goal

abbrev pub invariant-loop-sequential : goal.invariant-loop-sequential
invariant-loop-sequential l = record {
  few : l.count ≤ l.sequential-index;
  keeps : Keeps l.initial.self l.self;
  walk : l.self.walk ≡ l.initial.self.walk;
  judged : (h : List Held) → judge_sequentials (table_of (given_in l.initial.self)) (seen h l.initial.self) l.sequentials
      ≡ joined (take l.count l.kept) (judge_sequentials (table_of (given_in l.initial.self)) (seen h l.self) (drop l.sequential-index l.sequentials));
}
