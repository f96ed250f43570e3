-- `find_in_memory` keeps the invariant Searched: each look is a step of the rules' walk. The measure is the fuel that is left.
-- Assumes nothing.
use Prim.Native.Nat.{◌-◌}
use Rattle.btor.specs.Readings.{reading_is}
use Rattle.optimize.specs.Folder.{count_in}
use Rattle.optimize.proofs.SearchLaws.{Searched}
use Rattle.optimize.proofs.folder.ConstantFolder.find_in_memory.Given as goal

abbrev pub invariant-loop-value : goal.invariant-loop-value
invariant-loop-value l = Searched (reading_is l.self.call.mode.reading) (count_in l.self) l.self.walk.made l.self.res.now l.memory l.address l.at l.looked l.passed

abbrev pub decreases-loop-value : goal.decreases-loop-value
decreases-loop-value l = count_in l.self - l.looked
