-- What the end of a run finds in the folder: what the walk leaves, and room for the result with the lists kept.
-- Assumes nothing.
use Rattle.std.specs.Prelude.{◌≤◌, length}
use Rattle.optimize.specs.declared.folder.ConstantFolder.{ConstantFolder}
use Rattle.optimize.specs.declared.lists.Lists.{Lists}
use Rattle.optimize.specs.Folder.{count_in}
use Rattle.optimize.specs.ResultView.{result_room, entries_in}
use Rattle.optimize.specs.Runs.{Over}

pub record Ended (f : ConstantFolder) (kept : Lists) : Type 0 where
  pub known : Over f
  pub room : result_room (count_in f) f.walk.made (entries_in kept) (length f.call.inputs.now) f.walk.asked ≤ length f.res.now
