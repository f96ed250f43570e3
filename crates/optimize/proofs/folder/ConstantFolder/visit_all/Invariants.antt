-- The nodes before the index are visited.
-- Assumes nothing.
use Rattle.optimize.specs.Folder.{Keeps, LaidIn}
use Rattle.optimize.proofs.VisitLaws.{VisitsFirst}
use Rattle.optimize.proofs.folder.ConstantFolder.visit_all.Given as goal

abbrev pub invariant-loop-node : goal.invariant-loop-node
invariant-loop-node l = record {
  keeps : Keeps l.initial.self l.self;
  laid : LaidIn l.self;
  visits : VisitsFirst l.initial.self l.self l.nodes l.node-index;
}
