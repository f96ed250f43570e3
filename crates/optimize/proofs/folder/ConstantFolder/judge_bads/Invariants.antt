-- The bads before the index are judged.
-- Assumes nothing.
use Prim.Native.Nat.{ℕ, ◌+◌, ◌-◌, ◌≤◌}
use lib.ListN.{length, take}
use Rattle.optimize.specs.Folder.{Keeps, LaidIn}
use Rattle.optimize.specs.Bads.{SpareIn}
use Rattle.optimize.proofs.BadLaws.{JudgesFirst}
use Rattle.optimize.proofs.folder.ConstantFolder.judge_bads.Given as goal

abbrev pub invariant-loop-place : goal.invariant-loop-place
invariant-loop-place l = record {
  keeps : Keeps l.initial.self l.self;
  laid : LaidIn l.self;
  few : l.count ≤ l.place;
  spare : (c : ℕ) → SpareIn l.initial.self (length l.bads + c) → SpareIn l.self (length l.bads - l.place + c);
  judged : JudgesFirst l.initial.self l.self l.how l.bads l.place (take l.count l.kept);
}
