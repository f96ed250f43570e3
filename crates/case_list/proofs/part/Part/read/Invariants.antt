-- What stands before a bracket is text.
use denote.Text.{Utf8}
use denote.Shadow.{shadow}
use Rattle.case_list.proofs.part.Part.read.Given as goal

abbrev pub invariant-loop-piece : goal.invariant-loop-piece
invariant-loop-piece l =
    (goal.iterator-loop-piece).can_next l.piece-iterator
    × (goal.iterator-loop-piece).is_finite l.piece-iterator
    × shadow (Utf8 l.before)
