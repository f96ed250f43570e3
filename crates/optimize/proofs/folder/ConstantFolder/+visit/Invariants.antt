-- The measures of the cycle: eight for each node, and a level for each member.
-- Assumes nothing.
use Rattle.std.proofs.Common.{◌+◌, ◌*◌}
use Rattle.optimize.proofs.folder.ConstantFolder.+visit.Given as goal

abbrev pub decreases-process : goal.decreases-process
decreases-process l = 8 * l.node + 6

abbrev pub decreases-process_both : goal.decreases-process_both
decreases-process_both l = 8 * l.node + 3

abbrev pub decreases-process_chosen : goal.decreases-process_chosen
decreases-process_chosen l = 8 * l.node + 3

abbrev pub decreases-process_ite : goal.decreases-process_ite
decreases-process_ite l = 8 * l.node + 5

abbrev pub decreases-process_next : goal.decreases-process_next
decreases-process_next l = 8 * l.node + 5

abbrev pub decreases-process_one : goal.decreases-process_one
decreases-process_one l = 8 * l.node + 3

abbrev pub decreases-process_three : goal.decreases-process_three
decreases-process_three l = 8 * l.node + 3

abbrev pub decreases-process_two : goal.decreases-process_two
decreases-process_two l = 8 * l.node + 3

abbrev pub decreases-visit : goal.decreases-visit
decreases-visit l = 8 * l.node + 7

abbrev pub decreases-visit_operand : goal.decreases-visit_operand
decreases-visit_operand l = 8 * l.node + 0
