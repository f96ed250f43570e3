-- `name_word`: a node that section 1 holds has its name word in the slice, and another has none.
-- Assumes nothing.
use mathlib.Core.Path.{sym, ◌∙◌}
use native.Mathlib.Omega.{arith}
use Rattle.tables.specs.LimitAnswers.{limits_is}
use Rattle.tables.proofs.LabelLaws.{word-past, word-inside}
use Rattle.tables.proofs.label.name_word.Goals as goal

pub returns-then-nodes_in-node : goal.returns-then-nodes_in-node
returns-then-nodes_in-node c =
    let a = c.args in
    sym (word-past (limits_is a.limits) a.words.now a.node (omega (arith, c.nodes_in.ensures)))

pub row_word-requires-clause-has_row : goal.row_word-requires-clause-has_row
row_word-requires-clause-has_row c =
    (word-inside (limits_is c.args.limits) _ _ (rw c.nodes_in.ensures at c.if-nodes_in-node.false)).0

pub returns : goal.returns
returns c =
    c.row_word.ensures ∙ sym (word-inside (limits_is c.args.limits) _ _ (rw c.nodes_in.ensures at c.if-nodes_in-node.false)).1
