-- `look_at` by the words of the row at that place.
-- Assumes nothing.
use mathlib.Core.Path.{sym, ap, ◌∙◌}
use native.Mathlib.Omega.{arith}
use Rattle.btor.specs.Readings.{reading_is}
use Rattle.optimize.specs.View.{constant_is}
use Rattle.optimize.proofs.SearchLaws.{looks-past, looks-other, looks-unsettled, looks_stop, looks_settled, looks_hit}
use Rattle.optimize.proofs.folder.ConstantFolder.look_at.Goals as goal

pub returns-then-node_count-at : goal.returns-then-node_count-at
returns-then-node_count-at c = looks-past _ _ _ _ _ _ (omega arith)

pub returns-then-word-ne-WRITE : goal.returns-then-word-ne-WRITE
returns-then-word-ne-WRITE c = looks-other _ _ _ _ _ _ (omega arith) (λ e. c.if-word-ne-WRITE.true (c.word.ensures ∙ e))

pub returns-in-Rust : goal.returns-in-Rust
returns-in-Rust c =
    looks-unsettled _ _ _ _ _ _ (omega arith) (sym c.word.ensures ∙ c.if-word-ne-WRITE.false) c.requires _ _
    c.operand-next.ensures c.operand.ensures
    (ap reading_is c.in-Rust.is) (sym (ap constant_is c.in_default.is) ∙ c.get_constant.ensures)

pub returns-in-Standard : goal.returns-in-Standard
returns-in-Standard c =
    looks_stop _ _ _ _ _ _ (omega arith) (sym c.word.ensures ∙ c.if-word-ne-WRITE.false) c.requires _ _
    c.operand-next.ensures c.operand.ensures
    (ap reading_is c.in-Standard.is) (sym (ap constant_is c.in_default.is) ∙ c.get_constant.ensures)

pub returns-then-imm-address : goal.returns-then-imm-address
returns-then-imm-address c =
    looks_hit _ _ _ _ _ _ (omega arith) (sym c.word.ensures ∙ c.if-word-ne-WRITE.false) c.requires _ _
    c.operand-next.ensures c.operand.ensures
    _ _ c.operand-then-imm-address.ensures (sym (ap constant_is c.in-Some.is) ∙ c.get_constant.ensures) c.if-imm-address.true

pub returns-else-imm-address : goal.returns-else-imm-address
returns-else-imm-address c =
    looks_settled _ _ _ _ _ _ (omega arith) (sym c.word.ensures ∙ c.if-word-ne-WRITE.false) c.requires _ _
    c.operand-next.ensures c.operand.ensures
    _ (sym (ap constant_is c.in-Some.is) ∙ c.get_constant.ensures) c.if-imm-address.false
