-- The rules' test of a Next, on the table as given.
-- Assumes nothing.
use Prim.Native.Nat.{◌<◌}
use native.Mathlib.Omega.{arith}
use mathlib.Core.Path.{sym, ap, ◌∙◌}
use Rattle.optimize.specs.Bounds.{count_of}
use Rattle.optimize.specs.View.{constant_is}
use Rattle.optimize.proofs.Entries.{sequential_inside, retain_itself, retain_no-init, retain_no-next, retain_two}
use Rattle.optimize.proofs.sequentials.should_retain_sequential.Goals as goal

pub operand-state-requires : goal.operand-state-requires
operand-state-requires c = omega (arith, (sequential_inside _ _ c.args.call.table c.requires).itself, c.args.call.table.whole)

pub operand-next-requires : goal.operand-next-requires
operand-next-requires c = omega (arith, (sequential_inside _ _ c.args.call.table c.requires).itself, c.args.call.table.whole)

pub returns-then-state-next : goal.returns-then-state-next
returns-then-state-next c =
    retain_itself _ _ (sequential_inside _ _ c.args.call.table c.requires) (sym c.operand-state.ensures ∙ c.if-state-next.true ∙ c.operand-next.ensures)

pub operand-requires : goal.operand-requires
operand-requires c =
    omega (arith, (sequential_inside _ _ c.args.call.table c.requires).state, c.args.call.table.whole, c.operand-state.ensures)

pub row_constant-requires : goal.row_constant-requires
row_constant-requires c =
    let i : c.operand.result < count_of c.args.call.given.now = rw (c.operand.ensures, c.operand-state.ensures) (sequential_inside _ _ c.args.call.table c.requires).init in
    omega (arith, i, c.args.call.table.whole)

pub returns-in_default : goal.returns-in_default
returns-in_default c =
    retain_no-init _ _ (sequential_inside _ _ c.args.call.table c.requires) (λ e. c.if-state-next.false (c.operand-state.ensures ∙ e ∙ sym c.operand-next.ensures)) (sym (ap constant_is c.in_default.is) ∙ c.row_constant.ensures ∙ rw (c.operand.ensures, c.operand-state.ensures))

pub row_constant-requires-2 : goal.row_constant-requires-2
row_constant-requires-2 c = omega (arith, (sequential_inside _ _ c.args.call.table c.requires).next, c.operand-next.ensures, c.args.call.table.whole)

pub returns-in_default-row_constant : goal.returns-in_default-row_constant
returns-in_default-row_constant c =
    retain_no-next _ _ (sequential_inside _ _ c.args.call.table c.requires) (λ e. c.if-state-next.false (c.operand-state.ensures ∙ e ∙ sym c.operand-next.ensures)) _ (sym (ap constant_is c.in-Some.is) ∙ c.row_constant.ensures ∙ rw (c.operand.ensures, c.operand-state.ensures)) (sym (ap constant_is c.in_default-row_constant.is) ∙ c.row_constant-2.ensures ∙ rw c.operand-next.ensures)

pub returns : goal.returns
returns c =
    retain_two _ _ (sequential_inside _ _ c.args.call.table c.requires) (λ e. c.if-state-next.false (c.operand-state.ensures ∙ e ∙ sym c.operand-next.ensures)) _ (sym (ap constant_is c.in-Some.is) ∙ c.row_constant.ensures ∙ rw (c.operand.ensures, c.operand-state.ensures)) _ (sym (ap constant_is c.in-Some-row_constant.is) ∙ c.row_constant-2.ensures ∙ rw c.operand-next.ensures)
