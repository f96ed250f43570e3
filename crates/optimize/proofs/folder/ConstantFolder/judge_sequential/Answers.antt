-- A sequential is kept, or dropped with a mark on its state.
-- Assumes nothing.
use native.Mathlib.Omega.{arith}
use Rattle.optimize.proofs.Entries.{sequential_inside, keep_step, drop-step}
use Rattle.optimize.proofs.folder.ConstantFolder.judge_sequential.Goals as goal

pub returns-then-should_retain_sequential-clause-judges_next : goal.returns-then-should_retain_sequential-clause-judges_next
returns-then-should_retain_sequential-clause-judges_next c =
    let f = c.args.self.now in
    λ h ss. keep_step h f.call.given.now _ _ f.res.now f.scratch.now ss f.walk c.args.sequential _ c.should_retain_sequential.ensures c.if-should_retain_sequential.true

pub operand-state-requires : goal.operand-state-requires
operand-state-requires c =
    omega (arith, (sequential_inside _ _ c.args.self.now.call.table c.requires).itself, c.args.self.now.call.table.whole)

pub operand-init-requires : goal.operand-init-requires
operand-init-requires c =
    omega (arith, (sequential_inside _ _ c.args.self.now.call.table c.requires).state, c.args.self.now.call.table.whole, c.operand-state.ensures)

pub put_mark-requires : goal.put_mark-requires
put_mark-requires c = rw c.operand-state.ensures (sequential_inside _ _ c.args.self.now.call.table c.requires).state

pub returns-clause-judges_next : goal.returns-clause-judges_next
returns-clause-judges_next c =
    let f = c.args.self.now in
    λ h ss. drop-step h f.call.given.now _ _ f.res.now f.scratch.now ss f.walk c.args.sequential _ _ _ _ (sequential_inside _ _ c.args.self.now.call.table c.requires) c.should_retain_sequential.ensures c.if-should_retain_sequential.false c.operand-state.ensures c.operand-init.ensures (c.put_mark.ensures.puts_mark h)
