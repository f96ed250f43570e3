-- The rules' judgement by the condition, and by the reply where it is open.
-- Assumes nothing.
use borrow.Author.Tests.{not-true, not-false}
use Rattle.optimize.specs.Call.{ways_of}
use Rattle.optimize.specs.Folder.{given_in}
use Rattle.optimize.specs.Bads.{retained_of}
use Rattle.optimize.proofs.Asks.{raised}
use Rattle.optimize.proofs.FoldLaws.{is_const-eq}
use Rattle.optimize.proofs.BadLaws.{bad-zero, bad-refused, bad_one, bad-unasked, bad_replied, bad_stopped}
use Rattle.optimize.proofs.folder.ConstantFolder.judge_bad.Goals as goal

pub returns-then-eq-clause-judges_bad : goal.returns-then-eq-clause-judges_bad
unfolding retained_of
returns-then-eq-clause-judges_bad c =
    λ h. bad-zero c.args.self.now c.args.how c.args.place c.args.condition h _ c.get_constant-value.ensures (is_const-eq c.get_constant-value.result 0 _ c.if-eq.ensures)

pub returns-then-how-clause-judges_bad : goal.returns-then-how-clause-judges_bad
unfolding retained_of
returns-then-how-clause-judges_bad c =
    λ h. bad-refused c.args.self.now c.args.how c.args.place c.args.condition h _ c.get_constant-value.ensures (is_const-eq c.get_constant-value.result 0 _ c.if-eq.ensures) (is_const-eq c.get_constant-value.result 1 _ c.if-eq-2.ensures) c.if-how.true

pub returns-then-eq-2-clause-judges_bad : goal.returns-then-eq-2-clause-judges_bad
unfolding retained_of
returns-then-eq-2-clause-judges_bad c =
    λ h. bad_one c.args.self.now c.args.how c.args.place c.args.condition h _ c.get_constant-value.ensures (is_const-eq c.get_constant-value.result 0 _ c.if-eq.ensures) (is_const-eq c.get_constant-value.result 1 _ c.if-eq-2.ensures) c.if-how.false

pub returns-then-not-how-clause-judges_bad : goal.returns-then-not-how-clause-judges_bad
unfolding retained_of
returns-then-not-how-clause-judges_bad c =
    λ h. bad-unasked c.args.self.now c.args.how c.args.place c.args.condition h _ c.get_constant-value.ensures (is_const-eq c.get_constant-value.result 0 _ c.if-eq.ensures) (is_const-eq c.get_constant-value.result 1 _ c.if-eq-2.ensures) (not-true _ c.if-not-how.true)

pub returns-in_err-reply-clause-judges_bad : goal.returns-in_err-reply-clause-judges_bad
returns-in_err-reply-clause-judges_bad c =
    rw (raised c.from_residual.result c.in_err-reply.field-0.0 c.from_residual.ensures.1)
    (λ h. bad_stopped c.args.self.now c.args.how c.args.place c.args.condition h _ c.get_constant-value.ensures (is_const-eq c.get_constant-value.result 0 _ c.if-eq.ensures) (is_const-eq c.get_constant-value.result 1 _ c.if-eq-2.ensures) (not-false _ c.if-not-how.false) _ _ _ (c.in_err-reply.ensures.asks h))

pub returns-clause-judges_bad : goal.returns-clause-judges_bad
returns-clause-judges_bad c =
    λ h. bad_replied c.args.self.now c.args.how c.args.place c.args.condition h _ c.get_constant-value.ensures (is_const-eq c.get_constant-value.result 0 _ c.if-eq.ensures) (is_const-eq c.get_constant-value.result 1 _ c.if-eq-2.ensures) (not-false _ c.if-not-how.false) _ _ (c.in_ok-reply.ensures.asks h) _ (c.by_reply.ensures (given_in c.args.self.now) (ways_of c.args.self.now.call) _)
