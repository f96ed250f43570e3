-- A reply that its question cannot have is refused; else four words record the question and its reply.
-- Assumes nothing.
use Prim.Native.Nat.{◌<◌}
use mathlib.Core.Path.{refl}
use native.Mathlib.Omega.{arith}
use Rattle.rules.specs.Questions.{most}
use Rattle.optimize.specs.Process.{question_is}
use Rattle.optimize.proofs.Steps.{ask-refused, ask-done, most-small, same-reply}
use Rattle.optimize.proofs.folder.ConstantFolder.ask.Goals as goal
use Rattle.optimize.proofs.folder.ConstantFolder.ask.Goals.{in_default-via-in-Ok+else-number-most, in_default-via-in_default}

pub returns-in_default-clause-asks : goal.returns-in_default-clause-asks
returns-in_default-clause-asks c =
    let f = c.args.self.now in
    let above : most (question_is c.args.question) < c.next_reply-number.result.0 =
    elim c.in_default.branch [
      | in_default-via-in-Ok+else-number-most w ↦ omega (arith, w.most.ensures)
      | in_default-via-in_default w ↦ omega (arith, w.in_default.ensures, most-small (question_is c.args.question))
    ] in
    λ h. ask-refused h f.call.given.now f.call.inputs.now f.call.replies.now f.res.now f.scratch.now f.walk _ _ _ _ _ c.next_reply-number.ensures.value refl _ above (c.next_reply-number.ensures.used_in_bounds (omega arith))

pub returns-clause-asks : goal.returns-clause-asks
returns-clause-asks c =
    let f = c.args.self.now in
    λ h. same-reply _ _ _ _ c.in-Ok.ensures (ask-done h f.call.given.now f.call.inputs.now f.call.replies.now f.res.now f.scratch.now f.walk _ _ _ _ _ c.next_reply-number.ensures.value c.most.ensures _ _ _ _ _ (omega (arith, c.if-number-most.true)) c.node_count.ensures.value c.words-kind.ensures.0 c.words-kind.ensures.1 c.words-kind.ensures.2 c.next_reply-number.ensures.used_after (omega (arith, c.node_count.ensures.value, c.requires)))
