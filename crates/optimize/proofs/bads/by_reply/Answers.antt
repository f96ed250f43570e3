-- The rules' judgement by the reply.
-- Assumes nothing.
use mathlib.Core.Path.{refl}
use Rattle.optimize.specs.Bads.{retained_of}
use Rattle.optimize.proofs.bads.by_reply.Goals as goal

pub returns-in-No : goal.returns-in-No
unfolding retained_of
returns-in-No c = λ g ways σ. rw c.in-No.is refl

pub returns-in-Yes : goal.returns-in-Yes
unfolding retained_of
returns-in-Yes c = λ g ways σ. rw c.in-Yes.is refl

pub returns-then-how : goal.returns-then-how
unfolding retained_of
returns-then-how c = λ g ways σ. rw (c.in-Satisfiable.is, c.if-how.true) refl

pub returns-else-how : goal.returns-else-how
unfolding retained_of
returns-else-how c = λ g ways σ. rw (c.in-Satisfiable.is, c.if-how.false) refl
