-- By how many bads are left: none, one or several.
-- Assumes nothing.
use mathlib.Core.Path.{refl, ◌∙◌}
use native.Mathlib.Omega.{arith}
use Rattle.optimize.proofs.Asks.{raised}
use Rattle.optimize.proofs.LastQuestion.{last_none, last_one, last_many, verdict-reply, verdict-stop}
use Rattle.optimize.proofs.folder.ConstantFolder.put_last_question.Goals as goal

pub returns-in-empty-clause-answers_last : goal.returns-in-empty-clause-answers_last
returns-in-empty-clause-answers_last c =
    λ h m how e. last_none m how h c.args.self.now c.args.bads.now (omega (arith, c.in-empty.len_below))

pub returns-in_err-ask-in-len1-clause-answers_last : goal.returns-in_err-ask-in-len1-clause-answers_last
returns-in_err-ask-in-len1-clause-answers_last c =
    let p = c.from_residual in
    rw (raised p.result c.in_err-ask-in-len1.field-0.0 p.ensures.1)
    (λ h m how e. verdict-stop h c.ask.new.self _ _ (c.in_err-ask-in-len1.ensures.asks h) ∙ last_one m how h c.args.self.now c.args.bads.now _ e (omega (arith, c.in-len1.len_at_least, c.in-len1.len_below)) _ refl)

pub returns-in_ok-ask-in-len1-clause-answers_last : goal.returns-in_ok-ask-in-len1-clause-answers_last
returns-in_ok-ask-in-len1-clause-answers_last c =
    λ h m how e. verdict-reply h c.ask.new.self _ _ _ (c.in_ok-ask-in-len1.ensures.asks h) c.from.ensures ∙ last_one m how h c.args.self.now c.args.bads.now _ e (omega (arith, c.in-len1.len_at_least, c.in-len1.len_below)) _ refl

pub returns-in_err-ask-in_default-clause-answers_last : goal.returns-in_err-ask-in_default-clause-answers_last
returns-in_err-ask-in_default-clause-answers_last c =
    let p = c.from_residual-in_err-ask-in_default in
    rw (raised p.result c.in_err-ask-in_default.field-0.0 p.ensures.1)
    (λ h m how e. verdict-stop h c.ask-in_default.new.self _ _ (c.in_err-ask-in_default.ensures.asks h) ∙ last_many m how h c.args.self.now c.args.bads.now _ e (omega (arith, c.in_default.len_at_least)))

pub returns-in_ok-ask-in_default-clause-answers_last : goal.returns-in_ok-ask-in_default-clause-answers_last
returns-in_ok-ask-in_default-clause-answers_last c =
    λ h m how e. verdict-reply h c.ask-in_default.new.self _ _ _ (c.in_ok-ask-in_default.ensures.asks h) c.from-in_default.ensures ∙ last_many m how h c.args.self.now c.args.bads.now _ e (omega (arith, c.in_default.len_at_least))
