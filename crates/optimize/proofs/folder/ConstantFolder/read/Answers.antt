-- No constant address: the Read stays. Else the search decides, with its counts.
-- Assumes nothing.
use mathlib.Core.Path.{refl, ap, sym, ◌∙◌}
use Rattle.rules.specs.Memory.{fold_found, passed_by}
use Rattle.optimize.specs.Call.{ways_of}
use Rattle.optimize.specs.Folding.{value_is}
use Rattle.optimize.proofs.Finishes.{read_is, forward-none, forward-some, tally_is, looked_is}
use Rattle.optimize.proofs.folder.ConstantFolder.read.Goals as goal

pub returns-in_default-clause-settles : goal.returns-in_default-clause-settles
returns-in_default-clause-settles c =
    let f = c.args.self.now in
    let g = f.call.given.now in
    λ h. c.settle.ensures.settles h ∙ forward-none h g _ _ f.res.now f.scratch.now f.walk (ways_of f.call) c.args.node c.args.x _ c.in_default.is ∙ read_is h g _ _ f.res.now f.scratch.now f.walk (ways_of f.call) c.args.node c.args.x c.args.y _ c.get_constant.ensures

pub returns-in-Some-found-clause-settles : goal.returns-in-Some-found-clause-settles
returns-in-Some-found-clause-settles c =
    let f = c.args.self.now in
    let g = f.call.given.now in
    let s = c.find_in_memory-search in
    λ h. c.settle-in-Some-found.ensures.settles h
    ∙ forward-some h g _ _ f.res.now f.scratch.now f.walk (ways_of f.call) c.args.node c.args.x _ _ _ s.result _ _ _ c.in-Some.is refl s.ensures.result_value (sym (ap (λ z. passed_by (value_is z) s.result.passed) c.in-Some-found.is)) (sym (ap (λ z. fold_found (value_is z)) c.in-Some-found.is)) (tally_is h g f.call.inputs.now f.call.replies.now f.res.now f.scratch.now f.walk _ _)
    ∙ read_is h g _ _ f.res.now f.scratch.now f.walk (ways_of f.call) c.args.node c.args.x c.args.y _ c.get_constant.ensures

pub returns-in-None-clause-settles : goal.returns-in-None-clause-settles
returns-in-None-clause-settles c =
    let f = c.args.self.now in
    let g = f.call.given.now in
    let s = c.find_in_memory-search in
    λ h. c.settle-in-None.ensures.settles h
    ∙ forward-some h g _ _ f.res.now f.scratch.now f.walk (ways_of f.call) c.args.node c.args.x _ _ _ s.result _ _ _ c.in-Some.is refl s.ensures.result_value (sym (ap (λ z. passed_by (value_is z) s.result.passed) c.in-None.is)) (sym (ap (λ z. fold_found (value_is z)) c.in-None.is)) (looked_is h g f.call.inputs.now f.call.replies.now f.res.now f.scratch.now f.walk _)
    ∙ read_is h g _ _ f.res.now f.scratch.now f.walk (ways_of f.call) c.args.node c.args.x c.args.y _ c.get_constant.ensures
