-- The kept sequentials are visited, and the bads of one or both lists judged.
-- Assumes nothing.
use mathlib.Core.Path.{refl}
use Rattle.optimize.proofs.Asks.{raised}
use Rattle.optimize.proofs.RunJoined.{begun-laid, begun-inside, begun-underway, begun-once, visits_refused, bads_refused, bads_done, once_refused, once_done}
use Rattle.optimize.proofs.folder.ConstantFolder.fold.Goals as goal

pub visit_all-requires-clause-laid : goal.visit_all-requires-clause-laid
visit_all-requires-clause-laid c = begun-laid c.args.self.now c.args.lists c.args.sequentials.now _ c.requires

pub visit_all-requires-clause-inside : goal.visit_all-requires-clause-inside
visit_all-requires-clause-inside c = begun-inside c.args.self.now c.args.lists c.args.sequentials.now _ c.requires

pub returns-in_err-visit_all-clause-folds : goal.returns-in_err-visit_all-clause-folds
returns-in_err-visit_all-clause-folds c =
    rw (raised c.from_residual.result c.in_err-visit_all.field-0.0 c.from_residual.ensures.1)
    (visits_refused _ c.args.lists c.args.sequentials.now _ c.requires c.visit_all.new.self _ c.in_err-visit_all.ensures.walks_all)

pub fold_once-requires-clause-underway : goal.fold_once-requires-clause-underway
fold_once-requires-clause-underway c =
    begun-once _ c.args.lists c.args.sequentials.now _ c.requires c.visit_all.new.self c.visit_all.ensures.keeps _ c.in_ok-visit_all.ensures.walks_all c.in_ok-visit_all.ensures.laid

pub returns-in_err-initial-clause-folds : goal.returns-in_err-initial-clause-folds
returns-in_err-initial-clause-folds c =
    rw (raised c.from_residual-in_err-initial.result c.in_err-initial.field-0.0 c.from_residual-in_err-initial.ensures.1)
    (once_refused _ c.args.lists c.args.sequentials.now _ c.requires c.visit_all.new.self c.visit_all.ensures.keeps _ c.in_ok-visit_all.ensures.walks_all c.fold_once.new.self c.fold_once.ensures.keeps c.if-once.true _ c.in_err-initial.ensures.folds_once)

pub returns-then-once-clause-folds : goal.returns-then-once-clause-folds
returns-then-once-clause-folds c =
    once_done _ c.args.lists c.args.sequentials.now _ c.requires c.visit_all.new.self c.visit_all.ensures.keeps _ c.in_ok-visit_all.ensures.walks_all c.fold_once.new.self c.fold_once.ensures.keeps c.if-once.true _ c.in_ok-initial.verdict refl refl c.in_ok-initial.ensures.folds_once

pub fold_bads-requires-clause-underway : goal.fold_bads-requires-clause-underway
fold_bads-requires-clause-underway c =
    begun-underway _ c.args.lists c.args.sequentials.now _ c.requires c.visit_all.new.self c.visit_all.ensures.keeps _ c.in_ok-visit_all.ensures.walks_all c.in_ok-visit_all.ensures.laid

pub returns-in_err-initial-2-clause-folds : goal.returns-in_err-initial-2-clause-folds
returns-in_err-initial-2-clause-folds c =
    rw (raised c.from_residual-in_err-initial-2.result c.in_err-initial-2.field-0.0 c.from_residual-in_err-initial-2.ensures.1)
    (bads_refused _ c.args.lists c.args.sequentials.now _ c.requires c.visit_all.new.self c.visit_all.ensures.keeps _ c.in_ok-visit_all.ensures.walks_all c.fold_bads.new.self c.fold_bads.ensures.keeps c.if-once.false _ c.in_err-initial-2.ensures.folds_bads)

pub returns-clause-folds : goal.returns-clause-folds
returns-clause-folds c =
    bads_done _ c.args.lists c.args.sequentials.now _ c.requires c.visit_all.new.self c.visit_all.ensures.keeps _ c.in_ok-visit_all.ensures.walks_all c.fold_bads.new.self c.fold_bads.ensures.keeps c.if-once.false _ refl c.in_ok-initial-2.ensures.folds_bads
