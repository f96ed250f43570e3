-- The nodes are visited one by one; what the rules make of the list is what they make of the rest.
-- Assumes nothing.
use mathlib.Core.Path.{refl}
use native.Mathlib.Omega.{arith}
use Rattle.optimize.proofs.Asks.{raised}
use Rattle.optimize.proofs.Keeps.{keeps_none, keeps_then}
use Rattle.optimize.proofs.VisitLaws.{visits_none, visits-on, visits-stop, visits_end}
use Rattle.optimize.proofs.folder.ConstantFolder.visit_all.Goals as goal

pub loop-node-init : goal.loop-node-init
loop-node-init c = record { keeps = keeps_none _; laid = c.requires.laid; visits = visits_none c.args.self.now c.args.nodes.now }

pub returns-in_err-visit-clause-walks_all : goal.returns-in_err-visit-clause-walks_all
returns-in_err-visit-clause-walks_all c =
    rw (raised c.from_residual.result c.in_err-visit.field-0.0 c.from_residual.ensures.1)
    (visits-stop c.args.self.now c.loop-node.self c.visit.new.self c.args.nodes.now c.loop-node.node-index _ c.loop-node.invariant.keeps.call refl (omega arith) _ c.visit.ensures.walks c.loop-node.invariant.visits _ c.in_err-visit.was)

pub loop-node-preserved : goal.loop-node-preserved
loop-node-preserved c =
    record {
      keeps = keeps_then _ _ _ c.loop-node.invariant.keeps c.visit.ensures.keeps;
      laid = c.in_ok-visit.ensures.laid;
      visits = visits-on c.args.self.now c.loop-node.self c.visit.new.self c.args.nodes.now c.loop-node.node-index _ c.loop-node.invariant.keeps.call refl (omega arith) _ c.visit.ensures.walks c.loop-node.invariant.visits _ c.in_ok-visit.was;
    }

pub returns-clause-walks_all : goal.returns-clause-walks_all
returns-clause-walks_all c = visits_end c.args.self.now c.loop-node.self c.args.nodes.now c.loop-node.node-index tt (omega arith) c.loop-node.invariant.visits
