-- Demand 3 of the three functions: what a caller learns from each contract is all that demand 3 of the result's words asks.
-- A change of a contract in optimize.rt is a change of what stands before the arrows here.
-- Assumes nothing.
use Prim.Native.Nat.{ℕ}
use lib.ListN.{length}
use contract.Lifetimes.{Lfts}
use denote.Triple.Clauses.{AtExit}
use borrow.Fn.Kinds.{Dens, ended_of}
use Rattle.rules.specs.Call.{impl, with_solver, with_input}
use Rattle.tables.specs.Judging.{call_with}
use Rattle.std.specs.Prelude.{Ok}
use Rattle.optimize.specs.Demand.{Kept, Demand3OfResult}
use Rattle.optimize.proofs.Demand.{demand_3_of-result}
use Rattle.optimize.proofs.optimize.optimize_model_impl.Kinds as impl-kinds
use Rattle.optimize.proofs.optimize.optimize_model_impl.Reads as impl-contract
use Rattle.optimize.proofs.optimize.optimize_model_with_solver.Kinds as solver-kinds
use Rattle.optimize.proofs.optimize.optimize_model_with_solver.Reads as solver-contract
use Rattle.optimize.proofs.optimize.optimize_model_with_input.Kinds as input-kinds
use Rattle.optimize.proofs.optimize.optimize_model_with_input.Reads as input-contract

pub optimize-model-impl : (κs : Lfts 4) (a : Dens κs impl-kinds.ps) (count : ℕ) (e : AtExit (ended_of 4 impl-kinds.ps impl-kinds.r) κs)
    → impl-contract.Learnt κs a (Ok count) e
    → Kept impl (call_with a.0 a.1.0.now a.1.1.0.now (length a.1.1.1.0.now) (length a.1.1.1.1.0.now)) count e.1.1.1.0.now
unfolding Demand3OfResult
optimize-model-impl κs a count e h = demand_3_of-result impl _ count _ _ (record { answer = h.0; result = h.1.0; scratch = h.1.1 })

pub optimize_model-with_solver : (κs : Lfts 4) (a : Dens κs solver-kinds.ps) (count : ℕ) (e : AtExit (ended_of 4 solver-kinds.ps solver-kinds.r) κs)
    → solver-contract.Learnt κs a (Ok count) e
    → Kept with_solver (call_with a.0 a.1.0.now a.1.1.0.now (length a.1.1.1.0.now) (length a.1.1.1.1.0.now)) count e.1.1.1.0.now
unfolding Demand3OfResult
optimize_model-with_solver κs a count e h = demand_3_of-result with_solver _ count _ _ (record { answer = h.0; result = h.1.0; scratch = h.1.1 })

pub optimize_model-with-input : (κs : Lfts 4) (a : Dens κs input-kinds.ps) (count : ℕ) (e : AtExit (ended_of 4 input-kinds.ps input-kinds.r) κs)
    → input-contract.Learnt κs a (Ok count) e
    → Kept with_input (call_with 0 a.0.now a.1.0.now (length a.1.1.0.now) (length a.1.1.1.0.now)) count e.1.1.0.now
unfolding Demand3OfResult
optimize_model-with-input κs a count e h = demand_3_of-result with_input _ count _ _ (record { answer = h.0; result = h.1.0; scratch = h.1.1 })
