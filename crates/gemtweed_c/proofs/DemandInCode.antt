-- What a caller from C or Rust learns from each export's contract is all that Told and Labelled ask: a clause left out of one breaks these.
-- Assumes nothing.
use Prim.Native.Nat.{ℕ}
use lib.ListN.{length}
use contract.Lifetimes.{Lfts}
use denote.Triple.Clauses.{AtExit}
use borrow.Fn.Kinds.{Dens, ended_of}
use Rattle.rules.specs.Call.{impl, with_solver, with_input}
use Rattle.tables.specs.Judging.{call_with}
use Rattle.gemtweed.specs.declared.fold.GemtweedAnswer.{GemtweedAnswer}
use Rattle.gemtweed.specs.Caller.{Told, Demand3OfAnswer, Labelled}
use Rattle.gemtweed.proofs.DemandInCode.{demand_3_of-answer}
use Rattle.gemtweed_c.proofs.gemtweed_optimize_model_impl.Kinds as impl-kinds
use Rattle.gemtweed_c.proofs.gemtweed_optimize_model_impl.Reads as impl-contract
use Rattle.gemtweed_c.proofs.gemtweed_optimize_model_with_solver.Kinds as solver-kinds
use Rattle.gemtweed_c.proofs.gemtweed_optimize_model_with_solver.Reads as solver-contract
use Rattle.gemtweed_c.proofs.gemtweed_optimize_model_with_input.Kinds as input-kinds
use Rattle.gemtweed_c.proofs.gemtweed_optimize_model_with_input.Reads as input-contract
use Rattle.gemtweed_c.proofs.gemtweed_label.Kinds as label-kinds
use Rattle.gemtweed_c.proofs.gemtweed_label.Reads as label-contract

pub gemtweed-optimize-model-impl : (κs : Lfts 4) (a : Dens κs impl-kinds.ps) (r : GemtweedAnswer) (e : AtExit (ended_of 4 impl-kinds.ps impl-kinds.r) κs)
    → impl-contract.Learnt κs a r e
    → Told impl (call_with a.0 a.1.0.now a.1.1.0.now (length a.1.1.1.0.now) (length a.1.1.1.1.0.now)) r e.1.1.1.0.now e.1.1.1.1.0.now
unfolding Demand3OfAnswer
gemtweed-optimize-model-impl κs a r e h = demand_3_of-answer impl _ r _ _ (record { answer = h.0; result = h.1.0; scratch = h.1.1 })

pub gemtweed_optimize_model-with_solver : (κs : Lfts 4) (a : Dens κs solver-kinds.ps) (r : GemtweedAnswer) (e : AtExit (ended_of 4 solver-kinds.ps solver-kinds.r) κs)
    → solver-contract.Learnt κs a r e
    → Told with_solver (call_with a.0 a.1.0.now a.1.1.0.now (length a.1.1.1.0.now) (length a.1.1.1.1.0.now)) r e.1.1.1.0.now e.1.1.1.1.0.now
unfolding Demand3OfAnswer
gemtweed_optimize_model-with_solver κs a r e h = demand_3_of-answer with_solver _ r _ _ (record { answer = h.0; result = h.1.0; scratch = h.1.1 })

pub gemtweed_optimize_model-with-input : (κs : Lfts 4) (a : Dens κs input-kinds.ps) (r : GemtweedAnswer) (e : AtExit (ended_of 4 input-kinds.ps input-kinds.r) κs)
    → input-contract.Learnt κs a r e
    → Told with_input (call_with 0 a.0.now a.1.0.now (length a.1.1.0.now) (length a.1.1.1.0.now)) r e.1.1.0.now e.1.1.1.0.now
unfolding Demand3OfAnswer
gemtweed_optimize_model-with-input κs a r e h = demand_3_of-answer with_input _ r _ _ (record { answer = h.0; result = h.1.0; scratch = h.1.1 })

pub gemtweed-label : (κs : Lfts 3) (a : Dens κs label-kinds.ps) (r : ℕ) (e : AtExit (ended_of 3 label-kinds.ps label-kinds.r) κs)
    → label-contract.Learnt κs a r e
    → Labelled a.1.1.1.0 a.0.now a.1.0.now a.1.1.0.now a.1.1.1.1.0.now r e.1.1.1.1.0.now
gemtweed-label κs a r e h = record { sized = h.0; bytes = h.1 }
