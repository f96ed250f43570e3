-- What a caller learns from each exported function's contract is all that Left and Labelled ask: a clause left out of one breaks these.
-- Of a fold demand 3 follows, by that of `optimize_model_impl` and the two beside it: number 0 is acceptance.
-- Assumes nothing.
use Prim.Native.Nat.{ℕ}
use mathlib.Core.Path.{◌≡◌, refl, sym, ap, ◌∙◌}
use mathlib.Core.Logic.{◌≢◌}
use mathlib.Core.List.{List}
use lib.ListN.{length, replicate}
use contract.Lifetimes.{Lfts}
use denote.Triple.Clauses.{AtExit}
use borrow.Fn.Kinds.{Dens, ended_of}
use Rattle.rules.specs.Refusal.{Out, refused, done}
use Rattle.rules.specs.Limits.{house}
use Rattle.rules.specs.Table.{node_at}
use Rattle.rules.specs.Value.{Value, number}
use Rattle.rules.specs.Call.{Entry, Call, Accepted, Answer, answer_of, result_of, outcome, left, impl, with_solver, with_input, FaithfulTo, value_in, Premises}
use Rattle.rules.proofs.Numbered.{accepted-answer}
use Rattle.tables.specs.Judging.{call_with}
use Rattle.std.specs.Prelude.{Ok}
use Rattle.optimize.specs.Entries.{answered}
use Rattle.optimize.specs.Demand.{Kept, Dropped, Demand3OfResult}
use Rattle.optimize.proofs.Demand.{demand_3_of-result}
use Rattle.gemtweed.specs.declared.fold.GemtweedAnswer.{GemtweedAnswer}
use Rattle.gemtweed.specs.Answers.{answer_is}
use Rattle.gemtweed.specs.Caller.{Left, Told, Demand3OfAnswer, Labelled}
use Rattle.gemtweed.proofs.fold.gemtweed_optimize_model_impl.Kinds as impl-kinds
use Rattle.gemtweed.proofs.fold.gemtweed_optimize_model_impl.Reads as impl-contract
use Rattle.gemtweed.proofs.fold.gemtweed_optimize_model_with_solver.Kinds as solver-kinds
use Rattle.gemtweed.proofs.fold.gemtweed_optimize_model_with_solver.Reads as solver-contract
use Rattle.gemtweed.proofs.fold.gemtweed_optimize_model_with_input.Kinds as input-kinds
use Rattle.gemtweed.proofs.fold.gemtweed_optimize_model_with_input.Reads as input-contract
use Rattle.gemtweed.proofs.label.gemtweed_label.Kinds as label-kinds
use Rattle.gemtweed.proofs.label.gemtweed_label.Reads as label-contract

module _ (entry : Entry) (call : Call) (r : GemtweedAnswer) (Q S : List ℕ) (l : Left entry call r Q S) where
  -- the answer in words, where the rules accept the call
  done-answer : (a : Accepted) → outcome house entry call ≡ done a → answered (Ok r.words) ≡ (left house entry call).answer
  unfolding left
  done-answer a e =
      let told : answer_is r ≡ answer_of (done a) = l.answer ∙ ap answer_of e in
      ap (λ (z : Answer). record { number = 0; section = 0; position = 0; words = z.words }) told ∙ sym (ap answer_of e)

  kept : r.number ≡ 0 → Kept entry call r.words Q
  unfolding Demand3OfResult left
  kept z =
      let a = accepted-answer house entry call (sym (ap (λ (z : Answer). z.number) l.answer) ∙ z) in
      demand_3_of-result entry call r.words Q S (record { answer = done-answer a.0 a.1; result = l.result; scratch = l.scratch })

  false_where_dropped : (z : r.number ≡ 0) → Premises (kept z).accepted → (α : ℕ → Value) → FaithfulTo (kept z).accepted α
      → (b : ℕ) → Dropped (kept z).accepted.model Q b → value_in (kept z).accepted α (node_at (kept z).accepted.model.table b).a ≡ number 0
  false_where_dropped z h α f = ((kept z).keeps h α f).dropped

  nothing : (o : Out Accepted) → outcome house entry call ≡ o → r.number ≢ 0 → Q ≡ replicate call.result_room 0
  unfolding left
  nothing (refused w) e n = l.result ∙ ap (result_of call.result_room) e
  nothing (done a) e n = absurd (n (ap (λ (z : Answer). z.number) (l.answer ∙ ap answer_of e)))

  zeros : S ≡ replicate call.scratch_room 0
  unfolding left
  zeros = l.scratch

pub demand_3_of-answer : Demand3OfAnswer
unfolding Demand3OfAnswer
demand_3_of-answer entry call r Q S l =
    record { accepted = kept entry call r Q S l; dropped = false_where_dropped entry call r Q S l; refused = nothing entry call r Q S l (outcome house entry call) refl; scratch = zeros entry call r Q S l }

-- ---- the exported functions
pub gemtweed-optimize-model-impl : (κs : Lfts 4) (a : Dens κs impl-kinds.ps) (r : GemtweedAnswer) (e : AtExit (ended_of 4 impl-kinds.ps impl-kinds.r) κs)
    → impl-contract.Learnt κs a r e
    → Told impl (call_with a.0 a.1.0.now a.1.1.0.now (length a.1.1.1.0.now) (length a.1.1.1.1.0.now)) r e.1.1.1.0.now e.1.1.1.1.0.now
unfolding Demand3OfAnswer
gemtweed-optimize-model-impl κs a r e h = demand_3_of-answer impl _ r _ _ (record { answer = h.0; result = h.1.0; scratch = h.1.1 })

pub gemtweed_optimize_model-with_solver : (κs : Lfts 4) (a : Dens κs solver-kinds.ps) (r : GemtweedAnswer) (e : AtExit (ended_of 4 solver-kinds.ps solver-kinds.r) κs)
    → solver-contract.Learnt κs a r e
    → Told with_solver (call_with a.0 a.1.0.now a.1.1.0.now (length a.1.1.1.0.now) (length a.1.1.1.1.0.now)) r e.1.1.1.0.now e.1.1.1.1.0.now
unfolding Demand3OfAnswer
gemtweed_optimize_model-with_solver κs a r e h = demand_3_of-answer with_solver _ r _ _ (record { answer = h.0; result = h.1.0; scratch = h.1.1 })

pub gemtweed_optimize_model-with-input : (κs : Lfts 4) (a : Dens κs input-kinds.ps) (r : GemtweedAnswer) (e : AtExit (ended_of 4 input-kinds.ps input-kinds.r) κs)
    → input-contract.Learnt κs a r e
    → Told with_input (call_with 0 a.0.now a.1.0.now (length a.1.1.0.now) (length a.1.1.1.0.now)) r e.1.1.0.now e.1.1.1.0.now
unfolding Demand3OfAnswer
gemtweed_optimize_model-with-input κs a r e h = demand_3_of-answer with_input _ r _ _ (record { answer = h.0; result = h.1.0; scratch = h.1.1 })

pub gemtweed-label : (κs : Lfts 3) (a : Dens κs label-kinds.ps) (r : ℕ) (e : AtExit (ended_of 3 label-kinds.ps label-kinds.r) κs)
    → label-contract.Learnt κs a r e
    → Labelled a.1.1.1.0 a.0.now a.1.0.now a.1.1.0.now a.1.1.1.1.0.now r e.1.1.1.1.0.now
gemtweed-label κs a r e h = record { sized = h.0; bytes = h.1 }
