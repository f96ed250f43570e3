-- What a caller from C or Rust learns of a call, all of it: the answer, every word of both buffers, and a label's every byte.
--     Left              what the contracts of the exports say of a fold and of what it left
--     Told              what follows: an accepted fold keeps the values, and a dropped bad state is false (demand 3); a refused one leaves nothing
--     Labelled          what the contract of the exported label says
-- Assumes nothing.
use Rattle.std.specs.Prelude.{ℕ, ◌≡◌, ◌≢◌, List, length, replicate}
use Rattle.rules.specs.Limits.{house}
use Rattle.rules.specs.Label.{label_of}
use Rattle.rules.specs.Table.{node_at}
use Rattle.rules.specs.Value.{Value, number}
use Rattle.rules.specs.Call.{Entry, Call, left, FaithfulTo, value_in, Premises}
use Rattle.optimize.specs.Demand.{Kept, Dropped}
use Rattle.gemtweed.specs.declared.fold.GemtweedAnswer.{GemtweedAnswer}
use Rattle.gemtweed.specs.Answers.{answer_is, laid_in}

-- r is answered, and Q and S stand in result and scratch
pub record Left (entry : Entry) (call : Call) (r : GemtweedAnswer) (Q S : List ℕ) : Type 0 where
  pub answer : answer_is r ≡ (left house entry call).answer
  pub result : Q ≡ (left house entry call).result
  pub scratch : S ≡ (left house entry call).scratch

pub record Told (entry : Entry) (call : Call) (r : GemtweedAnswer) (Q S : List ℕ) : Type 0 where
  pub accepted : r.number ≡ 0 → Kept entry call r.words Q
  pub dropped : (z : r.number ≡ 0) → Premises (accepted z).accepted → (α : ℕ → Value) → FaithfulTo (accepted z).accepted α
      → (b : ℕ) → Dropped (accepted z).accepted.model Q b → value_in (accepted z).accepted α (node_at (accepted z).accepted.model.table b).a ≡ number 0
  pub refused : r.number ≢ 0 → Q ≡ replicate call.result_room 0
  pub scratch : S ≡ replicate call.scratch_room 0

unfoldable pub Demand3OfAnswer : Type 0
Demand3OfAnswer = (entry : Entry) (call : Call) (r : GemtweedAnswer) (Q S : List ℕ) → Left entry call r Q S → Told entry call r Q S

-- r is answered, and the bytes of out are as they were but for the label at their front
pub record Labelled (node : ℕ) (words names substitute out : List ℕ) (r : ℕ) (exit : List ℕ) : Type 0 where
  pub sized : r ≡ length (label_of house node words names substitute)
  pub bytes : exit ≡ laid_in (label_of house node words names substitute) out
