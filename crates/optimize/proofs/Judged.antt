-- A call that `judge` accepted: each stage passed, and what the walk may rely on.
-- By taking the stages apart with the first-refusal bind.
-- Assumes nothing.
use Prim.Native.Nat.{◌≤◌}
use mathlib.Core.Path.{◌≡◌, sym, subst}
use mathlib.Core.Option.{none}
use lib.ListN.{length}
use Rattle.rules.specs.Refusal.{done}
use Rattle.rules.specs.Limits.{Limits, mode_of}
use Rattle.rules.specs.Check.{check}
use Rattle.rules.specs.Sections.{cut}
use Rattle.rules.specs.Names.{names_of}
use Rattle.rules.specs.Call.{Call, Judged, judge_mode, judge_room, need_of, model_from, judged}
use Rattle.rules.proofs.Sections.{through, same-done}
use Rattle.rules.proofs.Call.{mode-done, room-done}
use Rattle.rules.proofs.Demand.{run-done}

-- what a judged call has passed
pub record Passed (limits : Limits) (call : Call) (j : Judged) : Type 0 where
  pub how : j.how ≡ mode_of call.mode
  pub sections : cut limits call.words ≡ done j.sections
  pub names : names_of limits call.names ≡ done j.names
  pub result-room : need_of j.sections ≤ call.result_room
  pub scratch-room : need_of j.sections ≤ call.scratch_room
  pub table : check (length j.names) j.sections.rows (model_from j.names j.sections) ≡ none

pub judged-passed : (limits : Limits) (call : Call) (j : Judged) → judged limits call ≡ done j → Passed limits call j
unfolding judged
judged-passed limits call j e =
    through (judge_mode call.mode) _ j e λ how m e₁.
    through (cut limits call.words) _ j e₁ λ s c e₂.
    through (names_of limits call.names) _ j e₂ λ names n e₃.
    through (judge_room (need_of s) call.result_room call.scratch_room) _ j e₃ λ u r e₄.
    let q = run-done (check (length names) s.rows (model_from names s)) _ j e₄ in
    let room = room-done (need_of s) call.result_room call.scratch_room u r in
    subst (λ (j : Judged). Passed limits call j) (same-done _ j q.1) (record {
      how = sym (mode-done call.mode how m).1;
      sections = c;
      names = n;
      result-room = room.0;
      scratch-room = room.1;
      table = q.0;
    })
