-- The outcome of a call is the walk of the call judged: the stages before the walk read neither inputs nor replies.
-- What is presented as the rules say passes those stages.
-- Assumes nothing.
use mathlib.Core.Path.{◌≡◌, refl, sym, ap, ◌∙◌}
use mathlib.Core.Option.{Option, none, some}
use lib.ListN.{length}
use Rattle.rules.specs.Refusal.{Refusal, Out, refused, done, ◌>>=◌, unless_refused}
use Rattle.rules.specs.Model.{Model}
use Rattle.rules.specs.Check.{check}
use Rattle.rules.specs.Legal.{Unrefused}
use Rattle.rules.specs.Whole.{fold, run}
use Rattle.rules.specs.Sections.{Sections, cut}
use Rattle.rules.specs.Names.{names_of, dump}
use Rattle.rules.specs.Call.{judge_mode, judge_room, need_of, model_from, brought, judge_and_fold, judge_cut, outcome, judged, JudgedPresented, fold_judged, JudgedFirst}
use Rattle.rules.proofs.Check.{unrefused}
use Rattle.rules.proofs.Sections.{bind_done, cut-encode}
use Rattle.rules.proofs.Names.{names_back}
use Rattle.rules.proofs.Call.{mode-taken, enough_room, judged_as_given}

-- a stage before and after
push : {A B C : Type 0} (m : Out A) (f : A → Out B) (h : A → Out C) (g : C → Out B) → ((x : A) → f x ≡ (h x >>= g)) → (m >>= f) ≡ ((m >>= h) >>= g)
push (refused r) f h g e = refl
push (done x) f h g e = e x

unless_bind : {A B : Type 0} (o : Option Refusal) (x : Out A) (f : A → Out B) → (unless_refused o x >>= f) ≡ unless_refused o (x >>= f)
unless_bind none x f = refl
unless_bind (some r) x f = refl

pub outcome-is : JudgedFirst
unfolding outcome judged judge_cut judge_and_fold run
outcome-is limits entry call =
    push (judge_mode call.mode) _ _ (fold_judged entry) λ how.
    push (cut limits call.words) _ _ (fold_judged entry) λ s.
    push (names_of limits call.names) _ _ (fold_judged entry) λ names.
    push (judge_room (need_of s) call.result_room call.scratch_room) _ _ (fold_judged entry) λ u.
    let m : Model = model_from names (brought entry s) in
    unless_bind (check (length names) s.rows m) (fold m how) (λ f. done (record { how = how; model = m; folded = f }))
    ∙ ap (λ (o : Option Refusal). unless_refused o (fold_judged entry (record { how = how; sections = s; names = names }))) (judged_as_given entry names s)
    ∙ sym (unless_bind (check (length names) s.rows (model_from names s)) (done (record { how = how; sections = s; names = names })) (fold_judged entry))

-- ---- words and bytes that meet the rules
pub judged_presented : JudgedPresented
unfolding JudgedPresented judged Unrefused
judged_presented limits call j p =
    let s : Sections = j.sections in
    bind_done (judge_mode call.mode) _ j.how (mode-taken call.mode p.mode ∙ ap done p.how)
    ∙ bind_done (cut limits call.words) _ s (ap (cut limits) (sym p.words) ∙ cut-encode limits s p.within)
    ∙ bind_done (names_of limits call.names) _ j.names (ap (names_of limits) (sym p.bytes) ∙ names_back limits j.names p.names_within)
    ∙ bind_done (judge_room (need_of s) call.result_room call.scratch_room) _ tt (enough_room (need_of s) call.result_room call.scratch_room p.result_room p.scratch_room)
    ∙ ap (λ (o : Option Refusal). unless_refused o (done j))
    (unrefused (length j.names) s.rows (dump j.names) s.sequentials s.initial s.later s.inputs s.replies p.rules)
