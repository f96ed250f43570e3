-- Joining the parts of a run: the sequentials judged and visited, the bads judged, and the result written.
-- Assumes nothing.
use Prim.Native.Nat.{ℕ, ◌+◌, ◌<◌, ◌≤◌}
use mathlib.Core.Path.{◌≡◌, sym, ap, ◌∙◌, subst}
use mathlib.Core.Bool.{Bool, true, false}
use mathlib.Core.List.{List, [], flatten}
use native.Mathlib.Omega.{arith}
use lib.ListN.{length}
use Rattle.std.specs.Prelude.{Ok, Err, ⊤}
use Rattle.rules.specs.Lists.{All}
use Rattle.rules.specs.Refusal as rules
use Rattle.rules.specs.Refusal.{Out, refused, done, ◌>>=◌}
use Rattle.rules.specs.Legal.{BadEntry}
use Rattle.rules.specs.Model.{Model, Mode}
use Rattle.rules.specs.Walk.{St, Held, start}
use Rattle.rules.specs.Whole.{Folded, judge_sequentials, visit_all, fold_bads, fold}
use Rattle.rules.specs.Result.{result_words}
use Rattle.rules.proofs.Sections.{never, same-done}
use Rattle.tables.specs.declared.refusal.Refusal.{Refusal}
use Rattle.tables.specs.Refusals.{refusal_of}
use Rattle.optimize.specs.declared.call.Call.{Call}
use Rattle.optimize.specs.declared.folder.ConstantFolder.{ConstantFolder}
use Rattle.optimize.specs.declared.lists.Lists.{Lists}
use Rattle.optimize.specs.declared.walk.Walk.{Walk}
use Rattle.optimize.specs.View.{table_of, view}
use Rattle.optimize.specs.Call.{mode_is, ways_of}
use Rattle.optimize.specs.Folder.{count_in, seen, Keeps, LaidIn}
use Rattle.optimize.specs.Laid.{Laid}
use Rattle.optimize.specs.Lists.{walked_of}
use Rattle.optimize.specs.Bads.{Spare}
use Rattle.optimize.specs.declared.last_question.Verdict.{Verdict}
use Rattle.optimize.specs.LastQuestion.{verdict_is, bare_folded}
use Rattle.optimize.specs.Bounds.{count_of}
use Rattle.optimize.specs.ResultView.{untouched, folded_in, ModelOf, Handed}
use Rattle.optimize.specs.Runs.{Begun, Underway, Ends, Runs, model_by, model_of, folded_by, bads_of, once_of, folded_of, bared, Folds, FoldsBads, FoldsOnce}
use Rattle.optimize.specs.Clauses.{WalksAll, HandsOver}
use Rattle.optimize.proofs.Keeps.{seen_by}
use Rattle.optimize.proofs.Steps.{table-length}
use Rattle.optimize.proofs.BareLaws.{bare-same}
use Rattle.optimize.proofs.LastQuestion.{plain-seen}
use Rattle.optimize.proofs.Begun.{Laying, laying-begun}
use Rattle.optimize.proofs.RunLaws.{visit-refused, visits-done}

-- ---- the fold without the bads of its questions
pub record Bared (o : Out Folded) (x : Folded) : Type 0 where
  pub fold : Folded
  pub came : o ≡ done fold
  pub bare : bare_folded fold ≡ bare_folded x

bared-done : (o : Out Folded) (x : Folded) → bared (done x) ≡ bared o → Bared o x
bared-done (refused z) x e = never (refused z) z (bare_folded x) mathlib.Core.Path.refl (sym e)
bared-done (done f) x e = record { fold = f; came = mathlib.Core.Path.refl; bare = sym (same-done (bare_folded x) (bare_folded f) e) }

bared-refused : (o : Out Folded) (z : rules.Refusal) → refused z ≡ bared o → o ≡ refused z
bared-refused (refused y) z e = sym e
bared-refused (done f) z e = never (refused z) z (bare_folded f) mathlib.Core.Path.refl e

-- nothing is forgotten of what lies in a folder
bare_seen : (h : List Held) (d : List ℕ) (f : ConstantFolder) (ss initial later : List ℕ) (x : ℕ) → bare_folded (folded_by h d f ss initial later x) ≡ folded_by h d f ss initial later x
unfolding folded_in
bare_seen h d f ss initial later x = ap (λ (σ : St). record { state = σ; sequentials = ss; initial = initial; later = later; dropped = d; verdict = x }) (plain-seen h f)

-- ---- once they are judged
module _ (f : ConstantFolder) (l : Lists) (seqs : List ℕ) (room : ℕ) (b : Begun f l seqs room) where
  abbrev ss : List ℕ
  ss = l.sequentials.now

  abbrev initial : List ℕ
  initial = l.initial.now

  abbrev later : List ℕ
  later = l.later.now

  abbrev c : Call
  c = f.call

  abbrev g : List ℕ
  g = c.given.now

  abbrev m : Model
  m = model_of c l

  abbrev how : Mode
  how = mode_is c.mode

  -- with nothing counted
  judged_untouched : judge_sequentials (table_of g) (start (table_of g) c.inputs.now c.replies.now) ss ≡ (view [] g c.inputs.now c.replies.now f.res.now f.scratch.now untouched, seqs)
  judged_untouched = b.judged ∙ ap (λ (v : Walk). (view [] g c.inputs.now c.replies.now f.res.now f.scratch.now v, seqs)) b.counted

  laying : Laying g c.dumps.now c.inputs.now c.replies.now f.res.now f.scratch.now seqs how
  laying =
      laying-begun g c.dumps.now c.inputs.now c.replies.now ss f.res.now f.scratch.now seqs how c.table.legal b.runnable.legal.sequentials c.table.small (omega (arith, b.place)) judged_untouched

  pub begun-laid : LaidIn f
  begun-laid = subst (λ (v : Walk). Laid g c.dumps.now c.inputs.now c.replies.now how 0 f.res.now f.scratch.now v) (sym b.counted) laying.laid

  pub begun-inside : All (λ k. k < count_in f) seqs
  begun-inside = laying.entries

  -- ---- a visit of them refused
  pub visits_refused : (f₁ : ConstantFolder) (z : Refusal) → WalksAll f f₁ seqs (Err z) → Folds f f₁ l (Err z)
  unfolding folded_of walked_of
  visits_refused f₁ z v = ([], [], ap bared (sym (visit-refused m how (seen [] f) seqs b.judged (refusal_of z) (sym (v []).1))))

  -- ---- once they are visited
  module _ (f₁ : ConstantFolder) (k : Keeps f f₁) (x : ⊤) (v : WalksAll f f₁ seqs (Ok x)) where
    visited : visit_all (table_of g) (ways_of c) (seen [] f) seqs ≡ done (seen (v []).0 f₁)
    unfolding walked_of
    visited = sym (v []).1

    abbrev SpareBy : Call → Type 0
    SpareBy c = Spare 0 c.given.now f₁.scratch.now f₁.walk (length initial + (length later + 1))

    begun-spare : SpareBy c
    begun-spare =
        let s = laying.spare
        f₁.res.now f₁.scratch.now f₁.walk (v []).0
        (ap (λ (u : Walk). visit_all (table_of g) (ways_of c) (view [] g c.inputs.now c.replies.now f.res.now f.scratch.now u) seqs) (sym b.counted) ∙ visited ∙ ap (λ c. done (seen_by c (v []).0 f₁)) k.call) in
        omega (arith, s, b.place, k.scratch_length)

    pub begun-underway : LaidIn f₁ → Underway f₁ initial later
    begun-underway laid =
        record {
          laid = laid;
          first = subst (λ (d : Call). All (BadEntry (table_of d.given.now)) initial) (sym k.call) b.runnable.legal.initial;
          second = subst (λ (d : Call). All (BadEntry (table_of d.given.now)) later) (sym k.call) b.runnable.legal.later;
          spare = subst SpareBy (sym k.call) begun-spare;
        }

    -- under one-query of the initial bads alone
    pub begun-once : LaidIn f₁ → Underway f₁ initial []
    begun-once laid =
        let u = begun-underway laid in
        record { laid = laid; first = u.first; second = tt; spare = omega (arith, u.spare) }

    -- the rules' fold goes on from there
    goes-on : (one : Bool) → c.mode.one_query ≡ one → fold m how ≡ fold_bads m how one (seen (v []).0 f₁) seqs
    goes-on one e =
        visits-done m how (seen [] f) seqs b.judged (seen (v []).0 f₁) visited ∙ ap (λ (y : Bool). fold_bads m how y (seen (v []).0 f₁) seqs) e

    abbrev bads_by : Call → Bool → Out Folded
    bads_by d one = fold_bads (model_by d ss initial later) (mode_is d.mode) one (seen (v []).0 f₁) seqs

    module _ (f₂ : ConstantFolder) (n : Keeps f₁ f₂) where
      same : f₂.call ≡ c
      same = n.call ∙ k.call

      -- ---- both lists
      module _ (off : c.mode.one_query ≡ false) where
        both-lists : bads_by f₁.call false ≡ fold m how
        both-lists = ap (λ d. bads_by d false) k.call ∙ sym (goes-on false off)

        pub bads_refused : (z : Refusal) → FoldsBads f₁ f₂ initial later (Err z) → Folds f f₂ l (Err z)
        unfolding folded_of bads_of
        bads_refused z t = let p = t (v []).0 ss seqs in (p.0, p.1, ap bared (p.2 ∙ both-lists))

        pub bads_done : (kept : Lists) → kept.sequentials.now ≡ seqs → FoldsBads f₁ f₂ initial later (Ok (kept.initial, kept.later)) → Folds f f₂ l (Ok (kept, Verdict.Unasked))
        unfolding folded_of bads_of
        bads_done kept e t = let p = t (v []).0 ss seqs in (p.0, p.1, rw e (ap bared (p.2 ∙ both-lists)))

      -- ---- one-query
      module _ (on : c.mode.one_query ≡ true) where
        one-list : bads_by f₁.call true ≡ fold m how
        one-list = ap (λ d. bads_by d true) k.call ∙ sym (goes-on true on)

        pub once_refused : (z : Refusal) → FoldsOnce f₁ f₂ initial (Err z) → Folds f f₂ l (Err z)
        unfolding folded_of once_of
        once_refused z t = let p = t (v []).0 ss seqs later in (p.0, p.1, p.2 ∙ ap bared one-list)

        pub once_done : (kept : Lists) (verdict : Verdict) → kept.sequentials.now ≡ seqs → kept.later.now ≡ later → FoldsOnce f₁ f₂ initial (Ok (kept.initial, verdict)) → Folds f f₂ l (Ok (kept, verdict))
        unfolding folded_of once_of
        once_done kept verdict e₁ e₂ t =
            let p = t (v []).0 ss seqs later in
            (p.0, p.1, rw (e₁, e₂) (ap (λ o. done o) (bare_seen p.0 p.1 f₂ seqs kept.initial.now later (verdict_is verdict)) ∙ p.2 ∙ ap bared one-list))

-- ---- the result
-- the model of a call is what its result speaks of
pub call-model : (c : Call) (l : Lists) → ModelOf c.given.now c.inputs.now c.replies.now (model_of c l)
call-model c l = record { nodes = table-length c.given.now; inputs = mathlib.Core.Path.refl; replies = mathlib.Core.Path.refl }

-- from the folder f of a call, which the fold leaves as f'
module _ (f f' : ConstantFolder) (l : Lists) (c : Call) (same : f.call ≡ c) where
  pub runs_refused : (z : Refusal) → Folds f f' l (Err z) → (room : ℕ) (Q : List ℕ) → Runs (model_of c l) (mode_is c.mode) room (Err z) Q
  unfolding Ends folded_of
  runs_refused z t room Q =
      subst (λ (c : Call). fold (model_of c l) (mode_is c.mode) ≡ refused (refusal_of z)) same (bared-refused _ (refusal_of z) t.2)

  -- what was written is the result of the rules' fold
  pub runs_done : Keeps f f' → (kept : Lists) (verdict : Verdict) → Folds f f' l (Ok (kept, verdict)) → (room r : ℕ) (Q U : List ℕ) → length f.res.now ≡ room → HandsOver f' kept verdict Q r → U ≡ Q
      → Runs (model_of c l) (mode_is c.mode) room (Ok r) U
  unfolding Ends folded_of
  runs_done k kept verdict t room r Q U size w e =
      let m : Model = model_of c l in
      let q = bared-done (fold m (mode_is c.mode)) _ (subst (λ (c : Call). bared (folded_of t.0 t.1 f' (Ok (kept, verdict))) ≡ bared (fold (model_of c l) (mode_is c.mode))) same t.2) in
      let model = subst (λ (d : Call). ModelOf d.given.now d.inputs.now d.replies.now m) (sym (k.call ∙ same)) (call-model c l) in
      let words = sym (bare-same m _) ∙ ap (result_words m) (sym q.bare) ∙ bare-same m q.fold in (
        q.fold,
        q.came,
        rw e (subst (λ (x : ℕ). Handed (flatten (result_words m q.fold)) x Q r) (k.res_length ∙ size)
            (subst (λ (ws : List (List ℕ)). Handed (flatten ws) (length f'.res.now) Q r) words (w t.0 t.1 m model))),
      )
