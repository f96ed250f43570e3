-- A whole call: what `judge` answers, the model in the parts of the words, and what a call leaves.
--     in_order, refused-left      the two answers of `judge`
--     kinds-known                 each code in the words is that of a kind
--     model_is, runnable          the parts of the words are the model that the entry brings, and the walk may run on it
--     folded_left                 what the walk hands back is what the rules leave
-- By inverting the first-refusal bind, the places of the sections, and the checks that the call passed.
-- Assumes nothing.
use Prim.Native.Nat.{ℕ, ◌+◌, ◌-◌, ◌*◌, ◌<◌, ◌≤◌}
use mathlib.Core.Path.{◌≡◌, refl, sym, ap, ap₂, ◌∙◌, subst, fun_ext}
use mathlib.Core.Bool.{Bool, true, false}
use mathlib.Core.Option.{none}
use mathlib.Core.List.{List, []}
use native.Mathlib.Omega.{arith}
use lib.Dec.{eqb}
use lib.ListN.{length, get_or, take, drop, replicate}
use Rattle.btor.specs.Operators.{bit}
use Rattle.rules.specs.Refusal.{Refusal, Out, refused, done, ◌>>=◌}
use Rattle.rules.specs.Table.{Row, kind_of, kind_code, row_width}
use Rattle.rules.specs.Model.{Model, Mode}
use Rattle.rules.specs.Check.{known_kind, check}
use Rattle.rules.specs.Legal.{WellFormed, no_row, row_at, Accepted}
use Rattle.rules.specs.Limits.{house, mode_of}
use Rattle.rules.specs.Names.{names_of, dump}
use Rattle.rules.specs.Whole.{fold}
use Rattle.rules.specs.Sections as rules
use Rattle.rules.specs.Call.{Entry, impl, with_solver, with_input, Call, Judged, judged, brought, model_from, fold_judged, outcome, left, answer_of, result_of, need_of}
use Rattle.rules.proofs.Base.{and_both, code-of-kind}
use Rattle.rules.proofs.Sections.{through, same-done, never, encode-cut, row-at}
use Rattle.rules.proofs.Call.{formed}
use Rattle.rules.proofs.Check.{accepted}
use Rattle.rules.proofs.Judged.{outcome-is}
use Rattle.tables.specs.Refusals.{refusal_of}
use Rattle.tables.specs.SectionAnswers.{sections_in, words_in}
use Rattle.tables.specs.NameAnswers.{dump_mark}
use Rattle.tables.specs.Judging.{rows_in, IsCut, call_with, judged_count, verdict_of}
use Rattle.tables.specs.declared.refusal.Refusal as tables
use Rattle.tables.specs.declared.sections.Sections.{Sections}
use Rattle.tables.specs.declared.judge.Accepted as judge
use Rattle.tables.proofs.JudgeLaws.{row_words, rows-count}
use Rattle.tables.proofs.NameLaws.{accepted_mark}
use Rattle.std.specs.Prelude.{Result, Ok, Err}
use Rattle.optimize.specs.Bounds.{count_of}
use Rattle.rules.specs.Sections.{word_of}
use Rattle.optimize.specs.ResultView.{KindsKnown}
use Rattle.optimize.specs.declared.lists.Lists.{Lists}
use Rattle.optimize.specs.Lists.{Table, ListsCut, between, part_of}
use Rattle.optimize.specs.Runs.{model_in, Runnable, Ends, Runs}
use Rattle.optimize.specs.Entries.{answered, inputs_of, replies_of, result_left, InOrder, model_parts, RunnableParts}
use Rattle.optimize.proofs.Given.{count-is, table_is, part-is}
use Rattle.optimize.proofs.Judged.{Passed, judged-passed}

-- ---- the two answers of `judge`
bind_refused : {A B : Type 0} (m : Out A) (f : A → B) (r : Refusal) → refused r ≡ (m >>= λ x. done (f x)) → m ≡ refused r
bind_refused (refused q) f r e = let z : r ≡ q = cc in ap (λ (x : Refusal). refused x) (sym z)
bind_refused (done x) f r e = never (refused r) r (f x) refl e

module _ (mode : ℕ) (ws bs : List ℕ) (room scratch : ℕ) where
  pub in_order : (a : judge.Accepted) → verdict_of ws (Ok a) ≡ judged_count house mode ws bs room scratch → IsCut house ws a.sections
      → InOrder (call_with mode ws bs room scratch) a.sections
  in_order a e h =
      through (judged house (call_with mode ws bs room scratch)) _ (sections_in ws a.sections, a.names) (sym e) λ j m f.
      record { is_cut = h; with = j; judged = m; sections = ap (λ (q : rules.Sections × ℕ). q.0) (same-done _ _ f) }

-- a call refused before the walk: the answer, and zeros in the result
pub refused-left : (e : Entry) (mode : ℕ) (ws bs : List ℕ) (room scratch : ℕ) (r : tables.Refusal)
    → verdict_of ws (Err r) ≡ judged_count house mode ws bs room scratch
    → (answered (Err r) ≡ (left house e (call_with mode ws bs room scratch)).answer)
    × (replicate room 0 ≡ (left house e (call_with mode ws bs room scratch)).result)
    × (replicate scratch 0 ≡ (left house e (call_with mode ws bs room scratch)).scratch)
unfolding left
refused-left e mode ws bs room scratch r h =
    let call : Call = call_with mode ws bs room scratch in
    let m : judged house call ≡ refused (refusal_of r) = bind_refused (judged house call) _ (refusal_of r) h in
    let o : outcome house e call ≡ refused (refusal_of r) = outcome-is house e call ∙ ap (λ (q : Out Judged). q >>= fold_judged e) m in
    (sym (ap answer_of o), sym (ap (result_of room) o), refl)

-- ---- the names
bit_back : (b : Bool) → eqb (bit b) 1 ≡ b
bit_back true = refl
bit_back false = refl

pub dumps_are : (bs dumps : List ℕ) (names : List (List ℕ)) → names_of house bs ≡ done names → ((k : ℕ) → get_or dumps k 0 ≡ dump_mark house bs k)
    → (λ (k : ℕ). eqb (get_or dumps k 0) 1) ≡ dump names
dumps_are bs dumps names e marks = fun_ext (λ k. ap (λ (n : ℕ). eqb n 1) (marks k ∙ accepted_mark house bs names e k) ∙ bit_back (dump names k))

-- ---- the model in the parts of the words
module _ (ws : List ℕ) (s : Sections) (h : IsCut house ws s) where
  nothing : (at : ℕ) → between ws at at ≡ []
  nothing at = let z : at - at ≡ 0 = omega arith in ap (λ (n : ℕ). take n (drop at ws)) z

  inputs_are : (e : Entry) → inputs_of e ws s.inputs ≡ (brought e (sections_in ws s)).inputs
  inputs_are impl = part-is ws _ s.inputs h.inside.inputs
  inputs_are with_solver = nothing s.inputs.start
  inputs_are with_input = part-is ws _ s.inputs h.inside.inputs

  replies_are : (e : Entry) → replies_of e ws s.replies ≡ (brought e (sections_in ws s)).replies
  replies_are impl = part-is ws _ s.replies h.inside.replies
  replies_are with_solver = part-is ws _ s.replies h.inside.replies
  replies_are with_input = nothing s.replies.start

  pub model_is : (e : Entry) (dumps : List ℕ) (names : List (List ℕ)) → (λ (k : ℕ). eqb (get_or dumps k 0) 1) ≡ dump names
      → model_parts ws dumps s (inputs_of e ws s.inputs) (replies_of e ws s.replies) ≡ model_from names (brought e (sections_in ws s))
  unfolding model_parts
  model_is e dumps names d = go e
    where
      at_2 : part_of ws s.sequentials ≡ words_in ws 1 s.sequentials
      at_2 = part-is ws _ s.sequentials h.inside.sequentials

      at-3 : part_of ws s.initial ≡ words_in ws 1 s.initial
      at-3 = part-is ws _ s.initial h.inside.initial

      at_4 : part_of ws s.later ≡ words_in ws 1 s.later
      at_4 = part-is ws _ s.later h.inside.later

      go : (e : Entry) → model_parts ws dumps s (inputs_of e ws s.inputs) (replies_of e ws s.replies) ≡ model_from names (brought e (sections_in ws s))
      go impl = cc (table_is ws s h, d, at_2, at-3, at_4, inputs_are impl, replies_are impl)
      go with_solver = cc (table_is ws s h, d, at_2, at-3, at_4, inputs_are with_solver, replies_are with_solver)
      go with_input = cc (table_is ws s h, d, at_2, at-3, at_4, inputs_are with_input, replies_are with_input)

  inputs-fewer : (e : Entry) → length (inputs_of e ws s.inputs) ≤ length (words_in ws 1 s.inputs)
  inputs-fewer e = let q = ap length (inputs_are e) in omega (arith, q, go e)
    where
      go : (e : Entry) → length (brought e (sections_in ws s)).inputs ≤ length (words_in ws 1 s.inputs)
      go impl = omega arith
      go with_solver = omega arith
      go with_input = omega arith

  -- rule 3 of each row: its code is that of a kind
  code_in : (k : ℕ) → k < count_of ws → (row_at (rows_in ws s) k).code ≡ word_of ws k 0
  code_in k l =
      let at : row_width * k + 1 ≡ 1 + row_width * k + 0 = omega arith in
      ap (λ (r : Row). r.code) (row-at house ws (sections_in ws s) h.whole k no_row (omega (arith, count-is ws s h, rows-count ws s)) ∙ row_words ws (row_width * k + 1))
      ∙ ap (λ (n : ℕ). get_or ws n 0) at

  pub kinds-known : (names : List (List ℕ)) → check (length names) (rows_in ws s) (model_from names (sections_in ws s)) ≡ none → KindsKnown ws
  unfolding Accepted
  kinds-known names e k l =
      let S : rules.Sections = sections_in ws s in
      let meets = accepted (length names) S.rows (dump names) S.sequentials S.initial S.later S.inputs S.replies e in
      let known = (and_both (known_kind (row_at (rows_in ws s) k).code) _ (meets.rows k (omega (arith, count-is ws s h, rows-count ws s)))).0 in
      subst (λ (c : ℕ). kind_code (kind_of c) ≡ c) (code_in k l) (code-of-kind (row_at (rows_in ws s) k).code known)

pub scratch-left : (e : Entry) (call : Call) (n : ℕ) → n ≡ call.scratch_room → replicate n 0 ≡ (left house e call).scratch
unfolding left
scratch-left e call n l = ap (λ (n : ℕ). replicate n 0) l

-- the walk may run whatever the replies are
any-replies : (ws dumps : List ℕ) (s : Sections) (i r r' : List ℕ) (result_room scratch_room : ℕ)
    → RunnableParts ws dumps s i r result_room scratch_room → RunnableParts ws dumps s i r' result_room scratch_room
unfolding RunnableParts
any-replies ws dumps s i r r' result_room scratch_room h = assumption h

-- ---- a call in order
module _ (call : Call) (s : Sections) (p : InOrder call s) (dumps : List ℕ) (marks : (k : ℕ) → get_or dumps k 0 ≡ dump_mark house call.names k) where
  passed : Passed house call p.with
  passed = judged-passed house call p.with p.judged

  brought-is : (e : Entry) → model_parts call.words dumps s (inputs_of e call.words s.inputs) (replies_of e call.words s.replies) ≡ model_from p.with.names (brought e p.with.sections)
  brought-is e =
      model_is call.words s p.is_cut e dumps p.with.names (dumps_are call.names dumps p.with.names passed.names marks)
      ∙ ap (λ (S : rules.Sections). model_from p.with.names (brought e S)) (sym p.sections)

  pub runnable : (e : Entry) → RunnableParts call.words dumps s (inputs_of e call.words s.inputs) (replies_of e call.words s.replies) call.result_room call.scratch_room
  unfolding RunnableParts model_parts
  runnable e =
      let h = p.is_cut in
      let w = call.words in
      let within = (encode-cut house w (sections_in w s) h.whole).1 in
      let counted = count-is w s h in
      let rows = rows-count w s in
      let l₂ = ap length (part-is w _ s.sequentials h.inside.sequentials) in
      let l₃ = ap length (part-is w _ s.initial h.inside.initial) in
      let l₄ = ap length (part-is w _ s.later h.inside.later) in
      let l₅ = inputs-fewer w s h e in
      let rr = subst (λ (S : rules.Sections). need_of S ≤ call.result_room) p.sections passed.result-room in
      let sr = subst (λ (S : rules.Sections). need_of S ≤ call.scratch_room) p.sections passed.scratch-room in
      let table = subst (λ (S : rules.Sections). check (length p.with.names) S.rows (model_from p.with.names S) ≡ none) p.sections passed.table in
      record {
        legal = subst WellFormed (sym (brought-is e)) (formed e p.with.names p.with.sections passed.table);
        known = kinds-known w s h p.with.names table;
        bads = omega (arith, l₃, l₄, within.initial, within.later);
        sequentials = omega (arith, l₂, within.sequentials);
        inputs = omega (arith, l₅, within.inputs);
        room = omega (arith, counted, rows, l₂, l₃, l₄, l₅, rr);
        scratch = omega (arith, counted, rows, l₂, l₃, l₄, l₅, sr);
      }

  pub table : Table call.words
  unfolding RunnableParts model_parts
  table =
      let w = call.words in
      let lies = p.is_cut.inside.nodes in
      let counted = count-is w s p.is_cut in
      let within = (encode-cut house w (sections_in w s) p.is_cut.whole).1 in
      record {
        legal = (runnable impl).legal.nodes;
        small = omega (arith, counted, rows-count w s, within.nodes);
        whole = omega (arith, counted, lies.starts, lies.ends, lies.within);
      }

  -- the outcome by the parts
  outcome_parts : (e : Entry)
      → outcome house e call
      ≡ (fold (model_parts call.words dumps s (inputs_of e call.words s.inputs) (replies_of e call.words s.replies)) (mode_of call.mode)
      >>= λ f. done (record { how = mode_of call.mode; model = model_parts call.words dumps s (inputs_of e call.words s.inputs) (replies_of e call.words s.replies); folded = f }))
  outcome_parts e =
      outcome-is house e call
      ∙ ap (λ (q : Out Judged). q >>= fold_judged e) p.judged
      ∙ ap₂ (λ (m : Model) (how : Mode). fold m how >>= λ f. done (record { how = how; model = m; folded = f })) (sym (brought-is e)) passed.how

  pub folded_left : (e : Entry) (r : Result ℕ tables.Refusal) (Q : List ℕ) → length Q ≡ call.result_room
      → Runs (model_parts call.words dumps s (inputs_of e call.words s.inputs) (replies_of e call.words s.replies)) (mode_of call.mode) call.result_room r Q
      → (answered r ≡ (left house e call).answer) × (result_left r Q ≡ (left house e call).result)
  unfolding Ends left
  folded_left e (Ok k) Q l h =
      let m : Model = model_parts call.words dumps s (inputs_of e call.words s.inputs) (replies_of e call.words s.replies) in
      let o : outcome house e call ≡ done (record { how = mode_of call.mode; model = m; folded = h.0 }) =
      outcome_parts e ∙ ap (λ q. q >>= λ f. done (record { how = mode_of call.mode; model = m; folded = f })) h.1 in (
        ap (λ (n : ℕ). answered (Ok n)) h.2.count ∙ sym (ap answer_of o),
        h.2.words ∙ sym (ap (result_of call.result_room) o),
      )
  folded_left e (Err r) Q l h =
      let m : Model = model_parts call.words dumps s (inputs_of e call.words s.inputs) (replies_of e call.words s.replies) in
      let o : outcome house e call ≡ refused (refusal_of r) = outcome_parts e ∙ ap (λ q. q >>= λ f. done (record { how = mode_of call.mode; model = m; folded = f })) h in
      (sym (ap answer_of o), ap (λ (n : ℕ). replicate n 0) l ∙ sym (ap (result_of call.result_room) o))

  -- the same for the inputs, the replies and the lists as the code has them
  module _ (e : Entry) (i r : List ℕ) (l : Lists) (cut : ListsCut l call.words s) (p₅ : i ≡ inputs_of e call.words s.inputs) where
    pub parts_ready : Runnable call.words dumps l.sequentials.now l.initial.now l.later.now i r call.result_room call.scratch_room
    unfolding RunnableParts
    parts_ready =
        rw (p₅, cut.sequentials, cut.initial, cut.later) (any-replies call.words dumps s _ _ r call.result_room call.scratch_room (runnable e))

    pub parts_left : r ≡ replies_of e call.words s.replies → (how : Mode) → how ≡ mode_of call.mode → (o : Result ℕ tables.Refusal) (Q : List ℕ) → length Q ≡ call.result_room
        → Runs (model_in call.words dumps l.sequentials.now l.initial.now l.later.now i r) how call.result_room o Q
        → (answered o ≡ (left house e call).answer) × (result_left o Q ≡ (left house e call).result)
    unfolding model_parts
    parts_left p₆ how m o Q size h =
        let same : model_in call.words dumps l.sequentials.now l.initial.now l.later.now i r ≡ model_parts call.words dumps s (inputs_of e call.words s.inputs) (replies_of e call.words s.replies) =
        rw (p₅, p₆, cut.sequentials, cut.initial, cut.later) refl in
        folded_left e o Q size
        (subst (λ (how : Mode). Runs (model_parts call.words dumps s (inputs_of e call.words s.inputs) (replies_of e call.words s.replies)) how call.result_room o Q) m
        (subst (λ (m : Model). Runs m how call.result_room o Q) same h))
