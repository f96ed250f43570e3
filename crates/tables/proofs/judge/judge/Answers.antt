-- `judge` goes through the stages of a call before its walk, and stops at the first that refuses.
-- Assumes nothing.
use Prim.Native.Nat.{ℕ}
use mathlib.Core.Path.{◌≡◌, sym, ap, ◌∙◌}
use mathlib.Core.List.{List}
use borrow.Author.Rules.{rules}
use lib.ListN.{length}
use Rattle.std.specs.Prelude.{Err}
use Rattle.rules.specs.Refusal.{done}
use Rattle.rules.specs.Model.{Mode}
use Rattle.rules.specs.Names.{names_of}
use Rattle.rules.specs.Call.{judge_mode, judge_room, need_of}
use Rattle.tables.specs.Refusals.{refusal_of}
use Rattle.tables.specs.LimitAnswers.{limits_is}
use Rattle.tables.specs.SectionAnswers.{cut_of, sections_in}
use Rattle.tables.specs.NameAnswers.{count_of}
use Rattle.tables.specs.Judging.{judged_of, refusal_in, IsCut}
use Rattle.tables.proofs.JudgedLaws.{is-refused, is-done, need_counts, counts, mode-refused, cut-refused, names-refused, room-refused, table-refused, accepted, count-refused, count-done, check_in}
use Rattle.tables.proofs.judge.judge.Goals as goal
use Rattle.tables.proofs.judge.judge.Goals.{After-judge_room, In_ok-known, In_ok-judge_mode, In_ok-judge_room, In_ok-sections}

-- ---- what is known after each stage
-- the mode
mode-at : (c : In_ok-judge_mode) → (how : Mode) × (judge_mode c.args.mode ≡ done how)
mode-at c = is-done _ (ap judged_of (sym c.in_ok-judge_mode.was) ∙ c.judge_mode.ensures)

-- the sections
cut_at : (c : In_ok-sections) → IsCut (limits_is c.args.limits) c.args.words.now c.in_ok-sections.sections
cut_at c =
    record { whole = sym c.cut_sections.ensures.result_value ∙ ap (cut_of c.args.words.now) c.in_ok-sections.was; inside = c.in_ok-sections.ensures.inside }

-- the names
names_at : (c : In_ok-known) → (names : List (List ℕ)) × (names_of (limits_is c.args.limits) c.args.names.now ≡ done names) × (length names ≡ c.in_ok-known.known)
names_at c = count-done _ _ _ (sym c.cut_names.ensures ∙ ap count_of c.in_ok-known.was)

-- the room
room_at : (c : After-judge_room)
    → judged_of c.judge_room.result
    ≡ refusal_in (judge_room (need_of (sections_in c.args.words.now c.in_ok-sections.sections)) c.args.result_room c.args.scratch_room)
room_at c =
    let a = c.args in
    let inside = c.in_ok-sections.ensures.inside in
    c.judge_room.ensures
    ∙ ap (λ (n : ℕ). refusal_in (judge_room n a.result_room a.scratch_room))
    (c.room_needed.ensures (counts a.words.now _ inside) ∙ sym (need_counts a.words.now _ inside))

pub returns-in_err-judge_mode-clause-result_value : goal.returns-in_err-judge_mode-clause-result_value
returns-in_err-judge_mode-clause-result_value c =
    let a = c.args in
    let why = c.in_err-judge_mode.field-0.0 in
    let same : c.from_residual.result ≡ Err why = search rules in
    let stops = is-refused _ (refusal_of why) (ap judged_of (sym c.in_err-judge_mode.was) ∙ c.judge_mode.ensures) in
    rw same (mode-refused (limits_is a.limits) a.mode a.words.now a.names.now a.result_room a.scratch_room _ stops)

pub returns-in_err-sections-clause-result_value : goal.returns-in_err-sections-clause-result_value
returns-in_err-sections-clause-result_value c =
    let a = c.args in
    let why = c.in_err-sections.field-0.0 in
    let same : c.from_residual-in_err-sections.result ≡ Err why = search rules in
    let (how, m) = mode-at (goal.at.returns-in_err-sections-clause-result_value c).In_ok-judge_mode in
    rw same (cut-refused (limits_is a.limits) a.mode a.words.now a.names.now a.result_room a.scratch_room how m (refusal_of why) (sym c.cut_sections.ensures.result_value ∙ ap (cut_of a.words.now) c.in_err-sections.was))

pub returns-in_err-known-clause-result_value : goal.returns-in_err-known-clause-result_value
returns-in_err-known-clause-result_value c =
    let a = c.args in
    let why = c.in_err-known.field-0.0 in
    let same : c.from_residual-in_err-known.result ≡ Err why = search rules in
    let limits = limits_is a.limits in
    let (how, m) = mode-at (goal.at.returns-in_err-known-clause-result_value c).In_ok-judge_mode in
    let is_cut = cut_at (goal.at.returns-in_err-known-clause-result_value c).In_ok-sections in
    let stops = count-refused limits a.names.now (refusal_of why) (sym c.cut_names.ensures ∙ ap count_of c.in_err-known.was) in
    rw same (names-refused limits a.mode a.words.now a.names.now a.result_room a.scratch_room how m _ is_cut.whole _ stops)

pub returns-in_err-judge_room-clause-result_value : goal.returns-in_err-judge_room-clause-result_value
returns-in_err-judge_room-clause-result_value c =
    let a = c.args in
    let why = c.in_err-judge_room.field-0.0 in
    let same : c.from_residual-in_err-judge_room.result ≡ Err why = search rules in
    let limits = limits_is a.limits in
    let (how, m) = mode-at (goal.at.returns-in_err-judge_room-clause-result_value c).In_ok-judge_mode in
    let is_cut = cut_at (goal.at.returns-in_err-judge_room-clause-result_value c).In_ok-sections in
    let names = names_at (goal.at.returns-in_err-judge_room-clause-result_value c).In_ok-known in
    let stops = is-refused _ (refusal_of why) (ap judged_of (sym c.in_err-judge_room.was) ∙ room_at (goal.at.returns-in_err-judge_room-clause-result_value c).After-judge_room) in
    rw same (room-refused limits a.mode a.words.now a.names.now a.result_room a.scratch_room how m _ is_cut.whole names.0 names.1 _ stops)

pub returns-in_err-judge-clause-result_value : goal.returns-in_err-judge-clause-result_value
returns-in_err-judge-clause-result_value c =
    let a = c.args in
    let why = c.in_err-judge.field-0.0 in
    let same : c.from_residual-in_err-judge.result ≡ Err why = search rules in
    let limits = limits_is a.limits in
    let (how, m) = mode-at (goal.at.returns-in_err-judge-clause-result_value c).In_ok-judge_mode in
    let is_cut = cut_at (goal.at.returns-in_err-judge-clause-result_value c).In_ok-sections in
    let names = names_at (goal.at.returns-in_err-judge-clause-result_value c).In_ok-known in
    let (x, room) = is-done _ (ap judged_of (sym c.in_ok-judge_room.was) ∙ room_at (goal.at.returns-in_err-judge-clause-result_value c).After-judge_room) in
    let stops = check_in a.words.now c.in_ok-sections.sections names.0 _ names.2 ∙ sym c.judge.ensures ∙ ap judged_of c.in_err-judge.was in
    rw same (table-refused limits a.mode a.words.now a.names.now a.result_room a.scratch_room how m _ is_cut.whole names.0 names.1 x room _ stops)

pub returns-clause-result_value : goal.returns-clause-result_value
returns-clause-result_value c =
    let a = c.args in
    let limits = limits_is a.limits in
    let (how, m) = mode-at (goal.at.returns-clause-result_value c).In_ok-judge_mode in
    let is_cut = cut_at (goal.at.returns-clause-result_value c).In_ok-sections in
    let places = c.in_ok-sections.sections in
    let names = names_at (goal.at.returns-clause-result_value c).In_ok-known in
    let (x, room) = is-done _ (ap judged_of (sym c.in_ok-judge_room.was) ∙ room_at (goal.at.returns-clause-result_value c).After-judge_room) in
    let passes = check_in a.words.now places names.0 _ names.2 ∙ sym c.judge.ensures ∙ ap judged_of c.in_ok-judge.was in
    ap (λ (k : ℕ). done (sections_in a.words.now places, k)) (sym names.2)
    ∙ accepted limits a.mode a.words.now a.names.now a.result_room a.scratch_room how m _ is_cut.whole names.0 names.1 x room passes
