-- Of a call: what is accepted has passed every stage, its result fits the room lent, and demand 3 holds of it.
-- By taking the stages apart with the first-refusal bind; demand 3 and the room bound are the fold's, at the model that the call comes to.
--     passed, passes     an accepted call has passed every stage, and one that passes them is accepted
--     result_fits, result-length, scratch-length   the result is at most the need, and the buffers keep their lengths
--     demand3_of_call    demand 3, with no premise but the demand's; operands_of_call   what operands are worth, under the same
--     refused-zero       a refusal leaves both buffers all zero
-- Assumes nothing.
use Prim.Native.Nat.{ℕ, ◌+◌, ◌-◌, ◌<◌, ◌≤◌}
use mathlib.Core.Path.{◌≡◌, refl, sym, ap, ap₂, ◌∙◌, subst}
use mathlib.Core.Bool.{Bool, true, false}
use mathlib.Core.Option.{Option, none}
use mathlib.Core.List.{List, [], ◌∷◌, flatten}
use native.Mathlib.Omega.{arith}
use lib.ListN.{length, length-append, length-map, replicate, length-replicate}
use lib.Dec.{ltb}
use borrow.Author.Tests.{ltb-true, ltb-false, lt-ltb, le-ltb}
use Rattle.rules.specs.Refusal.{Refusal, Out, refused, done, refuse, unless_refused}
use Rattle.rules.specs.Model.{Model, Mode}
use Rattle.rules.specs.Whole.{Folded, fold, run}
use Rattle.rules.specs.Table.{decode}
use Rattle.rules.specs.Check.{check}
use Rattle.rules.specs.Result.{size, result_words}
use Rattle.rules.specs.Demand.{Demand3OfFold}
use Rattle.rules.specs.Limits.{Limits, highest_mode, mode_of}
use Rattle.rules.specs.Sections.{Sections, cut}
use Rattle.rules.specs.Names.{names_of, dump}
use Rattle.rules.specs.Call.{Call, judge_mode, need_of, judge_room, Entry, impl, with_solver, with_input, brought, model_from, Accepted, judge_and_fold, judge_cut, outcome, words_of, sections_of, result_of, left, Demand3OfCall, OperandsOfCall}
use Rattle.rules.specs.Legal as legal
use Rattle.rules.specs.Room.{RoomRule}
use Rattle.rules.specs.Laws.{OperandsKept}
use Rattle.rules.proofs.Check.{accepted}
use Rattle.rules.proofs.Demand.{run-done, demand_3_of-fold, operands-kept}
use Rattle.rules.proofs.Room.{room_rule}
use Rattle.rules.proofs.Sections.{bind_done, never, same-done, through}

-- ---- the stages that judge one thing
pub mode-over : (mode : ℕ) → highest_mode < mode → judge_mode mode ≡ refuse 1 0 0
unfolding judge_mode
mode-over mode h = rw (lt-ltb highest_mode mode h, judge_mode)

pub mode-taken : (mode : ℕ) → mode ≤ highest_mode → judge_mode mode ≡ done (mode_of mode)
unfolding judge_mode
mode-taken mode h = rw (le-ltb highest_mode mode h, judge_mode)

pub mode-done : (mode : ℕ) (how : Mode) → judge_mode mode ≡ done how → (mode ≤ highest_mode) × (mode_of mode ≡ how)
mode-done mode how e = go (ltb highest_mode mode) refl
  where
    go : (b : Bool) → ltb highest_mode mode ≡ b → (mode ≤ highest_mode) × (mode_of mode ≡ how)
    go true h = never (judge_mode mode) _ how (mode-over mode (ltb-true highest_mode mode h)) e
    go false h = let m : mode ≤ highest_mode = ltb-false highest_mode mode h in (m, same-done (mode_of mode) how (sym (mode-taken mode m) ∙ e))

module _ (words result_room scratch_room : ℕ) where
  -- 12: "result (position 0), else scratch (1)", so whatever room scratch has
  pub no-result-room : result_room < words → judge_room words result_room scratch_room ≡ refuse 12 8 0
  unfolding judge_room
  no-result-room h = rw (lt-ltb result_room words h, judge_room)

  pub no-scratch-room : words ≤ result_room → scratch_room < words → judge_room words result_room scratch_room ≡ refuse 12 8 1
  unfolding judge_room
  no-scratch-room h l = rw (le-ltb result_room words h, judge_room, lt-ltb scratch_room words l)

  pub enough_room : words ≤ result_room → words ≤ scratch_room → judge_room words result_room scratch_room ≡ done tt
  unfolding judge_room
  enough_room h l = rw (le-ltb result_room words h, judge_room, le-ltb scratch_room words l)

  pub room-done : (u : Unit {0}) → judge_room words result_room scratch_room ≡ done u → (words ≤ result_room) × (words ≤ scratch_room)
  room-done u e = first (ltb result_room words) refl
    where
      second : words ≤ result_room → (b : Bool) → ltb scratch_room words ≡ b → (words ≤ result_room) × (words ≤ scratch_room)
      second h true l = never (judge_room words result_room scratch_room) _ u (no-scratch-room h (ltb-true scratch_room words l)) e
      second h false l = (h, ltb-false scratch_room words l)

      first : (b : Bool) → ltb result_room words ≡ b → (words ≤ result_room) × (words ≤ scratch_room)
      first true h = never (judge_room words result_room scratch_room) _ u (no-result-room (ltb-true result_room words h)) e
      first false h = second (ltb-false result_room words h) (ltb scratch_room words) refl

-- the table and the lists are judged as given: what an entry point leaves out is not looked at
pub judged_as_given : (entry : Entry) (names : List (List ℕ)) (s : Sections)
    → check (length names) s.rows (model_from names (brought entry s)) ≡ check (length names) s.rows (model_from names s)
unfolding check
judged_as_given impl names s = refl
judged_as_given with_solver names s = refl
judged_as_given with_input names s = refl

-- ---- every stage of an accepted call
pub record Passed (limits : Limits) (entry : Entry) (call : Call) (a : Accepted) : Type 0 where
  pub sections : Sections
  pub names : List (List ℕ)
  pub mode : call.mode ≤ highest_mode
  pub words_cut : cut limits call.words ≡ done sections
  pub names_cut : names_of limits call.names ≡ done names
  pub result-room : need_of sections ≤ call.result_room
  pub scratch-room : need_of sections ≤ call.scratch_room
  pub judged : check (length names) sections.rows (model_from names sections) ≡ none
  pub folds : fold a.model a.how ≡ done a.folded
  pub how_is : mode_of call.mode ≡ a.how
  pub model_is : model_from names (brought entry sections) ≡ a.model

module _ (limits : Limits) (entry : Entry) (call : Call) where
  assemble : (how : Mode) (s : Sections) (names : List (List ℕ)) (f : Folded)
      → judge_mode call.mode ≡ done how → cut limits call.words ≡ done s → names_of limits call.names ≡ done names
      → (need_of s ≤ call.result_room) × (need_of s ≤ call.scratch_room)
      → run (length names) s.rows (model_from names (brought entry s)) how ≡ done f
      → Passed limits entry call (record { how = how; model = model_from names (brought entry s); folded = f })
  unfolding run
  assemble how s names f m c n r e =
      let g = run-done (check (length names) s.rows (model_from names (brought entry s))) (fold (model_from names (brought entry s)) how) f e in
      record {
        sections = s;
        names = names;
        mode = (mode-done call.mode how m).0;
        words_cut = c;
        names_cut = n;
        result-room = r.0;
        scratch-room = r.1;
        judged = sym (judged_as_given entry names s) ∙ g.0;
        folds = g.1;
        how_is = (mode-done call.mode how m).1;
        model_is = refl;
      }

  pub passed : (a : Accepted) → outcome limits entry call ≡ done a → Passed limits entry call a
  unfolding outcome judge_cut judge_and_fold
  passed a e =
      through (judge_mode call.mode) _ a e λ how m e₁.
      through (cut limits call.words) _ a e₁ λ s c e₂.
      through (names_of limits call.names) _ a e₂ λ names n e₃.
      through (judge_room (need_of s) call.result_room call.scratch_room) _ a e₃ λ u r e₄.
      through (run (length names) s.rows (model_from names (brought entry s)) how) _ a e₄ λ f g e₅.
      subst (λ a. Passed limits entry call a) (same-done _ a e₅) (assemble how s names f m c n (room-done (need_of s) call.result_room call.scratch_room u r) g)

  -- and a call that passes every stage is accepted
  pub passes : (a : Accepted) → Passed limits entry call a → outcome limits entry call ≡ done a
  unfolding outcome judge_cut judge_and_fold run
  passes a p =
      let s : Sections = p.sections in
      let m : Model = model_from p.names (brought entry s) in
      let how : Mode = mode_of call.mode in
      let c : check (length p.names) s.rows m ≡ none = judged_as_given entry p.names s ∙ p.judged in
      let f : fold m how ≡ done a.folded = ap₂ (λ (m : Model) (h : Mode). fold m h) p.model_is p.how_is ∙ p.folds in
      bind_done (judge_mode call.mode) _ how (mode-taken call.mode p.mode)
      ∙ bind_done (cut limits call.words) _ s p.words_cut
      ∙ bind_done (names_of limits call.names) _ p.names p.names_cut
      ∙ bind_done (judge_room (need_of s) call.result_room call.scratch_room) _ tt (enough_room (need_of s) call.result_room call.scratch_room p.result-room p.scratch-room)
      ∙ bind_done (run (length p.names) s.rows m how) _ a.folded (ap₂ (λ (o : Option Refusal) (x : Out Folded). unless_refused o x) c f)
      ∙ ap₂ (λ (h : Mode) (m : Model). done (record { how = h; model = m; folded = a.folded })) p.how_is p.model_is

-- ---- the result fits
pub flatten-length : (xss : List (List ℕ)) → length (flatten xss) ≡ size xss
unfolding flatten size
flatten-length [] = refl
flatten-length (xs ∷ xss) = length-append xs (flatten xss) ∙ ap (λ n. length xs + n) (flatten-length xss)

-- the model that a call comes to is well formed
pub formed : (entry : Entry) (names : List (List ℕ)) (s : Sections) → check (length names) s.rows (model_from names s) ≡ none → legal.WellFormed (model_from names (brought entry s))
unfolding check legal.Accepted
formed impl names s c = (accepted (length names) s.rows (dump names) s.sequentials s.initial s.later s.inputs s.replies c).model
formed with_solver names s c = (accepted (length names) s.rows (dump names) s.sequentials s.initial s.later [] s.replies c).model
formed with_input names s c = (accepted (length names) s.rows (dump names) s.sequentials s.initial s.later s.inputs [] c).model

pub call_formed : (limits : Limits) (entry : Entry) (call : Call) (a : Accepted) → Passed limits entry call a → legal.WellFormed a.model
call_formed limits entry call a p = subst legal.WellFormed p.model_is (formed entry p.names p.sections p.judged)

-- and needs no more than the table as given
model-fits : (entry : Entry) (names : List (List ℕ)) (s : Sections) (how : Mode) (f : Folded) → check (length names) s.rows (model_from names s) ≡ none
    → fold (model_from names (brought entry s)) how ≡ done f → size (result_words (model_from names (brought entry s)) f) ≤ need_of s
unfolding RoomRule
model-fits impl names s how f c e = omega (arith, room_rule (model_from names s) how f (formed impl names s c) e, length-map s.rows decode)
model-fits with_solver names s how f c e = omega (arith, room_rule (model_from names (brought with_solver s)) how f (formed with_solver names s c) e, length-map s.rows decode)
model-fits with_input names s how f c e = omega (arith, room_rule (model_from names (brought with_input s)) how f (formed with_input names s c) e, length-map s.rows decode)

module _ (limits : Limits) (entry : Entry) (call : Call) where
  -- "A refused call leaves both buffers all zeros"
  pub refused-zero : (r : Refusal) → outcome limits entry call ≡ refused r
      → ((left limits entry call).result ≡ replicate call.result_room 0) × ((left limits entry call).scratch ≡ replicate call.scratch_room 0)
  unfolding left
  refused-zero r e = (ap (λ o. result_of call.result_room o) e, refl)

  -- the result is at most the need, so at most the buffer's length
  pub result_fits : (a : Accepted) (p : Passed limits entry call a) → length (words_of a) ≤ need_of p.sections
  result_fits a p =
      let m : Model = model_from p.names (brought entry p.sections) in
      let e : fold m a.how ≡ done a.folded = rw p.model_is p.folds in
      let h : size (result_words m a.folded) ≤ need_of p.sections = model-fits entry p.names p.sections a.how a.folded p.judged e in
      let q : size (result_words m a.folded) ≡ size (sections_of a) = ap (λ (m : Model). size (result_words m a.folded)) p.model_is in
      omega (arith, flatten-length (sections_of a))

  -- a buffer keeps its length
  pub result-length : length (left limits entry call).result ≡ call.result_room
  unfolding left
  result-length = go (outcome limits entry call) refl
    where
      go : (o : Out Accepted) → outcome limits entry call ≡ o → length (result_of call.result_room o) ≡ call.result_room
      go (refused r) e = length-replicate call.result_room 0
      go (done a) e =
          let p = passed limits entry call a e in
          omega (
            arith,
            length-append (words_of a) (replicate (call.result_room - length (words_of a)) 0),
            length-replicate {A = ℕ} (call.result_room - length (words_of a)) 0,
            result_fits a p,
            p.result-room,
          )

  pub scratch-length : length (left limits entry call).scratch ≡ call.scratch_room
  unfolding left
  scratch-length = length-replicate call.scratch_room 0

-- ---- demand 3
pub demand3_of_call : Demand3OfCall
unfolding Demand3OfCall Demand3OfFold
demand3_of_call limits entry call a e h =
    let p = passed limits entry call a e in
    demand_3_of-fold a.model a.how a.folded (call_formed limits entry call a p) p.folds h.passed h.replies

pub operands_of_call : OperandsOfCall
unfolding OperandsOfCall OperandsKept
operands_of_call limits entry call a e h =
    let p = passed limits entry call a e in
    operands-kept a.model a.how a.folded (call_formed limits entry call a p) p.folds h.passed h.replies
