-- Sorts at work and each part of what is said of them failing, by computation.
-- Assumes nothing.
use Prim.Native.Nat.{ℕ, zero, suc, ◌<◌}
use mathlib.Core.Path.{◌≡◌, refl, ap}
use mathlib.Core.Bool.{true, false≢true}
use mathlib.Core.Logic.{⊎_elim}
use mathlib.Core.List.{List, [], ◌∷◌}
use native.Mathlib.Omega.{arith}
use lib.ListN.{length, get_or}
use lib.Dec.{lit<, lit≤}
use borrow.Author.Tests.{eqb-false}
use Rattle.btor.specs.Operators.{compute}
use Rattle.btor.specs.Sorts.{width, ones}
use Rattle.rules.specs.Lists.{sum, All}
use Rattle.rules.specs.Refusal.{Out, refused, done, OfDone}
use Rattle.rules.specs.Table.{Row, Node, kind_code}
use Rattle.rules.specs.Check.{rule3, check_nodes, check_sequentials, check_bads, check}
use Rattle.rules.specs.Legal.{AllLegal, Once, row_at}
use Rattle.rules.specs.Walk.{Mark, kept, replaced, add_const}
use Rattle.rules.specs.Questions.{ask, ask_or}
use Rattle.rules.specs.Visit.{visit1, visit2, visit3, settle, finish_stay, finish, forward, take_input, unary, binary, ite_on, process, visit}
use Rattle.rules.specs.Whole.{judge_sequentials, visit_all, judge_bads, last_question, fold_bads, fold, run}
use Rattle.rules.specs.Result.{gather, result_words}
use Rattle.rules.specs.Limits.{Limits, house}
use Rattle.rules.specs.Sections.{rows_words, encode, cut_section, rows_of, cut_six, cut}
use Rattle.rules.specs.Names.{cut_names, counted_names, names_of, starts_with}
use Rattle.rules.specs.Call.{Entry, impl, with_solver, with_input, Accepted, judge_mode, judge_room, judge_and_fold, judge_cut, outcome}
use Rattle.rules.specs.Laws.{MadeFor}
use Rattle.rules.specs.OwnSort.{OwnSortsOfCall, EachSort, byte_call, ByteStays, Said, tight, ByteWorked, ByteCanFail, mixed_rows, FiveNeeded, unread, ThreeNeeded, listed_rows, SixNeeded}
use Rattle.rules.proofs.Base.{of_done}
use Rattle.rules.proofs.Check.{all-legal}
use Rattle.rules.proofs.OwnSort.{rows-given, own_sorts_of_call}

pub each-sort : EachSort
unfolding EachSort outcome judge_mode encode rows_words cut cut_six cut_section rows_of names_of counted_names cut_names judge_cut judge_room starts_with judge_and_fold run check check_nodes check_sequentials check_bads width ones compute fold fold_bads judge_bads judge_sequentials visit_all ask ask_or visit process settle finish finish_stay unary binary visit1 visit2 visit3 ite_on take_input forward result_words gather sum
each-sort = assumption refl

-- ---- a byte that stays a byte
worked : OfDone ByteStays (outcome house impl (byte_call 0)) × OfDone ByteStays (outcome house with_solver (byte_call 7)) × OfDone ByteStays (outcome tight with_input (byte_call 5))
unfolding outcome judge_mode encode rows_words cut cut_six cut_section rows_of names_of counted_names cut_names judge_cut judge_room starts_with judge_and_fold run check check_nodes check_sequentials check_bads width ones fold fold_bads judge_bads judge_sequentials last_question visit_all ask ask_or visit process settle finish finish_stay unary binary visit1 visit2 ite_on take_input
worked = assumption refl

said : (limits : Limits) (entry : Entry) (mode : ℕ) → names_of limits (byte_call mode).names ≡ done ([] ∷ []) → OfDone ByteStays (outcome limits entry (byte_call mode))
    → OfDone Said (outcome limits entry (byte_call mode))
unfolding OwnSortsOfCall
said limits entry mode n =
    of_done ByteStays (OfDone Said) (outcome limits entry (byte_call mode))
    (λ a e h. assumption (own_sorts_of_call limits entry (byte_call mode) a ([] ∷ []) e n))

pub byte-worked : ByteWorked
unfolding ByteWorked names_of counted_names cut_names
byte-worked =
    ((worked.0, said house impl 0 refl worked.0), (worked.1, said house with_solver 7 refl worked.1), (worked.2, said tight with_input 5 refl worked.2))

-- ---- each part failing
rows-three : (names : ℕ) (rs : List Row) → All (λ r. rule3 names r ≡ true) rs → (k : ℕ) → k < length rs → rule3 names (row_at rs k) ≡ true
rows-three names [] h k l = absurd (omega arith)
rows-three names (r ∷ rs) h zero l = h.0
rows-three names (r ∷ rs) h (suc k) l = rows-three names rs h.1 k (omega arith)

-- the marks of the six nodes: none is replaced by the constant 9
record Marks (a : Accepted) : Type 0 where
  nodes : length a.model.table ≡ 6
  made : a.folded.state.made ≡ 1
  by_and : a.folded.state.mark 2 ≡ replaced 8
  others : All (λ k. a.folded.state.mark k ≡ kept) (0 ∷ 1 ∷ 3 ∷ 4 ∷ 5 ∷ [])

marked : OfDone Marks (outcome house impl (byte_call 0))
unfolding outcome judge_mode encode rows_words cut cut_six cut_section rows_of names_of counted_names cut_names judge_cut judge_room starts_with judge_and_fold run check check_nodes check_sequentials check_bads width ones fold fold_bads judge_bads judge_sequentials visit_all ask ask_or visit process settle finish finish_stay unary binary visit1 visit2 ite_on take_input
marked = assumption refl

made_fails : (o : Out Accepted) → OfDone Marks o → OfDone (λ a. MadeFor a.model.table (add_const a.folded.state 9 11 1) → ⊥) o
made_fails (refused r) m = m
made_fails (done a) m = λ h. let w = h 9 (omega (arith, m.nodes)) (omega (arith, m.nodes, m.made)) in go w.0 (omega (arith, w.1, m.nodes)) w.2
  where
    mark : ℕ → Mark
    mark = a.folded.state.mark

    go : (k : ℕ) → k < 6 → mark k ≡ replaced 9 → ⊥
    go zero l q = let e = m.others.0 in cc
    go (suc zero) l q = let e = m.others.1.0 in cc
    go (suc (suc zero)) l q = let e = m.by_and in cc
    go (suc (suc (suc zero))) l q = let e = m.others.1.1.0 in cc
    go (suc (suc (suc (suc zero)))) l q = let e = m.others.1.1.1.0 in cc
    go (suc (suc (suc (suc (suc zero))))) l q = let e = m.others.1.1.1.1.0 in cc
    go (suc (suc (suc (suc (suc (suc k)))))) l q = omega arith

pub byte_can_fail : ByteCanFail
unfolding ByteCanFail outcome judge_mode encode rows_words cut cut_six cut_section rows_of names_of counted_names cut_names judge_cut judge_room starts_with judge_and_fold run check check_nodes check_sequentials check_bads width ones fold fold_bads judge_bads judge_sequentials visit_all ask ask_or visit process settle finish finish_stay unary binary visit1 visit2 ite_on take_input
byte_can_fail =
    record {
      replacements = λ h. eqb-false 2 11 refl (h 2 8 (lit< tt) refl);
      made = made_fails (outcome house impl (byte_call 0)) marked;
      five = λ h. false≢true (h 4 (lit< tt)).five;
      wide = λ h. false≢true (h 8 (lit< tt)).five;
      three = λ h. false≢true (h 4 (lit< tt)).three;
      before = λ h. ⊎_elim (λ l. omega arith) (λ i. omega (arith, i.0)) (h 2 (lit< tt)).before.1.0;
      used = λ h. ⊎_elim (λ l. omega arith) (λ i. omega (arith, i.1)) (h 4 (lit< tt)).before.0;
      serves = λ h. false≢true (h 4 (lit< tt)).five;
      unvisited_five = λ h. false≢true (h 4 (lit< tt)).five;
      unvisited_before = λ h. ⊎_elim (λ l. omega arith) (λ i. omega (arith, i.0)) (h 4 (lit< tt)).before.0;
      known = λ h. false≢true (h 3 (lit< tt)).three;
      named = λ h. false≢true (h 3 (lit< tt)).three;
      constants = λ h. eqb-false 21 1 refl (ap (λ (nd : Node). kind_code nd.kind) (h 8 (lit≤ tt, lit< tt)).const);
      words = λ h. eqb-false 7 0 refl (ap (λ l. get_or l 0 0) (h 3 (lit< tt)).unused);
      names = λ h. eqb-false 0 1 refl (h 3 (lit< tt)).name;
    }

-- ---- the three models
pub five_needed : FiveNeeded
unfolding FiveNeeded check check_nodes check_sequentials check_bads fold fold_bads judge_bads judge_sequentials visit_all ask ask_or visit process settle finish finish_stay unary binary visit1 visit2 take_input width ones
five_needed = (
  refl,
  rows-given 1 mixed_rows (rows-three 1 mixed_rows (assumption refl)),
  ((λ h. eqb-false 12 11 refl (h 2 0 (lit< tt) refl)), λ h. false≢true (h 2 (lit< tt)).five),
)

pub three_needed : ThreeNeeded
unfolding ThreeNeeded Once check check_nodes check_sequentials check_bads fold fold_bads judge_bads judge_sequentials visit_all ask ask_or visit process settle finish finish_stay unary binary visit1 visit2 take_input width ones
three_needed = (refl, record { nodes = only_row; sequentials = tt; once = tt; initial = tt; later = tt }, λ h. false≢true (h 0 (lit< tt)).three)
  where
    only_row : AllLegal unread.table
    only_row zero l = record { known = refl; before = tt; serve = tt; sorts = tt }
    only_row (suc k) l = absurd (omega arith)

pub six_needed : SixNeeded
unfolding SixNeeded check check_nodes check_sequentials check_bads fold fold_bads judge_bads judge_sequentials visit_all ask ask_or visit process settle finish finish_stay unary binary visit1 visit2 take_input width ones
six_needed = (refl, all-legal 0 listed_rows refl, rows-given 1 listed_rows (rows-three 1 listed_rows (assumption refl)), λ h. eqb-false 11 2 refl (h 1 0 (lit< tt) refl))
