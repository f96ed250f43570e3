-- That a kept Next's state stays: the three models that show each premise needed, and the call at work, by computation.
-- Assumes nothing.
use Prim.Native.Nat.{ℕ, ◌<◌}
use mathlib.Core.Path.{◌≡◌, refl, sym, ◌∙◌, subst}
use mathlib.Core.Logic.{◌≢◌}
use mathlib.Core.List.{List, [], ◌∷◌}
use lib.ListN.{length}
use lib.Dec.{lit<}
use Rattle.btor.specs.Operators.{compute}
use Rattle.btor.specs.Sorts.{width, ones}
use Rattle.rules.specs.Lists.{All}
use Rattle.rules.specs.Refusal.{Out, refused, done, refuse, OfDone}
use Rattle.rules.specs.Table.{Next, Node, node_at}
use Rattle.rules.specs.Model.{Model}
use Rattle.rules.specs.Check.{check_nodes, check_sequentials, check_bads, check}
use Rattle.rules.specs.Legal.{Sequential, Once}
use Rattle.rules.specs.Walk.{St, replaced, start}
use Rattle.rules.specs.Questions.{ask, ask_or}
use Rattle.rules.specs.Visit.{visit1, visit2, settle, finish_stay, finish, take_input, unary, binary, ite_on, process, visit}
use Rattle.rules.specs.Whole.{ways_of, judge_sequentials, visit_all, judge_bads, Folded, fold_bads, fold, run}
use Rattle.rules.specs.Limits.{house}
use Rattle.rules.specs.Sections.{rows_words, encode, cut_section, rows_of, cut_six, cut}
use Rattle.rules.specs.Names.{cut_names, counted_names, names_of, starts_with}
use Rattle.rules.specs.Call.{impl, judge_mode, judge_room, model_from, brought, judge_and_fold, judge_cut, outcome, judged}
use Rattle.rules.specs.Cases.{mode0}
use Rattle.rules.specs.KeptState.{begun, tested_visit, tested_all, StatesStay, KeptStateOfCall, Fails, summed, TableNeeded, taking_rows, taking, SixNeeded, twice_rows, twice, SevenNeeded, kept_call, KeptNext, KeptWorked}
use Rattle.rules.proofs.Base.{of_done}
use Rattle.rules.proofs.Check.{all-legal}
use Rattle.rules.proofs.Sections.{never}
use Rattle.rules.proofs.KeptState.{kept_state_of_call}

-- ---- what an outcome comes to
unfoldable given : {A : Type 0} → A → Out A → A
given x (refused r) = x
given x (done y) = y

nowhere : St
nowhere = start [] [] []

nothing : Folded
nothing = record { state = nowhere; sequentials = []; initial = []; later = []; dropped = []; verdict = 0 }

-- ---- a model with one kept Next, whose state is replaced
module _ (m : Model) (k : ℕ) where
  abbrev state : ℕ
  state = (node_at m.table k).a

  abbrev visiting : Out (St × ℕ)
  visiting = visit m.table (ways_of m mode0) k (begun m).0 state

  abbrev walking : Out St
  walking = visit_all m.table (ways_of m mode0) (begun m).0 (begun m).1

  abbrev folding : Folded
  folding = given nothing (fold m mode0)

  fails : (r : ℕ) → (begun m).1 ≡ k ∷ [] → visiting ≡ done (given (nowhere, 0) visiting) → (given (nowhere, 0) visiting).0.mark state ≡ replaced r
      → tested_all m.table (ways_of m mode0) (begun m).0 (begun m).1 ≡ refuse 9 1 k → walking ≡ done (given nowhere walking)
      → fold m mode0 ≡ done folding → folding.sequentials ≡ k ∷ [] → folding.state.mark state ≡ replaced r → Fails m (refuse 9 1 k)
  unfolding visit_all
  fails r e v q t w d l x =
      record {
        visited = λ h. let z = (h k (begun m).0 _ (record { before = []; after = []; listed = e; walked = refl }) v).0 in cc;
        tested = λ h. never walking _ _ (sym h ∙ t) w;
        ended = λ h. (subst (All (λ k. (r : ℕ) → folding.state.mark (node_at m.table k).a ≢ replaced r)) l (h folding d)).0 r x;
        refused = t;
      }

-- ---- the three models
listed : (t : List Node) (s : ℕ) → s < length t → (node_at t s).kind ≡ Next → (node_at t (node_at t s).a).b ≡ 1 → Sequential t s
listed t s l n i = record { inside = l; next = n; init = i }

-- the visit of the node over a Next
abbrev over : Out (St × ℕ)
over = visit summed.table (ways_of summed mode0) 5 (begun summed).0 4

pub table_needed : TableNeeded
unfolding TableNeeded Once given nowhere nothing tested_all tested_visit fold fold_bads judge_bads judge_sequentials visit_all visit process settle finish finish_stay unary binary visit1 visit2 take_input compute width
table_needed = (
  (listed summed.table 3 (lit< tt) refl refl, tt),
  (tt, tt),
  fails summed 3 7 refl refl refl refl refl refl refl refl,
  λ h. never over _ (given (nowhere, 0) over) (sym (h 5 4 (begun summed).0 (lit< tt) refl)) refl,
)

pub six_needed : SixNeeded
unfolding SixNeeded Once given nowhere nothing tested_all tested_visit fold fold_bads judge_bads judge_sequentials check_nodes visit_all visit process settle finish finish_stay unary binary visit1 visit2 take_input width
six_needed = (all-legal 0 taking_rows refl, (tt, tt), fails taking 2 5 refl refl refl refl refl refl refl refl)

pub seven_needed : SevenNeeded
unfolding SevenNeeded given nowhere nothing tested_all tested_visit fold fold_bads judge_bads judge_sequentials check_nodes visit_all visit process settle finish finish_stay unary binary visit1 visit2 take_input width
seven_needed = (
  all-legal 0 twice_rows refl,
  (listed twice.table 3 (lit< tt) refl refl, (listed twice.table 4 (lit< tt) refl refl, tt)),
  fails twice 4 0 refl refl refl refl refl refl refl refl,
)

-- ---- the call at work
worked : OfDone KeptNext (outcome house impl kept_call)
unfolding outcome judge_mode encode rows_words cut cut_six cut_section rows_of names_of counted_names cut_names judge_cut judge_room starts_with judge_and_fold run check check_nodes check_sequentials check_bads width ones fold fold_bads judge_bads judge_sequentials visit_all ask ask_or visit process ite_on settle finish finish_stay unary binary visit1 visit2 take_input
worked =
    record {
      comes = record { before = []; after = []; listed = refl; walked = refl };
      visits = (_, refl);
      sequentials = refl;
      held = refl;
      asked = refl;
      init = refl;
      state = refl;
      mark = refl;
    }

came : OfDone (λ j. Unit) (judged house kept_call)
unfolding judged judge_mode encode rows_words cut cut_six cut_section rows_of names_of counted_names cut_names judge_room starts_with check check_nodes check_sequentials check_bads width
came = tt

pub kept-worked : KeptWorked
unfolding KeptWorked KeptStateOfCall
kept-worked = (
  worked,
  of_done (λ j. Unit) (OfDone (λ j. StatesStay (model_from j.names (brought impl j.sections)) j.how)) (judged house kept_call)
      (λ j e h. kept_state_of_call house impl kept_call j e) came,
)
