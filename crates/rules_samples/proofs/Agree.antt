-- The rules give the published Rust's answer but for the departures on every sample, by computation.
-- Assumes nothing.
use mathlib.Core.Path.{◌≡◌, refl}
use mathlib.Core.Bool.{true}
use mathlib.Core.List.{flatten}
use Rattle.btor.specs.Operators.{compute, signed_div, complement}
use Rattle.btor.specs.Sorts.{width, ones}
use Rattle.rules.specs.Sections.{cut_section, rows_of, cut_six, cut}
use Rattle.rules.specs.Names.{cut_names, counted_names, names_of, starts_with}
use Rattle.rules.specs.Check.{check_nodes, check_sequentials, check_bads, check}
use Rattle.rules.specs.Memory.{look_at, find}
use Rattle.rules.specs.Questions.{ask, ask_or}
use Rattle.rules.specs.Visit.{visit1, visit2, visit3, settle, finish_stay, finish, forward, take_input, unary, binary, ite_on, process, visit}
use Rattle.rules.specs.Whole.{judge_sequentials, visit_all, judge_bads, last_question, fold_bads, fold, run}
use Rattle.rules.specs.Result.{gather, question_words, result_words}
use Rattle.rules.specs.Lists.{sum}
use Rattle.rules.specs.Call.{judge_mode, judge_room, judge_and_fold, judge_cut, outcome}
use Rattle.rules_samples.specs.Sample.{same, all_agree}
use Rattle.rules_samples.specs.Samples1 as samples1
use Rattle.rules_samples.specs.Samples2 as samples2
use Rattle.rules_samples.specs.Samples3 as samples3
use Rattle.rules_samples.specs.Samples4 as samples4

agreed : (all_agree samples1.samples ≡ true) × (all_agree samples2.samples ≡ true) × (all_agree samples3.samples ≡ true) × (all_agree samples4.samples ≡ true)
unfolding compute signed_div complement width ones cut_section rows_of cut_six cut cut_names counted_names names_of starts_with check_nodes check_sequentials check_bads check look_at find ask ask_or visit1 visit2 visit3 settle finish_stay finish forward take_input unary binary ite_on process visit judge_sequentials visit_all judge_bads last_question fold_bads fold run gather sum question_words result_words judge_mode judge_room judge_and_fold judge_cut outcome same all_agree flatten samples1.samples samples2.samples samples3.samples samples4.samples
agreed = (refl, refl, refl, refl)

pub agree1 : all_agree samples1.samples ≡ true
agree1 = agreed.0

pub agree2 : all_agree samples2.samples ≡ true
agree2 = agreed.1

pub agree3 : all_agree samples3.samples ≡ true
agree3 = agreed.2

pub agree4 : all_agree samples4.samples ≡ true
agree4 = agreed.3
