-- The worked cases of specs/Cases.antt, by computation.
-- Assumes nothing.
use mathlib.Core.Path.{refl}
use Rattle.btor.specs.Operators.{compute, signed_div, complement}
use Rattle.btor.specs.Sorts.{width, ones}
use Rattle.rules.specs.Lists.{sum}
use Rattle.rules.specs.Check.{check_nodes, check_sequentials, check_bads, check}
use Rattle.rules.specs.Memory.{look_at, find}
use Rattle.rules.specs.Questions.{ask, ask_or}
use Rattle.rules.specs.Visit.{visit1, visit2, visit3, settle, finish_stay, finish, forward, take_input, unary, binary, ite_on, process, visit}
use Rattle.rules.specs.Whole.{judge_sequentials, visit_all, judge_bads, last_question, fold_bads, fold, run}
use Rattle.rules.specs.Result.{gather, question_words, result_words}
use Rattle.rules.specs.Sections.{rows_words, encode, cut_section, rows_of, cut_six, cut}
use Rattle.rules.specs.Names.{cut_names, counted_names, names_of, starts_with}
use Rattle.rules.specs.Call.{judge_mode, judge_room, judge_and_fold, judge_cut, outcome}
use Rattle.rules.specs.Cases.{NoonCases, NoonExample, UltAtEquality, OneBranch, PastUnsettled, OwnConstant, TrueBadStays, UnaskedUnjudged}

pub noon_cases : NoonCases
unfolding NoonCases UltAtEquality PastUnsettled outcome judge_mode encode rows_words cut cut_six cut_section rows_of names_of counted_names cut_names starts_with judge_cut judge_room judge_and_fold run check check_nodes check_sequentials check_bads result_words gather sum question_words fold fold_bads judge_bads judge_sequentials visit_all ask compute signed_div complement width ones visit process settle finish finish_stay unary binary visit1 visit2 visit3 ite_on take_input forward find look_at
noon_cases = (refl, refl, refl, refl, refl, refl, refl, refl, refl, refl, refl, refl, refl)

pub noon-example : NoonExample
unfolding NoonExample run check check_nodes check_sequentials check_bads width result_words gather sum question_words fold fold_bads judge_bads judge_sequentials visit_all last_question ask ask_or visit process settle finish finish_stay unary binary visit1 visit2 visit3 ite_on take_input forward find look_at
noon-example = refl

-- ---- what looks right and is wrong
pub one_branch : OneBranch
unfolding OneBranch width visit process settle finish finish_stay ite_on take_input
one_branch = refl

pub own-constant : OwnConstant
unfolding OwnConstant width visit process settle take_input
own-constant = refl

pub true-bad-stays : TrueBadStays
unfolding TrueBadStays run check check_nodes check_sequentials check_bads width fold fold_bads judge_bads judge_sequentials visit_all ask visit process settle unary visit1
true-bad-stays = refl

pub unasked_unjudged : UnaskedUnjudged
unfolding UnaskedUnjudged run check check_nodes check_sequentials check_bads width fold fold_bads judge_bads judge_sequentials visit_all ask visit process settle unary visit1
unasked_unjudged = refl
