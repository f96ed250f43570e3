-- One definition for each shape of contract, over the folder before and after, or over the parameters that a function is lent.
--     Pushes, PutsRow, PutsMark   one change of a buffer
--     Settles, SettlesAsked   what a step at one node leaves
--     Asks, Solves        what a question leaves, and what a chain of them
--     Takes, Walks, WalksAll    what an input taken leaves, what a visit, and what the visits of a list
--     RepliesBy, JudgesBad, RetainsBad, JudgesBads, AnswersLast    what judging a bad or a list of them leaves, and the last question
--     JudgesNext, JudgesNexts    what judging a sequential and all of them leaves
--     SetsUp, Writes, HandsOver    the buffers before the walk and after it      HasSpace   room for words of the result
-- Assumes nothing.
use Rattle.std.specs.Prelude.{ℕ, ◌+◌, ◌≤◌, ◌≡◌, Bool, cond, length, take, ⊤, Result}
use mathlib.Core.List.{List, [], ◌∷◌, flatten}
use Rattle.rules.specs.Lent.{LentMut, ends}
use Rattle.rules.specs.Refusal.{Out}
use Rattle.rules.specs.Table.{with}
use Rattle.rules.specs.Model.{Model, Mode}
use Rattle.rules.specs.Walk.{St, Held, set_row, set_mark, add_const, start}
use Rattle.rules.specs.Fold.{Fold}
use Rattle.rules.specs.Visit.{Ways}
use Rattle.rules.specs.Whole as whole
use Rattle.rules.specs.Whole.{judge_sequentials, visit_all}
use Rattle.rules.specs.Result.{result_words}
use Rattle.tables.specs.declared.refusal.Refusal.{Refusal}
use Rattle.optimize.specs.declared.lists.Lists.{Lists}
use Rattle.optimize.specs.declared.result.ResultWords.{ResultWords}
use Rattle.optimize.specs.declared.call.Call.{Call}
use Rattle.optimize.specs.declared.folder.ConstantFolder.{ConstantFolder}
use Rattle.optimize.specs.declared.fold.Folded.{Folded}
use Rattle.optimize.specs.declared.mark.Mark.{Mark}
use Rattle.optimize.specs.declared.reply.Reply.{Reply}
use Rattle.optimize.specs.Bounds.{count_of}
use Rattle.optimize.specs.View.{node_of, mark_is, view, outcome_of, table_of}
use Rattle.optimize.specs.Call.{ways_of}
use Rattle.optimize.specs.Folder.{given_in, count_in, seen}
use Rattle.optimize.specs.Process.{replied, settle_then, solved_of, take_of, visit_of}
use Rattle.optimize.specs.declared.bads.Judging.{Judging}
use Rattle.optimize.specs.declared.last_question.Verdict.{Verdict}
use Rattle.optimize.specs.Lists.{joined, walked_of}
use Rattle.optimize.specs.Bads.{retained_of, judged_of, reply_rule, bad_rule, retain_rule, list_rule}
use Rattle.optimize.specs.LastQuestion.{answered_of, verdict_is, forgotten}
use Rattle.optimize.specs.ResultView.{untouched, ModelOf, Wrote, Handed}
use Rattle.optimize.specs.Runs.{folded_by}

-- ---- one change of a buffer, in the state that lies in both: from the folder f to f'
abbrev pub Pushes : ConstantFolder → ConstantFolder → ℕ → ℕ → Type 0
Pushes f f' sort value = (h : List Held) → seen h f' ≡ add_const (seen h f) (count_in f + 2 + f.walk.made) sort value

abbrev pub PutsRow : ConstantFolder → ConstantFolder → ℕ → ℕ → ℕ → ℕ → Type 0
PutsRow f f' node a b c = (h : List Held) → seen h f' ≡ set_row (seen h f) node (with (node_of (given_in f) node) a b c)

abbrev pub PutsMark : ConstantFolder → ConstantFolder → ℕ → Mark → Type 0
PutsMark f f' node mark = (h : List Held) → seen h f' ≡ set_mark (seen h f) node (mark_is mark)

-- ---- steps of the fold under way, with the answer r
-- at one node: the rule's outcome from the state before
abbrev pub Settles : ConstantFolder → ConstantFolder → Result ℕ Refusal → (List ℕ → Ways → St → Out (St × ℕ)) → Type 0
Settles f f' r rule = (h : List Held) → outcome_of (seen h f') r ≡ rule (given_in f) (ways_of f.call) (seen h f)

-- where questions about the node give what is settled
abbrev pub SettlesAsked : ConstantFolder → ConstantFolder → Result ℕ Refusal → ℕ → (ℕ → ℕ → St → Out (St × Fold)) → Type 0
SettlesAsked f f' r node asks = Settles f f' r (λ g ways σ. settle_then g ways node (asks ways.reply_count (count_of g) σ))

-- a question, with the replies of the call
abbrev pub Asks : ConstantFolder → ConstantFolder → Result Reply Refusal → (ℕ → St → Out (St × ℕ)) → Type 0
Asks f f' r rule = (h : List Held) → outcome_of (seen h f') (replied r) ≡ rule (length f.call.replies.now) (seen h f)

-- a chain of questions about a node that stays, among so many nodes
abbrev pub Solves : ConstantFolder → ConstantFolder → Result Folded Refusal → (ℕ → ℕ → St → Out (St × Fold)) → Type 0
Solves f f' r rule = (h : List Held) → solved_of (count_in f) (seen h f') r ≡ rule (length f.call.replies.now) (count_in f) (seen h f)

-- no constant is made, and at most so many questions are put
abbrev pub AtMost : ConstantFolder → ConstantFolder → ℕ → Type 0
AtMost f f' c = (f'.walk.made ≡ f.walk.made) × (f'.walk.asked ≤ f.walk.asked + c)

-- what is left is this outcome, for some list of states that took an input
pub record Meets (f : ConstantFolder) (r : Result ℕ Refusal) (o : Out (St × ℕ)) : Type 0 where
  pub held : List Held
  pub came : outcome_of (seen held f) r ≡ o

-- a State takes an input
abbrev pub Takes : ConstantFolder → ConstantFolder → Result ℕ Refusal → ℕ → Type 0
Takes f f' r node = (h : List Held) → Meets f' r (take_of (given_in f) (ways_of f.call) (seen h f) node)

-- a visit: the rule's outcome, over the recursive visits at every fuel from `least` on
pub record Walks (f f' : ConstantFolder) (r : Result ℕ Refusal) (least : ℕ) (rule : List ℕ → Ways → (St → ℕ → Out (St × ℕ)) → St → Out (St × ℕ)) : Type 0 where
  pub walked : (h : List Held) (fuel : ℕ) → least ≤ fuel → Meets f' r (rule (given_in f) (ways_of f.call) (visit_of (given_in f) (ways_of f.call) fuel) (seen h f))

-- the visits of a list
abbrev pub WalksAll : ConstantFolder → ConstantFolder → List ℕ → Result ⊤ Refusal → Type 0
WalksAll f f' nodes r = (h : List Held) → (h' : List Held) × (walked_of (seen h' f') r ≡ visit_all (table_of (given_in f)) (ways_of f.call) (seen h f) nodes)

-- ---- bads: a reply, a condition, a bad visited and judged, and a list of them
abbrev pub RepliesBy : Judging → ℕ → ℕ → Result Bool Refusal → Type 0
RepliesBy how place reply r = (g : List ℕ) (ways : Ways) (σ : St) → retained_of σ r ≡ reply_rule g ways how place σ reply

module _ (f f' : ConstantFolder) (how : Judging) where
  abbrev pub JudgesBad : ℕ → ℕ → Result Bool Refusal → Type 0
  JudgesBad place condition r = (h : List Held) → retained_of (seen h f') r ≡ bad_rule (given_in f) (ways_of f.call) how place (seen h f) condition

  abbrev pub RetainsBad : ℕ → ℕ → Result Bool Refusal → Type 0
  RetainsBad place bad r = (h : List Held) → (h' : List Held) × (retained_of (seen h' f') r ≡ retain_rule (given_in f) (ways_of f.call) how place bad (seen h f))

  abbrev pub JudgesBads : List ℕ → List ℕ → Result ℕ Refusal → Type 0
  JudgesBads bads kept r = (h : List Held) → (h' : List Held) × (D : List ℕ) × (judged_of D (seen h' f') kept r ≡ list_rule (given_in f) (ways_of f.call) how 0 (seen h f) bads)

-- the last question about the bads left
abbrev pub AnswersLast : ConstantFolder → ConstantFolder → List ℕ → Result Verdict Refusal → Type 0
AnswersLast f f' bads r =
    (h : List Held) (m : Model) (how : Mode) → length m.replies ≡ length f.call.replies.now
    → answered_of (seen h f') r ≡ forgotten (whole.last_question m how (seen h f) bads)

-- ---- the sequentials: one and those after it, by whether it is kept; all of them, those kept at the start of a list
abbrev pub JudgesNext : ConstantFolder → ConstantFolder → ℕ → Bool → Type 0
JudgesNext f f' sequential r =
    (h : List Held) (ss : List ℕ)
    → judge_sequentials (table_of (given_in f)) (seen h f) (sequential ∷ ss) ≡ joined (cond r (sequential ∷ []) []) (judge_sequentials (table_of (given_in f)) (seen h f') ss)

abbrev pub JudgesNexts : ConstantFolder → ConstantFolder → LentMut → List ℕ → ℕ → Type 0
JudgesNexts f f' list sequentials r = (h : List Held) → judge_sequentials (table_of (given_in f)) (seen h f) sequentials ≡ (seen h f', take r (ends list))

-- ---- before the walk and after it
abbrev pub SetsUp : Call → LentMut → LentMut → Type 0
SetsUp call result scratch =
    (inputs replies : List ℕ) → view [] call.given.now inputs replies (ends result) (ends scratch) untouched ≡ start (table_of call.given.now) inputs replies

-- so many words fit from the place on
abbrev pub HasSpace : ResultWords → ℕ → Type 0
HasSpace w count = w.at + count ≤ length w.res.now

-- words written into the same buffer from the place on, which then stands behind them
pub record Writes (w w' : ResultWords) (ws : List ℕ) : Type 0 where
  pub same : w'.res.ghost_name ≡ w.res.ghost_name
  pub size : length w'.res.now ≡ length w.res.now
  pub place : w'.at ≡ w.at + length ws
  pub wrote : Wrote w.res.now w'.res.now w.at w'.at ws

-- the result's words of the fold that lies in the folder, with the lists kept, and zeros after them
abbrev pub HandsOver : ConstantFolder → Lists → Verdict → List ℕ → ℕ → Type 0
HandsOver f kept verdict Q r =
    (h : List Held) (d : List ℕ) (m : Model) → ModelOf (given_in f) f.call.inputs.now f.call.replies.now m
    → Handed (flatten (result_words m (folded_by h d f kept.sequentials.now kept.initial.now kept.later.now (verdict_is verdict)))) (length f.res.now) Q r
