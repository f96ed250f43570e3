-- The fold of a judged call: the model that lies in the words, and what running the walk on it leaves.
--     model_in, model_by     the rules' model          Runnable, Begun    what the walk may rely on
--     Underway     what judging the bads may rely on
--     Runs        the rules' fold, as the answer and the result buffer have it
-- Assumes nothing.
use Rattle.std.specs.Prelude.{ℕ, ◌+◌, ◌*◌, ◌<◌, ◌≤◌, ◌≡◌, length, get_or, true, false, [], eqb, Result, Ok, Err}
use mathlib.Core.List.{List, flatten}
use Rattle.std.specs.Borrow.{Bor}
use Rattle.rules.specs.Refusal.{Out, refused, done, ◌>>=◌}
use Rattle.rules.specs.Limits.{need, house}
use Rattle.rules.specs.Model.{Model, Mode}
use Rattle.rules.specs.Legal.{WellFormed, BadEntry}
use Rattle.rules.specs.Whole.{Folded, judge_sequentials, fold, fold_bads}
use Rattle.rules.specs.Walk.{Held, start}
use Rattle.rules.specs.Sections.{word_of}
use Rattle.rules.specs.Result.{result_words}
use Rattle.tables.specs.declared.refusal.Refusal.{Refusal}
use Rattle.tables.specs.Refusals.{refusal_of}
use Rattle.optimize.specs.Bounds.{count_of}
use Rattle.rules.specs.Lists.{All}
use Rattle.optimize.specs.declared.folder.ConstantFolder.{ConstantFolder}
use Rattle.optimize.specs.View.{Coded, table_of}
use Rattle.optimize.specs.declared.call.Call.{Call}
use Rattle.optimize.specs.declared.lists.Lists.{Lists}
use Rattle.optimize.specs.declared.last_question.Verdict.{Verdict}
use Rattle.optimize.specs.Call.{mode_is}
use Rattle.optimize.specs.Folder.{given_in, count_in, seen, LaidIn}
use Rattle.optimize.specs.Bads.{SpareIn}
use Rattle.optimize.specs.LastQuestion.{verdict_is, bare_folded}
use Rattle.optimize.specs.ResultView.{KindsKnown, lists_at, untouched, folded_in, Handed}

abbrev pub model_in : List ℕ → List ℕ → List ℕ → List ℕ → List ℕ → List ℕ → List ℕ → Model
model_in g dumps sequentials initial later inputs replies =
    record {
      table = table_of g;
      dump = λ k. eqb (get_or dumps k 0) 1;
      sequentials = sequentials;
      initial = initial;
      later = later;
      inputs = inputs;
      replies = replies;
    }

-- a well_formed model in words that hold its table, and room for it in both buffers
pub record Runnable (g dumps ss initial later ins reps : List ℕ) (r s : ℕ) : Type 0 where
  pub legal : WellFormed (model_in g dumps ss initial later ins reps)
  pub known : KindsKnown g
  pub bads : length initial + length later ≤ 2 * house.entries
  pub sequentials : length ss ≤ house.entries
  pub inputs : length ins ≤ house.inputs
  pub room : need (count_of g) (length ss) (length initial + length later) (length ins) ≤ r
  pub scratch : need (count_of g) (length ss) (length initial + length later) (length ins) ≤ s

abbrev pub RunnableOn : Call → Lists → ℕ → ℕ → Type 0
RunnableOn c l r s = Runnable c.given.now c.dumps.now l.sequentials.now l.initial.now l.later.now c.inputs.now c.replies.now r s

-- the sequentials are judged, and those that stay are listed; both buffers hold the start of the walk, and there is room for the bads that stay
pub record Begun (f : ConstantFolder) (l : Lists) (seqs : List ℕ) (room : ℕ) : Type 0 where
  pub scratch : ℕ
  pub runnable : RunnableOn f.call l (length f.res.now) scratch
  pub place : length f.scratch.now ≡ lists_at (count_in f) (length l.initial.now + length l.later.now)
  pub counted : f.walk ≡ untouched
  pub judged : judge_sequentials (table_of (given_in f)) (start (table_of (given_in f)) f.call.inputs.now f.call.replies.now) l.sequentials.now ≡ (seen [] f, seqs)
  pub fewer : length seqs ≤ length l.sequentials.now
  pub bads : length l.initial.now + length l.later.now ≤ room

-- the kept sequentials are visited; the bads are still to be judged
pub record Underway (f : ConstantFolder) (initial later : List ℕ) : Type 0 where
  pub laid : LaidIn f
  pub first : All (BadEntry (table_of (given_in f))) initial
  pub second : All (BadEntry (table_of (given_in f))) later
  pub spare : SpareIn f (length initial + (length later + 1))

-- what the walk leaves where it is over: each word for a kind names one
abbrev pub Over : ConstantFolder → Type 0
Over f = (v : ℕ) → v < count_in f → Coded (word_of f.res.now v 0)

-- the model of a call, with the lists that are given; what lies in a folder with the lists that stay
abbrev pub model_by : Call → List ℕ → List ℕ → List ℕ → Model
model_by c ss initial later = model_in c.given.now c.dumps.now ss initial later c.inputs.now c.replies.now

abbrev pub model_of : Call → Lists → Model
model_of c l = model_by c l.sequentials.now l.initial.now l.later.now

abbrev pub folded_by : List Held → List ℕ → ConstantFolder → List ℕ → List ℕ → List ℕ → ℕ → Folded
folded_by h d f ss initial later verdict = folded_in h d f.call.given.now f.call.inputs.now f.call.replies.now f.res.now f.scratch.now f.walk ss initial later verdict

-- the fold of the bads by those of each list that stay, and under one-query by the initial ones that stay and the verdict
unfoldable pub bads_of : List Held → List ℕ → ConstantFolder → List ℕ → Result (Bor (List ℕ) × Bor (List ℕ)) Refusal → Out Folded
bads_of h d f seqs (Ok p) = done (folded_by h d f seqs p.0.now p.1.now 0)
bads_of h d f seqs (Err r) = refused (refusal_of r)

unfoldable pub once_of : List Held → List ℕ → ConstantFolder → List ℕ → List ℕ → Result (Bor (List ℕ) × Verdict) Refusal → Out Folded
once_of h d f seqs later (Ok p) = done (folded_by h d f seqs p.0.now later (verdict_is p.1))
once_of h d f seqs later (Err r) = refused (refusal_of r)

-- a fold without the bads of its questions, of which no result word speaks
abbrev pub bared : Out Folded → Out Folded
bared o = o >>= λ f. done (bare_folded f)

module _ (f f' : ConstantFolder) (initial : List ℕ) where
  abbrev pub FoldsBads : List ℕ → Result (Bor (List ℕ) × Bor (List ℕ)) Refusal → Type 0
  FoldsBads later r =
      (h : List Held) (ss seqs : List ℕ)
      → (h' : List Held) × (d : List ℕ) × (bads_of h' d f' seqs r ≡ fold_bads (model_by f.call ss initial later) (mode_is f.call.mode) false (seen h f) seqs)

  -- but for the bads that question 5 is about
  abbrev pub FoldsOnce : Result (Bor (List ℕ) × Verdict) Refusal → Type 0
  FoldsOnce r =
      (h : List Held) (ss seqs later : List ℕ)
      → (h' : List Held) × (d : List ℕ) × (once_of h' d f' seqs later r ≡ bared (fold_bads (model_by f.call ss initial later) (mode_is f.call.mode) true (seen h f) seqs))

-- the whole fold by the lists that stay and the verdict, but for the bads that question 5 is about
unfoldable pub folded_of : List Held → List ℕ → ConstantFolder → Result (Lists × Verdict) Refusal → Out Folded
folded_of h d f (Ok p) = done (folded_by h d f p.0.sequentials.now p.0.initial.now p.0.later.now (verdict_is p.1))
folded_of h d f (Err r) = refused (refusal_of r)

abbrev pub Folds : ConstantFolder → ConstantFolder → Lists → Result (Lists × Verdict) Refusal → Type 0
Folds f f' l r = (h : List Held) × (d : List ℕ) × (bared (folded_of h d f' r) ≡ bared (fold (model_of f.call l) (mode_is f.call.mode)))

-- what the answer says of an outcome of the fold, and what stands in the result buffer Q of so much room
unfoldable pub Ends : Model → Out Folded → ℕ → Result ℕ Refusal → List ℕ → Type 0
Ends m o room (Ok k) Q = (f : Folded) × (o ≡ done f) × Handed (flatten (result_words m f)) room Q k
Ends m o room (Err r) Q = o ≡ refused (refusal_of r)

abbrev pub Runs : Model → Mode → ℕ → Result ℕ Refusal → List ℕ → Type 0
Runs m how room r Q = Ends m (fold m how) room r Q
