-- What an entry point is and answers, in the rules' terms.
--     entry_is, answered       the entry and the answer        brought_of, inputs_of, replies_of    what an entry brings of the words
--     result_left              the result buffer at the end    InOrder                  a call that `judge` accepted
--     model_parts, RunnableParts    the parts of the words that are folded
-- Assumes nothing.
use Rattle.std.specs.Prelude.{ℕ, ◌≡◌, Bool, true, false, cond, List, length, replicate, Result, Ok, Err}
use Rattle.rules.specs.Refusal.{done}
use Rattle.rules.specs.Limits.{house}
use Rattle.rules.specs.Model.{Model}
use Rattle.rules.specs.Call as rules
use Rattle.tables.specs.declared.refusal.Refusal.{Refusal}
use Rattle.tables.specs.Refusals.{refusal_of}
use Rattle.tables.specs.SectionAnswers.{sections_in}
use Rattle.rules.specs.Lent.{Lent, was, LentMut, old}
use Rattle.tables.specs.Judging.{IsCut, call_with}
use Rattle.tables.specs.declared.sections.Part.{Part}
use Rattle.tables.specs.declared.sections.Sections.{Sections}
use Rattle.optimize.specs.Lists.{between, part_of}
use Rattle.optimize.specs.Runs.{model_in, Runnable}
use Rattle.optimize.specs.declared.optimize.Entry.{Entry}

abbrev pub entry_is : Entry → rules.Entry
entry_is Entry.Impl = rules.impl
entry_is Entry.WithSolver = rules.with_solver
entry_is Entry.WithInput = rules.with_input

-- number 0 and the words of the result, or the refusal
abbrev pub answered : Result ℕ Refusal → rules.Answer
answered (Ok k) = record { number = 0; section = 0; position = 0; words = k }
answered (Err r) = record { number = (refusal_of r).reason; section = (refusal_of r).section; position = (refusal_of r).position; words = 0 }

-- whether an entry brings inputs, and whether replies
abbrev pub brings_inputs : rules.Entry → Bool
brings_inputs rules.impl = true
brings_inputs rules.with_solver = false
brings_inputs rules.with_input = true

abbrev pub brings_replies : rules.Entry → Bool
brings_replies rules.impl = true
brings_replies rules.with_solver = true
brings_replies rules.with_input = false

-- a part that an entry brings; one that it does not bring ends at its start
abbrev pub brought_of : Bool → List ℕ → Part → List ℕ
brought_of brings ws p = between ws p.start (cond brings p.end p.start)

abbrev pub inputs_of : rules.Entry → List ℕ → Part → List ℕ
inputs_of e ws p = brought_of (brings_inputs e) ws p

abbrev pub replies_of : rules.Entry → List ℕ → Part → List ℕ
replies_of e ws p = brought_of (brings_replies e) ws p

-- "A refused call leaves both buffers all zeros"
abbrev pub result_left : Result ℕ Refusal → List ℕ → List ℕ
result_left (Ok k) Q = Q
result_left (Err r) Q = replicate (length Q) 0

-- a call that is judged in order, its words cut into these sections
pub record InOrder (call : rules.Call) (s : Sections) : Type 0 where
  pub is_cut : IsCut house call.words s
  pub with : rules.Judged
  pub judged : rules.judged house call ≡ done with
  pub sections : with.sections ≡ sections_in call.words s

-- ---- the parts of the words that are folded
-- with the inputs and the replies that an entry brings
unfoldable pub model_parts : List ℕ → List ℕ → Sections → List ℕ → List ℕ → Model
model_parts ws dumps s ins reps = model_in ws dumps (part_of ws s.sequentials) (part_of ws s.initial) (part_of ws s.later) ins reps

unfoldable pub RunnableParts : List ℕ → List ℕ → Sections → List ℕ → List ℕ → ℕ → ℕ → Type 0
RunnableParts ws dumps s ins reps room scratch = Runnable ws dumps (part_of ws s.sequentials) (part_of ws s.initial) (part_of ws s.later) ins reps room scratch

-- the call of an entry point, over the parameters that it is lent
abbrev pub call_lent : ℕ → Lent → Lent → LentMut → LentMut → rules.Call
call_lent mode words names result scratch = call_with mode (was words) (was names) (length (old result)) (length (old scratch))
