-- The last question of one-query in the rules' terms.
--     verdict_is, answered_of    the verdict and its outcome
--     verdict_of, verdict_then   its verdict by the reply        forgotten   the rules' outcome without the bads that question 5 is about, which no result word speaks of
--     bare_folded   a fold without them
-- Assumes nothing.
use Rattle.std.specs.Prelude.{ℕ, cond, [], map, eqb, Result, Ok, Err}
use Rattle.rules.specs.Refusal.{Out, refused, done, ◌>>=◌}
use Rattle.rules.specs.Walk.{St, Question}
use Rattle.rules.specs.Questions.{question}
use Rattle.tables.specs.declared.refusal.Refusal.{Refusal}
use Rattle.tables.specs.Refusals.{refusal_of}
use Rattle.optimize.specs.declared.last_question.Verdict.{Verdict}
use Rattle.rules.specs.Whole.{Folded}

-- the verdict as the tally names it, and what an answer comes to
abbrev pub verdict_is : Verdict → ℕ
verdict_is Verdict.Unasked = 0
verdict_is Verdict.Found = 1
verdict_is Verdict.NotFound = 2
verdict_is Verdict.NoneLeft = 3

unfoldable pub answered_of : St → Result Verdict Refusal → Out (St × ℕ)
answered_of σ (Ok v) = done (σ, verdict_is v)
answered_of σ (Err r) = refused (refusal_of r)

-- "2 after the reply 1 (none can be found), and 1 after the reply 0"
abbrev pub verdict_of : ℕ → ℕ
verdict_of r = cond (eqb r 1) 2 1

abbrev pub verdict_then : Out (St × ℕ) → Out (St × ℕ)
verdict_then o = o >>= λ p. done (p.0, verdict_of p.1)

abbrev pub unnamed : Question → Question
unnamed q = question q.kind q.first q.second [] q.reply

abbrev pub without_bads : St → St
without_bads σ =
    record {
      rows = σ.rows;
      mark = σ.mark;
      made = σ.made;
      inputs = σ.inputs;
      replies = σ.replies;
      asked = map unnamed σ.asked;
      held = σ.held;
      looked = σ.looked;
      passed = σ.passed;
    }

abbrev pub forgotten : Out (St × ℕ) → Out (St × ℕ)
forgotten o = o >>= λ p. done (without_bads p.0, p.1)

-- a fold without the bads of its questions
abbrev pub bare_folded : Folded → Folded
bare_folded f =
    record { state = without_bads f.state; sequentials = f.sequentials; initial = f.initial; later = f.later; dropped = f.dropped; verdict = f.verdict }
