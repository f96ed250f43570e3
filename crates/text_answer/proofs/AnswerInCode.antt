-- What a caller learns from the contracts of `answer` and `answer_text` is all that Answered asks: a clause left out of one breaks these.
-- And bytes that are fed in parts are answered as one text.
-- Assumes nothing.
use Prim.Native.Nat.{ℕ}
use mathlib.Core.Path.{◌≡◌, refl, sym, ap, ◌∙◌}
use mathlib.Core.List.{List, [], ◌∷◌, flatten}
use lib.ListN.{length, take, drop}
use lib.Seq.{take-append_seam, drop-append_seam}
use contract.Lifetimes.{Lfts}
use denote.Triple.Clauses.{AtExit}
use borrow.Fn.Kinds.{Dens, ended_of}
use Rattle.rules.specs.Reader.{Reader, fresh, feed, read_out}
use Rattle.rules.specs.Text.{printed, program, text_outcome}
use Rattle.rules.proofs.Reader.{feed_append, reader-is}
use Rattle.text.specs.Reading.{answer_of}
use Rattle.text_answer.specs.Answering.{Shown, answer_after}
use Rattle.text_answer.specs.Caller.{Answered, feed_all, Chunked}
use Rattle.text_answer.proofs.answer.answer.Kinds as answer-kinds
use Rattle.text_answer.proofs.answer.answer.Reads as answer-contract
use Rattle.text_answer.proofs.answer.answer_text.Kinds as text-kinds
use Rattle.text_answer.proofs.answer.answer_text.Reads as text-contract

shown : (answer entry exit : List ℕ) (size : ℕ) → Shown entry exit size answer → Answered answer entry exit size
shown answer entry exit size h =
    record {
      sized = h.sized;
      front = ap (λ n. take n exit) h.sized ∙ ap (λ l. take (length answer) l) h.bytes ∙ take-append_seam answer (drop (length answer) entry);
      rest = ap (λ n. drop n exit) h.sized ∙ ap (λ l. drop (length answer) l) h.bytes ∙ drop-append_seam answer (drop (length answer) entry) ∙ ap (λ n. drop n entry) (sym h.sized);
    }

pub answer-told : (κs : Lfts 2) (a : Dens κs answer-kinds.ps) (size : ℕ) (e : AtExit (ended_of 2 answer-kinds.ps answer-kinds.r) κs) → answer-contract.Learnt κs a size e
    → Answered (printed (answer_after (answer_of a.0 a.1.0.now))) a.1.1.0.now e.1.1.0.now size
answer-told κs a size e h = shown _ _ _ size h

pub answer_text_told : (κs : Lfts 2) (a : Dens κs text-kinds.ps) (size : ℕ) (e : AtExit (ended_of 2 text-kinds.ps text-kinds.r) κs) → text-contract.Learnt κs a size e
    → Answered (program a.0.now) a.1.0.now e.1.0.now size
answer_text_told κs a size e h = shown _ _ _ size h

fed_all : (r : Reader) (chunks : List (List ℕ)) → feed_all r chunks ≡ feed r (flatten chunks)
unfolding feed_all feed flatten
fed_all r [] = refl
fed_all r (chunk ∷ chunks) = fed_all (feed r chunk) chunks ∙ sym (feed_append r chunk (flatten chunks))

pub chunked : Chunked
unfolding Chunked text_outcome
chunked chunks = ap (λ o. printed (answer_after o)) (ap read_out (fed_all fresh chunks) ∙ reader-is (flatten chunks))
