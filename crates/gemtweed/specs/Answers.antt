-- What the exported functions answer, in the rules' terms.
--     answer_is     the four words of an answer       laid_in     a text at the front of a buffer that has room for it
-- Assumes nothing.
use Rattle.std.specs.Prelude.{ℕ, true, false, List, ◌++◌, length, drop, ltb}
use Rattle.rules.specs.Call.{Answer}
use Rattle.gemtweed.specs.declared.fold.GemtweedAnswer.{GemtweedAnswer}

abbrev pub answer_is : GemtweedAnswer → Answer
answer_is a = record { number = a.number; section = a.section; position = a.position; words = a.words }

-- a text that does not fit leaves the buffer as it is
unfoldable pub laid_in : List ℕ → List ℕ → List ℕ
laid_in text out = elim (ltb (length out) (length text)) [ true ↦ out | false ↦ text ++ drop (length text) out ]
