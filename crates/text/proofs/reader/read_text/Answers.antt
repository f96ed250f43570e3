-- `read_text` meets its contract: the reader reads what the rules say of the whole text.
-- Assumes nothing.
use borrow.Author.Rules.{rules}
use mathlib.Core.Path.{ap, ◌∙◌}
use Rattle.text.specs.Reading.{answer_of}
use Rattle.text.proofs.Reading.{whole_text}
use Rattle.text.proofs.reader.read_text.Goals as goal

pub returns-clause-read : goal.returns-clause-read
returns-clause-read c =
    let read = c.finish.ensures.read in
    (ap (λ l. answer_of c.finish.result l) (search rules) ∙ (read.0 ∙ whole_text _ _ _ (c.new-reader.ensures _) c.feed.ensures.reader), read.1)
