-- A known code names its kind, any other reads as Input.
-- Assumes nothing.
use mathlib.Core.Path.{ap, ◌∙◌}
use Rattle.rules.specs.Table.{kind_of}
use Rattle.tables.specs.NodeAnswers.{kind_is}
use Rattle.optimize.proofs.RowLaws.{kind-or}
use Rattle.optimize.proofs.buffers.kind_at.Goals as goal

pub returns : goal.returns
returns c = ap kind_is c.unwrap_or.ensures ∙ kind-or c.word.result c.try_from.result c.try_from.ensures.0 ∙ ap kind_of c.word.ensures
