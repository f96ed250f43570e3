-- `starts_with_memory_dump` asks the library for the prefix.
-- Assumes nothing.
use mathlib.Core.Path.{◌∙◌}
use Rattle.rules.specs.Names.{memory_dump}
use Rattle.tables.proofs.NameLaws.{prefix_is}
use Rattle.tables.proofs.names.starts_with_memory_dump.Goals as goal

pub returns : goal.returns
returns c = c.starts_with.ensures.value ∙ prefix_is c.args.name.now memory_dump
