-- What limits.rt's Limits stand for.
-- Assumes nothing.
use Rattle.rules.specs.Limits as rules
use Rattle.tables.specs.declared.limits.Limits.{Limits}

abbrev pub limits_is : Limits → rules.Limits
limits_is l =
    record { nodes = l.nodes; entries = l.entries; inputs = l.inputs; replies = l.replies; names = l.names; name_length = l.name_length }
