-- A refusal as the program prints it, in the rules' terms.
-- Assumes nothing.
use Rattle.rules.specs.Refusal.{Refusal}
use Rattle.text.specs.declared.refused.Refused.{Refused}

abbrev pub refused_is : Refused → Refusal
refused_is r = record { reason = r.number; section = r.section; position = r.position }
