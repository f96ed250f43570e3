-- What a call fixes, as the code has it, in the rules' terms.
--     mode_is    what a mode asks for        ways_of    what the rules' visits are told of a call        SameState    counters that say the same
-- Assumes nothing.
use Rattle.std.specs.Prelude.{ℕ, List, ◌≡◌}
use Rattle.btor.specs.Readings.{reading_is}
use Rattle.rules.specs.Model as rules
use Rattle.rules.specs.Visit.{Ways}
use Rattle.rules.specs.Walk.{Held}
use Rattle.optimize.specs.declared.call.Mode.{Mode}
use Rattle.optimize.specs.declared.call.Call.{Call}
use Rattle.optimize.specs.declared.walk.Walk.{Walk}
use Rattle.optimize.specs.View.{ways_in, view}

abbrev pub mode_is : Mode → rules.Mode
mode_is m = record { minimise = m.minimise; terminate = m.terminate; one_query = m.one_query; reading = reading_is m.reading }

abbrev pub ways_of : Call → Ways
ways_of c = ways_in c.dumps.now (mode_is c.mode) c.replies.now

-- the state is the same with these counters as with those, whatever the buffers hold
abbrev pub SameState : Call → Walk → Walk → Type 0
SameState c w w' = (h : List Held) (g R S : List ℕ) → view h g c.inputs.now c.replies.now R S w' ≡ view h g c.inputs.now c.replies.now R S w
