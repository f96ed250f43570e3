-- `feed` meets its contract. The invariant: the reader is what the bytes passed make of the reader at first.
-- Assumes nothing.
use mathlib.Core.Path.{◌≡◌}
use lib.ListN.{take}
use Rattle.rules.specs.Reader as rules
use Rattle.text.specs.Reading.{reader_of, fed_in}
use Rattle.text.proofs.reader.Reader.feed.Given as goal

abbrev pub invariant-loop-b : goal.invariant-loop-b
invariant-loop-b l =
    record {
      reader : reader_of l.reader l.numbers ≡ rules.feed (reader_of l.initial.self l.initial.numbers) (take l.b-index l.chunk);
      numbers : l.numbers ≡ fed_in (reader_of l.initial.self l.initial.numbers) (take l.b-index l.chunk) l.initial.numbers;
    }
