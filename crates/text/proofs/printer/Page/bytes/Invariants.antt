-- `bytes` meets its contract. The invariant: what is left, printed on the page, comes to what all comes to.
-- Assumes nothing.
use mathlib.Core.Path.{◌≡◌}
use lib.ListN.{drop}
use Rattle.text.specs.Printing.{page_of, laid}
use Rattle.text.proofs.printer.Page.bytes.Given as goal

abbrev pub invariant-loop-b : goal.invariant-loop-b
invariant-loop-b l =
    record {
      same_buffer : l.self.out.ghost_name ≡ l.initial.self.out.ghost_name;
      printed : laid (page_of l.self) (drop l.b-index l.bytes) ≡ laid (page_of l.initial.self) l.bytes;
    }
