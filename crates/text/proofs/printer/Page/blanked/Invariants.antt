-- `blanked` meets its contract. The invariant: what is left, printed on the page, comes to what all comes to.
-- Assumes nothing.
use mathlib.Core.Path.{◌≡◌}
use lib.ListN.{drop}
use Rattle.rules.specs.Text.{blanked}
use Rattle.text.specs.Printing.{page_of, laid}
use Rattle.text.proofs.printer.Page.blanked.Given as goal

abbrev pub invariant-loop-x : goal.invariant-loop-x
invariant-loop-x l =
    record {
      same_buffer : l.self.out.ghost_name ≡ l.initial.self.out.ghost_name;
      printed : laid (page_of l.self) (blanked (drop l.x-index l.numbers)) ≡ laid (page_of l.initial.self) (blanked l.numbers);
    }
