-- `sections` meets its contract. The invariant: the sections that are left, printed on the page, come to what all come to.
-- Assumes nothing.
use mathlib.Core.Path.{◌≡◌}
use lib.ListN.{drop}
use Rattle.rules.specs.Text.{lines}
use Rattle.text.specs.Printing.{page_of, laid, sections_in, result_widths}
use Rattle.text.proofs.printer.Page.sections.Given as goal

abbrev pub invariant-loop-width : goal.invariant-loop-width
invariant-loop-width l =
    record {
      same_buffer : l.self.out.ghost_name ≡ l.initial.self.out.ghost_name;
      printed : laid (page_of l.self) (lines (sections_in (drop l.width-index result_widths) l.rest)) ≡ laid (page_of l.initial.self) (lines (sections_in result_widths l.initial.rest));
    }
