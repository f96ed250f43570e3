-- `sections` meets its contract. The invariant: the sections that are left, printed on the page, come to what all come to.
-- Assumes nothing.
use mathlib.Core.Path.{◌∙◌}
use Rattle.text.specs.Printing.{result_widths}
use Rattle.text.proofs.Printing.{sections_next}
use Rattle.text.proofs.printer.Page.sections.Goals as goal

pub loop-width-preserved : goal.loop-width-preserved
loop-width-preserved c =
    let cut = c.split_at.ensures in
    record {
      same_buffer = c.line.ensures.same_buffer ∙ c.loop-width.invariant.same_buffer;
      printed = sections_next _ _ result_widths _ _ c.loop-width.invariant.printed _ _ _ _ c.loop-width-test.true c.section_size.ensures cut.front cut.back c.line.ensures.printed;
    }
