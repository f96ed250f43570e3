-- `blanked` meets its contract. The invariant: what is left, printed on the page, comes to what all comes to.
-- Assumes nothing.
use mathlib.Core.Path.{◌∙◌}
use Rattle.text.proofs.Printing.{blanked_next}
use Rattle.text.proofs.printer.Page.blanked.Goals as goal

pub loop-x-preserved : goal.loop-x-preserved
loop-x-preserved c =
    record {
      same_buffer = c.number.ensures.same_buffer ∙ (c.byte.ensures.same_buffer ∙ c.loop-x.invariant.same_buffer);
      printed = blanked_next _ _ _ _ _ _ c.loop-x.invariant.printed c.byte.ensures.printed c.number.ensures.printed c.loop-x-test.true;
    }
