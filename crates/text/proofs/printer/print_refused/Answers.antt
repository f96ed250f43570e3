-- `print_refused` meets its contract: the word, the three numbers after blanks, and the line's end.
-- Assumes nothing.
use borrow.Author.Rules.{rules}
use mathlib.Core.List.{[], ◌∷◌}
use native.Mathlib.Nat.{le_trans}
use Rattle.rules.specs.Text.{blanked, refused_word}
use Rattle.text.proofs.Laid.{laid_two}
use Rattle.text.proofs.Answer.{refused_room, left_behind, place_after}
use Rattle.text.proofs.printer.print_refused.Goals as goal

pub returns : goal.returns
returns c =
    let why = c.args.why in
    let all =
    laid_two _ _ _ refused_word _ c.bytes.ensures.printed
    (laid_two _ _ _ (blanked (why.number ∷ why.section ∷ why.position ∷ [])) (10 ∷ []) c.blanked.ensures.printed c.byte.ensures.printed)
    in
    record {
      result_after = left_behind c.new-page.result c.byte.new.self _ _ c.new-page.ensures.page all _ (search rules);
      room = λ h. place_after c.new-page.result c.byte.new.self _ _ c.new-page.ensures.page all (le_trans (refused_room _ _ _ c.blanked.ensures.short) h);
    }
