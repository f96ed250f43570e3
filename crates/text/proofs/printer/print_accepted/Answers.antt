-- `print_accepted` meets its contract: the word and the line's end, then the sections.
-- Assumes nothing.
use borrow.Author.Rules.{rules}
use mathlib.Core.List.{[], ◌∷◌, ◌++◌}
use native.Mathlib.Nat.{le_trans}
use Rattle.text.specs.Printing.{accepted_text}
use Rattle.rules.specs.Text.{accepted_word}
use Rattle.text.proofs.Laid.{laid_two}
use Rattle.text.proofs.Answer.{accepted_room, left_behind, place_after}
use Rattle.text.proofs.printer.print_accepted.Goals as goal

pub returns : goal.returns
returns c =
    let all = laid_two _ _ _ (accepted_word ++ (10 ∷ [])) _ c.bytes.ensures.printed c.sections.ensures.printed in
    record {
      result_after = left_behind c.new-page.result c.sections.new.self _ _ c.new-page.ensures.page all _ (search rules);
      room = λ h. place_after c.new-page.result c.sections.new.self _ (accepted_text c.args.words.now) c.new-page.ensures.page all (le_trans (accepted_room c.args.words.now (λ k. (c.type_inv.words k).fits)) h);
    }
