-- `all_bytes` meets its contract: std's `all`, which recurs over the values as the rules do.
-- Assumes nothing.
use borrow.Author.Rules.{rules}
use lib.Dec.{ltb}
use mathlib.Core.Path.{refl, ◌∙◌}
use mathlib.Core.Bool.{◌&&◌}
use Rattle.std.proofs.Common.{tests}
use Rattle.std.specs.List.{list_all}
use Rattle.std.proofs.lemmas.Iterator.{YieldsList-from_slice}
use Rattle.std.proofs.lemmas.Iterator.Search.{all_from_yields_List}
use Rattle.std.proofs.lemmas.List.Recursion.{same_from_clauses}
use Rattle.rules.specs.Text.{all_bytes}
use Rattle.text.proofs.split.all_bytes.Goals as goal

pub returns : goal.returns
unfolding all_bytes
returns c =
    all_from_yields_List (λ x. ltb x 256) _ _ _ c.all.ensures.ran (YieldsList-from_slice c.args.values.now cc) (λ x b q k. search (rules, tests))
    ∙ same_from_clauses (list_all (λ x. ltb x 256)) all_bytes (λ x b. ltb x 256 && b) refl (λ _ _. refl) (λ _ _. refl) c.args.values.now
