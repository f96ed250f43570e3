-- `are_before` is rule 4, operand by operand.
-- Assumes nothing.
use Prim.Native.Nat.{ℕ}
use mathlib.Core.Path.{◌∙◌}
use mathlib.Core.Bool.{Bool}
use Rattle.std.proofs.Common.{rules, tests}
use Rattle.std.proofs.lemmas.Iterator.{YieldsList-from_slice}
use Rattle.std.proofs.lemmas.Iterator.Search.{all_from_yields_List}
use lib.Dec.{ltb}
use Rattle.tables.proofs.FormLaws.{every_is}
use Rattle.tables.proofs.nodes.are_before.Goals as goal

pub returns : goal.returns
returns g c =
    let test : ℕ → Bool = λ x. ltb x c.args.node in
    all_from_yields_List test _ _ _ c.all.ensures.ran (YieldsList-from_slice c.args.operands cc) (λ x b q k. search (rules, tests)) ∙ every_is test c.args.operands
