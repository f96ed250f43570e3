-- `all_serve` asks of each operand whether it may be one.
-- Assumes nothing.
use Prim.Native.Nat.{ℕ}
use mathlib.Core.Path.{◌∙◌}
use mathlib.Core.Bool.{Bool}
use Rattle.std.proofs.Common.{rules, tests}
use Rattle.std.proofs.lemmas.Iterator.{YieldsList-from_slice}
use Rattle.std.proofs.lemmas.Iterator.Search.{all_from_yields_List}
use Rattle.rules.specs.Table.{node_at}
use Rattle.rules.specs.Check.{may_serve}
use Rattle.tables.specs.Judging.{nodes_of}
use Rattle.tables.proofs.FormLaws.{every_is}
use Rattle.tables.proofs.table.Table.all_serve.Goals as goal

pub returns : goal.returns
returns g c =
    let t = nodes_of c.args.self in
    let test : ℕ → Bool = λ x. may_serve (node_at t x) in
    all_from_yields_List test _ _ _ c.all.ensures.ran (YieldsList-from_slice c.args.operands cc) (λ x b q k. search (rules, tests)) ∙ every_is test c.args.operands
