-- `is_listed` looks for the state among the entries.
-- Assumes nothing.
use Prim.Native.Nat.{ℕ}
use mathlib.Core.Path.{◌∙◌}
use mathlib.Core.Bool.{Bool}
use Rattle.std.proofs.Common.{rules, tests}
use Rattle.std.proofs.lemmas.Iterator.{YieldsList-from_slice}
use Rattle.std.proofs.lemmas.Iterator.Search.{any_from_yields_List}
use lib.Dec.{eqb}
use Rattle.rules.specs.Table.{node_at}
use Rattle.tables.specs.Judging.{nodes_of}
use Rattle.tables.proofs.ListLaws.{listed_is}
use Rattle.tables.proofs.table.Table.is_listed.Goals as goal

pub returns : goal.returns
returns c =
    let t = nodes_of c.args.self in
    let state = c.args.state in
    let test : ℕ → Bool = λ e. eqb state (node_at t e).a in
    any_from_yields_List test _ _ _ c.any.ensures.ran (YieldsList-from_slice c.args.before.now cc) (λ x b q k. search (rules, tests)) ∙ listed_is t state c.args.before.now
