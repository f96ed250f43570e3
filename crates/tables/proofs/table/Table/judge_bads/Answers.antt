-- `judge_bads` looks for the first entry that is no Bad of the table.
-- Assumes nothing.
use Prim.Native.Nat.{ℕ, ◌+◌}
use mathlib.Core.Path.{◌≡◌, refl, sym, ap, ◌∙◌}
use mathlib.Core.Bool.{Bool, true, false, cond}
use mathlib.Core.Option as logic
use native.Mathlib.Omega.{arith}
use Rattle.std.proofs.Common.{rules, tests, Option, Some, None}
use Rattle.std.proofs.lemmas.Iterator.{YieldsList-from_slice}
use Rattle.std.proofs.lemmas.Iterator.Search.{position_from_yields_List}
use Rattle.rules.specs.Refusal.{Refusal}
use Rattle.tables.specs.Judging.{nodes_of}
use Rattle.tables.proofs.ListLaws.{no_bad, bads_by}
use Rattle.tables.proofs.table.Table.judge_bads.Goals as goal

-- the refusal of a place, if there is one
abbrev refused : ℕ → Option ℕ → logic.Option Refusal
refused section (Some place) = logic.some (record { reason = 6; section = section; position = place })
refused section None = logic.none

chosen : (section p : ℕ) (b : Bool) → refused section (cond b (Some p) None) ≡ cond b (logic.some (record { reason = 6; section = section; position = 0 + p })) logic.none
chosen section p true = let z : p ≡ 0 + p = omega arith in ap (λ (n : ℕ). logic.some (record { reason = 6; section = section; position = n })) z
chosen section p false = refl

pub returns-in-Some : goal.returns-in-Some
returns-in-Some c =
    let t = nodes_of c.args.self in
    let bads = c.args.bads.now in
    let found = position_from_yields_List (no_bad t c.args.section) _ _ c.position.result c.position.ensures.ran (YieldsList-from_slice bads cc) (λ x b q k. search (rules, tests)) in
    ap (refused c.args.section) (sym c.in-Some.is ∙ found) ∙ chosen c.args.section _ _ ∙ sym (bads_by t c.args.section 0 bads)

pub returns-in-None : goal.returns-in-None
returns-in-None c =
    let t = nodes_of c.args.self in
    let bads = c.args.bads.now in
    let found = position_from_yields_List (no_bad t c.args.section) _ _ c.position.result c.position.ensures.ran (YieldsList-from_slice bads cc) (λ x b q k. search (rules, tests)) in
    ap (refused c.args.section) (sym c.in-None.is ∙ found) ∙ chosen c.args.section _ _ ∙ sym (bads_by t c.args.section 0 bads)
