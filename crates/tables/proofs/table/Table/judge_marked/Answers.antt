-- `judge_marked` judges entry after entry, with a mark for each state that was listed, as far as the marks reach.
-- Assumes nothing.
use Prim.Native.Nat.{ℕ, ◌+◌}
use mathlib.Core.Path.{sym, ap, ◌∙◌, subst}
use mathlib.Core.Bool.{Bool}
use mathlib.Core.List.{List, []}
use native.Mathlib.Omega.{arith}
use lib.ListN.{take}
use Rattle.rules.specs.Lists.{member}
use Rattle.rules.specs.Table.{Node}
use Rattle.rules.specs.Check.{check_sequentials}
use Rattle.tables.specs.Judging.{nodes_of, states_of, Marks}
use Rattle.tables.proofs.ListLaws.{marked, unmarked, sequentials-stop_6, sequentials-stop_7, sequentials-pass, sequentials_end}
use Rattle.tables.proofs.table.Table.judge_marked.Goals as goal
use Rattle.tables.proofs.table.Table.judge_marked.Goals.{In-loop-place}

pub loop-place-init : goal.loop-place-init
unfolding states_of
loop-place-init c =
    let t = nodes_of c.args.self in
    (unmarked t c.args.seen.now c.requires, ap (check_sequentials t 0 (states_of t [])) c.list-sequentials.ensures)

pub returns-then-not-is_sequential : goal.returns-then-not-is_sequential
returns-then-not-is_sequential c =
    let t = nodes_of c.args.self in
    let ss = c.list-sequentials.result.now in
    sequentials-stop_6 t ss c.loop-place.place (omega arith) (sym c.is_sequential.ensures ∙ c.if-not-is_sequential.true) ∙ c.loop-place.invariant.1

pub returns-then-was_listed : goal.returns-then-was_listed
returns-then-was_listed c =
    let t = nodes_of c.args.self in
    let ss = c.list-sequentials.result.now in
    let place = c.loop-place.place in
    let state = ap (λ (n : Node). n.a) c.row-state.ensures in
    sequentials-stop_7 t ss place (omega arith) (sym c.is_sequential.ensures ∙ c.if-not-is_sequential.false)
    (ap (λ (x : ℕ). member x (states_of t (take place ss))) (sym state) ∙ sym c.was_listed.ensures ∙ c.if-was_listed.true)
    ∙ c.loop-place.invariant.1

pub loop-place-preserved : goal.loop-place-preserved
loop-place-preserved c =
    let t = nodes_of c.args.self in
    let ss = c.list-sequentials.result.now in
    let place = c.loop-place.place in
    let state = ap (λ (n : Node). n.a) c.row-state.ensures in (
      subst (λ (l : List Bool). Marks (states_of t (take (place + 1) ss)) l) (sym c.mark.ensures) (marked t ss place c.loop-place.seen c.row-state.result.a (omega arith) state c.loop-place.invariant.0),
      sequentials-pass t ss place (omega arith) (sym c.is_sequential.ensures ∙ c.if-not-is_sequential.false)
          (ap (λ (x : ℕ). member x (states_of t (take place ss))) (sym state) ∙ sym c.was_listed.ensures ∙ c.if-was_listed.false)
          ∙ c.loop-place.invariant.1,
    )

pub returns : goal.returns
returns c =
    let t = nodes_of c.args.self in
    let ss = c.list-sequentials.result.now in
    sym (sequentials_end t ss c.loop-place.place (omega arith)) ∙ c.loop-place.invariant.1
