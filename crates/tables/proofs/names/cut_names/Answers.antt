-- `cut_names`: each turn by the law of one name.
-- Assumes nothing.
use Prim.Native.Nat.{ℕ, ◌+◌, ◌<◌, ◌-◌}
use mathlib.Core.Path.{◌≡◌, sym, ap, ap₂, ◌∙◌}
use native.Mathlib.Omega.{arith}
use borrow.Author.Rules.{rules}
use lib.ListN.{drop}
use Rattle.std.specs.Prelude.{Err}
use Rattle.tables.specs.LimitAnswers.{limits_is}
use Rattle.tables.specs.NameAnswers.{read_of}
use Rattle.tables.specs.Refusals.{refusal_of}
use Rattle.tables.proofs.NameLaws.{judged, count_said, count_missing, count-over, count-within, judged_end, judged_leftover, judged-refused, judged-name}
use Rattle.tables.proofs.names.cut_names.Goals as goal
use Rattle.tables.proofs.names.cut_names.Goals.{After-from-count}

pub returns-in_default : goal.returns-in_default
returns-in_default c = sym (count_missing _ _ (search rules))

-- the count that the first two bytes say
said : (c : After-from-count) → c.from-count.result ≡ count_said c.args.names.now
said c = search rules

pub returns-then-limits-count : goal.returns-then-limits-count
returns-then-limits-count c =
    let bs = c.args.names.now in
    let limits = limits_is c.args.limits in
    let n = said (goal.at.returns-then-limits-count c).After-from-count in
    let h : limits.names < count_said bs = omega (arith, n) in
    sym (count-over limits bs (search rules) h)

pub loop-init : goal.loop-init
loop-init c =
    let bs = c.args.names.now in
    let n = said (goal.at.loop-init c).After-from-count in
    let limits = limits_is c.args.limits in
    let all : c.from-count.result - 0 ≡ count_said bs = omega (arith, n) in
    (search rules, ap₂ (λ (n m : ℕ). judged limits n m (drop 2 bs)) n all ∙ sym (count-within limits bs (search rules) (omega (arith, n))))

pub returns-in_err-name : goal.returns-in_err-name
returns-in_err-name c =
    let limits = limits_is c.args.limits in
    let count = c.from-count.result in
    let stop = judged-refused limits count (count - c.loop.counter) c.args.names.now c.loop.at (omega arith) (refusal_of c.in_err-name.field-0.0) (sym c.read_name.ensures.read ∙ ap read_of c.in_err-name.was) in
    let same : c.from_residual.result ≡ Err c.in_err-name.field-0.0 = search rules in
    rw same (sym stop ∙ c.loop.invariant.1)

pub loop-preserved : goal.loop-preserved
loop-preserved c =
    let limits = limits_is c.args.limits in
    let count = c.from-count.result in
    let name = c.in_ok-name.name in
    let step = judged-name limits count (count - c.loop.counter) c.args.names.now c.loop.at (omega arith) name.start name.len (sym c.read_name.ensures.read ∙ ap read_of c.in_ok-name.was) in
    let e : count - (c.loop.counter + 1) ≡ count - c.loop.counter - 1 = omega arith in
    (search rules, rw e (sym step ∙ c.loop.invariant.1))

pub returns-then-at-names : goal.returns-then-at-names
returns-then-at-names c =
    let e : c.from-count.result - c.loop.counter ≡ 0 = omega arith in
    sym (judged_leftover (limits_is c.args.limits) c.from-count.result c.args.names.now c.loop.at (omega arith)) ∙ (rw e at c.loop.invariant.1)

pub returns : goal.returns
returns c =
    let e : c.from-count.result - c.loop.counter ≡ 0 = omega arith in
    sym (judged_end (limits_is c.args.limits) c.from-count.result c.args.names.now c.loop.at (omega arith)) ∙ (rw e at c.loop.invariant.1)
