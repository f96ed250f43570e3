-- `name_place` meets its contract: by how many names there are, and the walk to the one asked for.
-- Assumes nothing.
use Prim.Native.Nat.{ℕ, ◌+◌, ◌-◌}
use mathlib.Core.Path.{◌≡◌, sym, ap, ap₂, ◌∙◌}
use mathlib.Core.Option.{some}
use native.Mathlib.Omega.{arith}
use lib.ListN.{get_or}
use Rattle.rules.specs.Refusal.{done}
use Rattle.rules.specs.Names.{length_place}
use Rattle.tables.specs.LimitAnswers.{limits_is}
use Rattle.tables.specs.NameAnswers.{count_of, names_count, place_of}
use Rattle.tables.proofs.NameLaws.{place_none, place-refused, place-past, place-within, count_limit, counted_inside}
use Rattle.tables.proofs.names.name_place.Goals as goal
use Rattle.tables.proofs.names.name_place.Goals.{In-Ok}

-- so many names were counted
names-counted : (c : In-Ok) → names_count (limits_is c.args.limits) c.args.names.now ≡ done c.in-Ok.count
names-counted c = sym c.cut_names.ensures ∙ ap count_of c.in-Ok.is

pub returns-in_default-clause-place : goal.returns-in_default-clause-place
returns-in_default-clause-place c = sym (place-refused _ _ _ _ (sym c.cut_names.ensures ∙ ap count_of c.in_default.is))

pub returns-then-k-eq0-clause-place : goal.returns-then-k-eq0-clause-place
returns-then-k-eq0-clause-place c =
    let limits = limits_is c.args.limits in
    sym (ap (λ k. place_of limits c.args.names.now k) c.if-k-eq0.true ∙ place_none limits c.args.names.now)

pub returns-then-count-k-clause-place : goal.returns-then-count-k-clause-place
returns-then-count-k-clause-place c =
    sym (place-past (limits_is c.args.limits) c.args.names.now _ (names-counted (goal.at.returns-then-count-k-clause-place c).In-Ok) c.args.k c.if-count-k.true)

pub overflow_cast-k : goal.overflow_cast-k
overflow_cast-k c = omega (arith, count_limit _ _ _ (names-counted (goal.at.overflow_cast-k c).In-Ok))

pub overflow_add-result : goal.overflow_add-result
overflow_add-result c = omega (arith, c.skip_names-at.ensures, counted_inside _ _ _ (names-counted (goal.at.overflow_add-result c).In-Ok) c.args.k (omega arith) (omega arith), c.well_formed.0)

pub returns : goal.returns
returns c =
    let bs = c.args.names.now in
    let k = c.args.k in
    let counted = names-counted (goal.at.returns c).In-Ok in
    let p : c.skip_names-at.result ≡ length_place (k - 1) bs 2 = c.skip_names-at.ensures in
    record {
      place = ap₂ (λ (start len : ℕ). some (start, len)) (ap (λ q. q + 1) p) (c.byte-len.ensures.0 ∙ ap (λ q. get_or bs q 0) p)
          ∙ sym (place-within (limits_is c.args.limits) bs _ counted k (omega arith) (omega arith));
      inside = omega (arith, p, c.byte-len.ensures.0, rw (← p) at (counted_inside (limits_is c.args.limits) bs _ counted k (omega arith) (omega arith)));
    }
