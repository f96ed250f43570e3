-- `is_memory_dump` looks at the bytes of the name where it stands.
-- Assumes nothing.
use Prim.Native.Nat.{ℕ, ◌+◌, ◌-◌}
use mathlib.Core.Path.{◌≡◌, sym, ap, ◌∙◌}
use native.Mathlib.Omega.{arith}
use lib.ListN.{take, drop}
use Rattle.rules.specs.Names.{starts_with, memory_dump}
use Rattle.tables.specs.LimitAnswers.{limits_is}
use Rattle.tables.specs.NameAnswers.{placed}
use Rattle.tables.proofs.NameLaws.{text_of, dump-place}
use Rattle.tables.proofs.names.is_memory_dump.Goals as goal

pub returns-in-Some : goal.returns-in-Some
unfolding text_of
returns-in-Some c =
    let bs = c.args.names.now in
    let name = c.in-Some.name in
    let n : name.start + name.len - name.start ≡ name.len = omega arith in
    c.starts_with_memory_dump.ensures
    ∙ ap (λ (n : ℕ). starts_with memory_dump (take n (drop name.start bs))) n
    ∙ sym (dump-place (limits_is c.args.limits) bs c.args.k ∙ ap (λ p. starts_with memory_dump (text_of bs p)) (sym c.name_place.ensures.place ∙ ap placed c.in-Some.is))

pub returns-in-None : goal.returns-in-None
unfolding text_of starts_with
returns-in-None c =
    let bs = c.args.names.now in
    sym (dump-place (limits_is c.args.limits) bs c.args.k ∙ ap (λ p. starts_with memory_dump (text_of bs p)) (sym c.name_place.ensures.place ∙ ap placed c.in-None.is))
