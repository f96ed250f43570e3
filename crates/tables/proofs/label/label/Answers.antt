-- `label` is read off the place of the node's name.
-- Assumes nothing.
use Prim.Native.Nat.{ℕ, ◌+◌, ◌-◌}
use mathlib.Core.Path.{◌≡◌, sym, ap, ◌∙◌}
use mathlib.Core.Option.{none, some}
use native.Mathlib.Omega.{arith}
use lib.ListN.{take, drop}
use Rattle.tables.specs.LimitAnswers.{limits_is}
use Rattle.tables.specs.NameAnswers.{placed, place_of, name_word_of}
use Rattle.tables.proofs.LabelLaws.{text_or, label_is}
use Rattle.tables.proofs.label.label.Goals as goal

pub returns-in-Some : goal.returns-in-Some
unfolding text_or
returns-in-Some c =
    let a = c.args in
    let bs = a.names.now in
    let name = c.in-Some.name in
    let e : name.start + name.len - name.start ≡ name.len = omega arith in
    let limits = limits_is a.limits in
    let p : place_of limits bs (name_word_of limits a.words.now a.node) ≡ some (name.start, name.len) =
    ap (λ (k : ℕ). place_of limits bs k) (sym c.name_word.ensures) ∙ sym c.name_place.ensures.place ∙ ap placed c.in-Some.is in
    ap (λ (n : ℕ). take n (drop name.start bs)) e
    ∙ sym (label_is limits a.words.now bs a.substitute.now a.node ∙ ap (λ p. text_or a.substitute.now bs p) p)

pub returns-in-None : goal.returns-in-None
unfolding text_or
returns-in-None c =
    let a = c.args in
    let bs = a.names.now in
    let limits = limits_is a.limits in
    let p : place_of limits bs (name_word_of limits a.words.now a.node) ≡ none =
    ap (λ (k : ℕ). place_of limits bs k) (sym c.name_word.ensures) ∙ sym c.name_place.ensures.place ∙ ap placed c.in-None.is in
    sym (label_is limits a.words.now bs a.substitute.now a.node ∙ ap (λ p. text_or a.substitute.now bs p) p)
