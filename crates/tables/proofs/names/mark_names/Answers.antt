-- `mark_names` marks the name that the rest begins with, and goes on to what follows it.
-- Assumes nothing.
use Prim.Native.Nat.{ℕ, ◌+◌, ◌-◌, ◌<◌, ◌≤◌}
use mathlib.Core.Path.{◌≡◌, sym, ap, ap₂, ◌∙◌}
use mathlib.Core.List.{List}
use native.Mathlib.Omega.{arith}
use native.Mathlib.Numerals.{add-one}
use lib.ListN.{length, get_or, take, drop, length-drop}
use lib.Seq.{get_or-set_same, get_or-set_other, get_or-drop, drop-drop, take_all}
use borrow.Author.Count.{below_more}
use Rattle.btor.specs.Operators.{bit}
use Rattle.rules.specs.Refusal.{done}
use Rattle.rules.specs.Limits.{house}
use Rattle.rules.specs.Names.{length_place, name_start, name_size, starts_with, memory_dump}
use Rattle.tables.specs.NameAnswers.{names_count, dump_mark}
use Rattle.tables.proofs.NameLaws.{part, bit_is, mark_name, place_after, place_here, count_there, counted_inside}
use Rattle.tables.proofs.names.mark_names.Goals as goal
use Rattle.tables.proofs.names.mark_names.Goals.{In-loop-mark}

-- the bytes after k names, where there are more: a name of a size, and the bytes after it
module _ (bs : List ℕ) (n k : ℕ) (e : names_count house bs ≡ done n) (more : k < n) (rest : List ℕ) (is : rest ≡ drop (length_place k bs 2) bs) where
  first : get_or rest 0 0 ≡ get_or bs (length_place k bs 2) 0
  first =
      let z : length_place k bs 2 + 0 ≡ length_place k bs 2 = omega arith in
      ap (λ l. get_or l 0 0) is ∙ get_or-drop (length_place k bs 2) bs 0 0 ∙ ap (λ i. get_or bs i 0) z

  within : 1 + get_or rest 0 0 ≤ length rest
  within =
      let z : k + 1 - 1 ≡ k = omega arith in
      omega (arith, first, ap length is, length-drop (length_place k bs 2) bs, rw z at (counted_inside house bs n e (k + 1) (omega arith) (omega arith)))

  module _ (size : ℕ) (sized : size ≡ get_or rest 0 0) where
    name : take (1 + size - 1) (drop 1 rest) ≡ part bs (name_start bs (k + 1)) (name_size bs (k + 1))
    name =
        let m : 1 + size - 1 ≡ get_or bs (length_place k bs 2) 0 = omega (arith, sized, first) in
        let z : k ≡ k + 1 - 1 = omega arith in
        ap₂ (λ m l. take m (drop 1 l)) m is
        ∙ ap (λ l. take (get_or bs (length_place k bs 2) 0) l) (drop-drop 1 (length_place k bs 2) bs)
        ∙ ap (λ j. part bs (length_place j bs 2 + 1) (get_or bs (length_place j bs 2) 0)) z

    next : take (length rest - (1 + size)) (drop (1 + size) rest) ≡ drop (length_place (k + 1) bs 2) bs
    next =
        let s : length_place k bs 2 + (1 + size) ≡ length_place k bs 2 + 1 + get_or bs (length_place k bs 2) 0 = omega (arith, sized, first) in
        take_all (length rest - (1 + size)) (drop (1 + size) rest) (omega (arith, length-drop (1 + size) rest))
        ∙ ap (λ l. drop (1 + size) l) is
        ∙ drop-drop (1 + size) (length_place k bs 2) bs
        ∙ ap (λ m. drop m bs) (s ∙ sym (place_after k bs 2) ∙ ap (λ m. length_place m bs 2) (sym (add-one k)))

inside : (c : In-loop-mark) → 1 + get_or c.loop-mark.rest.now 0 0 ≤ length c.loop-mark.rest.now
inside c = within c.args.names.now _ c.loop-mark.mark-index c.requires (omega arith) c.loop-mark.rest.now c.loop-mark.invariant.0

pub slice_bounds-rest-count : goal.slice_bounds-rest-count
slice_bounds-rest-count c = count_there house _ _ c.requires

pub slice_bounds-rest-start : goal.slice_bounds-rest-start
slice_bounds-rest-start c = omega (arith, count_there house _ _ c.requires)

pub loop-mark-init : goal.loop-mark-init
loop-mark-init c =
    let bs = c.args.names.now in (
      take_all (length bs - 2) (drop 2 bs) (omega (arith, length-drop 2 bs)) ∙ ap (λ m. drop m bs) (sym (place_here bs 2)),
      λ k h. let o : ⊥ = omega arith in absurd o,
    )

pub bounds-rest-0 : goal.bounds-rest-0
bounds-rest-0 c = omega (arith, inside (goal.at.bounds-rest-0 c).In-loop-mark)

pub slice_bounds-starts_with_memory_dump-end : goal.slice_bounds-starts_with_memory_dump-end
slice_bounds-starts_with_memory_dump-end c =
    omega (arith, inside (goal.at.slice_bounds-starts_with_memory_dump-end c).In-loop-mark, c.from-end.ensures)

pub slice_bounds-rest-count-in-loop-mark : goal.slice_bounds-rest-count-in-loop-mark
slice_bounds-rest-count-in-loop-mark c = omega (arith, inside (goal.at.slice_bounds-rest-count-in-loop-mark c).In-loop-mark, c.from-end.ensures)

pub slice_bounds-rest-start-in-loop-mark : goal.slice_bounds-rest-start-in-loop-mark
slice_bounds-rest-start-in-loop-mark c = omega (arith, inside (goal.at.slice_bounds-rest-start-in-loop-mark c).In-loop-mark, c.from-end.ensures)

pub loop-mark-preserved : goal.loop-mark-preserved
loop-mark-preserved c =
    let bs = c.args.names.now in
    let k = c.loop-mark.mark-index in
    let rest = c.loop-mark.rest.now in
    let i = c.loop-mark.invariant in
    let size = c.from-end.result in
    let mark : c.from.result ≡ dump_mark house bs (k + 1) =
    c.from.ensures
    ∙ bit_is _
    ∙ ap bit (c.starts_with_memory_dump.ensures ∙ ap (λ l. starts_with memory_dump l) (name bs _ k c.requires (omega arith) rest i.0 size c.from-end.ensures))
    ∙ sym (mark_name house bs _ c.requires (k + 1) (omega arith) (omega arith)) in (
      next bs _ k c.requires (omega arith) rest i.0 size c.from-end.ensures,
      below_more _ k (λ j h. get_or-set_other _ k j _ 0 (λ s. let o : ⊥ = omega arith in o) ∙ i.1 j h) (get_or-set_same _ k _ 0 (omega arith) ∙ mark),
    )
