-- `replacements` gathers the pairs, node by node, after their count.
-- Assumes nothing.
use Prim.Native.Nat.{ℕ}
use mathlib.Core.Path.{◌≡◌, refl, ap, sym, ◌∙◌}
use mathlib.Core.List.{[], ◌∷◌}
use native.Mathlib.Omega.{arith}
use Rattle.std.proofs.lemmas.Slice.Zip.{either_empty_from_Zip}
use Rattle.std.specs.Iterator.Adapters.{enumerate_count, enumerate_source}
use Rattle.rules.specs.Result.{mark_words}
use Rattle.optimize.specs.View.{mark_is, mark_of}
use Rattle.optimize.proofs.WriteLaws.{writes_first, writes_more, writes_still, writes_then, pair_none, pair_put, pair_turn, pair_end}
use Rattle.optimize.proofs.result.ResultWords.replacements.Goals as goal

pub loop-node-init : goal.loop-node-init
loop-node-init c =
    rw (ap enumerate_count c.into_iter-node-iterator.ensures.into_iter_gives ∙ c.enumerate-node-items.ensures.count) (record {
      below = omega arith;
      marks = cc;
      after = cc;
      room = omega arith;
      writes = writes_first c.section.new.self (λ (k : ℕ). mark_words k (mark_of c.args.n c.args.scratch.now k)) (omega (arith, c.section.ensures.size, c.section.ensures.place, c.requires.1));
    })

pub loop-node-preserved-in-Replaced : goal.loop-node-preserved-in-Replaced
loop-node-preserved-in-Replaced c =
    let n = c.args.n in
    let S = c.args.scratch.now in
    let k = enumerate_count c.loop-node.node-iterator in
    let by = c.in-Replaced.by in
    let inv = c.loop-node.invariant in
    let s = c.in-Some.ensures.steps in
    let t = pair_turn n S c.requires.0 _ _ _ _ _ (sym inv.marks ∙ s.0.0) (sym inv.after ∙ s.0.1) in
    let put = pair_put n S k t.inside by (sym (ap mark_is c.in-Replaced.is) ∙ c.from.ensures ∙ t.mark) in
    rw s.2 (record {
      below = omega (arith, t.inside);
      marks = t.marks;
      after = t.after;
      room = omega (arith, c.pair.ensures.place, inv.room);
      writes = writes_more _ _ _ k (λ (i : ℕ). mark_words i (mark_of n S i)) inv.writes (rw (put ∙ ap (λ i. i ∷ by ∷ []) (sym s.1)) c.pair.ensures);
    })

pub loop-node-preserved : goal.loop-node-preserved
loop-node-preserved c =
    let n = c.args.n in
    let S = c.args.scratch.now in
    let k = enumerate_count c.loop-node.node-iterator in
    let inv = c.loop-node.invariant in
    let s = c.in-Some.ensures.steps in
    let t = pair_turn n S c.requires.0 _ _ _ _ _ (sym inv.marks ∙ s.0.0) (sym inv.after ∙ s.0.1) in
    let none = pair_none n S k t.inside c.from.result (c.from.ensures ∙ t.mark) c.in_default.not-Replaced in
    rw s.2 (record {
      below = omega (arith, t.inside);
      marks = t.marks;
      after = t.after;
      room = omega (arith, inv.room);
      writes = writes_more _ _ _ k (λ (i : ℕ). mark_words i (mark_of n S i)) inv.writes (rw none (writes_still _ (omega (arith, inv.room, inv.writes.size, c.section.ensures.size, c.section.ensures.place, c.requires.1, t.inside))));
    })

pub returns-clause-writes : goal.returns-clause-writes
returns-clause-writes c =
    let inv = c.loop-node.invariant in
    let past = pair_end c.args.n c.args.scratch.now c.requires.0 _ _ _ inv.marks inv.after (either_empty_from_Zip _ (enumerate_source c.next.new.self) _ refl c.in-None.ensures.steps.0) in
    let all : enumerate_count c.loop-node.node-iterator ≡ c.args.n = omega (arith, inv.below, past) in
    rw (c.count_replaced.ensures, all) at (writes_then _ _ _ _ _ c.section.ensures inv.writes)
