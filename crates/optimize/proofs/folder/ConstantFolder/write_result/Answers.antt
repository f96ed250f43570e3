-- `write_result` hands the nine sections back: what its writers put behind one another are the sections' words (ResultLaws), and the rest is cleared.
-- Assumes nothing.
use Prim.Native.Nat.{ℕ, ◌+◌, ◌-◌, ◌*◌}
use mathlib.Core.Path.{◌≡◌, refl, sym, ap}
use native.Mathlib.Omega.{arith}
use lib.ListN.{length, take, drop, length-drop}
use lib.Seq.{take_all}
use Rattle.std.proofs.Common.{rules}
use Rattle.optimize.proofs.EndLaws.{finished, same_fold, handed_same}
use Rattle.optimize.proofs.BufferLaws.{cleared}
use Rattle.optimize.proofs.WriteLaws.{writes_then}
use Rattle.optimize.proofs.ResultLaws.{handed_back}
use Rattle.optimize.proofs.folder.ConstantFolder.write_result.Goals as goal

pub returns : goal.returns
returns c =
    let f = c.args.self in
    let g = f.call.given.now in
    let n = c.node_count-n.result in
    let w = c.within-walk.result in
    let asked : 2 * n + 4 * w.asked - 2 * n ≡ 4 * w.asked = omega arith in
    let left = take_all (length f.call.inputs.now - w.taken) (drop w.taken f.call.inputs.now) (omega (arith, length-drop w.taken f.call.inputs.now)) in
    let rest = writes_then _ _ _ _ _ (rw left at c.list.ensures) (writes_then _ _ _ _ _ c.section.ensures c.tally.ensures) in
    let wrote =
    writes_then _ _ _ _ _ c.counts.ensures.writes (writes_then _ _ _ _ _ c.replacements.ensures.writes (writes_then _ _ _ _ _ c.lists.ensures.writes rest)) in
    let still = sym wrote.same in
    let fine = finished f c.args.kept w c.requires c.within-walk.ensures.others.0 c.within-walk.ensures.others.1 c.within-walk.ensures.taken_in_bounds.0 in
    λ h d m model.
    handed_same m (same_fold h d g f.call.inputs.now f.call.replies.now f.res.now f.scratch.now f.walk w _ _ _ _ (c.within-walk.ensures.state h g f.res.now f.scratch.now))
    (handed_back h d g f.call.inputs.now f.call.replies.now f.res.now f.scratch.now w c.args.kept _ m fine model c.within-walk.ensures.taken_in_bounds.1
    n c.node_count-n.ensures.value _ c.tally.new.self _ _ _ refl refl (ap (λ (i : ℕ). take i (drop (2 * n) f.scratch.now)) asked) wrote (search rules) (λ fits. cleared _ _ _ fits (c.fill.ensures.after (λ y e. e))))
