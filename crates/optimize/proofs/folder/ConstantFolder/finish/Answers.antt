-- A node that stays is asked about under minimise, if it is asked about as a bit; any other is settled as it is.
-- Assumes nothing.
use mathlib.Core.Path.{ap, ◌∙◌}
use native.Mathlib.Omega.{arith}
use Rattle.std.proofs.lemmas.Grind.{common_steps}
use Rattle.optimize.specs.View.{fold_is}
use Rattle.optimize.specs.Call.{ways_of}
use Rattle.optimize.specs.Folder.{given_in, count_in, seen}
use Rattle.optimize.specs.Process.{bit_of, settle_then}
use Rattle.optimize.proofs.Finishes.{finish-folded, finish-quiet, quiet-stays, finish-asks, bit-asks}
use Rattle.optimize.proofs.folder.ConstantFolder.finish.Goals.{else-eq-via-then-eq+then-self+else-bit, else-eq-via-then-eq+else-self, else-eq-via-else-eq}
use Rattle.optimize.proofs.folder.ConstantFolder.finish.Goals as goal

pub returns-then-bit-clause-settles : goal.returns-then-bit-clause-settles
returns-then-bit-clause-settles c =
    let f = c.args.self.now in
    let g = given_in f in
    let ways = ways_of f.call in
    λ h. c.solve_boolean_binary.ensures.settles h
    ∙ ap (settle_then g ways c.args.node) (bit-asks g ways c.args.node c.args.bit (seen h f) c.if-bit.true)
    ∙ finish-asks g ways c.args.node (seen h f) (fold_is (count_in f) c.args.fold) (bit_of g ways c.args.node c.args.bit) (grind (arith, common_steps)) c.if-self.true

pub returns-clause-settles : goal.returns-clause-settles
returns-clause-settles c =
    let f = c.args.self.now in
    let g = given_in f in
    let ways = ways_of f.call in
    let F = fold_is (count_in f) c.args.fold in
    let asks = bit_of g ways c.args.node c.args.bit in
    λ h. c.settle.ensures.settles h ∙ elim c.else-eq.branch [
      | else-eq-via-then-eq+then-self+else-bit w ↦ quiet-stays g ways c.args.node (seen h f) F c.args.bit w.if-self.true (grind (arith, common_steps)) w.if-bit.false
      | else-eq-via-then-eq+else-self w ↦ finish-quiet g ways c.args.node (seen h f) F asks (grind (arith, common_steps)) w.if-self.false
      | else-eq-via-else-eq w ↦ finish-folded g ways c.args.node (seen h f) F asks (grind (arith, common_steps))
    ]
