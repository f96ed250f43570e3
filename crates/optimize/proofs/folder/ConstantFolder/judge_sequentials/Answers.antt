-- The sequentials before the index are judged; what the rules make of the list is what they make of the rest, after those kept.
-- Assumes nothing.
use Prim.Native.Nat.{◌+◌}
use mathlib.Core.Path.{refl, ap, ◌∙◌}
use native.Mathlib.Omega.{arith}
use native.Mathlib.Numerals.{add-one}
use lib.ListN.{take, drop, drop_of_length-le}
use lib.Seq.{drop-cons}
use Rattle.rules.specs.Legal.{Sequential}
use Rattle.rules.specs.Whole.{judge_sequentials}
use Rattle.optimize.specs.View.{table_of}
use Rattle.optimize.specs.Folder.{given_in, seen}
use Rattle.optimize.specs.Lists.{joined}
use Rattle.optimize.proofs.Entries.{all-at, judged-all, judged-on, sequential-on}
use Rattle.optimize.proofs.Keeps.{keeps_none, keeps_then}
use Rattle.optimize.proofs.BadLaws.{entry-kept, entry-none}
use Rattle.optimize.proofs.folder.ConstantFolder.judge_sequentials.Goals as goal
use Rattle.optimize.proofs.folder.ConstantFolder.judge_sequentials.Goals.{then-stays, else-stays}

pub loop-sequential-init : goal.loop-sequential-init
loop-sequential-init c = record { few = omega arith; keeps = keeps_none _; walk = refl; judged = λ h. refl }

pub judge_sequential-stays-requires : goal.judge_sequential-stays-requires
judge_sequential-stays-requires c =
    let f = c.args.self.now in
    let i = c.loop-sequential.invariant in
    sequential-on f c.loop-sequential.self i.keeps.call _ (all-at (Sequential (table_of (given_in f))) c.args.sequentials.now c.requires.listed c.loop-sequential.sequential-index (omega arith))

pub loop-sequential-preserved : goal.loop-sequential-preserved
loop-sequential-preserved c =
    let f = c.args.self.now in
    let i = c.loop-sequential.invariant in
    let q = c.judge_sequential-stays in
    record {
      few = elim c.if-stays.branch [ then-stays w ↦ omega (arith, w.count-is, i.few) | else-stays w ↦ omega (arith, w.count-is, i.few) ];
      keeps = keeps_then _ _ _ i.keeps q.ensures.keeps;
      walk = q.ensures.walk ∙ i.walk;
      judged = λ h. i.judged h
          ∙ ap (λ z. joined (take c.loop-sequential.count c.loop-sequential.kept) (judge_sequentials (table_of (given_in f)) (seen h c.loop-sequential.self) z)) (drop-cons c.args.sequentials.now c.loop-sequential.sequential-index 0 (omega arith) ∙ rw add-one)
          ∙ judged-on f c.loop-sequential.self i.keeps.call q.new.self h _ _ _ _ _ (q.ensures.judges_next h (drop (c.loop-sequential.sequential-index + 1) c.args.sequentials.now))
          (elim c.if-stays.branch [
            | then-stays w ↦ entry-kept c.loop-sequential.kept c.if-stays.kept c.loop-sequential.count c.if-stays.count _ _ q.result w.if-stays.true (omega (arith, i.few, c.requires.room)) refl w.kept-is w.count-is
            | else-stays w ↦ entry-none c.loop-sequential.kept c.if-stays.kept c.loop-sequential.count c.if-stays.count _ q.result w.if-stays.false w.kept-is w.count-is
          ]);
    }

pub returns-clause-judges_nexts : goal.returns-clause-judges_nexts
returns-clause-judges_nexts c =
    λ h. c.loop-sequential.invariant.judged h ∙ judged-all _ _ _ _ (drop_of_length-le c.args.sequentials.now {i = c.loop-sequential.sequential-index} (omega arith))
