-- An Ite of sort 1 is asked about as a bit, then against its condition; one of sort 2 against each branch.
-- Assumes nothing.
use mathlib.Core.Path.{refl, sym, ◌∙◌}
use native.Mathlib.Omega.{arith}
use Rattle.rules.specs.Fold.{stays}
use Rattle.optimize.specs.Call.{ways_of}
use Rattle.optimize.specs.Folder.{given_in, seen}
use Rattle.optimize.proofs.Finishes.{finish-quiet, ite-bit, ite-word, ite-other}
use Rattle.optimize.proofs.folder.ConstantFolder.after_ite.Goals as goal

pub returns-then-not-self-clause-settles : goal.returns-then-not-self-clause-settles
returns-then-not-self-clause-settles c =
    let f = c.args.self.now in
    λ h. c.settle.ensures.settles h ∙ finish-quiet (given_in f) (ways_of f.call) c.args.node (seen h f) stays _ refl c.if-not-self.true

pub returns-in-1-clause-settles : goal.returns-in-1-clause-settles
returns-in-1-clause-settles c =
    let f = c.args.self.now in
    λ h. c.solve_ite_bit.ensures.settles h ∙ ite-bit (given_in f) (ways_of f.call) c.args.node (seen h f) c.args.x c.args.y c.args.z c.if-not-self.false (sym c.word.ensures ∙ c.in-1.is)

pub returns-in-2-clause-settles : goal.returns-in-2-clause-settles
returns-in-2-clause-settles c =
    let f = c.args.self.now in
    λ h. c.solve_ite_word.ensures.settles h ∙ ite-word (given_in f) (ways_of f.call) c.args.node (seen h f) c.args.x c.args.y c.args.z c.if-not-self.false (λ e. omega (arith, c.word.ensures, c.in-2.is)) (sym c.word.ensures ∙ c.in-2.is)

pub returns-in_default-clause-settles : goal.returns-in_default-clause-settles
returns-in_default-clause-settles c =
    let f = c.args.self.now in
    λ h. c.settle-in_default.ensures.settles h ∙ ite-other (given_in f) (ways_of f.call) c.args.node (seen h f) c.args.x c.args.y c.args.z c.if-not-self.false (λ e. omega (arith, c.word.ensures)) (λ e. omega (arith, c.word.ensures))
