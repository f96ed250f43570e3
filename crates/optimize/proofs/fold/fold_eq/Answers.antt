-- `fold_eq` is true at one node; else it compares two constants.
-- Assumes nothing.
use mathlib.Core.Path.{◌∙◌}
use borrow.Author.Tests.{eq-eqb, ne_eqb}
use Rattle.std.proofs.Common.{rules}
use Rattle.btor.specs.Operators.{same}
use Rattle.rules.specs.Fold.{shared}
use Rattle.optimize.specs.View.{constant_is}
use Rattle.optimize.proofs.FoldLaws.{test_by}
use Rattle.optimize.proofs.fold.fold_eq.Goals as goal

pub returns-then-x-y : goal.returns-then-x-y
returns-then-x-y c = λ n. rw (eq-eqb _ _ c.if-x-y.true)

pub returns : goal.returns
returns c =
    λ n. rw (ne_eqb _ _ c.if-x-y.false) (c.fold_constants.ensures n (λ x y. shared n (same x y)) (λ x y r p. let q = p in search rules) ∙ test_by n same (constant_is c.args.left) (constant_is c.args.right))
