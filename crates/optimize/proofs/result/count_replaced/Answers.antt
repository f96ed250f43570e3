-- `count_replaced` is the sum over the marks.
-- Assumes nothing.
use lib.ListN.{take, drop}
use mathlib.Core.Path.{◌∙◌}
use Rattle.std.proofs.Common.{rules}
use Rattle.std.proofs.lemmas.Iterator.{YieldsList-from_slice, YieldsList-from_zip}
use Rattle.std.proofs.lemmas.Iterator.Consumers.{YieldsList-from_filter, count_from_yields_List}
use Rattle.optimize.specs.ResultView.{replaces}
use Rattle.optimize.proofs.WriteLaws.{marks-counted}
use Rattle.optimize.proofs.result.count_replaced.Goals as goal

pub returns : goal.returns
returns c =
    count_from_yields_List c.filter.result _ c.count.ensures.ran
    (YieldsList-from_filter _ (λ p. replaces p.0 p.1) (YieldsList-from_zip {xs = take c.args.n c.args.scratch.now} {ys = drop c.args.n c.args.scratch.now} (YieldsList-from_slice _ cc) (YieldsList-from_slice _ cc)) c.filter.ensures.closure (λ x b q k. search rules))
    ∙ marks-counted c.args.n c.args.scratch.now c.requires
