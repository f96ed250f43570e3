-- `skip_names` goes from length byte to length byte, each at most 256 places further.
-- Assumes nothing.
use Prim.Native.Nat.{◌+◌, ◌^◌, ◌<◌}
use mathlib.Core.Path.{◌∙◌}
use native.Mathlib.Omega.{arith}
use lib.ListN.{get_or}
use Rattle.std.proofs.Common.{rules}
use Rattle.std.proofs.lemmas.Iterator.{YieldsList-from_range}
use Rattle.std.proofs.lemmas.Iterator.Adapters.{serves_from_total}
use Rattle.std.proofs.lemmas.Iterator.Consumers.{fold_from_yields_List}
use Rattle.tables.proofs.NameLaws.{places_summed, places_folded}
use Rattle.tables.proofs.names.skip_names.Goals as goal

pub fold-requires-clause-callable : goal.fold-requires-clause-callable
fold-requires-clause-callable c =
    serves_from_total (YieldsList-from_range 0 c.args.skipped c.args.skipped (cc) (omega arith)) (λ _. 256) (λ n x q k. search rules) (λ n x h. let room : n + 256 < 2 ^ 64 = omega (arith, h, places_summed c.args.skipped 0 0) in search rules)

pub returns : goal.returns
returns c =
    fold_from_yields_List _ (λ at _. at + 1 + get_or c.args.names.now at 0) 2 c.fold.result c.fold.ensures.ran
    (YieldsList-from_range 0 c.args.skipped c.args.skipped (cc) (omega arith)) (λ a x b q k. search rules)
    ∙ places_folded c.args.names.now c.args.skipped 0 2
