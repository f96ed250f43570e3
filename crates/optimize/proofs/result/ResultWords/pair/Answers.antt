-- `pair` is two stores.
-- Assumes nothing.
use Prim.Native.Nat.{◌+◌}
use mathlib.Core.Path.{refl, ◌∙◌}
use mathlib.Core.List.{[], ◌∷◌}
use native.Mathlib.Numerals.{add-one}
use native.Mathlib.Omega.{arith}
use lib.ListN.{length-set, set}
use Rattle.optimize.proofs.WriteLaws.{writes_by, wrote_stores}
use Rattle.optimize.proofs.result.ResultWords.pair.Goals as goal

pub returns : goal.returns
returns c =
    let u = c.args.self.now in
    let node = c.args.node in
    let by = c.args.by in
    let size = length-set (set u.res.now u.at node) (u.at + 1) by ∙ length-set u.res.now u.at node in
    let put = wrote_stores u.res.now u.at (node ∷ by ∷ []) (omega arith) in
    writes_by u _ _ (omega arith) refl size (rw (add-one u.at) put)
