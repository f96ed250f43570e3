-- `section` is one store and a copy behind it.
-- Assumes nothing.
use mathlib.Core.Path.{refl}
use native.Mathlib.Omega.{arith}
use lib.ListN.{length}
use Rattle.std.proofs.lemmas.Slice.{put_mid-paste}
use Rattle.optimize.proofs.WriteLaws.{writes_by, wrote_section, section-size}
use Rattle.optimize.proofs.result.ResultWords.section.Goals as goal

pub returns : goal.returns
returns c =
    let u = c.args.self.now in
    let pasted = put_mid-paste _ _ _ _ c.args.words.now (length c.args.words.now) c.copy_from_slice.ensures.after (omega arith) refl in
    writes_by u _ _ (omega arith) refl (section-size u.res.now _ u.at c.args.count c.args.words.now (omega arith) pasted)
    (wrote_section u.res.now _ u.at c.args.count c.args.words.now (omega arith) pasted)
