-- Laws of the widths: what fits a sort, and And and Or with its ones.
-- Assumes nothing.
use Prim.Native.Nat.{ℕ, ◌%◌, ◌<◌, ◌^◌}
use mathlib.Core.Path.{◌≡◌, refl, ◌∙◌}
use native.Mathlib.Nat.{mod-eq_of_lt}
use native.Mathlib.Omega.{arith}
use lib.Bits.{bit_and, bit_or, and_mask, or_add_and}
use lib.Pow.{pow_mono, ones_sub-lt}
use Rattle.btor.specs.Operators.{complement}
use Rattle.btor.specs.Sorts.{width, ones}
use Rattle.btor.proofs.Sorts.{code-width_le}

pub complement-fits : (w x : ℕ) → complement w x < 2 ^ w
unfolding complement
complement-fits w x = ones_sub-lt w (x % 2 ^ w)

-- what fits a sort fits a word
pub fits_word : (c x : ℕ) → x < 2 ^ width c → x < 2 ^ 64
fits_word c x h = omega (arith, h, pow_mono (code-width_le c))

pub width-bit : width 1 ≡ 1
unfolding width
width-bit = refl

pub width_word : width 2 ≡ 64
unfolding width
width_word = refl

-- And and Or with all ones of a sort
pub and-ones : (s z : ℕ) → z < 2 ^ width s → bit_and z (ones s) ≡ z
unfolding ones
and-ones s z h = and_mask z (width s) ∙ mod-eq_of_lt h

pub or-ones : (s z : ℕ) → z < 2 ^ width s → bit_or z (ones s) ≡ ones s
or-ones s z h = omega (arith, or_add_and z (ones s), and-ones s z h)
