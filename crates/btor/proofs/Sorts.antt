-- Facts about the sorts, each proved once for all ten: by a test that is computed over the list of sorts, or over the width.
-- Assumes nothing.
use Rattle.std.proofs.Common.{◌≡◌, ℕ, ◌+◌, ◌-◌, ◌/◌, ◌^◌, ◌≤◌, Bool, true, false, ◌&&◌, T, leb, List, [], ◌∷◌, sym, refl, ap, ◌∙◌, arith, leb→le, Result, Ok, Err}
use lib.Pow.{ones_split, ones_lt, high}
use Rattle.btor.specs.Sorts.{sorts, code_of, width_of, sort_of, bits_of, width}
use Rattle.btor.specs.declared.node_type.NodeType.{NodeType}
use Rattle.btor.specs.declared.node_type.NodeType.TheVariants.{Bit, Word, Memory, Input1Byte, Input2Byte, Input3Byte, Input4Byte, Input5Byte, Input6Byte, Input7Byte}
use Rattle.btor.specs.declared.node_type.UnknownSort.{UnknownSort}

abbrev pub Each : (NodeType → Type 0) → List NodeType → Type 0
Each P [] = Unit
Each P (s ∷ ss) = P s × Each P ss

abbrev pub each : (NodeType → Bool) → List NodeType → Bool
each p [] = true
each p (s ∷ ss) = p s && each p ss

-- every sort is in the list
pub of-each : (P : NodeType → Type 0) → Each P sorts → (s : NodeType) → P s
of-each P h Bit = h.0
of-each P h Word = h.1.0
of-each P h Memory = h.1.1.0
of-each P h Input1Byte = h.1.1.1.0
of-each P h Input2Byte = h.1.1.1.1.0
of-each P h Input3Byte = h.1.1.1.1.1.0
of-each P h Input4Byte = h.1.1.1.1.1.1.0
of-each P h Input5Byte = h.1.1.1.1.1.1.1.0
of-each P h Input6Byte = h.1.1.1.1.1.1.1.1.0
of-each P h Input7Byte = h.1.1.1.1.1.1.1.1.1.0

pub both_hold : (a b : Bool) → T (a && b) → T a × T b
both_hold true b h = (tt, h)
both_hold false b h = absurd h

tested : (p : NodeType → Bool) (ss : List NodeType) → T (each p ss) → Each (λ s. T (p s)) ss
tested p [] h = tt
tested p (s ∷ ss) h = let q = both_hold (p s) (each p ss) h in (q.0, tested p ss q.1)

-- what a test finds of all ten, holds of each
pub by_test : (p : NodeType → Bool) → T (each p sorts) → (s : NodeType) → T (p s)
by_test p h = of-each (λ s. T (p s)) (tested p sorts h)

pub width_le : (s : NodeType) → width_of s ≤ 64
width_le s = leb→le (width_of s) 64 (by_test (λ s. leb (width_of s) 64) tt s)

-- each sort's code names it
pub code-names : (s : NodeType) → sort_of (code_of s) ≡ Ok s
code-names =
    of-each (λ s. sort_of (code_of s) ≡ Ok s)
    (refl, (refl, (refl, (refl, (refl, (refl, (refl, (refl, (refl, (refl, tt))))))))))

-- a word of ones, shifted down to a width, is the width's ones
pub ones_shifted : (w : ℕ) → w ≤ 64 → (2 ^ 64 - 1) / 2 ^ (64 - w) ≡ 2 ^ w - 1
ones_shifted w h =
    let e : w + (64 - w) ≡ 64 = omega arith in
    ap (λ (k : ℕ). (2 ^ k - 1) / 2 ^ (64 - w)) (sym e)
    ∙ ap (λ (n : ℕ). n / 2 ^ (64 - w)) (ones_split w (64 - w))
    ∙ high (2 ^ w - 1) (64 - w) (ones_lt (64 - w))

bits_le : (c : Result NodeType UnknownSort) → bits_of c ≤ 64
bits_le (Ok s) = width_le s
bits_le (Err e) = omega arith

-- the width of any code, also of one that names no sort
pub code-width_le : (c : ℕ) → width c ≤ 64
unfolding width
code-width_le c = bits_le (sort_of c)

pub width-named : (s : NodeType) → width (code_of s) ≡ width_of s
unfolding width
width-named s = ap bits_of (code-names s)
