-- A buffer cleared from a place on.
-- Assumes nothing.
use Prim.Native.Nat.{ℕ, ◌-◌, ◌≤◌}
use mathlib.Core.Path.{◌≡◌, ap, ap₂, ◌∙◌}
use mathlib.Core.List.{List, ◌++◌, append-nil}
use native.Mathlib.Omega.{arith}
use borrow.Rule.Slice.PartMut.{mid_of, put_mid}
use lib.ListN.{length, take, drop, replicate, length-drop, drop_of_length-le}
use lib.Seq.{length-take-le}

pub cleared : (d part : List ℕ) (from : ℕ) → from ≤ length d → part ≡ replicate (length (mid_of from (length d - from) d)) 0
    → put_mid from (length d - from) d part ≡ take from d ++ replicate (length d - from) 0
cleared d part from h e =
    let k : ℕ = length d - from in
    ap₂ (λ x y. take from d ++ (x ++ y))
    (e ∙ ap (λ i. replicate i 0) (length-take-le k (drop from d) (omega (arith, length-drop from d))))
    (drop_of_length-le (drop from d) {i = k} (omega (arith, length-drop from d)))
    ∙ ap (λ x. take from d ++ x) (append-nil (replicate k 0))
