-- Laws for the proofs of sections.rt: words left over after the sections, and none.
-- Assumes nothing.
use Prim.Native.Nat.{ℕ, ◌<◌, ◌≤◌}
use mathlib.Core.Path.{◌≡◌, ap}
use mathlib.Core.List.{List}
use lib.ListN.{length, drop, drop_of_length-le}
use lib.Seq.{drop-cons}
use Rattle.rules.specs.Refusal.{done, refuse}
use Rattle.rules.specs.Sections.{none_left}

-- words left over, and none
pub left_over : {A : Type 0} (section : ℕ) (x : A) (ws : List ℕ) (end : ℕ) → end < length ws → none_left section x (drop end ws) ≡ refuse 1 section 0
left_over section x ws end h = ap (none_left section x) (drop-cons ws end 0 h)

pub none_over : {A : Type 0} (section : ℕ) (x : A) (ws : List ℕ) (end : ℕ) → length ws ≤ end → none_left section x (drop end ws) ≡ done x
none_over section x ws end h = ap (none_left section x) (drop_of_length-le ws h)
