-- A test of each of a list, as the library has it.
-- Assumes nothing.
use mathlib.Core.Path.{◌≡◌, refl, ap}
use mathlib.Core.Bool.{Bool, ◌&&◌}
use mathlib.Core.List.{List, [], ◌∷◌}
use Rattle.std.specs.List.{list_all}
use Rattle.rules.specs.Lists.{every}

pub every_is : {A : Type 0} (p : A → Bool) (xs : List A) → list_all p xs ≡ every p xs
every_is p [] = refl
every_is p (x ∷ xs) = ap (λ b. p x && b) (every_is p xs)
