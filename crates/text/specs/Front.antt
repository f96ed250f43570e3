-- What a lent array holds once something was put at its front: the rest is as it was, and so is all of it after a refusal.
-- Assumes nothing.
use Rattle.std.specs.Prelude.{ℕ, List, ◌++◌, length, drop}
use Rattle.rules.specs.Refusal.{Out, refused, done}

abbrev pub on_front : Out (List ℕ) → List ℕ → List ℕ
on_front (done xs) ws = xs ++ drop (length xs) ws
on_front (refused r) ws = ws
