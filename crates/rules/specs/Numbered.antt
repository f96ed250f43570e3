-- The numbers of refusals: 0 is none of them, so an answer with number 0 is an acceptance; nor is 9 (docs/FORMAT.md, "Refusals").
--     reasons            the numbers, rising; NineWithdrawn   9 is none of them     Numbered   what is said of an outcome
--     RefusalNumbers     of a call's outcome and of a text's     WalkNumbers   of the walk alone
-- Assumes nothing.
use Rattle.std.specs.Prelude.{ℕ, ◌≡◌, ◌≢◌, true, List, [], ◌∷◌}
use Rattle.rules.specs.Lists.{member}
use Rattle.rules.specs.Refusal.{Refusal, Out, refused, done}
use Rattle.rules.specs.Model.{Model, Mode}
use Rattle.rules.specs.Whole.{fold}
use Rattle.rules.specs.Limits.{Limits}
use Rattle.rules.specs.Call.{Entry, Call, outcome}
use Rattle.rules.specs.Text.{text_outcome}

-- "The number 9 is not given."
abbrev pub reasons : List ℕ
reasons = 1 ∷ 2 ∷ 3 ∷ 4 ∷ 5 ∷ 6 ∷ 7 ∷ 8 ∷ 10 ∷ 11 ∷ 12 ∷ 13 ∷ 14 ∷ []

abbrev pub IsReason : ℕ → Type 0
IsReason n = member n reasons ≡ true

unfoldable pub NineWithdrawn : Type 0
NineWithdrawn = (n : ℕ) → IsReason n → n ≢ 9

-- an outcome whose refusal, if it is one, has such a number
abbrev pub Numbered : {A : Type 0} → Out A → Type 0
Numbered (refused r) = IsReason r.reason
Numbered (done x) = Unit

-- "then 8, 10, 11, 13 and 14 as the walk meets them"
abbrev pub walk_reasons : List ℕ
walk_reasons = 8 ∷ 10 ∷ 11 ∷ 13 ∷ 14 ∷ []

unfoldable pub WalkNumbers : Type 0
WalkNumbers = (m : Model) (how : Mode) (r : Refusal) → fold m how ≡ refused r → member r.reason walk_reasons ≡ true

-- whatever is refused, by a call or by the program
unfoldable pub RefusalNumbers : Type 0
RefusalNumbers =
    ((limits : Limits) (entry : Entry) (call : Call) (r : Refusal) → outcome limits entry call ≡ refused r → IsReason r.reason)
    × ((limits : Limits) (bytes : List ℕ) (r : Refusal) → text_outcome limits bytes ≡ refused r → IsReason r.reason)
