-- What a fold may spend, and the room of its result (docs/FORMAT.md, "Limits and room").
--     unpaid     what the nodes not yet visited may still spend: each pays once, when it is visited
--     RoomRule   the result's words never exceed 22n + 5b + s + i + 22
-- Assumes nothing.
use Rattle.std.specs.Prelude.{ℕ, zero, suc, ◌+◌, ◌*◌, ◌≤◌, ◌≡◌, length}
use Rattle.rules.specs.Lists.{sum}
use Rattle.rules.specs.Refusal.{done}
use Rattle.rules.specs.Model.{Model, Mode}
use Rattle.rules.specs.Legal.{WellFormed}
use Rattle.rules.specs.Walk.{Mark, fresh, kept, replaced}
use Rattle.rules.specs.Whole.{Folded, fold}
use Rattle.rules.specs.Result.{is_replaced, result_words, size}
use Rattle.rules.specs.Limits.{need}

abbrev pub due : ℕ → Mark → ℕ
due p fresh = p
due p kept = 0
due p (replaced r) = 0

-- the first c nodes, where node k pays w k
unfoldable pub unpaid : (ℕ → ℕ) → ℕ → (ℕ → Mark) → ℕ
unpaid w zero mark = 0
unpaid w (suc c) mark = due (w c) (mark c) + unpaid w c mark

-- at most n made constants, n replacements, and three questions a node, one a bad entry and one more
pub record Spends (m : Model) (f : Folded) : Type 0 where
  pub made : f.state.made ≤ length m.table
  pub replaced : sum (length m.table) (λ k. is_replaced (f.state.mark k)) ≤ length m.table
  pub asked : length f.state.asked ≤ 3 * length m.table + (length m.initial + length m.later) + 1

unfoldable pub SpendRule : Type 0
SpendRule = (m : Model) (how : Mode) (f : Folded) → WellFormed m → fold m how ≡ done f → Spends m f

unfoldable pub RoomRule : Type 0
RoomRule =
    (m : Model) (how : Mode) (f : Folded) → WellFormed m → fold m how ≡ done f
    → size (result_words m f) ≤ need (length m.table) (length m.sequentials) (length m.initial + length m.later) (length m.inputs)
