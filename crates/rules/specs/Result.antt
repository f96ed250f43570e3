-- The result of an accepted call, as words (docs/FORMAT.md, "Result").
--     result_words   the nine result sections, each after its count
-- Assumes nothing.
use Rattle.std.specs.Prelude.{ℕ, zero, suc, ◌+◌, ◌-◌, List, [], ◌∷◌, ◌++◌, length}
use Rattle.rules.specs.Lists.{sum}
use Rattle.rules.specs.Table.{Node, kind_code}
use Rattle.rules.specs.Model.{Model}
use Rattle.rules.specs.Walk.{St, Mark, fresh, kept, replaced, Question}
use Rattle.rules.specs.Whole.{Folded}

abbrev pub node_words : Node → List ℕ
node_words nd = kind_code nd.kind ∷ nd.sort ∷ nd.a ∷ nd.b ∷ nd.c ∷ nd.name ∷ []

-- "constants: sort, number"
abbrev pub const_words : Node → List ℕ
const_words nd = nd.sort ∷ nd.a ∷ []

-- "replacements: node, what stands for it now, by rising node"
abbrev pub mark_words : ℕ → Mark → List ℕ
mark_words k fresh = []
mark_words k kept = []
mark_words k (replaced r) = k ∷ r ∷ []

abbrev pub is_replaced : Mark → ℕ
is_replaced fresh = 0
is_replaced kept = 0
is_replaced (replaced r) = 1

-- f k, f (k + 1) and so on, c of them
unfoldable pub gather : ℕ → ℕ → (ℕ → List ℕ) → List ℕ
gather zero k f = []
gather (suc c) k f = f k ++ gather c (suc k) f

-- "questions in the order in which they were put: kind, first, second, reply"
unfoldable pub question_words : List Question → List ℕ
question_words [] = []
question_words (q ∷ qs) = q.kind ∷ q.first ∷ q.second ∷ q.reply ∷ question_words qs

-- a section after its count
abbrev pub listed : List ℕ → List ℕ
listed xs = length xs ∷ xs

-- "the tally, five figures": inputs taken, replies taken, writes looked at, unsettled writes passed, the verdict
abbrev pub tally_of : Model → Folded → List ℕ
tally_of m f =
    (length m.inputs - length f.state.inputs) ∷ (length m.replies - length f.state.replies) ∷ f.state.looked ∷ f.state.passed ∷ f.verdict ∷ []

-- "nine sections in result, each after its count": nodes, constants, replacements, three kept lists, inputs left, questions, the tally
unfoldable pub result_words : Model → Folded → List (List ℕ)
result_words m f =
    let n : ℕ = length m.table in
    let σ : St = f.state in
    (n ∷ gather n 0 (λ k. node_words (σ.rows k)))
    ∷ ((2 + σ.made) ∷ gather (2 + σ.made) n (λ k. const_words (σ.rows k)))
    ∷ (sum n (λ k. is_replaced (σ.mark k)) ∷ gather n 0 (λ k. mark_words k (σ.mark k)))
    ∷ listed f.sequentials
    ∷ listed f.initial
    ∷ listed f.later
    ∷ listed σ.inputs
    ∷ (length σ.asked ∷ question_words σ.asked)
    ∷ listed (tally_of m f)
    ∷ []

-- all the words of some sections
unfoldable pub size : List (List ℕ) → ℕ
size [] = 0
size (w ∷ ws) = length w + size ws
