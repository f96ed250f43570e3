-- Questions to the solver and the replies that they take (docs/FORMAT.md, "Questions"; the four questions of SMTSolver).
--     ask        put a question: its reply is the first one left
--     ask_bit, ask_and, ask_ite    what minimise asks about an unfolded node
-- Assumes nothing.
use Rattle.std.specs.Prelude.{ℕ, ◌-◌, true, false, cond, List, [], ◌∷◌, length, leb, eqb}
use Rattle.rules.specs.Refusal.{Out, done, refuse, ◌>>=◌}
use Rattle.rules.specs.Walk.{St, Question, add_asked}
use Rattle.rules.specs.Fold.{Fold, stays, swap, shared}

-- 1 always true, 2 always false, 3 always equal, 4 satisfiable, 5 all always false
abbrev pub always_true : ℕ
always_true = 1

abbrev pub always_false : ℕ
always_false = 2

abbrev pub equal : ℕ
equal = 3

abbrev pub satisfiable : ℕ
satisfiable = 4

abbrev pub several : ℕ
several = 5

-- "when none is left its reply is 0"
abbrev pub first_reply : List ℕ → ℕ
first_reply [] = 0
first_reply (r ∷ rs) = r

abbrev pub other_replies : List ℕ → List ℕ
other_replies [] = []
other_replies (r ∷ rs) = rs

-- "0 no, or a timeout; 1 yes, or unsatisfiable; 2 satisfiable, which question 4 alone can have": the greatest that a question can have
abbrev pub most : ℕ → ℕ
most q = cond (eqb q satisfiable) 2 1

abbrev pub question : ℕ → ℕ → ℕ → List ℕ → ℕ → Question
question q x y bs r = record { kind = q; first = x; second = y; reply = r; bads = bs }

-- what goes on where nothing is asked
abbrev pub quiet : St → Out (St × Fold)
quiet σ = done (σ, stays)

module _ (reply_count : ℕ) where
  -- refusal 11, "a reply that its question cannot have", names the reply; "A reply that no question takes is not looked at."
  unfoldable pub ask : St → ℕ → ℕ → ℕ → List ℕ → Out (St × ℕ)
  ask σ q x y bs =
      elim (leb (first_reply σ.replies) (most q)) [
        | true ↦ done (add_asked σ (other_replies σ.replies) (question q x y bs (first_reply σ.replies)), first_reply σ.replies)
        | false ↦ refuse 11 6 (reply_count - length σ.replies)
      ]

  -- "The first 1 ends a node's asking."
  unfoldable pub ask_or : ℕ → ℕ → ℕ → Fold → (St → Out (St × Fold)) → St → Out (St × Fold)
  ask_or q x y f more σ = do
    (σ', r) ← ask σ q x y []
    elim (eqb r 1) [ true ↦ done (σ', f) | false ↦ more σ' ]

  -- "1, then 2": "the shared true, the shared false"
  abbrev pub ask_bit : ℕ → ℕ → (St → Out (St × Fold)) → St → Out (St × Fold)
  ask_bit n k more = ask_or always_true k 0 (shared n true) (ask_or always_false k 0 (shared n false) more)

  -- "And of sort 1"
  abbrev pub ask_and : ℕ → ℕ → ℕ → St → Out (St × Fold)
  ask_and n s k = cond (eqb s 1) (ask_bit n k quiet) quiet

  -- of sort 1: "1, then 2, then 3 about its condition"; of sort 2: "3 about its first branch, then 3 about its second"
  abbrev pub ask_ite : ℕ → ℕ → ℕ → ℕ → ℕ → ℕ → St → Out (St × Fold)
  ask_ite n s k x y z =
      cond (eqb s 1) (ask_bit n k (ask_or equal k x (swap x) quiet))
      (cond (eqb s 2) (ask_or equal k y (swap y) (ask_or equal k z (swap z) quiet))
      quiet)
