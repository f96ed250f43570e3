-- Visiting a node and rewriting it (docs/FORMAT.md, "Folding", "Inputs", "Questions"; visit, process_fold and process_solve of optimize.rs).
--     process   visits the operands in order, sets the row, and records what the node then folds to
--     visit     once: later visits give the recorded replacement; the fuel is above the node
-- The visiting function is an argument of process, so that only visit recurses.
-- Assumes nothing.
use Rattle.std.specs.Prelude.{ℕ, zero, suc, ◌+◌, Bool, true, false, cond, List, [], ◌∷◌, length, eqb}
use Rattle.std.proofs.Math.Option.{Option, none, some}
use Rattle.btor.specs.Operators.{Reading, compute, less}
use Rattle.rules.specs.Refusal.{Out, done, refuse, ◌>>=◌}
use Rattle.rules.specs.Table.{Kind, Const, Read, Write, Word, Ult, Ext, Ite, Eq, And, Or, Not, State, Next, Input, Bad, Node, node_at, with, fits}
use Rattle.rules.specs.Walk.{St, Mark, fresh, kept, replaced, set_row, set_mark, add_const, set_inputs, add_held, add_tally}
use Rattle.rules.specs.Fold.{Fold, stays, swap, make, const_of, fold_const, fold_words, fold_test, fold_eq, fold_not, fold_ext, fold_and, fold_or}
use Rattle.rules.specs.Memory.{Found, find, fold_found, passed_by}
use Rattle.rules.specs.Questions.{quiet, ask_bit, ask_and, ask_ite}

-- what the call fixes for all of the walk
pub record Ways : Type 0 where
  pub dump : ℕ → Bool
  pub minimise : Bool
  pub reply_count : ℕ
  pub reading : Reading

-- the branch that a condition chooses
pub data Branch : Type 0 where
  left right undecided : Branch

abbrev pub branch : Option ℕ → Branch
branch none = undecided
branch (some x) = cond (eqb x 1) left (cond (eqb x 0) right undecided)

-- ---- "A visit of a node first visits its operands in order and puts what stands for each of them into the node's row."
module _ (vis : St → ℕ → Out (St × ℕ)) where
  unfoldable pub visit1 : St → ℕ → Node → Out (St × ℕ)
  visit1 σ k nd = do
    (σ₁, x) ← vis σ nd.a
    done (set_row σ₁ k (with nd x nd.b nd.c), x)

  unfoldable pub visit2 : St → ℕ → Node → Out (St × (ℕ × ℕ))
  visit2 σ k nd = do
    (σ₁, x) ← vis σ nd.a
    (σ₂, y) ← vis σ₁ nd.b
    done (set_row σ₂ k (with nd x y nd.c), (x, y))

  unfoldable pub visit3 : St → ℕ → Node → Out (St × (ℕ × ℕ × ℕ))
  visit3 σ k nd = do
    (σ₁, x) ← vis σ nd.a
    (σ₂, y) ← vis σ₁ nd.b
    (σ₃, z) ← vis σ₂ nd.c
    done (set_row σ₃ k (with nd x y z), (x, y, z))

module _ (t : List Node) (ways : Ways) where
  -- "then constants in the order in which they are made"
  abbrev pub new_number : St → ℕ
  new_number σ = length t + 2 + σ.made

  -- record what node k folds to; the answer is what stands for it from then on
  unfoldable pub settle : ℕ → St → Fold → Out (St × ℕ)
  settle k σ stays = done (set_mark σ k kept, k)
  settle k σ (swap r) = done (set_mark σ k (replaced r), r)
  settle k σ (make s x) = done (set_mark (add_const σ (new_number σ) s x) k (replaced (new_number σ)), new_number σ)

  -- "Under minimise these nodes ask, .. once their operands are visited and if they did not fold"
  unfoldable pub finish_stay : Bool → ℕ → St → (St → Out (St × Fold)) → Out (St × ℕ)
  finish_stay true k σ more = more σ >>= λ p. settle k p.0 p.1
  finish_stay false k σ more = settle k σ stays

  unfoldable pub finish : ℕ → St → Fold → (St → Out (St × Fold)) → Out (St × ℕ)
  finish k σ stays more = finish_stay ways.minimise k σ more
  finish k σ (swap r) more = settle k σ (swap r)
  finish k σ (make s x) more = settle k σ (make s x)

  -- a Read of the memory m, whose address is a constant or none
  unfoldable pub forward : ℕ → St → ℕ → Option ℕ → Out (St × ℕ)
  forward k σ m none = settle k σ stays
  forward k σ m (some x) =
      let r : Found = find ways.reading (length t) σ.rows x m in
      settle k (add_tally σ r.looked (passed_by r.value r.unsettled)) (fold_found r.value)

  -- a State without init "takes the first input left and is replaced by a constant made for it"; not where "no input is left, or its name begins with `memory-dump`"
  -- 8: "a memory State would take an input"; 10: "an input is too wide for its state"
  unfoldable pub take_input : St → ℕ → Node → List ℕ → Out (St × ℕ)
  take_input σ k nd [] = settle k σ stays
  take_input σ k nd (x ∷ xs) =
      elim (ways.dump nd.name) [
        | true ↦ settle k σ stays
        | false ↦ elim (eqb nd.sort 3) [
          | true ↦ refuse 8 1 k
          | false ↦ elim (fits nd.sort x) [
            | false ↦ refuse 10 1 k
            | true ↦ settle k (add_held (set_inputs σ xs) k (new_number σ)) (make nd.sort x)
          ]
        ]
      ]

  module _ (vis : St → ℕ → Out (St × ℕ)) where
    unfoldable pub unary : St → ℕ → Node → (Option ℕ → Fold) → Out (St × ℕ)
    unary σ k nd fold = do
      (σ₁, x) ← visit1 vis σ k nd
      settle k σ₁ (fold (const_of σ₁.rows x))

    unfoldable pub binary : St → ℕ → Node → (ℕ → ℕ → Option ℕ → Option ℕ → Fold) → (St → Out (St × Fold)) → Out (St × ℕ)
    binary σ k nd fold more = do
      (σ₁, xy) ← visit2 vis σ k nd
      finish k σ₁ (fold xy.0 xy.1 (const_of σ₁.rows xy.0) (const_of σ₁.rows xy.1)) more

    -- "An Ite visits its condition first. If that is a constant, only the chosen branch is visited, and what stands for it replaces the Ite"
    unfoldable pub ite_on : St → ℕ → Node → ℕ → Branch → Out (St × ℕ)
    ite_on σ k nd x left = do
      (σ₁, y) ← vis σ nd.b
      settle k (set_row σ₁ k (with nd x y nd.c)) (swap y)
    ite_on σ k nd x right = do
      (σ₁, z) ← vis σ nd.c
      settle k (set_row σ₁ k (with nd x nd.b z)) (swap z)
    ite_on σ k nd x undecided = do
      (σ₁, y) ← vis σ nd.b
      (σ₂, z) ← vis σ₁ nd.c
      finish k (set_row σ₂ k (with nd x y z)) stays (ask_ite ways.reply_count (length t) nd.sort k x y z)

    -- a Next "visits its state, then its next value": what stands for a kept Next's state is that State itself (KeptState)
    -- a State "with an init: stays, and its row has what stands for the init"
    unfoldable pub process : Kind → St → ℕ → Node → Out (St × ℕ)
    process Const σ k nd = settle k σ (fold_const (length t) nd.sort nd.a)
    process Read σ k nd = do
      (σ₁, xy) ← visit2 vis σ k nd
      forward k σ₁ xy.0 (const_of σ₁.rows xy.1)
    process Write σ k nd = do
      (σ₁, xyz) ← visit3 vis σ k nd
      settle k σ₁ stays
    process (Word op) σ k nd = binary σ k nd (λ x y. fold_words nd.sort (compute ways.reading op)) quiet
    process Ult σ k nd = binary σ k nd (λ x y. fold_test (length t) less) (ask_bit ways.reply_count (length t) k quiet)
    process Ext σ k nd = unary σ k nd (fold_ext nd.sort)
    process Ite σ k nd = do
      (σ₁, x) ← vis σ nd.a
      ite_on σ₁ k nd x (branch (const_of σ₁.rows x))
    process Eq σ k nd = binary σ k nd (fold_eq (length t)) (ask_bit ways.reply_count (length t) k quiet)
    process And σ k nd = binary σ k nd (fold_and nd.sort) (ask_and ways.reply_count (length t) nd.sort k)
    process Or σ k nd = binary σ k nd (fold_or nd.sort) quiet
    process Not σ k nd = unary σ k nd (fold_not (length t) nd.sort)
    process State σ k nd = elim (eqb nd.b 1) [ true ↦ unary σ k nd (λ x. stays) | false ↦ take_input σ k nd σ.inputs ]
    process Next σ k nd = do
      (σ₁, state) ← vis σ nd.a
      (σ₂, y) ← vis σ₁ nd.b
      settle k (set_row σ₂ k (with nd nd.a y nd.c)) stays
    process Input σ k nd = settle k σ stays
    process Bad σ k nd = unary σ k nd (λ x. stays)

  -- "A node is visited once; a later visit gives what stands for it: its replacement if it has one, else the node itself."
  abbrev pub visit_marked : (vis : St → ℕ → Out (St × ℕ)) → Mark → St → ℕ → Out (St × ℕ)
  visit_marked vis fresh σ k = process vis (node_at t k).kind σ k (node_at t k)
  visit_marked vis kept σ k = done (σ, k)
  visit_marked vis (replaced r) σ k = done (σ, r)

  unfoldable pub visit : ℕ → St → ℕ → Out (St × ℕ)
  visit zero σ k = done (σ, k)
  visit (suc f) σ k = visit_marked (visit f) (σ.mark k) σ k

  -- a visit from a list
  abbrev pub visit_top : St → ℕ → Out (St × ℕ)
  visit_top σ k = visit (suc k) σ k
