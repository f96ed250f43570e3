-- `mark_memory_dumps` lends those of the cleared marks that names have to `mark_names` where the bytes are accepted, and sets no mark elsewhere.
-- Assumes nothing.
use Prim.Native.Nat.{ℕ, ◌+◌, ◌-◌}
use mathlib.Core.Path.{◌≡◌, sym, ap, ◌∙◌}
use native.Mathlib.Omega.{arith}
use borrow.Author.Rules.{rules}
use lib.ListN.{length, get_or, drop, replicate}
use lib.Seq.{get_or-drop}
use Rattle.rules.specs.Refusal.{done}
use Rattle.rules.specs.Limits.{Limits, house}
use Rattle.tables.specs.NameAnswers.{count_of, names_count}
use Rattle.tables.proofs.ListLaws.{replicated}
use Rattle.tables.proofs.NameLaws.{count_limit, marked, marks-refused}
use Rattle.tables.proofs.names.mark_memory_dumps.Goals as goal
use Rattle.tables.proofs.names.mark_memory_dumps.Goals.{In-Ok}

-- so many names were counted
names-counted : (c : In-Ok) → names_count house c.args.names.now ≡ done c.in-Ok.count
names-counted c = ap (λ (l : Limits). names_count l c.args.names.now) (sym c.house.ensures) ∙ sym c.cut_names.ensures ∙ ap count_of c.in-Ok.is

-- what follows the marks of the names is still clear
clear : (n i j k : ℕ) → ◌≡◌ {A = ℕ} (get_or (drop j (drop i (replicate n 0))) k 0) 0
clear n i j k = get_or-drop j (drop i (replicate n 0)) k 0 ∙ get_or-drop i (replicate n 0) (j + k) 0 ∙ replicated 0 n (i + (j + k))

pub overflow_add-count : goal.overflow_add-count
overflow_add-count c = omega (arith, count_limit house _ _ (names-counted (goal.at.overflow_add-count c).In-Ok))

pub slice_bounds-mark_names-end : goal.slice_bounds-mark_names-end
slice_bounds-mark_names-end c = omega (arith, count_limit house _ _ (names-counted (goal.at.slice_bounds-mark_names-end c).In-Ok))

pub returns-in-Ok-clause-by_index : goal.returns-in-Ok-clause-by_index
returns-in-Ok-clause-by_index c =
    let counted = names-counted (goal.at.returns-in-Ok-clause-by_index c).In-Ok in
    let few = count_limit house _ _ counted in
    let size : length c.mark_names.new.marks ≡ c.in-Ok.count = search rules in
    marked house c.args.names.now c.in-Ok.count counted c.mark_names.new.marks _ size (λ k h. c.mark_names.ensures k (search rules))
    (λ k. clear 4097 1 (c.in-Ok.count + 1 - 1) k)

pub returns-in_default-clause-by_index : goal.returns-in_default-clause-by_index
returns-in_default-clause-by_index c =
    λ k. replicated 0 4097 k ∙ sym (marks-refused house c.args.names.now _ (ap (λ (l : Limits). names_count l c.args.names.now) (sym c.house.ensures) ∙ sym c.cut_names.ensures ∙ ap count_of c.in_default.is) k)
