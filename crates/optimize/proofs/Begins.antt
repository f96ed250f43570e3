-- Before the first visit the buffers are laid for the walk: nothing is spent, and every node still has what it may spend.
-- By the rules' invariant of a start whose sequentials are judged.
-- Assumes nothing.
use Prim.Native.Nat.{ℕ, zero, suc, ◌+◌, ◌*◌, ◌≤◌}
use mathlib.Core.Path.{◌≡◌, refl, ap, sym, subst}
use mathlib.Core.Bool.{Bool, true, false}
use mathlib.Core.List.{List, []}
use native.Mathlib.Nat.{mul-le-mul}
use native.Mathlib.Omega.{arith}
use lib.ListN.{length}
use Rattle.btor.specs.Operators.{bit}
use Rattle.rules.specs.Model.{Mode}
use Rattle.rules.specs.Lists.{All}
use Rattle.rules.specs.Table.{Write, Read, Node, node_at, is}
use Rattle.rules.specs.Legal.{AllLegal, Sequential}
use Rattle.rules.specs.Walk.{St, fresh, start}
use Rattle.rules.specs.Whole.{judge_sequentials}
use Rattle.rules.specs.Tally.{writes}
use Rattle.rules.specs.Room.{unpaid}
use Rattle.rules.specs.Visit.{Ways}
use Rattle.rules.specs.Fine.{fee, Fine}
use Rattle.rules.proofs.Budget.{unpaid-all}
use Rattle.rules.proofs.Room.{sum_bound}
use Rattle.rules.proofs.Shape.{start_shape, start-books}
use Rattle.rules.proofs.Walked.{Walked, sequentials_walked}
use Rattle.optimize.specs.Bounds.{count_of, most_looked, most_nodes}
use Rattle.optimize.specs.View.{table_of, firsts, ways_in, mark_of, view}
use Rattle.optimize.specs.ResultView.{untouched}
use Rattle.optimize.specs.Laid.{Laid}
use Rattle.optimize.proofs.Steps.{table-length}

-- ---- what all Reads may look at
bit_one : (b : Bool) → bit b ≤ 1
bit_one true = omega arith
bit_one false = omega arith

bit-most : (b : Bool) (W : ℕ) → bit b * W ≤ W
bit-most true W = omega arith
bit-most false W = omega arith

writes-few : (t : List Node) → writes t ≤ length t
unfolding writes
writes-few t = sum_bound (length t) (λ k. bit (is Write (node_at t k))) (λ i. bit_one (is Write (node_at t i)))

fees : (t : List Node) (c : ℕ) → unpaid (fee t) c (λ k. fresh) ≤ c * writes t
unfolding unpaid
fees t zero = omega arith
fees t (suc c) = omega (arith, fees t c, bit-most (is Read (node_at t c)) (writes t))

all_fees : (t : List Node) → length t ≤ most_nodes → unpaid (fee t) (length t) (λ k. fresh) ≤ most_looked
all_fees t h =
    let few : writes t ≤ most_nodes = omega (arith, writes-few t) in
    let w : length t * writes t ≤ most_nodes * most_nodes = mul-le-mul h few in
    omega (arith, fees t (length t), w)

module _ (g dumps ins reps : List ℕ) (mode : Mode) (reserve : ℕ) (legal : AllLegal (table_of g)) where
  abbrev ways : Ways
  ways = ways_in dumps mode reps

  abbrev begin : St
  begin = start (table_of g) ins reps

  begin-fine : Fine (table_of g) ways ins reps begin
  begin-fine = record { shape = start_shape (table_of g) legal (λ k. fresh) (λ k. refl); books = start-books (table_of g) mode.reading ins reps; used = λ r l u. absurd (omega arith); marked = tt; fair = omega arith; gained = omega arith }

  pub begins-fine : (ss R S : List ℕ) → All (Sequential (table_of g)) ss → view [] g ins reps R S untouched ≡ (judge_sequentials (table_of g) begin ss).0 → Fine (table_of g) ways ins reps (view [] g ins reps R S untouched)
  begins-fine ss R S h e = subst (λ (σ : St). Fine (table_of g) ways ins reps σ) (sym e) ((sequentials_walked (table_of g) ways ins reps legal begin ss refl h).goes begin-fine).fine

  pub begins : (ss R S : List ℕ) → All (Sequential (table_of g)) ss → count_of g ≤ most_nodes → 2 * count_of g + 12 * count_of g + reserve ≤ length S
      → view [] g ins reps R S untouched ≡ (judge_sequentials (table_of g) begin ss).0 → Laid g dumps ins reps mode reserve R S untouched
  unfolding view firsts
  begins ss R S h small asks e =
      let n = table-length g in
      let w : Walked (table_of g) ways ins reps legal 0 begin (view [] g ins reps R S untouched) = subst (λ (σ : St). Walked (table_of g) ways ins reps legal 0 begin σ) (sym e) ((sequentials_walked (table_of g) ways ins reps legal begin ss refl h).goes begin-fine) in
      let few = rw n at w.few in
      let asked = rw n at w.asks in
      record {
        held = [];
        fine = w.fine;
        few = omega (arith, few, unpaid-all 1 (count_of g));
        asks = omega (arith, asked, unpaid-all 3 (count_of g));
        looks = omega (arith, w.looks, ap (λ c. unpaid (fee (table_of g)) c (mark_of (count_of g) S)) n, all_fees (table_of g) (omega (arith, n)));
      }
