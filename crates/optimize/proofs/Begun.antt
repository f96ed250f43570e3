-- What stands once the sequentials are judged and once the kept ones are visited: the buffers are laid, and questions are left over for the bads.
-- By the rules' invariant of each.
-- Assumes nothing.
use Prim.Native.Nat.{ℕ, zero, suc, ◌+◌, ◌*◌, ◌<◌, ◌≤◌}
use mathlib.Core.Path.{◌≡◌, refl, sym, ap, subst}
use mathlib.Core.List.{List, []}
use native.Mathlib.Omega.{arith}
use lib.ListN.{length}
use Rattle.rules.specs.Model.{Mode}
use Rattle.rules.specs.Lists.{All}
use Rattle.rules.specs.Refusal.{done}
use Rattle.rules.specs.Legal.{AllLegal, Sequential}
use Rattle.rules.specs.Walk.{St, Mark, fresh, kept, replaced, Held, start}
use Rattle.rules.specs.Whole.{judge_sequentials, visit_all}
use Rattle.rules.specs.Room.{due, unpaid}
use Rattle.rules.specs.Visit.{Ways}
use Rattle.rules.proofs.Base.{If}
use Rattle.rules.proofs.Walked.{Walked, Goes, sequentials_walked, all_walked}
use Rattle.optimize.specs.declared.walk.Walk.{Walk}
use Rattle.optimize.specs.Bounds.{count_of, most_nodes}
use Rattle.optimize.specs.View.{table_of, ways_in, mark_of, question_of, view}
use Rattle.optimize.specs.ResultView.{untouched}
use Rattle.optimize.specs.Laid.{Laid}
use Rattle.optimize.proofs.Views.{firsts-length}
use Rattle.optimize.proofs.Steps.{table-length}
use Rattle.optimize.proofs.Begins.{begins, begins-fine}

due-most : (p : ℕ) (m : Mark) → due p m ≤ p
due-most p fresh = omega arith
due-most p kept = omega arith
due-most p (replaced r) = omega arith

unpaid-most : (p c : ℕ) (f : ℕ → Mark) → unpaid (λ k. p) c f ≤ c * p
unfolding unpaid
unpaid-most p zero f = omega arith
unpaid-most p (suc c) f = omega (arith, due-most p (f c), unpaid-most p c f)

-- what stands once the sequentials are judged, those kept in the list: the visits of these may begin, and spend no more questions than the nodes have
pub record Laying (g dumps ins reps R S list : List ℕ) (mode : Mode) : Type 0 where
  pub laid : Laid g dumps ins reps mode 0 R S untouched
  pub entries : All (λ k. k < count_of g) list
  pub spare : (Q T : List ℕ) (w : Walk) (h : List Held) → visit_all (table_of g) (ways_in dumps mode reps) (view [] g ins reps R S untouched) list ≡ done (view h g ins reps Q T w)
      → w.asked + unpaid (λ k. 3) (count_of g) (mark_of (count_of g) T) ≤ 3 * count_of g

module _ (g dumps ins reps ss R S list : List ℕ) (mode : Mode) (legal : AllLegal (table_of g)) (listed : All (Sequential (table_of g)) ss)
    (small : count_of g ≤ most_nodes) (enough : 14 * count_of g ≤ length S)
    (e : judge_sequentials (table_of g) (start (table_of g) ins reps) ss ≡ (view [] g ins reps R S untouched, list)) where
  abbrev ways : Ways
  ways = ways_in dumps mode reps

  front : view [] g ins reps R S untouched ≡ (judge_sequentials (table_of g) (start (table_of g) ins reps) ss).0
  front = sym (ap (λ (r : St × List ℕ). r.0) e)

  pub laid-begun : Laid g dumps ins reps mode 0 R S untouched
  laid-begun = begins g dumps ins reps mode 0 legal ss R S listed small (omega arith) front

  pub entries-begun : All (λ k. k < count_of g) list
  entries-begun =
      subst (λ (c : ℕ). All (λ k. k < c) list) (table-length g)
      (subst (All (λ k. k < length (table_of g))) (ap (λ (r : St × List ℕ). r.1) e) (sequentials_walked (table_of g) ways ins reps legal (start (table_of g) ins reps) ss refl listed).kept)

  spare-begun : (Q T : List ℕ) (w : Walk) (h : List Held) → visit_all (table_of g) ways (view [] g ins reps R S untouched) list ≡ done (view h g ins reps Q T w)
      → w.asked + unpaid (λ k. 3) (count_of g) (mark_of (count_of g) T) ≤ 3 * count_of g
  unfolding view
  spare-begun Q T w h d =
      let σ : St = view [] g ins reps R S untouched in
      let inside : All (λ k. k < length (table_of g)) list = subst (λ (c : ℕ). All (λ k. k < c) list) (sym (table-length g)) entries-begun in
      let x : Walked (table_of g) ways ins reps legal 0 σ (view h g ins reps Q T w) = subst (If (Goes (table_of g) ways ins reps legal 0 σ)) d (all_walked (table_of g) ways ins reps legal σ list inside) (begins-fine g dumps ins reps mode 0 legal ss R S listed front) in
      let y = rw (table-length g) at x.asks in
      omega (arith, y, firsts-length w.asked (question_of (count_of g) T), firsts-length 0 (question_of (count_of g) S), unpaid-most 3 (count_of g) (mark_of (count_of g) S))

  pub laying-begun : Laying g dumps ins reps R S list mode
  laying-begun = record { laid = laid-begun; entries = entries-begun; spare = spare-begun }
