-- Two calls: a Read forwarded past a Write at an Input, and a Bad dropped by a reply that does not hold.
-- Assumes nothing.
use Prim.Native.Nat.{ℕ, zero, suc}
use mathlib.Core.Path.{◌≡◌, refl, sym, subst}
use mathlib.Core.Bool.{false}
use mathlib.Core.List.{List, [], ◌∷◌, map}
use native.Mathlib.Omega.{arith}
use lib.Dec.{lit<}
use Rattle.btor.specs.Operators.{rust, compute}
use Rattle.btor.specs.Sorts.{width, ones, bit_code, word_code, memory_code}
use Rattle.rules.specs.Lists.{All}
use Rattle.rules.specs.Refusal.{Out, OfDone}
use Rattle.rules.specs.Table.{Const, Read, Write, Eq, State, Input, Bad, Row, decode, node_at}
use Rattle.rules.specs.Model.{model_of}
use Rattle.rules.specs.Check.{check_nodes, check_sequentials, check_bads, check}
use Rattle.rules.specs.Value.{Value, number, memory, value, over, over_in}
use Rattle.rules.specs.Walk.{St, replaced}
use Rattle.rules.specs.Memory.{look_at, find}
use Rattle.rules.specs.Questions.{ask, ask_or}
use Rattle.rules.specs.Visit.{visit1, visit2, visit3, settle, finish_stay, finish, forward, take_input, unary, binary, ite_on, process, visit}
use Rattle.rules.specs.Whole.{Folded, judge_sequentials, visit_all, judge_bads, last_question, fold_bads, fold, run}
use Rattle.rules.specs.Demand.{Assigns, Same, Faithful, Keeps, worth_of}
use Rattle.rules.specs.Cases.{row, mode0}
use Rattle.rules.specs.Needed.{UnsettledNeeded, RepliesNeeded}
use Rattle.rules.proofs.Base.{of_done}

-- the fold of a table with one name and one initial bad
abbrev folded : List Row → ℕ → List ℕ → Out Folded
folded rs bad replies = run 1 rs (model_of rs (λ k. false) [] (bad ∷ []) [] [] replies) mode0

-- ---- Write 7 at 5, write 9 at an Input, read 5, and a Bad where the read is 7
unfoldable unsettled : List Row
unsettled =
    row Const word_code 5 0 0 0 ∷ row Const word_code 7 0 0 0 ∷ row Input word_code 0 0 0 1 ∷ row Const word_code 9 0 0 0 ∷ row State memory_code 0 0 0 0
    ∷ row Write memory_code 4 0 1 0 ∷ row Write memory_code 5 2 3 0 ∷ row Read word_code 6 0 0 0 ∷ row Eq bit_code 7 1 0 0 ∷ row Bad bit_code 8 0 0 0 ∷ []

record Forwarded (f : Folded) : Type 0 where
  held : f.state.held ≡ []
  asked : f.state.asked ≡ []
  mark : f.state.mark 7 ≡ replaced 1

-- ---- a Bad on an Input, and the reply that it is unsatisfiable
unfoldable doubted : List Row
doubted = row Input bit_code 0 0 0 1 ∷ row Bad bit_code 0 0 0 0 ∷ []

record Believed (f : Folded) : Type 0 where
  held : f.state.held ≡ []
  passed : f.state.passed ≡ 0
  dropped : f.dropped ≡ 1 ∷ []

computed : OfDone Forwarded (folded unsettled 9 []) × OfDone Believed (folded doubted 1 (1 ∷ []))
unfolding unsettled doubted run check check_nodes check_sequentials check_bads width ones compute fold fold_bads judge_bads judge_sequentials visit_all last_question ask ask_or visit process settle finish finish_stay unary binary visit1 visit2 visit3 ite_on take_input forward find look_at
computed = assumption refl

-- no state took an input
faithful : (rs : List Row) (σ : St) (α : ℕ → Value) → σ.held ≡ [] → Assigns (map decode rs) α → Faithful rust (map decode rs) [] σ α
faithful rs σ α e h = record { fits = h; inits = tt; same = subst (All (Same (worth_of rust (map decode rs) α σ))) (sym e) tt }

-- ---- the first: the Input is 5, the memory holds 0
meeting : ℕ → Value
meeting (suc (suc zero)) = number 5
meeting (suc (suc (suc (suc k)))) = memory (λ j. 0)
meeting zero = number 0
meeting (suc zero) = number 0
meeting (suc (suc (suc zero))) = number 0

meeting_fits : Assigns (map decode unsettled) meeting
unfolding unsettled meeting width
meeting_fits zero l e = cc
meeting_fits (suc zero) l e = cc
meeting_fits (suc (suc zero)) l e = ((λ z. omega arith), lit< tt)
meeting_fits (suc (suc (suc zero))) l e = cc
meeting_fits (suc (suc (suc (suc zero)))) l e = (refl, λ j. lit< tt)
meeting_fits (suc (suc (suc (suc (suc zero))))) l e = cc
meeting_fits (suc (suc (suc (suc (suc (suc zero)))))) l e = cc
meeting_fits (suc (suc (suc (suc (suc (suc (suc zero))))))) l e = cc
meeting_fits (suc (suc (suc (suc (suc (suc (suc (suc zero)))))))) l e = cc
meeting_fits (suc (suc (suc (suc (suc (suc (suc (suc (suc zero))))))))) l e = cc
meeting_fits (suc (suc (suc (suc (suc (suc (suc (suc (suc (suc k)))))))))) l e = absurd (omega arith)

-- the read's replacement is 7, and the read is 9
not-kept : (f : Folded) → Forwarded f → Keeps rust (map decode unsettled) f meeting → ⊥
unfolding unsettled value over over_in meeting worth_of
not-kept f x k =
    let e : number 7 ≡ number 9 = k.replacements 7 1 (lit< tt) x.mark in
    cc

pub unsettled_needed : UnsettledNeeded
unfolding UnsettledNeeded
unsettled_needed h =
    of_done Forwarded (λ o. ⊥) (folded unsettled 9 [])
    (λ f e x. not-kept f x (h 1 unsettled (λ k. false) [] (9 ∷ []) [] [] [] mode0 f e
    (λ α _. subst (All _) (sym x.asked) tt) meeting (faithful unsettled f.state meeting x.held meeting_fits)))
    computed.0

-- ---- the second: the Input is 1
always_one : ℕ → Value
always_one k = number 1

one_fits : Assigns (map decode doubted) always_one
unfolding doubted always_one width
one_fits zero l e = ((λ z. omega arith), lit< tt)
one_fits (suc zero) l e = cc
one_fits (suc (suc k)) l e = absurd (omega arith)

-- the Bad's condition is 1
not-zero : (f : Folded) → Believed f → Keeps rust (map decode doubted) f always_one → ⊥
unfolding doubted value over over_in always_one
not-zero f x k =
    let e : number 1 ≡ number 0 = (subst (All (λ b. value rust (node_at (map decode doubted)) always_one (node_at (map decode doubted) b).a ≡ number 0)) x.dropped k.dropped).0 in
    cc

pub replies_needed : RepliesNeeded
unfolding RepliesNeeded
replies_needed h =
    of_done Believed (λ o. ⊥) (folded doubted 1 (1 ∷ []))
    (λ f e x. not-zero f x (h 1 doubted (λ k. false) [] (1 ∷ []) [] [] (1 ∷ []) mode0 f e x.passed always_one (faithful doubted f.state always_one x.held one_fits)))
    computed.1
