-- Demand 3: the values after a fold, and that it keeps them; and what the operands of the rewritten rows are worth.
-- The numbers of a result are worth, for good, what Demand's worth_of says at the end of the fold; Whole's account is read off there.
-- Assumes nothing.
use Prim.Native.Nat.{ℕ, ◌+◌, ◌<◌}
use mathlib.Core.Path.{◌≡◌, refl, sym, ap, ap₂, ◌∙◌, subst}
use mathlib.Core.Option.{Option, none, some}
use mathlib.Core.List.{List, [], ◌∷◌, map}
use native.Mathlib.Omega.{arith}
use lib.ListN.{length, get_or}
use borrow.Author.Tests.{eq-eqb, ne_eqb, lt-ltb, le-ltb}
use Rattle.btor.specs.Operators.{Reading, rust, standard}
use Rattle.rules.specs.Lists.{All}
use Rattle.rules.specs.Refusal.{Refusal, Out, done, unless_refused}
use Rattle.rules.specs.Table.{Kind, Const, Read, Write, Word, Ult, Ext, Ite, Eq, And, Or, Not, State, Next, Input, Bad, Node, node_at, operands}
use Rattle.rules.specs.Model.{Model, Mode, model_of}
use Rattle.rules.specs.Check.{check}
use Rattle.rules.specs.Legal.{AllLegal, Sequential, WellFormed, Accepted, AcceptedRun}
use Rattle.rules.specs.Value.{Value, number, meaning, worth, value, Fits}
use Rattle.rules.specs.Walk.{St}
use Rattle.rules.specs.Visit.{Ways}
use Rattle.rules.specs.Whole.{ways_of, Folded, fold, run}
use Rattle.rules.specs.Demand.{Assigns, SameInit, NonePassed, RepliesHold, worth_of, Faithful, Keeps, Demand3OfFold, Demand3}
use Rattle.rules.specs.Laws.{RowKeeps, OperandsWorth, OperandsKept}
use Rattle.rules.specs.Fine.{Strict}
use Rattle.rules.proofs.Base.{If, all_map, is-kind}
use Rattle.rules.proofs.Check.{accepted}
use Rattle.rules.proofs.Legal.{init-operand, state_ok}
use Rattle.rules.proofs.Values.{meaning-same, meaning-own, value-is, value-fits}
use Rattle.rules.proofs.Triple.{Ok, Inv, MarkOk}
use Rattle.rules.proofs.Whole.{Env, Gone, fold_ok}
use Rattle.rules.proofs.Walked.{folded}
use Rattle.rules.proofs.Laws.{row_keeps}

-- ---- the values after the fold
module _ (how : Reading) (t : List Node) (α : ℕ → Value) (σ : St) where
  pub worth-node : (k : ℕ) → k < length t → worth_of how t α σ k ≡ value how (node_at t) α k
  unfolding worth_of
  worth-node k l = simp (lt-ltb k (length t) l)

  pub worth-false : worth_of how t α σ (length t) ≡ number 0
  unfolding worth_of
  worth-false = simp (le-ltb (length t) (length t) (omega arith), eq-eqb (length t) (length t) refl)

  pub worth-true : worth_of how t α σ (length t + 1) ≡ number 1
  unfolding worth_of
  worth-true =
      simp (le-ltb (length t + 1) (length t) (omega arith), ne_eqb (length t + 1) (length t) (λ e. omega arith), eq-eqb (length t + 1) (length t + 1) refl)

  pub worth-made : (r : ℕ) → length t + 1 < r → worth_of how t α σ r ≡ number (σ.rows r).a
  unfolding worth_of
  worth-made r h =
      simp (le-ltb r (length t) (omega arith), ne_eqb r (length t) (λ e. omega arith), ne_eqb r (length t + 1) (λ e. omega arith))

  module _ (legal : AllLegal t) (fits : Assigns t α) where
    the_env : (ways : Ways) → ways.reading ≡ how → Env t ways (worth_of how t α σ)
    the_env ways e =
        record {
          n_false = worth-false;
          n_true = worth-true;
          fits = λ k l. subst (Fits (node_at t k).sort) (sym (worth-node k l)) (value-fits how t α legal fits k l);
          known = λ k l. subst (λ (r : Reading). worth r (worth_of how t α σ) (worth_of how t α σ k) (node_at t k) ≡ worth_of how t α σ k) (sym e)
              (let q = meaning-same how (node_at t k).kind (node_at t k) (worth_of how t α σ) (value how (node_at t) α) (α k)
              (all_map (λ j. j < k) (λ j. worth_of how t α σ j ≡ value how (node_at t) α j) (λ j i. worth-node j (omega (arith, i))) (operands (node_at t k)) (legal k l).before) in
              meaning-own how (node_at t k).kind (worth_of how t α σ) (α k) (worth_of how t α σ k) (node_at t k) (q ∙ value-is how t α legal k l ∙ sym (worth-node k l)));
          legal = legal;
        }

-- a State and an Input are worth what the assignment gives them
own_back : (how : Reading) (K : Kind) (u v : ℕ → Value) (own w : Value) (nd nd' : Node) → meaning how K u own nd ≡ w → meaning how K v w nd' ≡ w → meaning how K v own nd' ≡ w
own_back how Const u v own w nd nd' e h = h
own_back how Read u v own w nd nd' e h = h
own_back how Write u v own w nd nd' e h = h
own_back how (Word op) u v own w nd nd' e h = h
own_back how Ult u v own w nd nd' e h = h
own_back how Ext u v own w nd nd' e h = h
own_back how Ite u v own w nd nd' e h = h
own_back how Eq u v own w nd nd' e h = h
own_back how And u v own w nd nd' e h = h
own_back how Or u v own w nd nd' e h = h
own_back how Not u v own w nd nd' e h = h
own_back how State u v own w nd nd' e h = e
own_back how Next u v own w nd nd' e h = h
own_back how Input u v own w nd nd' e h = e
own_back how Bad u v own w nd nd' e h = h

-- the values of a table's nodes, from those of the numbers of a result
init-same : (how : Reading) (t : List Node) (α : ℕ → Value) (σ : St) → AllLegal t → (ss : List ℕ) → All (Sequential t) ss
    → All (SameInit t (value how (node_at t) α)) ss → All (SameInit t (worth_of how t α σ)) ss
init-same how t α σ legal [] w h = tt
init-same how t α σ legal (s ∷ ss) w h =
    let q = state_ok t s legal w.0 in
    ((λ e. worth-node how t α σ (node_at t s).a q.inside ∙ h.0 e ∙ sym (worth-node how t α σ (node_at t (node_at t s).a).a (omega (arith, q.inside, q.init.before)))), init-same how t α σ legal ss w.1 h.1)

-- what the walk kept, at the end of a fold
module _ (m : Model) (how : Mode) (f : Folded) (wf : WellFormed m) (run : fold m how ≡ done f) (clean : f.state.passed ≡ 0)
    (α : ℕ → Value) (replies : RepliesHold how.reading m.table α f.state) (faithful : Faithful how.reading m.table m.sequentials f.state α) where
  pub the_end : Inv m.table (ways_of m how) (worth_of how.reading m.table α f.state) f.state
      × All (Gone m.table (ways_of m how) (worth_of how.reading m.table α f.state)) f.dropped
  the_end =
      let t : List Node = m.table in
      let σ : St = f.state in
      let v : ℕ → Value = worth_of how.reading t α σ in
      let env = the_env how.reading t α σ wf.nodes faithful.fits (ways_of m how) refl in
      let ok : Ok t (ways_of m how) v σ = record { clean = clean; told = replies; same = faithful.same; news = λ i l. worth-made how.reading t α σ (length t + 2 + i) (omega arith) } in
      subst (If (λ f. Ok t (ways_of m how) v f.state → Inv t (ways_of m how) v f.state × All (Gone t (ways_of m how) v) f.dropped)) run
      (fold_ok m how wf v env (init-same how.reading t α σ wf.nodes m.sequentials wf.sequentials faithful.inits)) ok

  pub keeps : Keeps how.reading m.table f α
  keeps =
      let t : List Node = m.table in
      let σ : St = f.state in
      let R : Reading = how.reading in
      let v : ℕ → Value = worth_of R t α σ in
      let i = the_end.0 in
      record {
        rows = λ k l.
            own_back R (σ.rows k).kind (value R (node_at t) α) v (α k) (value R (node_at t) α k) (node_at t k) (σ.rows k)
            (subst (λ K. meaning R K (value R (node_at t) α) (α k) (node_at t k) ≡ value R (node_at t) α k) (sym (i.given_ok k l).kind) (value-is R t α wf.nodes k l))
            (subst (λ w. worth R v w (σ.rows k) ≡ w) (worth-node R t α σ k l) (i.rows_ok k).worth!);
        replacements = λ k r l e. subst (MarkOk v k) e (i.marks_ok k) ∙ worth-node R t α σ k l;
        dropped =
            all_map (Gone t (ways_of m how) v) (λ b. value R (node_at t) α (node_at t b).a ≡ number 0)
            (λ b d.
            subst (λ K. meaning R K (value R (node_at t) α) (α b) (node_at t b) ≡ value R (node_at t) α b) d.entry.bad (value-is R t α wf.nodes b d.entry.inside)
            ∙ sym (worth-node R t α σ b d.entry.inside) ∙ d.zero!)
            f.dropped the_end.1;
      }

-- ---- the operands of rewritten rows
map_same : (u w : ℕ → Value) (xs : List ℕ) → All (λ x. u x ≡ w x) xs → map u xs ≡ map w xs
map_same u w [] h = refl
map_same u w (x ∷ xs) h = ap₂ ◌∷◌ h.0 (map_same u w xs h.1)

module _ (m : Model) (how : Mode) (f : Folded) (wf : WellFormed m) (run : fold m how ≡ done f) (clean : f.state.passed ≡ 0)
    (α : ℕ → Value) (replies : RepliesHold how.reading m.table α f.state) (faithful : Faithful how.reading m.table m.sequentials f.state α) where
  given-worths : (k : ℕ) → k < length m.table
      → map (worth_of how.reading m.table α f.state) (operands (f.state.rows k)) ≡ map (value how.reading (node_at m.table) α) (operands (node_at m.table k))
  given-worths k l =
      let nd : Node = node_at m.table k in
      ((the_end m how f wf run clean α replies faithful).0.given_ok k l).worths
      ∙ map_same _ _ (operands nd)
      (all_map (λ j. j < k) (λ j. worth_of how.reading m.table α f.state j ≡ value how.reading (node_at m.table) α j)
      (λ j i. worth-node how.reading m.table α f.state j (omega (arith, i, l))) (operands nd) (wf.nodes k l).before)

  operands-worth : OperandsWorth how.reading m.table f.state α
  unfolding RowKeeps
  operands-worth =
      record {
        each = given-worths;
        inits = λ k l e b.
            let nd : Node = node_at m.table k in
            let row : Node = f.state.rows k in
            let q = row_keeps m how f wf run k l in
            let s = is-kind State nd e in
            ap (λ vs. get_or vs 0 (number 0))
            (sym (ap (map (worth_of how.reading m.table α f.state)) (init-operand row (q.kind ∙ s) (q.init e ∙ b))) ∙ given-worths k l
            ∙ ap (map (value how.reading (node_at m.table) α)) (init-operand nd s b));
      }

-- nothing was passed: by what is presumed, or because the standard's walk passes nothing
none_passed : (R : Reading) (f : Folded) → Strict R f.state.passed → NonePassed R f → f.state.passed ≡ 0
none_passed rust f s h = h
none_passed standard f s h = s

pub demand_3_of-fold : Demand3OfFold
unfolding Demand3OfFold
demand_3_of-fold m how f wf run clean replies α faithful =
    keeps m how f wf run (none_passed how.reading f (folded m how wf f run).fine.books.clean clean) α (replies α faithful) faithful

pub operands-kept : OperandsKept
unfolding OperandsKept
operands-kept m how f wf run clean replies α faithful =
    operands-worth m how f wf run (none_passed how.reading f (folded m how wf f run).fine.books.clean clean) α (replies α faithful) faithful

-- a run that is done was not refused, and its fold is done
pub run-done : {A : Type 0} (o : Option Refusal) (x : Out A) (f : A) → unless_refused o x ≡ done f → (o ≡ none) × (x ≡ done f)
run-done none x f e = (refl, e)
run-done (some r) x f e = cc

pub accepted-run : AcceptedRun
unfolding AcceptedRun Accepted run
accepted-run names rs dump ss initial later ins reps how f e =
    let m : Model = model_of rs dump ss initial later ins reps in
    let a = run-done (check names rs m) (fold m how) f e in
    (accepted names rs dump ss initial later ins reps a.0, a.1)

pub demand_3 : Demand3
unfolding Demand3 Demand3OfFold AcceptedRun
demand_3 names rs dump ss initial later ins reps how f e =
    let a = accepted-run names rs dump ss initial later ins reps how f e in
    demand_3_of-fold (model_of rs dump ss initial later ins reps) how f a.0.model a.1
