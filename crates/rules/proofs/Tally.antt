-- The tally's rules, read off the structural invariant at the end of a fold, and the verdict off the fold's last step.
-- Assumes nothing.
use Prim.Native.Nat.{ℕ, ◌-◌}
use mathlib.Core.Path.{◌≡◌, refl, sym, ap, ◌∙◌, subst}
use mathlib.Core.Bool.{Bool, true, false, cond}
use mathlib.Core.Option.{Option, none, some}
use mathlib.Core.List.{List, [], ◌∷◌, ◌++◌}
use native.Mathlib.Omega.{arith}
use lib.ListN.{length, length-drop}
use lib.Dec.{leb, eqb}
use Rattle.btor.specs.Operators.{bit}
use Rattle.rules.specs.Table.{Read, Node, node_at, is, fits}
use Rattle.rules.specs.Model.{Model, Mode}
use Rattle.rules.specs.Walk.{St, Question, start, add_tally}
use Rattle.rules.specs.Fold.{Fold, stays, swap, make}
use Rattle.rules.specs.Memory.{Found, find, fold_found, passed_by}
use Rattle.rules.specs.Visit.{Ways, settle, forward, take_input}
use Rattle.rules.specs.Questions.{ask, first_reply, most}
use Rattle.rules.specs.Whole.{ways_of, fold, fold_bads, bads, last_question, visit_all, judge_sequentials, Folded}
use Rattle.rules.specs.Tally.{writes, visited_reads, LookedRule, AState, TakenRule, AddedBy, ReadRule, forwarded_reads, PassedRule, Uncounted, OthersRule, last_reply, verdict_by, VerdictRule}
use Rattle.rules.specs.Fine.{Took}
use Rattle.btor.proofs.Agreement.{cases}
use Rattle.rules.proofs.Base.{all_map, If, if-bind, if-after}
use Rattle.rules.proofs.Budget.{paid-all, credit-all}
use Rattle.rules.proofs.Walked.{folded}

pub looked_rule : LookedRule
unfolding LookedRule visited_reads
looked_rule m how f wf e =
    let t : List Node = m.table in
    omega (arith, (folded m how wf f e).looks, paid-all (λ k. bit (is Read (node_at t k))) (writes t) (length t) f.state.mark)

pub taken_rule : TakenRule
unfolding TakenRule
taken_rule m how f wf e =
    let b = (folded m how wf f e).fine.books in
    record {
      inputs = let q : length f.state.inputs ≡ length m.inputs - length f.state.held = ap length b.left ∙ length-drop (length f.state.held) m.inputs in omega (arith, b.fewer);
      inputs_left = b.left;
      apart = b.apart;
      states = all_map (Took m.table) (AState m.table) (λ h k. (k.inside, k.state)) f.state.held b.took;
      replies = let q : length f.state.replies ≡ length m.replies - length f.state.asked = ap length b.unasked ∙ length-drop (length f.state.asked) m.replies in omega arith;
      replies_left = b.unasked;
      each = b.answers;
    }

-- ---- what one Read adds
read-adds : (t : List Node) (ways : Ways) (k : ℕ) (σ : St) (r : Found) → AddedBy σ r (settle t ways k (add_tally σ r.looked (passed_by r.value r.unsettled)) (fold_found r.value))
unfolding settle
read-adds t ways k σ r = go r.value refl
  where
    go : (o : Option ℕ) → r.value ≡ o → AddedBy σ r (settle t ways k (add_tally σ r.looked (passed_by o r.unsettled)) (fold_found o))
    go none e = record { looked = refl; lost = λ _. omega arith; found = λ v q. cc }
    go (some w) e = record { looked = refl; lost = λ q. cc; found = λ v q. refl }

pub read_rule : ReadRule
unfolding ReadRule forward
read_rule t ways k σ m x = read-adds t ways k σ (find ways.reading (length t) σ.rows x m)

pub passed_rule : PassedRule
unfolding PassedRule forwarded_reads
passed_rule m how f wf e =
    let w = (folded m how wf f e).fine in
    let t : List Node = m.table in
    record { among = w.fair; forwarded = omega (arith, w.gained, credit-all (λ k. bit (is Read (node_at t k))) (writes t) (length t) f.state.mark) }

settle-uncounted : (t : List Node) (ways : Ways) (σ : St) (k : ℕ) (f : Fold) → Uncounted σ (settle t ways k σ f)
unfolding settle
settle-uncounted t ways σ k stays = (refl, refl)
settle-uncounted t ways σ k (swap r) = (refl, refl)
settle-uncounted t ways σ k (make s x) = (refl, refl)

ask-uncounted : (ways : Ways) (σ : St) (q x y : ℕ) (bs : List ℕ) → Uncounted σ (ask ways.reply_count σ q x y bs)
unfolding ask
ask-uncounted ways σ q x y bs = cases (Uncounted {A = ℕ} σ) (leb (first_reply σ.replies) (most q)) (λ _. (refl, refl)) (λ _. tt)

take-uncounted : (t : List Node) (ways : Ways) (σ : St) (k : ℕ) (nd : Node) (xs : List ℕ) → Uncounted σ (take_input t ways σ k nd xs)
unfolding take_input settle
take-uncounted t ways σ k nd [] = (refl, refl)
take-uncounted t ways σ k nd (x ∷ xs) =
    cases (Uncounted {A = ℕ} σ) (ways.dump nd.name) (λ _. (refl, refl))
    (λ _. cases (Uncounted {A = ℕ} σ) (eqb nd.sort 3) (λ _. tt) (λ _. cases (Uncounted {A = ℕ} σ) (fits nd.sort x) (λ _. (refl, refl)) (λ _. tt)))

pub others_rule : OthersRule
unfolding OthersRule
others_rule t ways σ = record { settles = settle-uncounted t ways σ; asks = ask-uncounted ways σ; takes = take-uncounted t ways σ }

-- ---- the verdict
last_of : (qs : List Question) (q : Question) → last_reply (qs ++ (q ∷ [])) ≡ q.reply
last_of [] q = refl
last_of (p ∷ []) q = refl
last_of (p ∷ p' ∷ qs) q = last_of (p' ∷ qs) q

ask-last : (count : ℕ) (σ : St) (q x y : ℕ) (bs : List ℕ) → If (λ p. last_reply p.0.asked ≡ p.1) (ask count σ q x y bs)
unfolding ask
ask-last count σ q x y bs = cases (If (λ (p : St × ℕ). last_reply p.0.asked ≡ p.1)) (leb (first_reply σ.replies) (most q)) (λ _. last_of σ.asked _) (λ _. tt)

module _ (m : Model) (how : Mode) where
  last-verdict : (σ : St) (bs : List ℕ) → If (λ p. p.1 ≡ verdict_by true bs (last_reply p.0.asked)) (last_question m how σ bs)
  unfolding last_question
  last-verdict σ [] = refl
  last-verdict σ (b ∷ []) =
      if-bind (λ p. last_reply p.0.asked ≡ p.1) (λ (p : St × ℕ). p.1 ≡ verdict_by true (b ∷ []) (last_reply p.0.asked)) (ask (length m.replies) σ 2 b 0 []) _
      (ask-last (length m.replies) σ 2 b 0 []) (λ p e. ap (λ r. cond (eqb r 1) 2 1) (sym e))
  last-verdict σ (b ∷ b' ∷ bs) =
      if-bind (λ p. last_reply p.0.asked ≡ p.1) (λ (p : St × ℕ). p.1 ≡ verdict_by true (b ∷ b' ∷ bs) (last_reply p.0.asked)) (ask (length m.replies) σ 5 (length (b ∷ b' ∷ bs)) 0 (b ∷ b' ∷ bs)) _
      (ask-last (length m.replies) σ 5 (length (b ∷ b' ∷ bs)) 0 (b ∷ b' ∷ bs)) (λ p e. ap (λ r. cond (eqb r 1) 2 1) (sym e))

  abbrev Told : Bool → Folded → Type 0
  Told q f = f.verdict ≡ verdict_by q f.initial (last_reply f.state.asked)

  fold_bads-verdict : (q : Bool) (σ : St) (seqs : List ℕ) → If (Told q) (fold_bads m how q σ seqs)
  unfolding fold_bads
  fold_bads-verdict true σ seqs =
      if-after (Told true) (bads m how false true 3 σ m.initial) _
      (λ i. if-bind (λ p. p.1 ≡ verdict_by true i.stay (last_reply p.0.asked)) (Told true) (last_question m how i.after i.stay) _ (last-verdict i.after i.stay) (λ p e. e))
  fold_bads-verdict false σ seqs =
      if-after (Told false) (bads m how true how.terminate 3 σ m.initial) _
      (λ i. if-after (Told false) (bads m how true how.terminate 4 i.after m.later) _ (λ r. refl))

  fold-verdict : If (Told how.one_query) (fold m how)
  unfolding fold
  fold-verdict =
      let j = judge_sequentials m.table (start m.table m.inputs m.replies) m.sequentials in
      if-after (Told how.one_query) (visit_all m.table (ways_of m how) j.0 j.1) _ (λ σ. fold_bads-verdict how.one_query σ j.1)

pub verdict_rule : VerdictRule
unfolding VerdictRule
verdict_rule m how f e = subst (If (Told m how how.one_query)) e (fold-verdict m how)
