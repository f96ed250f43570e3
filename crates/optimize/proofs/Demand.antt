-- Demand 3 of the words that an accepted call leaves in the result buffer, from the contract of its entry point and nothing else.
-- The contract fixes the words by the rules' fold, of which demand 3 is proved; read back, the words hold what the fold left.
--     demand_3_of-result      the demand
-- Assumes nothing.
use Prim.Native.Nat.{ℕ, ◌+◌, ◌-◌, ◌*◌, ◌<◌, ◌≤◌}
use mathlib.Core.Path.{◌≡◌, sym, ap, ◌∙◌, subst}
use mathlib.Core.Logic.{◌⊎◌, inl, inr, ⊎_elim}
use mathlib.Core.List.{List, ◌++◌}
use native.Mathlib.Omega.{arith}
use lib.ListN.{length, get_or, replicate}
use lib.Seq.{get_or-drop}
use borrow.Author.Tests.{lt-ltb, le-ltb}
use Rattle.btor.specs.Operators.{Reading}
use Rattle.rules.specs.Refusal.{done}
use Rattle.rules.specs.Limits.{house}
use Rattle.rules.specs.Table.{Node, node_at, operands}
use Rattle.rules.specs.Model.{Model, Mode}
use Rattle.rules.specs.Legal.{WellFormed}
use Rattle.rules.specs.Value.{Value, number, worth, value}
use Rattle.rules.specs.Walk.{St}
use Rattle.rules.specs.Whole.{Folded, fold}
use Rattle.rules.specs.Demand.{worth_of, Keeps}
use Rattle.rules.specs.Laws.{IsNew, ReplacementBefore, ReplacementSort, RowKeeps, OperandsBelow}
use Rattle.rules.specs.Call.{Entry, Call, Accepted, outcome, words_of, Answer, answer_of, result_of, left, Demand3OfCall}
use Rattle.rules.proofs.Base.{inside-or-past, all_map}
use Rattle.rules.proofs.Values.{meaning-same}
use Rattle.rules.proofs.Walked.{folded}
use Rattle.rules.proofs.Demand.{worth-node, worth-false, worth-true, worth-made}
use Rattle.rules.proofs.Laws.{replacement_before, replacement_sort, row_keeps, operands-below}
use Rattle.rules.proofs.Call.{passed, formed, demand3_of_call}
use Rattle.rules.proofs.Numbered.{accepted-answer}
use Rattle.std.specs.Prelude.{Ok}
use Rattle.optimize.specs.Bounds.{count_of}
use Rattle.optimize.specs.View.{node_of}
use Rattle.optimize.specs.Demand.{Contract, constants_on, replacements_on, times, sort_in, worth_in, SortsIn, KeepsIn, Kept, Demand3OfResult}
use Rattle.optimize.proofs.ReadBack.{ReadBack, read_back}
use Rattle.optimize.proofs.Dropped.{each-listed, fold_lost}

module _ (m : Model) (how : Mode) (f : Folded) (wf : WellFormed m) (e : fold m how ≡ done f) (Q : List ℕ) (back : ReadBack m f Q) where
  abbrev t : List Node
  t = m.table

  abbrev σ : St
  σ = f.state

  -- pair i of the replacements, as words
  pair_first : (i : ℕ) (l : i < count_of (replacements_on Q)) → get_or (replacements_on Q) (1 + 2 * i) 0 ≡ (back.replacements i l).node
  pair_first i l = sym (get_or-drop 1 (replacements_on Q) (2 * i) 0) ∙ (back.replacements i l).first

  pair_second : (i : ℕ) (l : i < count_of (replacements_on Q)) → get_or (replacements_on Q) (2 + 2 * i) 0 ≡ (back.replacements i l).by
  pair_second i l =
      let e₂ : 2 + 2 * i ≡ 1 + (2 * i + 1) = omega arith in
      ap (λ j. get_or (replacements_on Q) j 0) e₂ ∙ sym (get_or-drop 1 (replacements_on Q) (2 * i + 1) 0) ∙ (back.replacements i l).second

  -- ---- sorts, by the words and by the fold
  sort_in_words : (k : ℕ) → k < length t → (r : ℕ) → (r < k) ⊎ IsNew t σ r → sort_in (length t) Q r ≡ (σ.rows r).sort
  unfolding sort_in
  sort_in_words k l r (inl h) =
      let i : r < length t = omega arith in
      let q : sort_in (length t) Q r ≡ (node_of Q r).sort = simp (lt-ltb r (length t) i) in
      q ∙ ap (λ (nd : Node). nd.sort) (back.rows r i)
  sort_in_words k l r (inr h) =
      let q : sort_in (length t) Q r ≡ get_or (constants_on Q) (1 + 2 * (r - length t)) 0 = simp (le-ltb r (length t) h.0) in
      let z : length t + (r - length t) ≡ r = omega (arith, h.0) in
      q ∙ back.sorts (r - length t) (omega (arith, h.0, h.1)) ∙ ap (λ j. (σ.rows j).sort) z

  row-sorted : (k : ℕ) → k < length t → (node_of Q k).sort ≡ (node_at t k).sort
  unfolding RowKeeps
  row-sorted k l = ap (λ (nd : Node). nd.sort) (back.rows k l) ∙ (row_keeps m how f wf e k l).sort

  pair-sorted : (i : ℕ) → i < count_of (replacements_on Q) → sort_in (length t) Q (get_or (replacements_on Q) (2 + 2 * i) 0) ≡ (node_at t (get_or (replacements_on Q) (1 + 2 * i) 0)).sort
  unfolding ReplacementBefore ReplacementSort
  pair-sorted i l =
      let p = back.replacements i l in
      ap (sort_in (length t) Q) (pair_second i l) ∙ sort_in_words p.node p.inside p.by (replacement_before m how f wf e p.node p.by p.inside p.marked)
      ∙ replacement_sort m how f wf e p.node p.by p.inside p.marked ∙ ap (λ k. (node_at t k).sort) (sym (pair_first i l))

  words-sorted : SortsIn t Q
  words-sorted = record { rows = row-sorted; replacements = pair-sorted }

  module _ (R : Reading) (α : ℕ → Value) where
    abbrev v : ℕ → Value
    v = value R (node_at t) α

    -- ---- what a number stands for, by the words and by the fold
    worth-below : (r : ℕ) → r < length t → worth_in R t α Q r ≡ worth_of R t α σ r
    unfolding worth_in
    worth-below r l = let q : worth_in R t α Q r ≡ v r = simp (lt-ltb r (length t) l) in q ∙ sym (worth-node R t α σ r l)

    worth-past : (r : ℕ) → length t ≤ r → worth_in R t α Q r ≡ number (get_or (constants_on Q) (2 + 2 * (r - length t)) 0)
    unfolding worth_in
    worth-past r l = simp (le-ltb r (length t) l)

    worth-row : (r : ℕ) → length t ≤ r → number (σ.rows r).a ≡ worth_of R t α σ r
    worth-row r l =
        let shares = (folded m how wf f e).fine.shape.shares in
        inside-or-past (number (σ.rows r).a ≡ worth_of R t α σ r) r (length t + 1)
        (λ i. let q : length t ≡ r = omega arith in subst (λ k. number (σ.rows k).a ≡ worth_of R t α σ k) q (ap (λ (nd : Node). number nd.a) shares.false! ∙ sym (worth-false R t α σ)))
        (λ i. inside-or-past (number (σ.rows r).a ≡ worth_of R t α σ r) r (length t + 2)
        (λ j. let q : length t + 1 ≡ r = omega arith in subst (λ k. number (σ.rows k).a ≡ worth_of R t α σ k) q (ap (λ (nd : Node). number nd.a) shares.true! ∙ sym (worth-true R t α σ)))
        (λ j. sym (worth-made R t α σ r (omega arith))))

    worth-new : (r : ℕ) → IsNew t σ r → worth_in R t α Q r ≡ worth_of R t α σ r
    worth-new r h =
        let q : length t + (r - length t) ≡ r = omega (arith, h.0) in
        worth-past r h.0 ∙ ap number (back.constants (r - length t) (omega (arith, h.0, h.1)) ∙ ap (λ k. (σ.rows k).a) q) ∙ worth-row r h.0

    worth-same : (k : ℕ) → k < length t → (r : ℕ) → (r < k) ⊎ IsNew t σ r → worth_in R t α Q r ≡ worth_of R t α σ r
    worth-same k l r (inl h) = worth-below r (omega arith)
    worth-same k l r (inr h) = worth-new r h

    -- ---- what the words keep
    module _ (keeps : Keeps R t f α) where
      row_kept : (k : ℕ) → k < length t → worth R (worth_in R t α Q) (α k) (node_of Q k) ≡ v k
      unfolding OperandsBelow
      row_kept k l =
          ap (λ (nd : Node). worth R (worth_in R t α Q) (α k) nd) (back.rows k l)
          ∙ meaning-same R (σ.rows k).kind (σ.rows k) (worth_in R t α Q) (worth_of R t α σ) (α k)
          (all_map (λ x. (x < k) ⊎ IsNew t σ x) (λ x. worth_in R t α Q x ≡ worth_of R t α σ x) (worth-same k l) (operands (σ.rows k)) (operands-below m how f wf e k l))
          ∙ keeps.rows k l

      replacement_kept : (i : ℕ) → i < count_of (replacements_on Q) → worth_in R t α Q (get_or (replacements_on Q) (2 + 2 * i) 0) ≡ v (get_or (replacements_on Q) (1 + 2 * i) 0)
      unfolding ReplacementBefore
      replacement_kept i l =
          let p = back.replacements i l in
          ap (worth_in R t α Q) (pair_second i l) ∙ worth-same p.node p.inside p.by (replacement_before m how f wf e p.node p.by p.inside p.marked)
          ∙ keeps.replacements p.node p.by p.inside p.marked ∙ ap v (sym (pair_first i l))

      words_keep : KeepsIn R m Q α
      words_keep =
          let zero! : (b : ℕ) → 0 < times b f.dropped → v (node_at t b).a ≡ number 0 = each-listed (λ b. v (node_at t b).a ≡ number 0) f.dropped keeps.dropped in
          let lost = fold_lost m how f e in
          record {
            nodes = back.nodes;
            rows = row_kept;
            replacements = replacement_kept;
            dropped = λ b. ⊎_elim (λ l. zero! b (lost.initial b (subst (λ bs. times b bs < times b m.initial) back.initial l)))
                (λ l. zero! b (lost.later b (subst (λ bs. times b bs < times b m.later) back.later l)));
          }

-- ---- a call
module _ (entry : Entry) (call : Call) (count : ℕ) (Q S : List ℕ) (c : Contract entry call (Ok count) Q S) where
  is-accepted : (a : Accepted) × (outcome house entry call ≡ done a)
  unfolding left
  is-accepted = accepted-answer house entry call (sym (ap (λ (z : Answer). z.number) c.answer))

  accepted-kept : (a : Accepted) → outcome house entry call ≡ done a → Kept entry call count Q
  unfolding left Demand3OfCall
  accepted-kept a e =
      let p = passed house entry call a e in
      let words : Q ≡ words_of a ++ replicate (call.result_room - length (words_of a)) 0 = c.result ∙ ap (result_of call.result_room) e in
      let wf : WellFormed a.model = subst WellFormed p.model_is (formed entry p.names p.sections p.judged) in
      let back : ReadBack a.model a.folded Q = subst (ReadBack a.model a.folded) (sym words) (read_back a.model a.folded (replicate (call.result_room - length (words_of a)) 0)) in
      record {
        accepted = a;
        follows = e;
        counted = ap (λ (z : Answer). z.words) (c.answer ∙ ap answer_of e);
        words = words;
        sorts = words-sorted a.model a.how a.folded wf p.folds Q back;
        keeps = λ h α faithful. words_keep a.model a.how a.folded wf p.folds Q back a.how.reading α (demand3_of_call house entry call a e h α faithful);
      }

pub demand_3_of-result : Demand3OfResult
unfolding Demand3OfResult
demand_3_of-result entry call count Q S c =
    let h = is-accepted entry call count Q S c in
    accepted-kept entry call count Q S c h.0 h.1
