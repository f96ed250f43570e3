-- Each entry of a list of bads stays or is dropped: what the kept list has fewer times than the given one is among the dropped.
-- By recursion over the list, whatever the visits and the questions leave.
--     fold_lost       of a whole fold        each-listed    what holds of all entries holds of one that is listed
-- Assumes nothing.
use Prim.Native.Nat.{ℕ, suc, ◌+◌, ◌<◌}
use mathlib.Core.Path.{◌≡◌, refl, sym, subst}
use mathlib.Core.Bool.{Bool, true, false}
use mathlib.Core.List.{List, [], ◌∷◌, ◌++◌}
use native.Mathlib.Omega.{arith}
use lib.Dec.{eqb}
use borrow.Author.Tests.{eqb-true}
use Rattle.btor.specs.Operators.{bit}
use Rattle.rules.specs.Lists.{All}
use Rattle.rules.specs.Refusal.{done}
use Rattle.rules.specs.Table.{Node}
use Rattle.rules.specs.Model.{Model, Mode}
use Rattle.rules.specs.Walk.{St, start}
use Rattle.rules.specs.Fold.{const_of}
use Rattle.rules.specs.Visit.{Ways, visit_top}
use Rattle.rules.specs.Whole.{ways_of, judge_sequentials, Bads, Judgement, stay, drop, visit_all, judge_bad, noted, judge_bads, Folded, bads, last_question, fold_bads, fold}
use Rattle.rules.proofs.Base.{If, if-bind, if-after}
use Rattle.optimize.specs.Demand.{times}

-- ---- how often an entry is listed
times_append : (b : ℕ) (xs ys : List ℕ) → times b (xs ++ ys) ≡ times b xs + times b ys
unfolding times
times_append b [] ys = omega arith
times_append b (x ∷ xs) ys = omega (arith, times_append b xs ys)

pub each-listed : (P : ℕ → Type 0) (xs : List ℕ) → All P xs → (b : ℕ) → 0 < times b xs → P b
unfolding times
each-listed P [] h b l = absurd (omega arith)
each-listed P (x ∷ xs) h b l = go (eqb b x) refl l λ i. each-listed P xs h.1 b i
  where
    go : (z : Bool) → eqb b x ≡ z → 0 < bit z + times b xs → (0 < times b xs → P b) → P b
    go true e l more = subst P (sym (eqb-true b x e)) h.0
    go false e l more = more (omega arith)

-- ---- a list of bads
abbrev Split : List ℕ → Bads → Type 0
Split bs r = (b : ℕ) → times b bs ≡ times b r.stay + times b r.dropped

noted-split : (d : Judgement) (x : ℕ) (bs : List ℕ) (r : Bads) → Split bs r → Split (x ∷ bs) (noted d x r)
unfolding times
noted-split stay x bs r h b = omega (arith, h b)
noted-split drop x bs r h b = omega (arith, h b)

module _ (t : List Node) (ways : Ways) (solver terminate : Bool) (section : ℕ) where
  judged-split : (place : ℕ) (σ : St) (bs : List ℕ) → If (Split bs) (judge_bads t ways solver terminate section place σ bs)
  unfolding judge_bads times
  judged-split place σ [] = λ b. refl
  judged-split place σ (x ∷ bs) =
      if-after (Split (x ∷ bs)) (visit_top t ways σ x) _
      (λ p. if-after (Split (x ∷ bs)) (judge_bad t ways solver terminate section place p.0 (p.0.rows x).a (const_of p.0.rows (p.0.rows x).a)) _
      (λ q. if-bind (Split bs) (Split (x ∷ bs)) (judge_bads t ways solver terminate section (suc place) q.0 bs) _ (judged-split (suc place) q.0 bs)
      (λ r h. noted-split q.1 x bs r h)))

-- ---- the whole
module _ (m : Model) (how : Mode) where
  pub record Lost (f : Folded) : Type 0 where
    pub initial : (b : ℕ) → times b f.initial < times b m.initial → 0 < times b f.dropped
    pub later : (b : ℕ) → times b f.later < times b m.later → 0 < times b f.dropped

  bads_split : (solver terminate : Bool) (section : ℕ) (σ : St) (bs : List ℕ) → If (Split bs) (bads m how solver terminate section σ bs)
  bads_split solver terminate section σ bs = judged-split m.table (ways_of m how) solver terminate section 0 σ bs

  fold_bads_lost : (q : Bool) (σ : St) (seqs : List ℕ) → If Lost (fold_bads m how q σ seqs)
  unfolding fold_bads
  fold_bads_lost true σ seqs =
      if-bind (Split m.initial) Lost (bads m how false true 3 σ m.initial) _ (bads_split false true 3 σ m.initial)
      (λ i h. if-after Lost (last_question m how i.after i.stay) _
      (λ p. record { initial = λ b l. omega (arith, h b, l); later = λ b l. omega (arith, l) }))
  fold_bads_lost false σ seqs =
      if-bind (Split m.initial) Lost (bads m how true how.terminate 3 σ m.initial) _ (bads_split true how.terminate 3 σ m.initial)
      (λ i h. if-bind (Split m.later) Lost (bads m how true how.terminate 4 i.after m.later) _ (bads_split true how.terminate 4 i.after m.later)
      (λ r g. record {
        initial = λ b l. omega (arith, h b, l, times_append b i.dropped r.dropped);
        later = λ b l. omega (arith, g b, l, times_append b i.dropped r.dropped);
      }))

  all_lost : If Lost (fold m how)
  unfolding fold
  all_lost =
      let j : St × List ℕ = judge_sequentials m.table (start m.table m.inputs m.replies) m.sequentials in
      if-after Lost (visit_all m.table (ways_of m how) j.0 j.1) _ (λ σ. fold_bads_lost how.one_query σ j.1)

  pub fold_lost : (f : Folded) → fold m how ≡ done f → Lost f
  fold_lost f e = subst (If Lost) e all_lost
