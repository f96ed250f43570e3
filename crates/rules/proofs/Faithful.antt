-- Every accepted call has a faithful assignment for whatever its Inputs and unreplaced states are given: a state whose Next was dropped has its
-- init's value, and one that took an input the constant that stands for it. Values of rows solve themselves from below (Values), so that is one.
-- Assumes nothing.
use Prim.Native.Nat.{ℕ, zero, suc, ◌<◌, ◌^◌}
use mathlib.Core.Path.{◌≡◌, refl, sym, ap, ap₂, ◌∙◌, subst}
use mathlib.Core.Logic.{◌≢◌}
use mathlib.Core.Bool.{Bool, true, false, cond, ◌&&◌, ◌||◌}
use mathlib.Core.List.{List, [], ◌∷◌}
use native.Mathlib.Omega.{arith}
use lib.ListN.{length}
use lib.Pow.{pow_pos}
use lib.Dec.{ltb, eqb, lit<}
use borrow.Author.Tests.{eqb-true, eqb-false, eq-eqb, ne_eqb, ltb-false, le-ltb}
use Rattle.btor.specs.Operators.{Reading}
use Rattle.btor.specs.Sorts.{width}
use Rattle.rules.specs.Lists.{All}
use Rattle.rules.specs.Table.{State, Input, Node, node_at, is, operands_as, operands}
use Rattle.rules.specs.Legal.{AllLegal, Sequential}
use Rattle.rules.specs.Walk.{St, Mark, fresh, kept, replaced, Held}
use Rattle.rules.specs.Value.{Value, number, memory, meaning, value_by, value, Fits}
use Rattle.rules.specs.Whole.{trivial}
use Rattle.rules.specs.Demand.{Assigns, SameInit, Same, Faithful, Unreplaced, worth_of}
use Rattle.rules.specs.Call.{FaithfulOfCall, AnyAssigns, SomeAssigns}
use Rattle.rules.specs.Fine.{MarkStands, Shape, Took, Marked}
use Rattle.btor.proofs.Agreement.{cases}
use Rattle.rules.proofs.Base.{cases_cond, is-kind}
use Rattle.rules.proofs.Legal.{legal_as, init-operand, state_ok}
use Rattle.rules.proofs.Values.{given-solves, given-only, meaning-fits}
use Rattle.rules.proofs.Walked.{folded}
use Rattle.rules.proofs.Demand.{worth-node, worth-made}
use Rattle.rules.proofs.Call.{passed, call_formed}

-- zero of a sort
abbrev empty : ℕ → Value
empty s = elim (eqb s 3) [ true ↦ memory (λ j. 0) | false ↦ number 0 ]

empty-fits : (s : ℕ) → Fits s (empty s)
empty-fits s = cases (Fits s) (eqb s 3) (λ e. (eqb-true s 3 e, λ j. lit< tt)) (λ e. (eqb-false s 3 e, pow_pos (width s)))

pub any-assigns : AnyAssigns
any-assigns t β h k l e = h k l

pub some-assigns : SomeAssigns
some-assigns t = ((λ k. empty (node_at t k).sort), any-assigns t (λ k. empty (node_at t k).sort) (λ k l. empty-fits (node_at t k).sort))

-- the value of the first operand, if there is one
abbrev first : (ℕ → Value) → List ℕ → Value → Value
first v [] d = d
first v (x ∷ xs) d = v x

first-same : (u v : ℕ → Value) (d : Value) (xs : List ℕ) → All (λ j. u j ≡ v j) xs → first u xs d ≡ first v xs d
first-same u v d [] h = refl
first-same u v d (x ∷ xs) h = h.0

-- those of a list, or none
abbrev where_true : Bool → List ℕ → List ℕ
where_true true xs = xs
where_true false xs = []

where_all : (Q : ℕ → Type 0) (b : Bool) (xs : List ℕ) → All Q xs → All Q (where_true b xs)
where_all Q true xs h = h
where_all Q false xs h = tt

or_right : (x y : Bool) → y ≡ true → (x || y) ≡ true
or_right true y e = refl
or_right false y e = e

-- whether k took an input
abbrev taken : List Held → ℕ → Bool
taken [] k = false
taken (h ∷ hs) k = eqb h.state k || taken hs k

taken_not : (hs : List Held) (k : ℕ) → All (λ h. h.state ≢ k) hs → taken hs k ≡ false
taken_not [] k n = refl
taken_not (h ∷ hs) k n = ap (λ b. b || taken hs k) (ne_eqb h.state k n.0) ∙ taken_not hs k n.1

module _ (t : List Node) where
  -- whether the Next of k was dropped
  abbrev dropped : List ℕ → ℕ → Bool
  dropped [] k = false
  dropped (s ∷ ss) k = (trivial t (node_at t s) && eqb (node_at t s).a k) || dropped ss k

  dropped-not : (ss : List ℕ) (k : ℕ) → All (λ s. trivial t (node_at t s) ≡ true → (node_at t s).a ≢ k) ss → dropped ss k ≡ false
  dropped-not [] k n = refl
  dropped-not (s ∷ ss) k n = ap₂ ◌||◌ (go (trivial t (node_at t s)) refl) (dropped-not ss k n.1)
    where
      go : (b : Bool) → trivial t (node_at t s) ≡ b → (b && eqb (node_at t s).a k) ≡ false
      go true e = ne_eqb (node_at t s).a k (n.0 e)
      go false e = refl

  dropped-here : (s : ℕ) (ss : List ℕ) → trivial t (node_at t s) ≡ true → dropped (s ∷ ss) (node_at t s).a ≡ true
  dropped-here s ss e = ap (λ b. (b && eqb (node_at t s).a (node_at t s).a) || dropped ss (node_at t s).a) e ∙ ap (λ b. b || dropped ss (node_at t s).a) (eq-eqb (node_at t s).a (node_at t s).a refl)

module _ (how : Reading) (t : List Node) (legal : AllLegal t) (σ : St) (shape : Shape t σ.rows σ.made σ.mark) (ss : List ℕ) (β : ℕ → Value) (fitting : Assigns t β) where
  -- the constant that stands for a node, if one does
  abbrev standing : Mark → Value → Value
  standing fresh d = d
  standing kept d = d
  standing (replaced r) d = cond (ltb r (length t)) d (number (σ.rows r).a)

  -- what k has that has no init's value
  abbrev given : Bool → ℕ → Value
  given true k = standing (σ.mark k) (β k)
  given false k = β k

  abbrev own : (ℕ → Value) → ℕ → Value
  own v k = first v (where_true (dropped t ss k) (operands (node_at t k))) (given (taken σ.held k) k)

  abbrev worked : ℕ → Value
  worked = value_by how (node_at t) own

  -- the assignment
  abbrev α : ℕ → Value
  α = own worked

  own_same : (u v : ℕ → Value) (k : ℕ) → All (λ j. u j ≡ v j) (operands (node_at t k)) → own u k ≡ own v k
  own_same u v k h = first-same u v (given (taken σ.held k) k) (where_true (dropped t ss k) (operands (node_at t k))) (where_all (λ j. u j ≡ v j) (dropped t ss k) (operands (node_at t k)) h)

  value-worked : (k : ℕ) → k < length t → value how (node_at t) α k ≡ worked k
  unfolding value
  value-worked k l = given-only how t legal (λ v. α) (λ u v j h. refl) worked (given-solves how t legal own own_same) k l

  worked-state : (k : ℕ) → k < length t → (node_at t k).kind ≡ State → α k ≡ worked k
  worked-state k l e = subst (λ K. meaning how K worked (α k) (node_at t k) ≡ worked k) e (given-solves how t legal own own_same k l)

  -- ---- it fits
  standing-fits : (k : ℕ) → k < length t → Fits (node_at t k).sort (β k) → (m : Mark) → σ.mark k ≡ m → Fits (node_at t k).sort (standing m (β k))
  standing-fits k l b fresh e = b
  standing-fits k l b kept e = b
  standing-fits k l b (replaced r) e =
      cases_cond (Fits (node_at t k).sort) (ltb r (length t)) (λ _. b)
      (λ q.
      let past = ltb-false r (length t) q in
      let new = (subst (MarkStands t σ.rows σ.made k) e (shape.marks k l)).1.new past in
      let row = shape.news r past new.inside in
      ((λ z. row.sort (new.sort ∙ z)), subst (λ i. (σ.rows r).a < 2 ^ width i) new.sort row.fits))

  given-fits : (k : ℕ) → k < length t → Fits (node_at t k).sort (β k) → (b : Bool) → Fits (node_at t k).sort (given b k)
  given-fits k l b true = standing-fits k l b (σ.mark k) refl
  given-fits k l b false = b

  own-fits : (k : ℕ) → k < length t → ((j : ℕ) → j < k → Fits (node_at t j).sort (worked j)) → (is State (node_at t k) || is Input (node_at t k)) ≡ true → Fits (node_at t k).sort (α k)
  own-fits k l h e = by-drop (dropped t ss k)
    where
      nd : Node
      nd = node_at t k

      d : Value
      d = given (taken σ.held k) k

      d-fits : Fits nd.sort d
      d-fits = given-fits k l (fitting k l e) (taken σ.held k)

      at-state : (q : Bool) → All (λ x. x < k) (cond q (nd.a ∷ []) []) → All (λ (b : Bool). b ≡ true) (cond q (eqb (node_at t nd.a).sort nd.sort ∷ []) []) → Fits nd.sort (first worked (cond q (nd.a ∷ []) []) d)
      at-state true b g = subst (λ i. Fits i (worked nd.a)) (eqb-true (node_at t nd.a).sort nd.sort g.0) (h nd.a b.0)
      at-state false b g = d-fits

      go : (q : Bool) → is State nd ≡ q → (q || is Input nd) ≡ true → Fits nd.sort (first worked (operands nd) d)
      go true q _ =
          let ks = is-kind State nd q in
          let g = legal_as t k State nd ks (legal k l) in
          subst (λ K. Fits nd.sort (first worked (operands_as K nd) d)) (sym ks) (at-state (eqb nd.b 1) g.before g.sorts)
      go false q i = subst (λ K. Fits nd.sort (first worked (operands_as K nd) d)) (sym (is-kind Input nd i)) d-fits

      by-drop : (b : Bool) → Fits nd.sort (first worked (where_true b (operands nd)) d)
      by-drop true = go (is State nd) refl e
      by-drop false = d-fits

  worked-fits : (m k : ℕ) → k < m → k < length t → Fits (node_at t k).sort (worked k)
  worked-fits zero k h l = absurd (omega arith)
  worked-fits (suc m) k h l =
      let below : (j : ℕ) → j < k → Fits (node_at t j).sort (worked j) = λ j i. worked-fits m j (omega arith) (omega arith) in
      subst (Fits (node_at t k).sort) (given-solves how t legal own own_same k l)
      (meaning-fits how t k worked (α k) below (node_at t k).kind (node_at t k) (legal k l).before (legal k l).sorts (own-fits k l below) refl)

  -- ---- it is faithful
  same-init : (s : ℕ) → Sequential t s → dropped t ss (node_at t s).a ≡ true → value how (node_at t) α (node_at t s).a ≡ value how (node_at t) α (node_at t (node_at t s).a).a
  same-init s q b =
      let ok = state_ok t s legal q in
      let k : ℕ = (node_at t s).a in
      let i : ℕ = (node_at t k).a in
      let d : Value = given (taken σ.held k) k in
      value-worked k ok.inside ∙ sym (worked-state k ok.inside ok.state)
      ∙ ap (λ b. first worked (where_true b (operands (node_at t k))) d) b
      ∙ ap (λ os. first worked os d) (init-operand (node_at t k) ok.state q.init)
      ∙ sym (value-worked i (omega (arith, ok.inside, ok.init.before)))

  all-inits : (rest : List ℕ) → ((k : ℕ) → dropped t rest k ≡ true → dropped t ss k ≡ true) → All (Sequential t) rest → All (SameInit t (value how (node_at t) α)) rest
  all-inits [] within q = tt
  all-inits (s ∷ rest) within q = (
    (λ e. same-init s q.0 (within (node_at t s).a (dropped-here t s rest e))),
    all-inits rest (λ k b. within k (or_right (trivial t (node_at t s) && eqb (node_at t s).a k) (dropped t rest k) b)) q.1,
  )

  same-held : (h : Held) → Took t h → σ.mark h.state ≡ replaced h.by → taken σ.held h.state ≡ true → Same (worth_of how t α σ) h
  same-held h k e b =
      let d : Value = β h.state in
      worth-node how t α σ h.state k.inside ∙ value-worked h.state k.inside ∙ sym (worked-state h.state k.inside k.state)
      ∙ ap (λ os. first worked (where_true (dropped t ss h.state) os) (given (taken σ.held h.state) h.state)) k.bare
      ∙ no_operand (dropped t ss h.state) (given (taken σ.held h.state) h.state)
      ∙ ap (λ x. given x h.state) b ∙ ap (λ m. standing m d) e
      ∙ ap (λ x. cond x d (number (σ.rows h.by).a)) (le-ltb h.by (length t) (omega (arith, k.by))) ∙ sym (worth-made how t α σ h.by k.by)
    where
      no_operand : (b : Bool) (d : Value) → first worked (where_true b []) d ≡ d
      no_operand true d = refl
      no_operand false d = refl

  all_held : (hs : List Held) → ((k : ℕ) → taken hs k ≡ true → taken σ.held k ≡ true) → All (Took t) hs → Marked t σ.mark hs → All (Same (worth_of how t α σ)) hs
  all_held [] within k e = tt
  all_held (h ∷ hs) within k e = (
    same-held h k.0 e.0 (within h.state (ap (λ x. x || taken hs h.state) (eq-eqb h.state h.state refl))),
    all_held hs (λ j b. within j (or_right (eqb h.state j) (taken hs j) b)) k.1 e.1,
  )

  pub faithful : All (Sequential t) ss → All (Took t) σ.held → Marked t σ.mark σ.held → Faithful how t ss σ α
  faithful q k e =
      record {
        fits = λ j l i. own-fits j l (λ r h. worked-fits (suc r) r (omega arith) (omega arith)) i;
        inits = all-inits ss (λ k b. b) q;
        same = all_held σ.held (λ k b. b) k e;
      }

  pub unreplaced : (k : ℕ) → Unreplaced t ss σ k → α k ≡ β k
  unreplaced k u =
      ap (λ b. first worked (where_true b (operands (node_at t k))) (given (taken σ.held k) k)) (dropped-not t ss k u.0)
      ∙ ap (λ b. given b k) (taken_not σ.held k u.1)

-- of a call
pub faithful_of_call : FaithfulOfCall
unfolding FaithfulOfCall
faithful_of_call limits entry call a e β b =
    let p = passed limits entry call a e in
    let wf = call_formed limits entry call a p in
    let w = (folded a.model a.how wf a.folded p.folds).fine in
    let how : Reading = a.how.reading in
    let t : List Node = a.model.table in
    let ss : List ℕ = a.model.sequentials in (
      α how t wf.nodes a.folded.state w.shape ss β b,
      faithful how t wf.nodes a.folded.state w.shape ss β b wf.sequentials w.books.took w.marked,
      unreplaced how t wf.nodes a.folded.state w.shape ss β b,
    )
