-- The standard's reading: SMT-LIB's values kind by kind, over operands that fit their sorts, and the bound on writes of calls.
-- Assumes nothing.
use Prim.Native.Nat.{ℕ, zero, suc, ◌+◌, ◌-◌, ◌^◌, ◌<◌, ◌≤◌}
use mathlib.Core.Path.{◌≡◌, refl, sym, ap, ◌∙◌, subst}
use mathlib.Core.Logic.{◌≢◌}
use mathlib.Core.Bool.{Bool, true}
use mathlib.Core.List.{List}
use native.Mathlib.Omega.{arith}
use lib.ListN.{length}
use lib.Dec.{eqb, lit<}
use borrow.Author.Tests.{eqb-true, eqb-false, ltb-true, not-true}
use Rattle.btor.specs.Operators.{Op, Div, Rem, standard, compute, signed_div}
use Rattle.btor.specs.Sorts.{width}
use Rattle.btor.specs.Standard.{bv2nat, nat2bv, zero_extend, ite, test_bit}
use Rattle.btor.specs.Agreement.{StandardAgrees, ChoiceAgrees}
use Rattle.rules.specs.Lists.{All}
use Rattle.rules.specs.Table.{Kind, Const, Read, Write, Word, Ult, Ext, Ite, Eq, And, Or, Not, State, Next, Input, Bad, Node, node_at, operands_as, operands}
use Rattle.rules.specs.Check.{sorted_as}
use Rattle.rules.specs.Legal.{AllLegal}
use Rattle.rules.specs.Value.{Value, number, num, meaning, worth, value, Fits}
use Rattle.rules.specs.Demand.{Assigns}
use Rattle.rules.specs.Tally.{LookedRule}
use Rattle.rules.specs.Standard.{IsSmtLib, SmtLibOf, SmtLibAt, ValuesAgree, ValuesOnly, LookedOfCall, SaysOf, SmtLibCanFail}
use Rattle.btor.proofs.BitVectors.{number-of_fit}
use Rattle.btor.proofs.Sorts.{code-width_le}
use Rattle.btor.proofs.Agreement.{standard_agrees, widths_agree, tests_agree, same_truth, truth_one, choice_agrees}
use Rattle.rules.proofs.Base.{all_map}
use Rattle.rules.proofs.Words.{width-bit}
use Rattle.rules.proofs.Values.{meaning-same, fits-num, word-num, value-is, value-fits}
use Rattle.rules.proofs.Tally.{looked_rule}
use Rattle.rules.proofs.Call.{passed, call_formed}

-- ---- a row has SMT-LIB's value when its operands fit their sorts
module _ (rows : ℕ → Node) (v : ℕ → Value) (own : Value) where
  abbrev Fit : ℕ → Type 0
  Fit x = Fits (rows x).sort (v x)

  -- an operand's number: of a sort that is tested, of a word, of any but a memory
  sorted-number : (x s : ℕ) → Fit x → s ≢ 3 → eqb (rows x).sort s ≡ true → num (v x) < 2 ^ width s
  sorted-number x s f d e = (fits-num s d (v x) (subst (λ i. Fits i (v x)) (eqb-true (rows x).sort s e) f)).1

  word_number : (x : ℕ) → Fit x → eqb (rows x).sort 2 ≡ true → num (v x) < 2 ^ 64
  word_number x f e = (word-num 2 (v x) refl (subst (λ i. Fits i (v x)) (eqb-true (rows x).sort 2 e) f)).1

  own-number : (x : ℕ) → Fit x → (rows x).sort ≢ 3 → num (v x) < 2 ^ width (rows x).sort
  own-number x f d = (fits-num (rows x).sort d (v x) f).1

  extended : (w x : ℕ) → w ≤ 64 → x < 2 ^ w → x ≡ bv2nat 64 (zero_extend w (nat2bv x))
  extended w x l f =
      let e : w + (64 - w) ≡ 64 = omega arith in
      (widths_agree w).extend (64 - w) x f ∙ ap (λ (m : ℕ). bv2nat m (zero_extend w (nat2bv x))) e

  smt_lib : (K : Kind) (nd : Node) → All Fit (operands_as K nd) → All (λ b. b ≡ true) (sorted_as rows K nd)
      → IsSmtLib (width (rows nd.a).sort) K v own nd (meaning standard K v own nd)
  unfolding StandardAgrees ChoiceAgrees
  smt_lib Const nd b g = ap number (sym (number-of_fit (width nd.sort) nd.a (ltb-true nd.a (2 ^ width nd.sort) g.1.0)))
  smt_lib Read nd b g = refl
  smt_lib Write nd b g = refl
  smt_lib (Word op) nd b g = ap number (standard_agrees op (num (v nd.a)) (num (v nd.b)) (word_number nd.a b.0 g.1.0) (word_number nd.b b.1.0 g.1.1.0))
  smt_lib Ult nd b g =
      let d = eqb-false (rows nd.a).sort 3 (not-true _ g.1.1.0) in
      let e = eqb-true (rows nd.a).sort (rows nd.b).sort g.1.0 in
      ap number ((tests_agree (width (rows nd.a).sort)).ult (num (v nd.a)) (num (v nd.b)) (own-number nd.a b.0 d)
      (subst (λ s. num (v nd.b) < 2 ^ width s) (sym e) (own-number nd.b b.1.0 (λ z. d (e ∙ z)))))
  smt_lib Ext nd b g =
      let d = eqb-false (rows nd.a).sort 3 (not-true _ g.1.1.0) in
      ap number (extended (width (rows nd.a).sort) (num (v nd.a)) (code-width_le (rows nd.a).sort) (own-number nd.a b.0 d))
  smt_lib Ite nd b g =
      let l : num (v nd.a) < 2 ^ 1 = subst (λ w. num (v nd.a) < 2 ^ w) width-bit (sorted-number nd.a 1 b.0 (λ z. omega arith) g.0) in
      let truth = same_truth 1 (num (v nd.a)) 1 l (lit< tt) in
      (eqb (num (v nd.a)) 1, truth, choice_agrees Value (num (v nd.a)) (v nd.b) (v nd.c) (eqb (num (v nd.a)) 1) l truth)
  smt_lib Eq nd b g =
      let d = eqb-false (rows nd.a).sort 3 (not-true _ g.1.1.0) in
      let e = eqb-true (rows nd.a).sort (rows nd.b).sort g.1.0 in
      let x = own-number nd.a b.0 d in
      let y : num (v nd.b) < 2 ^ width (rows nd.a).sort = subst (λ s. num (v nd.b) < 2 ^ width s) (sym e) (own-number nd.b b.1.0 (λ z. d (e ∙ z))) in
      let truth = same_truth (width (rows nd.a).sort) (num (v nd.a)) (num (v nd.b)) x y in (
        eqb (num (v nd.a)) (num (v nd.b)),
        truth,
        ap number ((tests_agree (width (rows nd.a).sort)).eq (num (v nd.a)) (num (v nd.b)) (eqb (num (v nd.a)) (num (v nd.b))) x y truth),
      )
  smt_lib And nd b g =
      let d = eqb-false nd.sort 3 (not-true _ g.0) in
      ap number ((widths_agree (width nd.sort)).and (num (v nd.a)) (num (v nd.b)) (sorted-number nd.a nd.sort b.0 d g.1.0) (sorted-number nd.b nd.sort b.1.0 d g.1.1.0))
  smt_lib Or nd b g =
      let d = eqb-false nd.sort 3 (not-true _ g.0) in
      ap number ((widths_agree (width nd.sort)).or (num (v nd.a)) (num (v nd.b)) (sorted-number nd.a nd.sort b.0 d g.1.0) (sorted-number nd.b nd.sort b.1.0 d g.1.1.0))
  smt_lib Not nd b g =
      let d = eqb-false nd.sort 3 (not-true _ g.0) in
      ap number ((widths_agree (width nd.sort)).complement (num (v nd.a)) (sorted-number nd.a nd.sort b.0 d g.1.0))
  smt_lib State nd b g = refl
  smt_lib Next nd b g = refl
  smt_lib Input nd b g = refl
  smt_lib Bad nd b g = refl

-- of a table as given
module _ (t : List Node) (α : ℕ → Value) (legal : AllLegal t) (v : ℕ → Value) (k : ℕ) (l : k < length t) (fit : (j : ℕ) → j < k → Fits (node_at t j).sort (v j)) where
  given_smt_lib : SmtLibOf (node_at t) v (α k) (node_at t k) (worth standard v (α k) (node_at t k))
  given_smt_lib =
      smt_lib (node_at t) v (α k) (node_at t k).kind (node_at t k) (all_map (λ x. x < k) (λ x. Fits (node_at t x).sort (v x)) fit (operands (node_at t k)) (legal k l).before) (legal k l).sorts

pub values_agree : ValuesAgree
unfolding ValuesAgree
values_agree t α legal assigned k l =
    let v : ℕ → Value = value standard (node_at t) α in
    subst (SmtLibOf (node_at t) v (α k) (node_at t k)) (value-is standard t α legal k l)
    (given_smt_lib t α legal v k l (λ j i. value-fits standard t α legal assigned j (omega arith)))

-- ---- and no other
smt_lib_one : (w : ℕ) (K : Kind) (v : ℕ → Value) (own : Value) (nd : Node) (r s : Value) → IsSmtLib w K v own nd r → IsSmtLib w K v own nd s → r ≡ s
smt_lib_one w Const v own nd r s p q = p ∙ sym q
smt_lib_one w Read v own nd r s p q = p ∙ sym q
smt_lib_one w Write v own nd r s p q = p ∙ sym q
smt_lib_one w (Word op) v own nd r s p q = p ∙ sym q
smt_lib_one w Ult v own nd r s p q = p ∙ sym q
smt_lib_one w Ext v own nd r s p q = p ∙ sym q
smt_lib_one w Ite v own nd r s p q = p.2 ∙ ap (λ (t : Bool). ite t (v nd.b) (v nd.c)) (truth_one p.0 q.0 p.1 q.1) ∙ sym q.2
smt_lib_one w Eq v own nd r s p q = p.2 ∙ ap (λ (t : Bool). number (bv2nat 1 (test_bit t))) (truth_one p.0 q.0 p.1 q.1) ∙ sym q.2
smt_lib_one w And v own nd r s p q = p ∙ sym q
smt_lib_one w Or v own nd r s p q = p ∙ sym q
smt_lib_one w Not v own nd r s p q = p ∙ sym q
smt_lib_one w State v own nd r s p q = p ∙ sym q
smt_lib_one w Next v own nd r s p q = p ∙ sym q
smt_lib_one w Input v own nd r s p q = p ∙ sym q
smt_lib_one w Bad v own nd r s p q = p ∙ sym q

module _ (t : List Node) (α : ℕ → Value) (legal : AllLegal t) (assigned : Assigns t α) (v : ℕ → Value) (is : (k : ℕ) → k < length t → SmtLibAt t α v k) where
  abbrev u : ℕ → Value
  u = value standard (node_at t) α

  only_below : (m k : ℕ) → k < m → k < length t → v k ≡ u k
  only_below zero k h l = absurd (omega arith)
  only_below (suc m) k h l =
      let nd : Node = node_at t k in
      let below : (j : ℕ) → j < k → v j ≡ u j = λ j i. only_below m j (omega arith) (omega arith) in
      let fit : (j : ℕ) → j < k → Fits (node_at t j).sort (v j) = λ j i. subst (Fits (node_at t j).sort) (sym (below j i)) (value-fits standard t α legal assigned j (omega arith)) in
      smt_lib_one (width (node_at t nd.a).sort) nd.kind v (α k) nd (v k) (worth standard v (α k) nd) (is k l) (given_smt_lib t α legal v k l fit)
      ∙ meaning-same standard nd.kind nd v u (α k) (all_map (λ x. x < k) (λ x. v x ≡ u x) below (operands_as nd.kind nd) (legal k l).before)
      ∙ value-is standard t α legal k l

pub values-only : ValuesOnly
unfolding ValuesOnly
values-only t α legal assigned v is k l = only_below t α legal assigned v is (suc k) k (omega arith) l

pub looked_of_call : LookedOfCall
unfolding LookedOfCall LookedRule
looked_of_call limits entry call a e =
    let p = passed limits entry call a e in
    looked_rule a.model a.how a.folded (call_formed limits entry call a p) p.folds

-- ---- it can fail
says : (op : Op) (x y r : ℕ) → x < 2 ^ 64 → y < 2 ^ 64 → compute standard op x y ≡ r → SaysOf op x y r
unfolding StandardAgrees
says op x y r hx hy e = ap number (sym e ∙ standard_agrees op x y hx hy)

says-not : (op : Op) (x y r : ℕ) → x < 2 ^ 64 → y < 2 ^ 64 → compute standard op x y ≢ r → SaysOf op x y r → ⊥
unfolding StandardAgrees
says-not op x y r hx hy d e = d (standard_agrees op x y hx hy ∙ sym (ap num e))

pub smt_lib_can_fail : SmtLibCanFail
unfolding SmtLibCanFail compute signed_div
smt_lib_can_fail = (
  (says Div 5 0 (2 ^ 64 - 1) (lit< tt) (lit< tt) refl, says-not Div 5 0 (2 ^ 63 - 1) (lit< tt) (lit< tt) (λ z. omega (arith, z))),
  (says Div (2 ^ 63) 0 1 (lit< tt) (lit< tt) refl, says-not Div (2 ^ 63) 0 (2 ^ 64 - 1) (lit< tt) (lit< tt) (λ z. omega (arith, z))),
  (says Div (2 ^ 63) (2 ^ 64 - 1) (2 ^ 63) (lit< tt) (lit< tt) refl, says-not Div (2 ^ 63) (2 ^ 64 - 1) (2 ^ 63 - 1) (lit< tt) (lit< tt) (λ z. omega (arith, z))),
  (says Rem 5 0 5 (lit< tt) (lit< tt) refl, says-not Rem 5 0 (2 ^ 64 - 1) (lit< tt) (lit< tt) (λ z. omega (arith, z))),
)
