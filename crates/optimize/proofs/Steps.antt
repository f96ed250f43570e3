-- Settling a node and putting a question: what the buffers hold afterwards is the rules' outcome.
-- Assumes nothing.
use Prim.Native.Nat.{ℕ, ◌+◌, ◌-◌, ◌*◌, ◌<◌, ◌≤◌}
use mathlib.Core.Path.{◌≡◌, refl}
use mathlib.Core.Bool.{Bool, true, false, cond}
use mathlib.Core.List.{List, []}
use Rattle.std.specs.Prelude.{Ok, Err}
use Rattle.std.proofs.Common.{add-zero}
use Rattle.std.specs.Int.{from_bool}
use native.Mathlib.Omega.{arith}
use lib.ListN.{length, drop, length-drop}
use lib.Dec.{eqb}
use borrow.Author.Tests.{le-leb, lt-leb}
use Rattle.rules.specs.Refusal.{Out}
use Rattle.rules.specs.Walk.{St, Held, kept, replaced, set_mark, add_const}
use Rattle.rules.specs.Questions.{ask, most, first_reply, other_replies}
use Rattle.rules.specs.Visit.{Ways, settle}
use Rattle.tables.specs.declared.refusal.Refusal.{Refusal}
use Rattle.optimize.specs.declared.walk.Walk.{Walk}
use Rattle.optimize.specs.declared.fold.Constant.{Constant}
use Rattle.optimize.specs.declared.fold.Folded.{Folded}
use Rattle.optimize.specs.Bounds.{count_of}
use Rattle.optimize.specs.View.{node_of, table_of, view, outcome_of, fold_is}
use Rattle.optimize.proofs.Views.{four, four_below, four_0, four_1, four_2, four_3, firsts-length, marks-same, asked-more}

-- ---- settling
pub table-length : (g : List ℕ) → length (table_of g) ≡ count_of g
unfolding table_of
table-length g = firsts-length (count_of g) (node_of g)

pub made-is : (h : List Held) (g inputs replies R S : List ℕ) (w : Walk) → (view h g inputs replies R S w).made ≡ w.made
unfolding view
made-is h g inputs replies R S w = refl

module _ (g : List ℕ) (ways : Ways) (k : ℕ) (f : Folded) (σ τ : St) where
  pub settled-stays : f ≡ Folded.Stays → τ ≡ set_mark σ k kept → outcome_of τ (Ok k) ≡ settle (table_of g) ways k σ (fold_is (count_of g) f)
  unfolding outcome_of settle
  settled-stays e m = rw (e, m)

  pub settled_swap : (r : ℕ) → f ≡ Folded.Swap r → τ ≡ set_mark σ k (replaced r) → outcome_of τ (Ok r) ≡ settle (table_of g) ways k σ (fold_is (count_of g) f)
  unfolding outcome_of settle
  settled_swap r e m = rw (e, m)

  pub settled_shared : (m r : ℕ) (t : Bool) → f ≡ Folded.Shared t → m ≡ count_of g → r ≡ from_bool t
      → τ ≡ set_mark σ k (replaced (m + r)) → outcome_of τ (Ok (m + r)) ≡ settle (table_of g) ways k σ (fold_is (count_of g) f)
  unfolding outcome_of settle
  settled_shared m r true e i b c = rw (e, c, b, i)
  settled_shared m r false e i b c = rw (e, c, b, i, add-zero (count_of g))

  pub settled_make : (υ : St) (m n : ℕ) (c : Constant) → f ≡ Folded.Make c → n ≡ count_of g → σ.made ≡ m → υ ≡ add_const σ (count_of g + 2 + m) c.sort c.value
      → τ ≡ set_mark υ k (replaced (n + 2 + m)) → outcome_of τ (Ok (n + 2 + m)) ≡ settle (table_of g) ways k σ (fold_is (count_of g) f)
  unfolding outcome_of settle
  settled_make υ m n c e i d a p = rw (e, p, a, i, table-length g, d)

-- ---- asking
pub same-reply : (τ : St) (o : Out (St × ℕ)) (r r' : ℕ) → r ≡ r' → outcome_of τ (Ok r') ≡ o → outcome_of τ (Ok r) ≡ o
same-reply τ o r r' e p = rw e p

-- the greatest reply that a question can have
small-if : (b : Bool) → cond b 2 1 ≤ 2
small-if true = omega arith
small-if false = omega arith

pub most-small : (q : ℕ) → most q ≤ 2
most-small q = small-if (eqb q 4)

module _ (h : List Held) (g inputs replies R S : List ℕ) (w : Walk) (q x y r m : ℕ) (er : r ≡ first_reply (drop w.used replies)) (em : m ≡ most q) where
  pub ask-refused : (τ : St) → m < r → w.used < length replies → outcome_of τ (Err (Refusal.Reply w.used)) ≡ ask (length replies) (view h g inputs replies R S w) q x y []
  unfolding outcome_of ask view
  ask-refused τ l u =
      let p : length replies - length (drop w.used replies) ≡ w.used = omega (arith, length-drop w.used replies) in
      rw (ask, lt-leb (first_reply (drop w.used replies)) (most q) (omega arith), p)

  pub ask-done : (n q' x' y' t : ℕ) → r ≤ m → n ≡ count_of g → q' ≡ q → x' ≡ x → y' ≡ y → drop t replies ≡ other_replies (drop w.used replies) → 2 * n + 4 * w.asked + 3 < length S
      → outcome_of (view h g inputs replies R (four S (2 * n + 4 * w.asked) q' x' y' r) (record { made = w.made; taken = w.taken; used = t; asked = w.asked + 1; looked = w.looked; passed = w.passed })) (Ok r)
      ≡ ask (length replies) (view h g inputs replies R S w) q x y []
  unfolding outcome_of ask view
  ask-done n q' x' y' t l i eq ex ey et room =
      let e : ℕ = 2 * count_of g + 4 * w.asked in
      let z : ℕ = first_reply (drop w.used replies) in
      let T : List ℕ = four S e q x y z in
      rw (
        i,
        eq,
        ex,
        ey,
        et,
        er,
        marks-same (count_of g) S T (λ j k. four_below S e q x y z j (omega arith)),
        asked-more (count_of g) w.asked S T q x y z (λ j k. four_below S e q x y z j k) (four_0 S e q x y z (omega arith)) (four_1 S e q x y z (omega arith)) (four_2 S e q x y z (omega arith)) (four_3 S e q x y z (omega arith)),
        ask,
        le-leb z (most q) (omega arith),
      )
