-- What the checks do not refuse meets rules 3 to 7, and what meets them is not refused.
-- Each refusal is the first of a list; none is drawn exactly where every test of the list holds.
-- Assumes nothing.
use Prim.Native.Nat.{ℕ, zero, suc, ◌+◌, ◌<◌}
use mathlib.Core.Path.{◌≡◌, refl, sym, ap, ◌∙◌, subst}
use mathlib.Core.Logic.{◌≢◌}
use mathlib.Core.Bool.{Bool, true, false, ◌&&◌, ◌||◌, not}
use mathlib.Core.Option.{Option, none, some}
use mathlib.Core.List.{List, [], ◌∷◌, map}
use native.Mathlib.Omega.{arith}
use native.Mathlib.Nat.{zero-add, add-zero, add-suc, suc-add, not-suc-le-zero, le_of_suc-le-suc}
use lib.ListN.{length, get_or-map, length-map}
use lib.Dec.{ltb, eqb}
use borrow.Author.Tests.{eqb-true, eqb-false, eq-eqb, ne_eqb, ltb-true, lt-ltb, not-true}
use Rattle.rules.specs.Lists.{all_true, every, member, All}
use Rattle.rules.specs.Refusal.{Refusal, unless, first_of}
use Rattle.rules.specs.Table.{Next, Bad, Row, Node, decode, node_at, operands}
use Rattle.rules.specs.Check.{known_kind, known_sort, may_serve, sorted_as, sorted, rule5_at, rule3, rule4, rule5, check_node, check_nodes, sequential_entry, bad_entry, check_sequentials, check_bads, check}
use Rattle.rules.specs.Legal.{Legal, AllLegal, Sequential, BadEntry, Once, no_row, row_at, Accepted, Unrefused}
use Rattle.rules.proofs.Base.{no, and_both, all_map, is-kind, kind-is}

-- ---- tests read
all_true_lem : (bs : List Bool) → all_true bs ≡ true → All (λ b. b ≡ true) bs
all_true_lem [] e = tt
all_true_lem (b ∷ bs) e = let q = and_both b (all_true bs) e in (q.0, all_true_lem bs q.1)

each : (p : ℕ → Bool) (xs : List ℕ) → every p xs ≡ true → All (λ x. p x ≡ true) xs
each p [] e = tt
each p (x ∷ xs) e = let q = and_both (p x) (every p xs) e in (q.0, each p xs q.1)

-- ---- and held
pub all_hold : (bs : List Bool) → All (λ b. b ≡ true) bs → all_true bs ≡ true
all_hold [] h = refl
all_hold (b ∷ bs) h = ap (λ x. x && all_true bs) h.0 ∙ all_hold bs h.1

pub every_holds : (p : ℕ → Bool) (xs : List ℕ) → All (λ x. p x ≡ true) xs → every p xs ≡ true
every_holds p [] h = refl
every_holds p (x ∷ xs) h = ap (λ b. b && every p xs) h.0 ∙ every_holds p xs h.1

-- serving operands and sorts are all of rule 5
pub five-holds : (at : ℕ → Node) (nd : Node) → All (λ x. may_serve (at x) ≡ true) (operands nd) → All (λ b. b ≡ true) (sorted_as at nd.kind nd) → rule5_at at nd ≡ true
five-holds at nd h g = ap (λ b. b && all_true (sorted_as at nd.kind nd)) (every_holds (λ x. may_serve (at x)) (operands nd) h) ∙ all_hold (sorted_as at nd.kind nd) g

-- ---- refusals
faultless : (os : List (Option Refusal)) → first_of os ≡ none → All (λ o. o ≡ none) os
faultless [] e = tt
faultless (none ∷ os) e = (refl, faultless os e)
faultless (some r ∷ os) e = cc

held : (b : Bool) (r s p : ℕ) → unless b r s p ≡ none → b ≡ true
held true r s p e = refl
held false r s p e = cc

-- ---- every node
module _ (names : ℕ) (t : List Node) where
  node-passed : (rs : List Row) (k : ℕ) → check_nodes names t k rs ≡ none → (i : ℕ) → i < length rs → check_node names t (k + i) (row_at rs i) ≡ none
  unfolding check_nodes
  node-passed [] k e i l = absurd (not-suc-le-zero l)
  node-passed (r ∷ rs) k e zero l =
      subst (λ j. check_node names t j r ≡ none) (sym (add-zero k)) (faultless (check_node names t k r ∷ check_nodes names t (suc k) rs ∷ []) e).0
  node-passed (r ∷ rs) k e (suc i) l =
      subst (λ j. check_node names t j (row_at rs i) ≡ none) (suc-add k i ∙ sym (add-suc k i))
      (node-passed rs (suc k) (faultless (check_node names t k r ∷ check_nodes names t (suc k) rs ∷ []) e).1.0 i (le_of_suc-le-suc l))

module _ (names : ℕ) (rs : List Row) (e : check_nodes names (map decode rs) 0 rs ≡ none) where
  rules : (k : ℕ) → k < length rs → (rule3 names (row_at rs k) ≡ true) × (rule4 k (decode (row_at rs k)) ≡ true) × (rule5 (map decode rs) (decode (row_at rs k)) ≡ true)
  rules k l =
      let r : Row = row_at rs k in
      let t : List Node = map decode rs in
      let f = faultless (unless (rule3 names r) 3 1 k ∷ unless (rule4 k (decode r)) 4 1 k ∷ unless (rule5 t (decode r)) 5 1 k ∷ [])
      (subst (λ j. check_node names t j r ≡ none) (zero-add k) (node-passed names t rs 0 e k l)) in
      (held (rule3 names r) 3 1 k f.0, held (rule4 k (decode r)) 4 1 k f.1.0, held (rule5 t (decode r)) 5 1 k f.1.1.0)

  pub all-legal : AllLegal (map decode rs)
  all-legal k l =
      let t : List Node = map decode rs in
      let nd : Node = decode (row_at rs k) in
      let h = rules k (subst (λ n. k < n) (length-map rs decode) l) in
      let five = and_both (every (λ x. may_serve (node_at t x)) (operands nd)) (all_true (sorted t nd)) h.2 in
      subst (Legal t k) (sym (get_or-map decode rs k no_row))
      (record {
        known = (and_both (known_sort nd.sort) _ (and_both (known_kind (row_at rs k).code) _ h.0).1).0;
        before = all_map (λ x. ltb x k ≡ true) (λ x. x < k) (λ x q. ltb-true x k q) (operands nd) (each (λ x. ltb x k) (operands nd) h.1);
        serve = each (λ x. may_serve (node_at t x)) (operands nd) five.0;
        sorts = all_true_lem (sorted t nd) five.1;
      })

-- ---- the lists
module _ (t : List Node) where
  sequentials_ok : (place : ℕ) (seen ss : List ℕ) → check_sequentials t place seen ss ≡ none → All (Sequential t) ss
  unfolding check_sequentials
  sequentials_ok place seen [] q = tt
  sequentials_ok place seen (s ∷ ss) q =
      let f = faultless (unless (all_true (sequential_entry t s)) 6 2 place ∷ unless (not (member (node_at t s).a seen)) 7 2 place ∷ check_sequentials t (suc place) ((node_at t s).a ∷ seen) ss ∷ []) q in
      let h = all_true_lem (sequential_entry t s) (held (all_true (sequential_entry t s)) 6 2 place f.0) in
      (record { inside = ltb-true s (length t) h.0; next = is-kind Next (node_at t s) h.1.0; init = eqb-true _ 1 h.1.1.0 }, sequentials_ok (suc place) ((node_at t s).a ∷ seen) ss f.1.1.0)

  apart : (x y : ℕ) (seen : List ℕ) → member x (y ∷ seen) ≡ false → (x ≢ y) × (member x seen ≡ false)
  apart x y seen e = go (eqb x y) refl e
    where
      go : (b : Bool) → eqb x y ≡ b → (b || member x seen) ≡ false → (x ≢ y) × (member x seen ≡ false)
      go true q h = no (sym h)
      go false q h = (eqb-false x y q, h)

  once_ok : (place : ℕ) (seen ss : List ℕ) → check_sequentials t place seen ss ≡ none → Once t ss × All (λ s. member (node_at t s).a seen ≡ false) ss
  unfolding check_sequentials Once
  once_ok place seen [] q = (tt, tt)
  once_ok place seen (s ∷ ss) q =
      let f = faultless (unless (all_true (sequential_entry t s)) 6 2 place ∷ unless (not (member (node_at t s).a seen)) 7 2 place ∷ check_sequentials t (suc place) ((node_at t s).a ∷ seen) ss ∷ []) q in
      let n = not-true (member (node_at t s).a seen) (held (not (member (node_at t s).a seen)) 7 2 place f.1.0) in
      let r = once_ok (suc place) ((node_at t s).a ∷ seen) ss f.1.1.0 in
      let P : ℕ → Type 0 = λ r. member (node_at t r).a ((node_at t s).a ∷ seen) ≡ false in (
        (all_map P (λ r. (node_at t r).a ≢ (node_at t s).a) (λ r h. (apart (node_at t r).a (node_at t s).a seen h).0) ss r.1, r.0),
        (n, all_map P (λ r. member (node_at t r).a seen ≡ false) (λ r h. (apart (node_at t r).a (node_at t s).a seen h).1) ss r.1),
      )

  bads_ok : (section place : ℕ) (bs : List ℕ) → check_bads t section place bs ≡ none → All (BadEntry t) bs
  unfolding check_bads
  bads_ok section place [] q = tt
  bads_ok section place (b ∷ bs) q =
      let f = faultless (unless (all_true (bad_entry t b)) 6 section place ∷ check_bads t section (suc place) bs ∷ []) q in
      let h = all_true_lem (bad_entry t b) (held (all_true (bad_entry t b)) 6 section place f.0) in
      (record { inside = ltb-true b (length t) h.0; bad = is-kind Bad (node_at t b) h.1.0 }, bads_ok section (suc place) bs f.1.0)

pub accepted : Accepted
unfolding Accepted check
accepted names rs dump ss initial later ins reps e =
    let t : List Node = map decode rs in
    let f = faultless (check_nodes names t 0 rs ∷ check_sequentials t 0 [] ss ∷ check_bads t 3 0 initial ∷ check_bads t 4 0 later ∷ []) e in
    record {
      rows = λ k l. (rules names rs f.0 k l).0;
      model = record {
        nodes = all-legal names rs f.0;
        sequentials = sequentials_ok t 0 [] ss f.1.0;
        once = (once_ok t 0 [] ss f.1.0).0;
        initial = bads_ok t 3 0 initial f.1.1.0;
        later = bads_ok t 4 0 later f.1.1.1.0;
      };
    }

-- ---- what meets the rules is not refused
no-fault : (os : List (Option Refusal)) → All (λ o. o ≡ none) os → first_of os ≡ none
no-fault [] h = refl
no-fault (o ∷ os) h = ap (λ p. first_of (p ∷ os)) h.0 ∙ no-fault os h.1

unless-held : (b : Bool) (r s p : ℕ) → b ≡ true → unless b r s p ≡ none
unless-held b r s p e = ap (λ c. unless c r s p) e

nodes-pass : (names : ℕ) (t : List Node) (rs : List Row) (k : ℕ) → ((i : ℕ) → i < length rs → check_node names t (k + i) (row_at rs i) ≡ none) → check_nodes names t k rs ≡ none
unfolding check_nodes
nodes-pass names t [] k h = refl
nodes-pass names t (r ∷ rs) k h =
    no-fault (check_node names t k r ∷ check_nodes names t (suc k) rs ∷ []) (
      subst (λ j. check_node names t j r ≡ none) (add-zero k) (h zero (omega arith)),
      (nodes-pass names t rs (suc k) (λ i l. subst (λ j. check_node names t j (row_at rs i) ≡ none) (add-suc k i ∙ sym (suc-add k i)) (h (suc i) (omega arith))), tt),
    )

-- a legal node whose row passes rule 3
node_pass : (names : ℕ) (t : List Node) (k : ℕ) (r : Row) → rule3 names r ≡ true → Legal t k (decode r) → check_node names t k r ≡ none
node_pass names t k r e g =
    let nd : Node = decode r in
    no-fault (unless (rule3 names r) 3 1 k ∷ unless (rule4 k nd) 4 1 k ∷ unless (rule5 t nd) 5 1 k ∷ []) (
      unless-held (rule3 names r) 3 1 k e,
      (
        unless-held (rule4 k nd) 4 1 k (every_holds (λ x. ltb x k) (operands nd) (all_map (λ x. x < k) (λ x. ltb x k ≡ true) (λ x l. lt-ltb x k l) (operands nd) g.before)),
        (unless-held (rule5 t nd) 5 1 k (five-holds (node_at t) nd g.serve g.sorts), tt),
      ),
    )

module _ (t : List Node) where
  sequentials-pass : (place : ℕ) (seen ss : List ℕ) → All (Sequential t) ss → Once t ss → All (λ s. member (node_at t s).a seen ≡ false) ss → check_sequentials t place seen ss ≡ none
  unfolding check_sequentials Once
  sequentials-pass place seen [] h o n = refl
  sequentials-pass place seen (s ∷ ss) h o n =
      no-fault (unless (all_true (sequential_entry t s)) 6 2 place ∷ unless (not (member (node_at t s).a seen)) 7 2 place ∷ check_sequentials t (suc place) ((node_at t s).a ∷ seen) ss ∷ []) (
        unless-held (all_true (sequential_entry t s)) 6 2 place
            (all_hold (sequential_entry t s) (lt-ltb s (length t) h.0.inside, (kind-is Next (node_at t s) h.0.next, (eq-eqb _ 1 h.0.init, tt)))),
        (unless-held (not (member (node_at t s).a seen)) 7 2 place (ap not n.0), (sequentials-pass (suc place) ((node_at t s).a ∷ seen) ss h.1 o.1 (unseen ss o.0 n.1), tt)),
      )
    where
      unseen : (rs : List ℕ) → All (λ r. (node_at t r).a ≢ (node_at t s).a) rs → All (λ r. member (node_at t r).a seen ≡ false) rs → All (λ r. member (node_at t r).a ((node_at t s).a ∷ seen) ≡ false) rs
      unseen [] p q = tt
      unseen (r ∷ rs) p q = (ap (λ b. b || member (node_at t r).a seen) (ne_eqb (node_at t r).a (node_at t s).a p.0) ∙ q.0, unseen rs p.1 q.1)

  none_seen : (ss : List ℕ) → All (λ s. member (node_at t s).a [] ≡ false) ss
  none_seen [] = tt
  none_seen (s ∷ ss) = (refl, none_seen ss)

  bads_pass : (section place : ℕ) (bs : List ℕ) → All (BadEntry t) bs → check_bads t section place bs ≡ none
  unfolding check_bads
  bads_pass section place [] h = refl
  bads_pass section place (b ∷ bs) h =
      no-fault (unless (all_true (bad_entry t b)) 6 section place ∷ check_bads t section (suc place) bs ∷ [])
      (unless-held (all_true (bad_entry t b)) 6 section place (all_hold (bad_entry t b) (lt-ltb b (length t) h.0.inside, (kind-is Bad (node_at t b) h.0.bad, tt))), (bads_pass section (suc place) bs h.1, tt))

pub unrefused : Unrefused
unfolding Unrefused check
unrefused names rs dump ss initial later ins reps h =
    let t : List Node = map decode rs in
    no-fault (check_nodes names t 0 rs ∷ check_sequentials t 0 [] ss ∷ check_bads t 3 0 initial ∷ check_bads t 4 0 later ∷ []) (
      nodes-pass names t rs 0
          (λ i l. subst (λ j. check_node names t j (row_at rs i) ≡ none) (sym (zero-add i))
          (node_pass names t i (row_at rs i) (h.rows i l) (subst (Legal t i) (get_or-map decode rs i no_row) (h.model.nodes i (subst (λ n. i < n) (sym (length-map rs decode)) l))))),
      (
        sequentials-pass t 0 [] ss h.model.sequentials h.model.once (none_seen t ss),
        (bads_pass t 3 0 initial h.model.initial, (bads_pass t 4 0 later h.model.later, tt)),
      ),
    )
