-- Visiting a node keeps every value: the node's rewritten row is worth what the node is, its operands what the given ones are, and so is what stands for it.
-- By cases on the kind; each kind's rule for rows is the values' own, and each fold's is a law of Folds.
-- Assumes nothing.
use Prim.Native.Nat.{ℕ, zero, suc, ◌+◌, ◌<◌, ◌^◌}
use mathlib.Core.Path.{◌≡◌, refl, sym, ap, ap₂, ◌∙◌, subst}
use mathlib.Core.Logic.{◌≢◌}
use mathlib.Core.Bool.{Bool, true, false, cond, not}
use mathlib.Core.Option.{Option, none, some}
use mathlib.Core.List.{List, [], ◌∷◌, map}
use native.Mathlib.Omega.{arith}
use lib.ListN.{length}
use lib.Dec.{eqb}
use lib.Bits.{bit_and, bit_or}
use borrow.Author.Tests.{eqb-true, eqb-false, eq-eqb, not-true}
use Rattle.btor.specs.Operators.{compute, complement, bit, less}
use Rattle.btor.specs.Sorts.{width}
use Rattle.rules.specs.Lists.{All}
use Rattle.rules.specs.Refusal.{Out, done, ◌>>=◌}
use Rattle.rules.specs.Table.{Kind, Const, Read, Write, Word, Ult, Ext, Ite, Eq, And, Or, Not, State, Next, Input, Bad, Node, with, node_at, is, operands_as, operands, fits}
use Rattle.rules.specs.Legal.{Legal, AllLegal}
use Rattle.rules.specs.Value.{Value, number, num, mem, written, meaning, worth, Fits}
use Rattle.rules.specs.Walk.{St, Mark, fresh, kept, replaced, set_row, add_const, set_inputs, add_held, add_tally}
use Rattle.rules.specs.Fold.{Fold, stays, swap, const_of, fold_words, fold_test, fold_eq, fold_and, fold_or, fold_not, fold_ext, fold_const}
use Rattle.rules.specs.Memory.{Found, find, fold_found, passed_by}
use Rattle.rules.specs.Questions.{quiet, ask_bit, ask_and, ask_ite}
use Rattle.rules.specs.Visit.{Ways, Branch, left, right, undecided, branch, settle, finish, visit1, visit2, visit3, unary, binary, forward, ite_on, take_input, process, visit_marked, visit}
use Rattle.rules.specs.Demand.{Same}
use Rattle.btor.proofs.Agreement.{cases}
use Rattle.rules.proofs.Base.{mk, cases_cond, no, all_left, all_right, word-not-write, if-map}
use Rattle.rules.proofs.Values.{fits-num}
use Rattle.rules.proofs.Folds.{ConstOk, FoldOk, RowOk, const_ok, fold_words_ok, fold_ext_ok, fold_test_ok, fold_eq_ok, fold_const_ok, fold_not_ok, fold_and_ok, fold_or_ok, FoundValue, FoundOk, find_ok}
use Rattle.rules.proofs.Triple.{Ok, MarkOk, GivenOk, Inv, Goes, bind, row_step, row_inv, mark_step, mark_inv, const_step, const_inv, settle_ok, ask_bit_ok, ask_and_ok, ask_ite_ok, quiet_ok, finish_ok}

-- the two operands that a node is left with are worth what its operands are
abbrev Two : (ℕ → Value) → Node → ℕ × ℕ → Type 0
Two v nd xy = (v xy.0 ≡ v nd.a) × (v xy.1 ≡ v nd.b)

module _ (t : List Node) (ways : Ways) (v : ℕ → Value) where
  -- ---- a node rewritten, when visiting a smaller one is right
  module _ (n_false : v (length t) ≡ number 0) (n_true : v (length t + 1) ≡ number 1) (sized : (k : ℕ) → k < length t → Fits (node_at t k).sort (v k))
      (vis : St → ℕ → Out (St × ℕ))
      (vis_ok : (P : Type 0) (σ : St) (j : ℕ) → j < length t → Goes t ways v P σ (λ r. v r ≡ v j) (vis σ j)) where
    -- a row that may be stored at k
    abbrev RowIs : ℕ → Node → Type 0
    RowIs k nd = GivenOk t v k nd × RowOk v ways.reading k nd

    -- store a rewritten row, with a result that holds already
    store : {B : Type 0} (P : Type 0) (σ : St) (k : ℕ) (nd : Node) (Q : B → Type 0) (x : B) → k < length t → (P → RowIs k nd) → (P → Q x)
        → Goes t ways v P σ Q (done (set_row σ k nd, x))
    store P σ k nd Q x l h q = λ o. (row_step t ways v σ k nd l o, λ p i. (row_inv t ways v σ k nd (h p) i, q p))

    -- store a rewritten row, and go on
    stored : {B : Type 0} (P : Type 0) (σ : St) (k : ℕ) (nd : Node) (Q : B → Type 0) (m : Out (St × B)) → k < length t → (P → RowIs k nd)
        → Goes t ways v P (set_row σ k nd) Q m → Goes t ways v P σ Q m
    stored P σ k nd Q m l h g = if-map _ _ m (λ x g o. let b = g o in (row_step t ways v σ k nd l b.0, λ p i. b.1 p (row_inv t ways v σ k nd (h p) i))) g

    -- visit an operand, or two, and go on: what each is left with is worth what it is
    operand_ok : {B : Type 0} (P : Type 0) (σ : St) (i : ℕ) (Q : B → Type 0) (f : St × ℕ → Out (St × B)) → i < length t
        → ((σ₁ : St) (x : ℕ) → Goes t ways v (P × (v x ≡ v i)) σ₁ Q (f (σ₁, x))) → Goes t ways v P σ Q (vis σ i >>= f)
    operand_ok P σ i Q f l g = bind t ways v P σ (λ x. v x ≡ v i) Q (vis σ i) f (vis_ok P σ i l) g

    operands_ok : {B : Type 0} (P : Type 0) (σ : St) (i j : ℕ) (Q : B → Type 0) (f : St × ℕ → St × ℕ → Out (St × B)) → i < length t → j < length t
        → ((σ₁ σ₂ : St) (x y : ℕ) → Goes t ways v ((P × (v x ≡ v i)) × (v y ≡ v j)) σ₂ Q (f (σ₁, x) (σ₂, y)))
        → Goes t ways v P σ Q (vis σ i >>= λ p. vis p.0 j >>= f p)
    operands_ok P σ i j Q f li lj g = operand_ok P σ i Q _ li (λ σ₁ x. operand_ok (P × (v x ≡ v i)) σ₁ j Q (f (σ₁, x)) lj (λ σ₂ y. g σ₁ σ₂ x y))

    module _ (P : Type 0) (σ : St) (k : ℕ) (nd : Node) (l : k < length t) where
      visit1_ok : nd.a < length t → ((x : ℕ) → v x ≡ v nd.a → RowIs k (with nd x nd.b nd.c))
          → Goes t ways v P σ (λ x. v x ≡ v nd.a) (visit1 vis σ k nd)
      unfolding visit1
      visit1_ok la h =
          operand_ok P σ nd.a (λ x. v x ≡ v nd.a) _ la
          (λ σ₁ x. store (P × (v x ≡ v nd.a)) σ₁ k (with nd x nd.b nd.c) (λ x. v x ≡ v nd.a) x l (λ p. h x p.1) (λ p. p.1))

      visit2_ok : nd.a < length t → nd.b < length t
          → ((x y : ℕ) → v x ≡ v nd.a → v y ≡ v nd.b → RowIs k (with nd x y nd.c))
          → Goes t ways v P σ (Two v nd) (visit2 vis σ k nd)
      unfolding visit2
      visit2_ok la lb h =
          operands_ok P σ nd.a nd.b (Two v nd) _ la lb
          (λ σ₁ σ₂ x y. store {B = ℕ × ℕ} ((P × (v x ≡ v nd.a)) × (v y ≡ v nd.b)) σ₂ k (with nd x y nd.c) (Two v nd) (x, y) l (λ p. h x y p.0.1 p.1) (λ p. (p.0.1, p.1)))

      visit3_ok : nd.a < length t → nd.b < length t → nd.c < length t
          → ((x y z : ℕ) → v x ≡ v nd.a → v y ≡ v nd.b → v z ≡ v nd.c → RowIs k (with nd x y z))
          → Goes t ways v P σ (λ (xyz : ℕ × ℕ × ℕ). Unit {0}) (visit3 vis σ k nd)
      unfolding visit3
      visit3_ok la lb lc h =
          operands_ok P σ nd.a nd.b (λ xyz. Unit {0}) _ la lb
          (λ σ₁ σ₂ x y. operand_ok ((P × (v x ≡ v nd.a)) × (v y ≡ v nd.b)) σ₂ nd.c (λ xyz. Unit {0}) _ lc
          (λ σ₃ z. store {B = ℕ × ℕ × ℕ} (((P × (v x ≡ v nd.a)) × (v y ≡ v nd.b)) × (v z ≡ v nd.c)) σ₃ k (with nd x y z) (λ xyz. Unit {0}) (x, y, z) l
          (λ p. h x y z p.0.0.1 p.0.1 p.1) (λ p. tt)))

      unary_ok : (fold : Option ℕ → Fold) → nd.a < length t → ((x : ℕ) → v x ≡ v nd.a → RowIs k (with nd x nd.b nd.c))
          → ((x : ℕ) (cx : Option ℕ) → v x ≡ v nd.a → ConstOk cx (v x) → FoldOk v (v k) (fold cx))
          → Goes t ways v P σ (λ r. v r ≡ v k) (unary t ways vis σ k nd fold)
      unfolding unary
      unary_ok fold la h g =
          bind t ways v P σ (λ x. v x ≡ v nd.a) (λ r. v r ≡ v k) (visit1 vis σ k nd) _ (visit1_ok la h)
          (λ σ₁ x. settle_ok t ways v (P × (v x ≡ v nd.a)) k σ₁ (fold (const_of σ₁.rows x))
          (λ p i. g x (const_of σ₁.rows x) p.1 (const_ok v ways.reading σ₁.rows x (i.rows_ok x))))

      binary_ok : (fold : ℕ → ℕ → Option ℕ → Option ℕ → Fold) (more : St → Out (St × Fold)) → nd.a < length t → nd.b < length t
          → ((x y : ℕ) → v x ≡ v nd.a → v y ≡ v nd.b → RowIs k (with nd x y nd.c))
          → ((x y : ℕ) (cx cy : Option ℕ) → v x ≡ v nd.a → v y ≡ v nd.b → ConstOk cx (v x) → ConstOk cy (v y) → FoldOk v (v k) (fold x y cx cy))
          → ((P' : Type 0) (σ₁ : St) → Goes t ways v P' σ₁ (FoldOk v (v k)) (more σ₁))
          → Goes t ways v P σ (λ r. v r ≡ v k) (binary t ways vis σ k nd fold more)
      unfolding binary
      binary_ok fold more la lb h g m =
          bind t ways v P σ (Two v nd) (λ r. v r ≡ v k) (visit2 vis σ k nd) _
          (visit2_ok la lb h)
          (λ σ₁ xy. finish_ok t ways v _ k σ₁ (fold xy.0 xy.1 (const_of σ₁.rows xy.0) (const_of σ₁.rows xy.1)) more
          (λ p i. g xy.0 xy.1 (const_of σ₁.rows xy.0) (const_of σ₁.rows xy.1) p.1.0 p.1.1
          (const_ok v ways.reading σ₁.rows xy.0 (i.rows_ok xy.0)) (const_ok v ways.reading σ₁.rows xy.1 (i.rows_ok xy.1)))
          (m _))

    forward_ok : (P : Type 0) (k : ℕ) (σ : St) (m y : ℕ) (c : Option ℕ) → (P → ConstOk c (v y)) → (P → number (mem (v m) (num (v y))) ≡ v k)
        → Goes t ways v P σ (λ r. v r ≡ v k) (forward t ways k σ m c)
    unfolding forward
    forward_ok P k σ m y none h e = settle_ok t ways v P k σ stays (λ p i. tt)
    forward_ok P k σ m y (some x) h e = go (find ways.reading (length t) σ.rows x m) (λ i. find_ok v ways.reading σ.rows i.rows_ok x (length t) m)
      where
        clean_tally : (a b : ℕ) → a + b ≡ 0 → (a ≡ 0) × (b ≡ 0)
        clean_tally a b z = (omega arith, omega arith)

        tally : (σ₁ : St) (l u : ℕ) → Ok t ways v (add_tally σ₁ l u) → Ok t ways v σ₁ × (u ≡ 0)
        tally σ₁ l u o =
            let z = clean_tally σ₁.passed u o.clean in
            (record { clean = z.0; told = o.told; same = o.same; news = o.news }, z.1)

        found : (o : Option ℕ) (u : ℕ) → passed_by o u ≡ 0 → FoundValue v o u (v m) x → P → FoldOk v (v k) (fold_found o)
        found none u z f p = tt
        found (some r) u z f p = f z ∙ ap (λ q. number (mem (v m) (num q))) (sym (h p)) ∙ e p

        after : (r : Found) (out : Out (St × ℕ)) → Goes t ways v ((P × (passed_by r.value r.unsettled ≡ 0))) (add_tally σ r.looked (passed_by r.value r.unsettled)) (λ r. v r ≡ v k) out
            → Goes t ways v P σ (λ r. v r ≡ v k) out
        after r out g =
            if-map _ _ out (λ d g o.
            let b = g o in
            let z = tally σ r.looked (passed_by r.value r.unsettled) b.0 in
            (z.0, λ p i. b.1 (p, z.1) (assumption i))) g

        go : (r : Found) → (Inv t ways v σ → FoundOk v r (v m) x)
            → Goes t ways v P σ (λ r. v r ≡ v k) (settle t ways k (add_tally σ r.looked (passed_by r.value r.unsettled)) (fold_found r.value))
        go r f =
            after r (settle t ways k (add_tally σ r.looked (passed_by r.value r.unsettled)) (fold_found r.value))
            (settle_ok t ways v (P × (passed_by r.value r.unsettled ≡ 0)) k (add_tally σ r.looked (passed_by r.value r.unsettled)) (fold_found r.value)
            (λ p i. found r.value r.unsettled p.1 (f (assumption i)) p.0))

    -- what Inv shows may be assumed
    learn : {B : Type 0} (P R : Type 0) (σ : St) (Q : B → Type 0) (m : Out (St × B)) → (P → Inv t ways v σ → R) → Goes t ways v (P × R) σ Q m → Goes t ways v P σ Q m
    learn P R σ Q m h g = if-map _ _ m (λ x g o. let b = g o in (b.0, λ p i. b.1 (p, h p i) i)) g

    BranchOk : Branch → ℕ → Type 0
    BranchOk left x = num (v x) ≡ 1
    BranchOk right x = num (v x) ≡ 0
    BranchOk undecided x = Unit

    branch_ok : (c : Option ℕ) (x : ℕ) → ConstOk c (v x) → BranchOk (branch c) x
    unfolding BranchOk
    branch_ok none x h = tt
    branch_ok (some y) x h =
        cases_cond (λ b. BranchOk b x) (eqb y 1) (λ e. ap num h ∙ eqb-true y 1 e)
        (λ _. cases_cond (λ b. BranchOk b x) (eqb y 0) (λ e. ap num h ∙ eqb-true y 0 e) (λ _. tt))

    module _ (k : ℕ) (nd : Node) (l : k < length t) (lb : nd.b < length t) (lc : nd.c < length t)
        (e : cond (eqb (num (v nd.a)) 1) (v nd.b) (v nd.c) ≡ v k)
        (row : (x y z : ℕ) → v x ≡ v nd.a → v y ≡ v nd.b → v z ≡ v nd.c → RowIs k (with nd x y z)) where
      -- the branch i is chosen: what stands for it takes k's place
      chosen_ok : (P : Type 0) (σ : St) (i : ℕ) (rewritten : ℕ → Node) → i < length t → ((y : ℕ) → P → v y ≡ v i → RowIs k (rewritten y)) → (P → v i ≡ v k)
          → Goes t ways v P σ (λ r. v r ≡ v k) (vis σ i >>= λ p. settle t ways k (set_row p.0 k (rewritten p.1)) (swap p.1))
      chosen_ok P σ i rewritten li h g =
          operand_ok P σ i (λ r. v r ≡ v k) _ li
          (λ σ₁ y. stored (P × (v y ≡ v i)) σ₁ k (rewritten y) (λ r. v r ≡ v k) (settle t ways k (set_row σ₁ k (rewritten y)) (swap y)) l (λ p. h y p.0 p.1)
          (settle_ok t ways v (P × (v y ≡ v i)) k (set_row σ₁ k (rewritten y)) (swap y) (λ p i. p.1 ∙ g p.0)))

      ite_on_ok : (P : Type 0) (σ : St) (x : ℕ) (c : Branch) → (P → v x ≡ v nd.a) → (P → BranchOk c x)
          → Goes t ways v P σ (λ r. v r ≡ v k) (ite_on t ways vis σ k nd x c)
      unfolding ite_on BranchOk
      ite_on_ok P σ x left hx hc =
          chosen_ok P σ nd.b (λ y. with nd x y nd.c) lb (λ y p q. row x y nd.c (hx p) q refl)
          (λ p. ap (λ b. cond b (v nd.b) (v nd.c)) (sym (eq-eqb (num (v nd.a)) 1 (ap num (sym (hx p)) ∙ hc p))) ∙ e)
      ite_on_ok P σ x right hx hc =
          chosen_ok P σ nd.c (λ z. with nd x nd.b z) lc (λ z p q. row x nd.b z (hx p) refl q)
          (λ p. ap (λ b. cond b (v nd.b) (v nd.c)) (sym (ap (λ q. eqb q 1) (ap num (sym (hx p)) ∙ hc p))) ∙ e)
      ite_on_ok P σ x undecided hx hc =
          operands_ok P σ nd.b nd.c (λ r. v r ≡ v k) _ lb lc
          (λ σ₁ σ₂ y z. stored ((P × (v y ≡ v nd.b)) × (v z ≡ v nd.c)) σ₂ k (with nd x y z) (λ r. v r ≡ v k)
          (finish t ways k (set_row σ₂ k (with nd x y z)) stays (ask_ite ways.reply_count (length t) nd.sort k x y z)) l (λ p. row x y z (hx p.0.0) p.0.1 p.1)
          (finish_ok t ways v ((P × (v y ≡ v nd.b)) × (v z ≡ v nd.c)) k (set_row σ₂ k (with nd x y z)) stays (ask_ite ways.reply_count (length t) nd.sort k x y z) (λ p i. tt)
          (ask_ite_ok t ways v n_false n_true ways.reply_count _ k nd.sort x y z)))

    take_input_ok : (P : Type 0) (σ : St) (k : ℕ) (nd : Node) (xs : List ℕ) → Goes t ways v P σ (λ r. v r ≡ v k) (take_input t ways σ k nd xs)
    unfolding settle take_input
    take_input_ok P σ k nd [] = settle_ok t ways v P k σ stays (λ p i. tt)
    take_input_ok P σ k nd (x ∷ xs) =
        cases (Goes t ways v P σ (λ r. v r ≡ v k)) (ways.dump nd.name)
        (λ _. settle_ok t ways v P k σ stays (λ p i. tt))
        (λ _. cases (Goes t ways v P σ (λ r. v r ≡ v k)) (eqb nd.sort 3) (λ _. tt)
        (λ _. cases (Goes t ways v P σ (λ r. v r ≡ v k)) (fits nd.sort x)
        (λ _ o.
        let r : ℕ = length t + 2 + σ.made in
        let σ₁ : St = add_held (set_inputs σ xs) k r in
        let c = const_step t ways v σ₁ nd.sort x (mark_step t ways v (add_const σ₁ r nd.sort x) k (replaced r) o) in
        let e : v r ≡ v k = sym (all_right (Same v) σ.held _ c.0.same).0 in (
          record { clean = c.0.clean; told = c.0.told; same = all_left (Same v) σ.held _ c.0.same; news = c.0.news },
          λ p i. (mark_inv t ways v (add_const σ₁ r nd.sort x) k (replaced r) e (const_inv t ways v σ₁ r nd.sort x (omega arith) c.1 (assumption i)), e),
        ))
        (λ _. tt)))

    -- a rewritten operand of a sort other than 3 is worth a number that fits
    num_at : (a s x : ℕ) → s ≢ 3 → a < length t → eqb (node_at t a).sort s ≡ true → v x ≡ v a → (v x ≡ number (num (v x))) × (num (v x) < 2 ^ width s)
    num_at a s x h l e q =
        subst (λ w. (w ≡ number (num w)) × (num w < 2 ^ width s)) (sym q) (fits-num s h (v a) (subst (λ i. Fits i (v a)) (eqb-true (node_at t a).sort s e) (sized a l)))

    inside : {a k : ℕ} → a < k → k < length t → a < length t
    inside h l = omega arith

    module _ (P : Type 0) (σ : St) (k : ℕ) (l : k < length t) (s a b c nm : ℕ) where
      abbrev Done : Out (St × ℕ) → Type 0
      Done out = Goes t ways v P σ (λ r. v r ≡ v k) out

      -- a rewritten row, from its operands' worth and its own
      as_given : (K : Kind) → mk K s a b c nm ≡ node_at t k → (x y z : ℕ) → map v (operands_as K (mk K s x y z nm)) ≡ map v (operands_as K (mk K s a b c nm))
          → RowOk v ways.reading k (mk K s x y z nm) → RowIs k (mk K s x y z nm)
      as_given K gv x y z e r = (record { kind = ap (λ (w : Node). w.kind) gv; worths = e ∙ ap (λ (w : Node). map v (operands w)) gv }, r)

      -- what an operand of the node's own sort, no memory, is left with
      own_at : (i x : ℕ) → not (eqb s 3) ≡ true → i < k → eqb (node_at t i).sort s ≡ true → v x ≡ v i → (v x ≡ number (num (v x))) × (num (v x) < 2 ^ width s)
      own_at i x n h e q = num_at i s x (eqb-false s 3 (not-true _ n)) (inside h l) e q

      -- a kind of two operands, whose meaning is f of their values
      binary_at : (K : Kind) (f : Value → Value → Value) → mk K s a b c nm ≡ node_at t k → ((x y : ℕ) → map v (operands_as K (mk K s x y c nm)) ≡ v x ∷ v y ∷ [])
          → ((x y : ℕ) → meaning ways.reading K v (v k) (mk K s x y c nm) ≡ f (v x) (v y)) → (is Write (mk K s a b c nm) ≡ true → ⊥) → f (v a) (v b) ≡ v k → a < k → b < k
          → (fold : ℕ → ℕ → Option ℕ → Option ℕ → Fold) (more : St → Out (St × Fold))
          → ((x y : ℕ) (cx cy : Option ℕ) → v x ≡ v a → v y ≡ v b → ConstOk cx (v x) → ConstOk cy (v y) → f (v x) (v y) ≡ v k → FoldOk v (v k) (fold x y cx cy))
          → ((P' : Type 0) (σ₁ : St) → Goes t ways v P' σ₁ (FoldOk v (v k)) (more σ₁)) → Done (binary t ways vis σ k (mk K s a b c nm) fold more)
      binary_at K f gv os m w e ha hb fold more law asks =
          binary_ok P σ k (mk K s a b c nm) l fold more (inside ha l) (inside hb l)
          (λ x y hx hy. as_given K gv x y c (os x y ∙ ap₂ (λ p q. p ∷ q ∷ []) hx hy ∙ sym (os a b)) (record { worth! = m x y ∙ ap₂ f hx hy ∙ e; stored = λ z. absurd (w z) }))
          (λ x y cx cy hx hy kx ky. law x y cx cy hx hy kx ky (ap₂ f hx hy ∙ e)) asks

      process-at : (K : Kind) → mk K s a b c nm ≡ node_at t k → meaning ways.reading K v (v k) (mk K s a b c nm) ≡ v k → Legal t k (mk K s a b c nm)
          → Done (process t ways vis K σ k (mk K s a b c nm))
      unfolding process
      process-at Const gv e g = settle_ok t ways v P k σ (fold_const (length t) s a) (λ p i. fold_const_ok v (length t) n_false n_true s a (v k) e)
      process-at Read gv e g =
          let nd : Node = mk Read s a b c nm in
          let row : (x y : ℕ) → v x ≡ v a → v y ≡ v b → number (mem (v x) (num (v y))) ≡ v k = λ x y hx hy. ap₂ (λ p q. number (mem p (num q))) hx hy ∙ e in
          bind t ways v P σ (Two v nd) (λ r. v r ≡ v k) (visit2 vis σ k nd) _
          (visit2_ok P σ k nd l (inside g.before.0 l) (inside g.before.1.0 l) (λ x y hx hy. as_given Read gv x y c (ap₂ (λ p q. p ∷ q ∷ []) hx hy) (record { worth! = row x y hx hy; stored = λ z. no z })))
          (λ σ₁ xy. learn (P × Two v nd xy) (ConstOk (const_of σ₁.rows xy.1) (v xy.1)) σ₁ (λ r. v r ≡ v k) (forward t ways k σ₁ xy.0 (const_of σ₁.rows xy.1))
          (λ p i. const_ok v ways.reading σ₁.rows xy.1 (i.rows_ok xy.1))
          (forward_ok _ k σ₁ xy.0 xy.1 (const_of σ₁.rows xy.1) (λ p. p.1) (λ p. row xy.0 xy.1 p.0.1.0 p.0.1.1)))
      process-at Write gv e g =
          let nd : Node = mk Write s a b c nm in
          let lc : c < length t = inside g.before.1.1.0 l in
          bind t ways v P σ (λ xyz. Unit {0}) (λ r. v r ≡ v k) (visit3 vis σ k nd) _
          (visit3_ok P σ k nd l (inside g.before.0 l) (inside g.before.1.0 l) lc
          (λ x y z hx hy hz. as_given Write gv x y z (λ i. hx i ∷ hy i ∷ hz i ∷ []) (record { worth! = (λ i. written (hx i) (hy i) (hz i)) ∙ e; stored = λ _. (num_at c 2 z (λ q. omega arith) lc g.sorts.1.1.1.0 hz).0 })))
          (λ σ₁ xyz. settle_ok t ways v (P × Unit {0}) k σ₁ stays (λ p i. tt))
      process-at (Word op) gv e g =
          binary_at (Word op) (λ p q. number (compute ways.reading op (num p) (num q))) gv (λ x y. refl) (λ x y. refl) (λ z. word-not-write op z) e g.before.0 g.before.1.0
          (λ x y. fold_words s (compute ways.reading op)) quiet
          (λ x y cx cy hx hy kx ky r. fold_words_ok v s (compute ways.reading op) cx cy (v x) (v y) (v k) kx ky r) (λ P' σ₁. quiet_ok t ways v P' (v k) σ₁)
      process-at Ult gv e g =
          binary_at Ult (λ p q. number (bit (less (num p) (num q)))) gv (λ x y. refl) (λ x y. refl) (λ z. no z) e g.before.0 g.before.1.0
          (λ x y. fold_test (length t) less) (ask_bit ways.reply_count (length t) k quiet)
          (λ x y cx cy hx hy kx ky r. fold_test_ok v (length t) n_false n_true less cx cy (v x) (v y) (v k) kx ky r)
          (λ P' σ₁. ask_bit_ok t ways v n_false n_true ways.reply_count P' k quiet (quiet_ok t ways v P' (v k)) σ₁)
      process-at Ext gv e g =
          unary_ok P σ k (mk Ext s a b c nm) l (fold_ext s) (inside g.before.0 l)
          (λ x hx. as_given Ext gv x b c (ap (λ p. p ∷ []) hx) (record { worth! = ap (λ p. number (num p)) hx ∙ e; stored = λ z. no z }))
          (λ x cx hx kx. fold_ext_ok v s cx (v x) (v k) kx (ap (λ p. number (num p)) hx ∙ e))
      process-at Ite gv e g =
          let nd : Node = mk Ite s a b c nm in
          operand_ok P σ a (λ r. v r ≡ v k) _ (inside g.before.0 l)
          (λ σ₁ x. learn (P × (v x ≡ v a)) (BranchOk (branch (const_of σ₁.rows x)) x) σ₁ (λ r. v r ≡ v k) (ite_on t ways vis σ₁ k nd x (branch (const_of σ₁.rows x)))
          (λ p i. branch_ok (const_of σ₁.rows x) x (const_ok v ways.reading σ₁.rows x (i.rows_ok x)))
          (ite_on_ok k nd l (inside g.before.1.0 l) (inside g.before.1.1.0 l) e
          (λ x y z hx hy hz. as_given Ite gv x y z (λ i. hx i ∷ hy i ∷ hz i ∷ []) (record { worth! = (λ i. cond (eqb (num (hx i)) 1) (hy i) (hz i)) ∙ e; stored = λ z. no z }))
          _ σ₁ x (branch (const_of σ₁.rows x)) (λ p. p.0.1) (λ p. p.1)))
      process-at Eq gv e g =
          binary_at Eq (λ p q. number (bit (eqb (num p) (num q)))) gv (λ x y. refl) (λ x y. refl) (λ z. no z) e g.before.0 g.before.1.0
          (fold_eq (length t)) (ask_bit ways.reply_count (length t) k quiet)
          (λ x y cx cy hx hy kx ky r. fold_eq_ok v (length t) n_false n_true x y cx cy (v k) kx ky r)
          (λ P' σ₁. ask_bit_ok t ways v n_false n_true ways.reply_count P' k quiet (quiet_ok t ways v P' (v k)) σ₁)
      process-at And gv e g =
          binary_at And (λ p q. number (bit_and (num p) (num q))) gv (λ x y. refl) (λ x y. refl) (λ z. no z) e g.before.0 g.before.1.0
          (fold_and s) (ask_and ways.reply_count (length t) s k)
          (λ x y cx cy hx hy kx ky r. fold_and_ok v s x y cx cy (v k) kx ky
          (own_at a x g.sorts.0 g.before.0 g.sorts.1.0 hx) (own_at b y g.sorts.0 g.before.1.0 g.sorts.1.1.0 hy) r)
          (λ P' σ₁. ask_and_ok t ways v n_false n_true ways.reply_count P' k s σ₁)
      process-at Or gv e g =
          binary_at Or (λ p q. number (bit_or (num p) (num q))) gv (λ x y. refl) (λ x y. refl) (λ z. no z) e g.before.0 g.before.1.0
          (fold_or s) quiet
          (λ x y cx cy hx hy kx ky r. fold_or_ok v s x y cx cy (v k) kx ky
          (own_at a x g.sorts.0 g.before.0 g.sorts.1.0 hx) (own_at b y g.sorts.0 g.before.1.0 g.sorts.1.1.0 hy) r)
          (λ P' σ₁. quiet_ok t ways v P' (v k) σ₁)
      process-at Not gv e g =
          unary_ok P σ k (mk Not s a b c nm) l (fold_not (length t) s) (inside g.before.0 l)
          (λ x hx. as_given Not gv x b c (ap (λ p. p ∷ []) hx) (record { worth! = ap (λ p. number (complement (width s) (num p))) hx ∙ e; stored = λ z. no z }))
          (λ x cx hx kx. fold_not_ok v (length t) n_false n_true s cx (v x) (v k) kx (ap (λ p. number (complement (width s) (num p))) hx ∙ e))
      process-at State gv e g = go (eqb b 1) refl g.before
        where
          init : (q : Bool) (x : ℕ) → v x ≡ v a → map v (cond q (x ∷ []) []) ≡ map v (cond q (a ∷ []) [])
          init true x hx = ap (λ p. p ∷ []) hx
          init false x hx = refl

          go : (q : Bool) → eqb b 1 ≡ q → All (λ x. x < k) (cond q (a ∷ []) [])
              → Done (elim q [ true ↦ unary t ways vis σ k (mk State s a b c nm) (λ x. stays) | false ↦ take_input t ways σ k (mk State s a b c nm) σ.inputs ])
          go true q h = unary_ok P σ k (mk State s a b c nm) l (λ x. stays) (inside h.0 l) (λ x hx. as_given State gv x b c (init (eqb b 1) x hx) (record { worth! = refl; stored = λ z. no z })) (λ x cx hx kx. tt)
          go false q h = take_input_ok P σ k (mk State s a b c nm) σ.inputs
      process-at Next gv e g =
          let nd : Node = mk Next s a b c nm in
          operands_ok P σ a b (λ r. v r ≡ v k) _ (inside g.before.0 l) (inside g.before.1.0 l)
          (λ σ₁ σ₂ state y. stored ((P × (v state ≡ v a)) × (v y ≡ v b)) σ₂ k (with nd a y c) (λ r. v r ≡ v k)
          (settle t ways k (set_row σ₂ k (with nd a y c)) stays) l (λ p. as_given Next gv a y c (ap (λ q. v a ∷ q ∷ []) p.1) (record { worth! = p.1 ∙ e; stored = λ z. no z }))
          (settle_ok t ways v _ k (set_row σ₂ k (with nd a y c)) stays (λ p i. tt)))
      process-at Input gv e g = settle_ok t ways v P k σ stays (λ p i. tt)
      process-at Bad gv e g =
          unary_ok P σ k (mk Bad s a b c nm) l (λ x. stays) (inside g.before.0 l) (λ x hx. as_given Bad gv x b c (ap (λ p. p ∷ []) hx) (record { worth! = hx ∙ e; stored = λ z. no z })) (λ x cx hx kx. tt)

  -- ---- visiting
  module _ (n_false : v (length t) ≡ number 0) (n_true : v (length t + 1) ≡ number 1) (sized : (k : ℕ) → k < length t → Fits (node_at t k).sort (v k))
      (known : (k : ℕ) → k < length t → worth ways.reading v (v k) (node_at t k) ≡ v k) (legal : AllLegal t) where
    marked_ok : (vis : St → ℕ → Out (St × ℕ)) → ((P : Type 0) (σ : St) (j : ℕ) → j < length t → Goes t ways v P σ (λ r. v r ≡ v j) (vis σ j))
        → (P : Type 0) (σ : St) (k : ℕ) → k < length t → (m : Mark) → (Inv t ways v σ → MarkOk v k m) → Goes t ways v P σ (λ r. v r ≡ v k) (visit_marked t ways vis m σ k)
    marked_ok vis vis_ok P σ k l fresh h =
        let nd : Node = node_at t k in
        process-at n_false n_true sized vis vis_ok P σ k l nd.sort nd.a nd.b nd.c nd.name nd.kind refl (known k l) (legal k l)
    marked_ok vis vis_ok P σ k l kept h = λ o. (o, λ p i. (i, refl))
    marked_ok vis vis_ok P σ k l (replaced r) h = λ o. (o, λ p i. (i, h i))

    pub visit_ok : (f : ℕ) (P : Type 0) (σ : St) (k : ℕ) → k < length t → Goes t ways v P σ (λ r. v r ≡ v k) (visit t ways f σ k)
    unfolding visit
    visit_ok zero P σ k l = λ o. (o, λ p i. (i, refl))
    visit_ok (suc f) P σ k l = marked_ok (visit t ways f) (visit_ok f) P σ k l (σ.mark k) (λ i. i.marks_ok k)
