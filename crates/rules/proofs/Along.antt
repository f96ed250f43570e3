-- What holds all along a fold, from what holds of its steps: a fact Q of the number of every refusal of the walk, and a relation R from the state
-- once the sequentials are judged to every later one. Only a node that is no State with an init is replaced.
-- Assumes nothing.
use Prim.Native.Nat.{ℕ, zero, suc}
use mathlib.Core.Path.{◌≡◌, refl, ap, ◌∙◌}
use mathlib.Core.Bool.{Bool, true, false, ◌&&◌}
use mathlib.Core.Option.{Option, none, some}
use mathlib.Core.List.{List, [], ◌∷◌}
use native.Mathlib.Omega.{arith}
use lib.ListN.{length}
use lib.Dec.{leb, eqb}
use borrow.Author.Tests.{ne_eqb}
use Rattle.rules.specs.Refusal.{Out, refused, done, ◌>>=◌}
use Rattle.rules.specs.Table.{Kind, Const, Read, Write, Word, Ult, Ext, Ite, Eq, And, Or, Not, State, Next, Input, Bad, Node, kind_code, op_code, node_at, is, fits}
use Rattle.rules.specs.Model.{Model, Mode}
use Rattle.rules.specs.Walk.{St, Mark, fresh, kept, replaced, set_mark, add_const}
use Rattle.rules.specs.Fold.{Fold, stays, swap, make, shared, const_of, is_const, fold_not, fold_ext}
use Rattle.rules.specs.Questions.{first_reply, most, ask, ask_or, quiet, ask_bit, ask_and, ask_ite, always_false, satisfiable, several}
use Rattle.rules.specs.Visit.{Ways, Branch, left, right, undecided, new_number, visit1, visit2, visit3, settle, finish_stay, finish, forward, take_input, unary, binary, ite_on, process, visit_marked, visit, visit_top}
use Rattle.rules.specs.Whole.{ways_of, visit_all, judge_bad, judge_bads, bads, last_question, fold_bads, fold, Bads, Folded}
use Rattle.rules.specs.KeptState.{begun}
use Rattle.rules.proofs.Base.{cases_cond, op-code}

-- a State with an init
abbrev pub has_init : Node → Bool
has_init nd = is State nd && eqb nd.b 1

module _ (t : List Node) (Q : ℕ → Type 0) (R : St → St → Type 0) where
  -- what a node may fold to: a State with an init stays
  abbrev MayFold : ℕ → Fold → Type 0
  MayFold k stays = Unit
  MayFold k (swap r) = has_init (node_at t k) ≡ false
  MayFold k (make s x) = has_init (node_at t k) ≡ false

  -- ---- the steps: whatever leaves the marks, the two ways to mark, and the refusals of the walk
  pub record Steps : Type 0 where
    pub still : (σ σ' : St) → σ'.mark ≡ σ.mark → R σ σ'
    pub both : (σ σ₁ σ₂ : St) → R σ σ₁ → R σ₁ σ₂ → R σ σ₂
    pub keeps : (σ : St) (k : ℕ) → R σ (set_mark σ k kept)
    pub replaces : (σ : St) (k r : ℕ) → has_init (node_at t k) ≡ false → R σ (set_mark σ k (replaced r))
    pub memory_input : Q 8
    pub wide_input : Q 10
    pub wrong_reply : Q 11
    pub always_bad : Q 13
    pub possibly_bad : Q 14

  -- an outcome, from σ on; at gives the state of what is done
  abbrev pub Along : {A : Type 0} → (A → St) → St → Out A → Type 0
  Along at σ (refused r) = Q r.reason
  Along at σ (done x) = R σ (at x)

  abbrev pub Goes : {A : Type 0} → St → Out (St × A) → Type 0
  Goes σ o = Along (λ p. p.0) σ o

  module _ (ways : Ways) (s : Steps) where
    past : {A : Type 0} (at : A → St) (σ σ₁ : St) (o : Out A) → R σ σ₁ → Along at σ₁ o → Along at σ o
    past at σ σ₁ (refused r) h g = g
    past at σ σ₁ (done x) h g = s.both σ σ₁ (at x) h g

    pub then : {A B : Type 0} (at : A → St) (to : B → St) (σ : St) (m : Out A) (f : A → Out B) → Along at σ m → ((x : A) → Along to (at x) (f x)) → Along to σ (m >>= f)
    then at to σ (refused r) f h g = h
    then at to σ (done x) f h g = past to σ (at x) (f x) h (g x)

    -- a visit or a question, and what comes next
    next : {A B : Type 0} (σ : St) (m : Out (St × A)) (f : St × A → Out (St × B)) → Goes σ m → ((p : St × A) → Goes p.0 (f p)) → Goes σ (m >>= f)
    next σ m f h g = then (λ p. p.0) (λ p. p.0) σ m f h g

    either : {A : Type 0} (at : A → St) (σ : St) (b : Bool) (x y : Out A) → Along at σ x → Along at σ y → Along {A = A} at σ (elim b [ true ↦ x | false ↦ y ])
    either at σ true x y h g = h
    either at σ false x y h g = g

    stay : (σ : St) → R σ σ
    stay σ = s.still σ σ refl

    -- ---- questions
    ask_along : (σ : St) (q x y : ℕ) (bs : List ℕ) → Goes σ (ask ways.reply_count σ q x y bs)
    unfolding ask
    ask_along σ q x y bs = either (λ p. p.0) σ (leb (first_reply σ.replies) (most q)) _ _ (s.still _ _ refl) s.wrong_reply

    ask_or_along : (q x y : ℕ) (f : Fold) (more : St → Out (St × Fold)) → ((σ : St) → Goes σ (more σ)) → (σ : St) → Goes σ (ask_or ways.reply_count q x y f more σ)
    unfolding ask_or
    ask_or_along q x y f more h σ = next σ (ask ways.reply_count σ q x y []) _ (ask_along σ q x y []) λ p. either (λ p. p.0) p.0 (eqb p.1 1) _ _ (stay p.0) (h p.0)

    quiet_along : (σ : St) → Goes σ (quiet σ)
    quiet_along σ = stay σ

    ask_bit_along : (k : ℕ) (more : St → Out (St × Fold)) → ((σ : St) → Goes σ (more σ)) → (σ : St) → Goes σ (ask_bit ways.reply_count (length t) k more σ)
    ask_bit_along k more h = ask_or_along 1 k 0 (shared (length t) true) (ask_or ways.reply_count 2 k 0 (shared (length t) false) more) (ask_or_along 2 k 0 (shared (length t) false) more h)

    ask_and_along : (k z : ℕ) (σ : St) → Goes σ (ask_and ways.reply_count (length t) z k σ)
    ask_and_along k z σ = cases_cond (λ (a : St → Out (St × Fold)). Goes σ (a σ)) (eqb z 1) (λ _. ask_bit_along k quiet quiet_along σ) (λ _. quiet_along σ)

    ask_ite_along : (k z x y w : ℕ) (σ : St) → Goes σ (ask_ite ways.reply_count (length t) z k x y w σ)
    ask_ite_along k z x y w σ =
        cases_cond (λ (a : St → Out (St × Fold)). Goes σ (a σ)) (eqb z 1)
        (λ _. ask_bit_along k (ask_or ways.reply_count 3 k x (swap x) quiet) (ask_or_along 3 k x (swap x) quiet quiet_along) σ)
        (λ _. cases_cond (λ (a : St → Out (St × Fold)). Goes σ (a σ)) (eqb z 2)
        (λ _. ask_or_along 3 k y (swap y) (ask_or ways.reply_count 3 k w (swap w) quiet) (ask_or_along 3 k w (swap w) quiet quiet_along) σ)
        (λ _. quiet_along σ))

    -- ---- a node k, and the visits below it
    module _ (vis : St → ℕ → Out (St × ℕ)) (vis-along : (σ : St) (j : ℕ) → Goes σ (vis σ j)) (k : ℕ) where
      -- settled, after changes that leave the marks
      settle_along : (σ σ₁ : St) (f : Fold) → σ₁.mark ≡ σ.mark → MayFold k f → Goes σ (settle t ways k σ₁ f)
      unfolding settle
      settle_along σ σ₁ stays e i = s.both σ σ₁ _ (s.still σ σ₁ e) (s.keeps σ₁ k)
      settle_along σ σ₁ (swap r) e i = s.both σ σ₁ _ (s.still σ σ₁ e) (s.replaces σ₁ k r i)
      settle_along σ σ₁ (make z x) e i = s.both σ (add_const σ₁ (new_number t ways σ₁) z x) _ (s.still σ _ e) (s.replaces _ k _ i)

      open_fold : has_init (node_at t k) ≡ false → (f : Fold) → MayFold k f
      open_fold i stays = tt
      open_fold i (swap r) = i
      open_fold i (make z x) = i

      settle_open : has_init (node_at t k) ≡ false → (σ σ₁ : St) (f : Fold) → σ₁.mark ≡ σ.mark → Goes σ (settle t ways k σ₁ f)
      settle_open i σ σ₁ f e = settle_along σ σ₁ f e (open_fold i f)

      unary_along : (σ : St) (nd : Node) (fold : Option ℕ → Fold) → ((c : Option ℕ) → MayFold k (fold c)) → Goes σ (unary t ways vis σ k nd fold)
      unfolding unary visit1
      unary_along σ nd g i = next σ (visit1 vis σ k nd) _ (next σ (vis σ nd.a) _ (vis-along σ nd.a) λ p. s.still p.0 _ refl) λ p. settle_along p.0 p.0 _ refl (i _)

      visit2_along : (σ : St) (nd : Node) → Goes σ (visit2 vis σ k nd)
      unfolding visit2
      visit2_along σ nd = next σ (vis σ nd.a) _ (vis-along σ nd.a) λ p. next p.0 (vis p.0 nd.b) _ (vis-along p.0 nd.b) λ q. s.still q.0 _ refl

      input_along : has_init (node_at t k) ≡ false → (σ : St) (nd : Node) (xs : List ℕ) → Goes σ (take_input t ways σ k nd xs)
      unfolding take_input
      input_along i σ nd [] = settle_along σ σ stays refl tt
      input_along i σ nd (x ∷ xs) =
          either (λ p. p.0) σ (ways.dump nd.name) _ _ (settle_along σ σ stays refl tt)
          (either (λ p. p.0) σ (eqb nd.sort 3) _ _ s.memory_input (either (λ p. p.0) σ (fits nd.sort x) _ _ (settle_along σ _ _ refl i) s.wide_input))

      module _ (i : has_init (node_at t k) ≡ false) where
        finish_along : (σ σ₁ : St) (f : Fold) (more : St → Out (St × Fold)) → σ₁.mark ≡ σ.mark → ((σ₂ : St) → Goes σ₂ (more σ₂)) → Goes σ (finish t ways k σ₁ f more)
        unfolding finish finish_stay
        finish_along σ σ₁ stays more e h = go ways.minimise
          where
            go : (b : Bool) → Goes σ (finish_stay t ways b k σ₁ more)
            go true = past {A = St × ℕ} (λ p. p.0) σ σ₁ (more σ₁ >>= λ p. settle t ways k p.0 p.1) (s.still σ σ₁ e) (next σ₁ (more σ₁) _ (h σ₁) λ p. settle_open i p.0 p.0 p.1 refl)
            go false = settle_along σ σ₁ stays e tt
        finish_along σ σ₁ (swap r) more e h = settle_along σ σ₁ (swap r) e i
        finish_along σ σ₁ (make z x) more e h = settle_along σ σ₁ (make z x) e i

        forward_along : (σ : St) (m : ℕ) (c : Option ℕ) → Goes σ (forward t ways k σ m c)
        unfolding forward
        forward_along σ m none = settle_along σ σ stays refl tt
        forward_along σ m (some x) = settle_open i σ _ _ refl

        binary_along : (σ : St) (nd : Node) (f : ℕ → ℕ → Option ℕ → Option ℕ → Fold) (more : St → Out (St × Fold)) → ((σ₁ : St) → Goes σ₁ (more σ₁)) → Goes σ (binary t ways vis σ k nd f more)
        unfolding binary
        binary_along σ nd f more h = next σ (visit2 vis σ k nd) _ (visit2_along σ nd) λ p. finish_along p.0 p.0 _ more refl h

        ite_along : (σ : St) (nd : Node) (x : ℕ) (c : Branch) → Goes σ (ite_on t ways vis σ k nd x c)
        unfolding ite_on
        ite_along σ nd x left = next σ (vis σ nd.b) _ (vis-along σ nd.b) λ p. settle_along p.0 _ _ refl i
        ite_along σ nd x right = next σ (vis σ nd.c) _ (vis-along σ nd.c) λ p. settle_along p.0 _ _ refl i
        ite_along σ nd x undecided =
            next σ (vis σ nd.b) _ (vis-along σ nd.b) λ p. next p.0 (vis p.0 nd.c) _ (vis-along p.0 nd.c) λ q.
            finish_along q.0 _ _ _ refl (ask_ite_along k nd.sort x p.1 q.1)

      -- a node of another kind than State has no init
      other : (K : Kind) → eqb (kind_code K) 19 ≡ false → (node_at t k).kind ≡ K → has_init (node_at t k) ≡ false
      other K q e = ap (λ J. eqb (kind_code J) 19 && eqb (node_at t k).b 1) e ∙ ap (λ b. b && eqb (node_at t k).b 1) q

      process_along : (K : Kind) (σ : St) → (node_at t k).kind ≡ K → Goes σ (process t ways vis K σ k (node_at t k))
      unfolding process visit3
      process_along Const σ e = settle_open (other Const refl e) σ σ _ refl
      process_along Read σ e = let nd : Node = node_at t k in next σ (visit2 vis σ k nd) _ (visit2_along σ nd) λ p. forward_along (other Read refl e) p.0 _ _
      process_along Write σ e =
          let nd : Node = node_at t k in
          next σ (visit3 vis σ k nd) _ (next σ (vis σ nd.a) _ (vis-along σ nd.a) λ p. next p.0 (vis p.0 nd.b) _ (vis-along p.0 nd.b) λ q.
          next q.0 (vis q.0 nd.c) _ (vis-along q.0 nd.c) λ r. s.still r.0 _ refl) λ p. settle_along p.0 p.0 stays refl tt
      process_along (Word op) σ e = binary_along (other (Word op) (ne_eqb (op_code op) 19 (λ z. omega (arith, op-code op, z))) e) σ (node_at t k) _ quiet quiet_along
      process_along Ult σ e = binary_along (other Ult refl e) σ (node_at t k) _ _ (ask_bit_along k quiet quiet_along)
      process_along Ext σ e = let fold : Option ℕ → Fold = fold_ext (node_at t k).sort in unary_along σ (node_at t k) fold (λ c. open_fold (other Ext refl e) (fold c))
      process_along Ite σ e = next σ (vis σ (node_at t k).a) _ (vis-along σ (node_at t k).a) λ p. ite_along (other Ite refl e) p.0 (node_at t k) p.1 _
      process_along Eq σ e = binary_along (other Eq refl e) σ (node_at t k) _ _ (ask_bit_along k quiet quiet_along)
      process_along And σ e = binary_along (other And refl e) σ (node_at t k) _ _ (ask_and_along k (node_at t k).sort)
      process_along Or σ e = binary_along (other Or refl e) σ (node_at t k) _ quiet quiet_along
      process_along Not σ e = let fold : Option ℕ → Fold = fold_not (length t) (node_at t k).sort in unary_along σ (node_at t k) fold (λ c. open_fold (other Not refl e) (fold c))
      process_along State σ e = go (eqb (node_at t k).b 1) refl
        where
          go : (b : Bool) → eqb (node_at t k).b 1 ≡ b → Goes {A = ℕ} σ (elim b [ true ↦ unary t ways vis σ k (node_at t k) (λ x. stays) | false ↦ take_input t ways σ k (node_at t k) σ.inputs ])
          go true q = unary_along σ (node_at t k) (λ x. stays) (λ c. tt)
          go false q = input_along (ap (λ J. eqb (kind_code J) 19 && eqb (node_at t k).b 1) e ∙ q) σ (node_at t k) σ.inputs
      process_along Next σ e =
          next σ (vis σ (node_at t k).a) _ (vis-along σ (node_at t k).a) λ p. next p.0 (vis p.0 (node_at t k).b) _ (vis-along p.0 (node_at t k).b) λ q. settle_along q.0 _ stays refl tt
      process_along Input σ e = settle_along σ σ stays refl tt
      process_along Bad σ e = unary_along σ (node_at t k) (λ x. stays) (λ c. tt)

    marked_along : (vis : St → ℕ → Out (St × ℕ)) → ((σ : St) (j : ℕ) → Goes σ (vis σ j)) → (m : Mark) (σ : St) (k : ℕ) → Goes σ (visit_marked t ways vis m σ k)
    marked_along vis h fresh σ k = process_along vis h k (node_at t k).kind σ refl
    marked_along vis h kept σ k = stay σ
    marked_along vis h (replaced r) σ k = stay σ

    pub visit_along : (f : ℕ) (σ : St) (k : ℕ) → Goes σ (visit t ways f σ k)
    unfolding visit
    visit_along zero σ k = stay σ
    visit_along (suc f) σ k = marked_along (visit t ways f) (visit_along f) (σ.mark k) σ k

    -- ---- the lists
    pub all_along : (σ : St) (ks : List ℕ) → Along (λ σ. σ) σ (visit_all t ways σ ks)
    unfolding visit_all
    all_along σ [] = stay σ
    all_along σ (k ∷ ks) = then (λ p. p.0) (λ σ. σ) σ (visit_top t ways σ k) _ (visit_along (suc k) σ k) λ p. all_along p.0 ks

    module _ (solver terminate : Bool) (section : ℕ) where
      bad_along : (place : ℕ) (σ : St) (c : ℕ) (x : Option ℕ) → Goes σ (judge_bad t ways solver terminate section place σ c x)
      bad_along place σ c x =
          either (λ p. p.0) σ (is_const x 0) _ _ (stay σ)
          (either (λ p. p.0) σ (is_const x 1) _ _ (either (λ p. p.0) σ terminate _ _ s.always_bad (stay σ))
          (either (λ p. p.0) σ solver _ _
          (next σ (ask ways.reply_count σ satisfiable c 0 []) _ (ask_along σ satisfiable c 0 [])
          λ p. either (λ p. p.0) p.0 (eqb p.1 1) _ _ (stay p.0) (either (λ p. p.0) p.0 (eqb p.1 2 && terminate) _ _ s.possibly_bad (stay p.0)))
          (stay σ)))

      bads_along : (place : ℕ) (σ : St) (bs : List ℕ) → Along (λ (r : Bads). r.after) σ (judge_bads t ways solver terminate section place σ bs)
      unfolding judge_bads
      bads_along place σ [] = stay σ
      bads_along place σ (b ∷ bs) =
          then (λ p. p.0) (λ (r : Bads). r.after) σ (visit_top t ways σ b) _ (visit_along (suc b) σ b) λ p.
          let c : ℕ = (p.0.rows b).a in
          then (λ p. p.0) (λ (r : Bads). r.after) p.0 (judge_bad t ways solver terminate section place p.0 c (const_of p.0.rows c)) _ (bad_along place p.0 c (const_of p.0.rows c)) λ q.
          then (λ (r : Bads). r.after) (λ (r : Bads). r.after) q.0 (judge_bads t ways solver terminate section (suc place) q.0 bs) _ (bads_along (suc place) q.0 bs) λ r. s.still r.after r.after refl

-- ---- the whole fold, from the state after the sequentials are judged
module _ (m : Model) (how : Mode) (Q : ℕ → Type 0) (R : St → St → Type 0) (s : Steps m.table Q R) where
  onward : {A B : Type 0} (at : A → St) (to : B → St) (σ : St) (o : Out A) (f : A → Out B) → Along m.table Q R at σ o → ((x : A) → Along m.table Q R to (at x) (f x)) → Along m.table Q R to σ (o >>= f)
  onward at to σ o f h g = then m.table Q R (ways_of m how) s at to σ o f h g

  bads-of : (solver terminate : Bool) (section : ℕ) (σ : St) (bs : List ℕ) → Along m.table Q R (λ (r : Bads). r.after) σ (bads m how solver terminate section σ bs)
  bads-of solver terminate section σ bs = bads_along m.table Q R (ways_of m how) s solver terminate section 0 σ bs

  last-along : (σ : St) (bs : List ℕ) → Goes m.table Q R σ (last_question m how σ bs)
  unfolding last_question
  last-along σ [] = s.still σ σ refl
  last-along σ (b ∷ []) = onward (λ p. p.0) (λ p. p.0) σ (ask (length m.replies) σ always_false b 0 []) _ (ask_along m.table Q R (ways_of m how) s σ always_false b 0 []) λ p. s.still p.0 p.0 refl
  last-along σ (b ∷ b' ∷ bs) =
      let bads : List ℕ = b ∷ b' ∷ bs in
      onward (λ p. p.0) (λ p. p.0) σ (ask (length m.replies) σ several (length bads) 0 bads) _ (ask_along m.table Q R (ways_of m how) s σ several _ 0 bads) λ p. s.still p.0 p.0 refl

  fold_bads-along : (b : Bool) (σ : St) (seqs : List ℕ) → Along m.table Q R (λ (f : Folded). f.state) σ (fold_bads m how b σ seqs)
  unfolding fold_bads
  fold_bads-along true σ seqs =
      onward (λ (r : Bads). r.after) (λ (f : Folded). f.state) σ (bads m how false true 3 σ m.initial) _ (bads-of false true 3 σ m.initial) λ i.
      onward (λ p. p.0) (λ (f : Folded). f.state) i.after (last_question m how i.after i.stay) _ (last-along i.after i.stay) λ p. s.still p.0 p.0 refl
  fold_bads-along false σ seqs =
      onward (λ (r : Bads). r.after) (λ (f : Folded). f.state) σ (bads m how true how.terminate 3 σ m.initial) _ (bads-of true how.terminate 3 σ m.initial) λ i.
      onward (λ (r : Bads). r.after) (λ (f : Folded). f.state) i.after (bads m how true how.terminate 4 i.after m.later) _ (bads-of true how.terminate 4 i.after m.later) λ l. s.still l.after l.after refl

  pub fold_along : Along m.table Q R (λ (f : Folded). f.state) (begun m).0 (fold m how)
  unfolding fold
  fold_along =
      let j : St × List ℕ = begun m in
      onward (λ σ. σ) (λ (f : Folded). f.state) j.0 (visit_all m.table (ways_of m how) j.0 j.1) _ (all_along m.table Q R (ways_of m how) s j.0 j.1) λ σ. fold_bads-along how.one_query σ j.1
