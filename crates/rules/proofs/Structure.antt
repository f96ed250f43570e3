-- A visit keeps the structural invariant, and what it spends is paid by the nodes that it marks: one constant and three questions
-- a node, and for a Read one look at each of the table's Writes. By cases on the kind.
-- Assumes nothing.
use Prim.Native.Nat.{ℕ, zero, suc, ◌+◌, ◌*◌, ◌<◌, ◌≤◌, ◌^◌}
use mathlib.Core.Path.{◌≡◌, refl, sym, ap, ◌∙◌, subst}
use mathlib.Core.Logic.{◌≢◌}
use mathlib.Core.Bool.{Bool, true, false, cond}
use mathlib.Core.Option.{Option, none, some}
use mathlib.Core.List.{List, [], ◌∷◌}
use native.Mathlib.Omega.{arith}
use lib.ListN.{length}
use lib.Dec.{eqb}
use borrow.Author.Tests.{eqb-true, eqb-false, ltb-true, not-true}
use Rattle.btor.specs.Operators.{compute, less, bit}
use Rattle.btor.specs.Sorts.{width}
use Rattle.rules.specs.Lists.{put, All}
use Rattle.rules.specs.Refusal.{Out, ◌>>=◌}
use Rattle.rules.specs.Table.{Kind, Const, Read, Write, Word, Ult, Ext, Ite, Eq, And, Or, Not, State, Next, Input, Bad, Node, with, constant, node_at, is, operands, fits}
use Rattle.rules.specs.Check.{known_sort, unused_as, may_serve}
use Rattle.rules.specs.Legal.{Legal, AllLegal}
use Rattle.rules.specs.Walk.{St, Mark, fresh, kept, replaced, Held, set_row, add_const, set_inputs, add_held, add_tally}
use Rattle.rules.specs.Fold.{Fold, stays, swap, make, const_of, fold_words, fold_test, fold_eq, fold_and, fold_or, fold_not, fold_ext}
use Rattle.rules.specs.Memory.{Found, find, fold_found, passed_by}
use Rattle.rules.specs.Questions.{quiet}
use Rattle.rules.specs.Visit.{Ways, Branch, left, right, undecided, branch, new_number, settle, finish_stay, finish, visit1, visit2, visit3, unary, binary, forward, ite_on, take_input, process, visit_marked, visit}
use Rattle.rules.specs.Tally.{writes, if_replaced}
use Rattle.rules.specs.Room.{due, unpaid}
use Rattle.rules.specs.Fine.{Below, Stands, Ref, Refs, Shares, kept_as, Alike, MarkStands, Shape, Used, Strict, Books, credit, fee, Fine}
use Rattle.btor.proofs.Agreement.{cases}
use Rattle.rules.proofs.Base.{mk, all_join, If, if-bind, put_same, put_other}
use Rattle.rules.proofs.Standing.{FoldStands, ConstFits, stands-itself, stands-row, stands_const, own_fold, words_fold, test_fold, eq_fold, not_fold, ext_fold, const_fold, and_fold, or_fold}
use Rattle.rules.proofs.Budget.{unpaid-put, credit-put, credit-replaced}
use Rattle.rules.proofs.Search.{looked-writes, found-fold, find-among, strict-zero, tally_strict}
use Rattle.rules.proofs.Questions.{Asks, quiet-asks, bit-asks, and-asks, ite-asks}
use Rattle.rules.proofs.Went.{At, Later, Went, went_none, went_both, Visited}
use Rattle.rules.proofs.Shape.{used-put, used-made, marked-fresh, marked-put, shape_row, shape_const, shape_mark, points, operand_fits, books_held, books_passed}

module _ (t : List Node) (ways : Ways) (ins reps : List ℕ) where
  module _ (legal : AllLegal t) (vis : St → ℕ → Out (St × ℕ)) (vis-went : (σ : St) (j : ℕ) → j < length t → Fine t ways ins reps σ → If (Visited t ways ins reps j σ) (vis σ j))
      (k : ℕ) (l : k < length t) (σ : St) (f₀ : Fine t ways ins reps σ) (fresh! : σ.mark k ≡ fresh) where
    module _ (g : Node) (eg : g ≡ node_at t k) where
      abbrev Here : ℕ → ℕ → St → Type 0
      Here a m σ₁ = Went t ways ins reps k a m σ σ₁

      abbrev Folds : St → Fold → Type 0
      Folds σ₁ f = FoldStands t σ₁.rows σ₁.made k g.sort f

      same-sort : g.sort ≡ (node_at t k).sort
      same-sort = ap (λ (w : Node). w.sort) eg

      -- ---- the node is settled: it pays
      -- k marked, among rows with perhaps a constant more
      abbrev with_mark : St → (ℕ → Node) → ℕ → Mark → St
      with_mark σ₁ rows made mk =
          record σ₁ { rows = rows; mark = put σ₁.mark k mk; made = made }

      settled : (a m : ℕ) (σ₁ : St) (f : Fold) → a ≤ 3 → m ≤ fee t k → Here a m σ₁ → Folds σ₁ f → If (Visited t ways ins reps k σ) (settle t ways k σ₁ f)
      unfolding settle
      settled a m σ₁ f ha hm x ff = go f ff
        where
          -- k is fresh until then
          still : σ₁.mark k ≡ fresh
          still = x.above k (omega arith) ∙ fresh!

          paid : (rows : ℕ → Node) (made : ℕ) (mk : Mark) → Shape t rows made σ₁.mark → ((z s : ℕ) → At t ways ins reps σ₁ z s → Stands t rows made z s) → MarkStands t rows made k mk
              → Used t (put σ₁.mark k mk) made → ((p : ℕ) → due p mk ≡ 0) → made ≤ σ₁.made + 1 → Went t ways ins reps (suc k) 0 0 σ (with_mark σ₁ rows made mk)
          paid rows made mk sh lt ms us z em =
              record {
                fine = record {
                  shape = shape_mark t rows made σ₁.mark sh k mk ms;
                  books = x.fine.books;
                  used = us;
                  marked = marked-put t σ₁.mark k mk σ₁.held (marked-fresh t σ₁.mark k still σ₁.held x.fine.marked) x.fine.marked;
                  fair = x.fine.fair;
                  gained = omega (arith, x.fine.gained, credit-put (fee t) (length t) σ₁.mark k mk (λ p. subst (λ x. if_replaced p x ≤ if_replaced p mk) (sym still) (omega arith)));
                };
                above = λ i j. put_other σ₁.mark k mk i (λ r. omega arith) ∙ x.above i (omega arith);
                later = λ w s h. lt w s (x.later w s h);
                few = omega (arith, x.few, unpaid-put (λ k. 1) (length t) σ₁.mark k mk l still z, em);
                asks = omega (arith, x.asks, unpaid-put (λ k. 3) (length t) σ₁.mark k mk l still z);
                looks = omega (arith, x.looks, unpaid-put (fee t) (length t) σ₁.mark k mk l still z);
              }

          go : (f : Fold) → Folds σ₁ f → If (Visited t ways ins reps k σ) (settle t ways k σ₁ f)
          go stays h =
              record {
                went = paid σ₁.rows σ₁.made kept x.fine.shape (λ w s q. q) tt (used-put t σ₁.mark σ₁.made k kept still x.fine.used) (λ p. refl) (omega arith);
                upto = λ _. omega arith;
                stands = λ q. stands-itself t σ₁.rows σ₁.made k l q;
              }
          go (swap r) h =
              let st : At t ways ins reps σ₁ r (node_at t k).sort = subst (At t ways ins reps σ₁ r) same-sort h.1 in
              record {
                went = paid σ₁.rows σ₁.made (replaced r) x.fine.shape (λ w s q. q) (h.0, st) (used-put t σ₁.mark σ₁.made k (replaced r) still x.fine.used) (λ p. refl) (omega arith);
                upto = λ i. let j = h.0 i in omega (arith, j);
                stands = λ _. st;
              }
          go (make s y) h =
              let r : ℕ = new_number t ways σ₁ in
              let σ₂ : St = add_const σ₁ r s y in
              let at : put σ₁.rows r (constant s y) r ≡ constant s y = put_same σ₁.rows r (constant s y) in
              let st : At t ways ins reps σ₂ r g.sort =
              record {
                serve = λ i. absurd (omega arith);
                sort = λ i. absurd (omega arith);
                new = λ _. record { inside = omega arith; sort = ap (λ (w : Node). w.sort) at ∙ h.0 };
              } in
              let st' : At t ways ins reps σ₂ r (node_at t k).sort = subst (At t ways ins reps σ₂ r) same-sort st in
              let far : Below t k r = λ i. absurd (omega arith) in
              record {
                went = paid σ₂.rows σ₂.made (replaced r) (shape_const t σ₁.rows σ₁.made σ₁.mark x.fine.shape (constant s y) h.1) (stands_const t σ₁.rows σ₁.made (constant s y))
                    (far, st') (used-made t σ₁.mark σ₁.made k l still x.fine.used) (λ p. refl) (omega arith);
                upto = λ i. let j = far i in omega (arith, j);
                stands = λ _. st';
              }

      -- ---- a rewritten row
      abbrev Row : St → Node → Type 0
      Row σ₁ nd = Alike nd g × Refs t σ₁.rows σ₁.made k (operands nd) (operands g)

      row_went : (σ₁ : St) (nd : Node) → Row σ₁ nd → Here 0 0 σ₁ → Here 0 0 (set_row σ₁ k nd)
      row_went σ₁ nd r x =
          let shape : Shape t (put σ₁.rows k nd) σ₁.made σ₁.mark =
          shape_row t σ₁.rows σ₁.made σ₁.mark x.fine.shape k nd l (subst (Alike nd) eg r.0) (subst (λ (w : Node). Refs t σ₁.rows σ₁.made k (operands nd) (operands w)) eg r.1) in
          let later : Later t ways ins reps σ (set_row σ₁ k nd) = λ w s h. stands-row t σ₁.rows σ₁.made k nd l w s (x.later w s h) in
          assumption (shape, later)

      -- an operand: what it is left with stands for it
      operand : {B : Type 0} (P : B → Type 0) (σ₁ : St) (j : ℕ) (f : St × ℕ → Out B) → j < k → may_serve (node_at t j) ≡ true → Here 0 0 σ₁
          → ((p : St × ℕ) → Here 0 0 p.0 → Later t ways ins reps σ₁ p.0 → Ref t p.0.rows p.0.made k p.1 j → If P (f p)) → If P (vis σ₁ j >>= f)
      operand P σ₁ j f h sv x h' =
          if-bind (Visited t ways ins reps j σ₁) P (vis σ₁ j) f (vis-went σ₁ j (omega arith) x.fine)
          (λ p y. h' p (went_both t ways ins reps k (suc j) 0 0 0 0 σ σ₁ p.0 (omega arith) x y.went) y.went.later ((λ i. let u = y.upto i in omega (arith, u)), y.stands sv))

      finished : (a : ℕ) (σ₁ : St) (f : Fold) (more : St → Out (St × Fold)) → a ≤ 3 → Here 0 0 σ₁ → Folds σ₁ f → Asks t ways ins reps k g.sort a σ₁ more → If (Visited t ways ins reps k σ) (finish t ways k σ₁ f more)
      unfolding finish finish_stay
      finished a σ₁ (swap r) more ha x ff h = settled 0 0 σ₁ (swap r) (omega arith) (omega arith) x ff
      finished a σ₁ (make s y) more ha x ff h = settled 0 0 σ₁ (make s y) (omega arith) (omega arith) x ff
      finished a σ₁ stays more ha x ff h = go ways.minimise
        where
          go : (b : Bool) → If (Visited t ways ins reps k σ) (finish_stay t ways b k σ₁ more)
          go true =
              if-bind (λ p. Went t ways ins reps k a 0 σ₁ p.0 × Folds p.0 p.1) (Visited t ways ins reps k σ) (more σ₁) _ (h σ₁ x.fine (λ z s q. q))
              (λ p y. settled (0 + a) (0 + 0) p.0 p.1 (omega arith) (omega arith) (went_both t ways ins reps k k 0 a 0 0 σ σ₁ p.0 (omega arith) x y.0) y.1)
          go false = settled 0 0 σ₁ stays (omega arith) (omega arith) x tt

      -- ---- one, two, three operands
      -- the words that are not rewritten
      abbrev Rests : Node → Type 0
      Rests nd = (kept_as g.kind nd ≡ kept_as g.kind g) × (unused_as g.kind nd ≡ unused_as g.kind g)

      alike : (x y z : ℕ) → Rests (with g x y z) → Alike (with g x y z) g
      alike x y z e = record { kind = refl; sort = refl; name = refl; kept = e.0; unused = e.1 }

      after_row : (σ₁ : St) (nd : Node) (x s : ℕ) → At t ways ins reps σ₁ x s → At t ways ins reps (set_row σ₁ k nd) x s
      after_row σ₁ nd x s h = stands-row t σ₁.rows σ₁.made k nd l x s h

      operand_number : (σ₁ : St) → Fine t ways ins reps σ₁ → (x s : ℕ) → At t ways ins reps σ₁ x s → ConstFits t σ₁.rows σ₁.made (const_of σ₁.rows x) s
      operand_number σ₁ f₁ x s h = operand_fits t σ₁.rows σ₁.made σ₁.mark f₁.shape legal x s h

      unary_went : (fold : Option ℕ → Fold) → g.a < k → may_serve (node_at t g.a) ≡ true → ((x : ℕ) → Rests (with g x g.b g.c))
          → ((rows : ℕ → Node) (made x : ℕ) → Ref t rows made k x g.a → Refs t rows made k (operands (with g x g.b g.c)) (operands g))
          → ((σ₁ : St) (x : ℕ) (cx : Option ℕ) → Fine t ways ins reps σ₁ → At t ways ins reps σ₁ x (node_at t g.a).sort → ConstFits t σ₁.rows σ₁.made cx (node_at t g.a).sort → Folds σ₁ (fold cx))
          → If (Visited t ways ins reps k σ) (unary t ways vis σ k g fold)
      unfolding unary visit1
      unary_went fold ha sa kp rf ff =
          if-bind (λ p. Here 0 0 p.0 × At t ways ins reps p.0 p.1 (node_at t g.a).sort) (Visited t ways ins reps k σ) (visit1 vis σ k g) _
          (operand (λ p. Here 0 0 p.0 × At t ways ins reps p.0 p.1 (node_at t g.a).sort) σ g.a _ ha sa (went_none t ways ins reps k 0 σ f₀)
          (λ p x lt r.
          let nd : Node = with g p.1 g.b g.c in
          (row_went p.0 nd (alike p.1 g.b g.c (kp p.1), rf p.0.rows p.0.made p.1 r) x, after_row p.0 nd p.1 (node_at t g.a).sort r.1)))
          (λ p h. settled 0 0 p.0 _ (omega arith) (omega arith) h.0 (ff p.0 p.1 (const_of p.0.rows p.1) h.0.fine h.1 (operand_number p.0 h.0.fine p.1 (node_at t g.a).sort h.1)))

      module _ (ha : g.a < k) (hb : g.b < k) (sa : may_serve (node_at t g.a) ≡ true) (sb : may_serve (node_at t g.b) ≡ true)
          (kp : (x y : ℕ) → Rests (with g x y g.c))
          (rf : (rows : ℕ → Node) (made x y : ℕ) → Ref t rows made k x g.a → Ref t rows made k y g.b → Refs t rows made k (operands (with g x y g.c)) (operands g)) where
        pub record Two (p : St × (ℕ × ℕ)) : Type 0 where
          pub here : Here 0 0 p.0
          pub first : Ref t p.0.rows p.0.made k p.1.0 g.a
          pub second : Ref t p.0.rows p.0.made k p.1.1 g.b

        visit2_went : If Two (visit2 vis σ k g)
        unfolding visit2
        visit2_went =
            operand Two σ g.a _ ha sa (went_none t ways ins reps k 0 σ f₀)
            (λ p x _ rx. operand Two p.0 g.b _ hb sb x
            (λ q y lt ry.
            let nd : Node = with g p.1 q.1 g.c in
            let sx : At t ways ins reps q.0 p.1 (node_at t g.a).sort = lt p.1 (node_at t g.a).sort rx.1 in
            record {
              here = row_went q.0 nd (alike p.1 q.1 g.c (kp p.1 q.1), rf q.0.rows q.0.made p.1 q.1 (rx.0, sx) ry) y;
              first = (rx.0, after_row q.0 nd p.1 (node_at t g.a).sort sx);
              second = (ry.0, after_row q.0 nd q.1 (node_at t g.b).sort ry.1);
            }))

        binary_went : (a : ℕ) (fold : ℕ → ℕ → Option ℕ → Option ℕ → Fold) (more : St → Out (St × Fold)) → a ≤ 3
            → ((p : St × (ℕ × ℕ)) → Two p → (cx cy : Option ℕ) → ConstFits t p.0.rows p.0.made cx (node_at t g.a).sort → ConstFits t p.0.rows p.0.made cy (node_at t g.b).sort
            → Folds p.0 (fold p.1.0 p.1.1 cx cy))
            → ((σ₁ : St) → Asks t ways ins reps k g.sort a σ₁ more) → If (Visited t ways ins reps k σ) (binary t ways vis σ k g fold more)
        unfolding binary
        binary_went a fold more h ff ask? = if-bind Two (Visited t ways ins reps k σ) (visit2 vis σ k g) _ visit2_went (λ p x. finished a p.0 _ more h x.here
            (ff p x (const_of p.0.rows p.1.0) (const_of p.0.rows p.1.1) (operand_number p.0 x.here.fine p.1.0 (node_at t g.a).sort x.first.1) (operand_number p.0 x.here.fine p.1.1 (node_at t g.b).sort x.second.1))
            (ask? p.0))

        -- And and Or: their operands have the node's sort
        logic_went : (a : ℕ) (fold : ℕ → ℕ → Option ℕ → Option ℕ → Fold) (more : St → Out (St × Fold)) → a ≤ 3 → (node_at t g.a).sort ≡ g.sort → (node_at t g.b).sort ≡ g.sort
            → ((rows : ℕ → Node) (made : ℕ) → Shares t rows made → (x y : ℕ) (cx cy : Option ℕ) → Below t k x → Below t k y
            → Stands t rows made x g.sort → Stands t rows made y g.sort
            → ConstFits t rows made cx g.sort → ConstFits t rows made cy g.sort → FoldStands t rows made k g.sort (fold x y cx cy))
            → ((σ₁ : St) → Asks t ways ins reps k g.sort a σ₁ more) → If (Visited t ways ins reps k σ) (binary t ways vis σ k g fold more)
        logic_went a fold more h ea eb law ask? =
            binary_went a fold more h
            (λ p x cx cy fx fy. law p.0.rows p.0.made x.here.fine.shape.shares p.1.0 p.1.1 cx cy x.first.0 x.second.0
            (subst (At t ways ins reps p.0 p.1.0) ea x.first.1) (subst (At t ways ins reps p.0 p.1.1) eb x.second.1)
            (subst (ConstFits t p.0.rows p.0.made cx) ea fx) (subst (ConstFits t p.0.rows p.0.made cy) eb fy))
            ask?

      -- ---- Ite
      module _ (ha : g.a < k) (hb : g.b < k) (hc : g.c < k) (sa : may_serve (node_at t g.a) ≡ true) (sb : may_serve (node_at t g.b) ≡ true) (sc : may_serve (node_at t g.c) ≡ true)
          (kp : (x y z : ℕ) → Rests (with g x y z))
          (rf : (rows : ℕ → Node) (made x y z : ℕ) → Ref t rows made k x g.a → Ref t rows made k y g.b → Ref t rows made k z g.c → Refs t rows made k (operands (with g x y z)) (operands g)) where
        visit3_went : If (λ (p : St × (ℕ × ℕ × ℕ)). Here 0 0 p.0) (visit3 vis σ k g)
        unfolding visit3
        visit3_went =
            operand (λ (p : St × (ℕ × ℕ × ℕ)). Here 0 0 p.0) σ g.a _ ha sa (went_none t ways ins reps k 0 σ f₀)
            (λ p x _ rx. operand (λ (p : St × (ℕ × ℕ × ℕ)). Here 0 0 p.0) p.0 g.b _ hb sb x
            (λ q y lt ry. operand (λ (p : St × (ℕ × ℕ × ℕ)). Here 0 0 p.0) q.0 g.c _ hc sc y
            (λ r z lt' rz. row_went r.0 (with g p.1 q.1 r.1) (
              alike p.1 q.1 r.1 (kp p.1 q.1 r.1),
              rf r.0.rows r.0.made p.1 q.1 r.1 (rx.0, lt' p.1 _ (lt p.1 _ rx.1)) (ry.0, lt' q.1 _ ry.1) rz,
            ) z)))

        -- an operand as given
        itself : (σ₁ : St) (j : ℕ) → j < k → may_serve (node_at t j) ≡ true → Ref t σ₁.rows σ₁.made k j j
        itself σ₁ j h sv = ((λ _. h), stands-itself t σ₁.rows σ₁.made j (omega arith) sv)

        -- the branch j is chosen: what stands for it takes k's place
        chosen_went : (σ₁ : St) (j : ℕ) (rewritten : ℕ → Node) → j < k → may_serve (node_at t j) ≡ true → (node_at t j).sort ≡ g.sort
            → ((p : St × ℕ) → Later t ways ins reps σ₁ p.0 → Ref t p.0.rows p.0.made k p.1 j → Row p.0 (rewritten p.1)) → Here 0 0 σ₁
            → If (Visited t ways ins reps k σ) (vis σ₁ j >>= λ p. settle t ways k (set_row p.0 k (rewritten p.1)) (swap p.1))
        chosen_went σ₁ j rewritten h sv e row x =
            operand (Visited t ways ins reps k σ) σ₁ j _ h sv x
            (λ p y lt r. settled 0 0 (set_row p.0 k (rewritten p.1)) (swap p.1) (omega arith) (omega arith) (row_went p.0 (rewritten p.1) (row p lt r) y)
            (r.0, after_row p.0 (rewritten p.1) p.1 g.sort (subst (At t ways ins reps p.0 p.1) e r.1)))

        ite_on_went : (σ₁ : St) (x : ℕ) (c : Branch) → (node_at t g.a).sort ≡ 1 → (node_at t g.b).sort ≡ g.sort → (node_at t g.c).sort ≡ g.sort
            → Ref t σ₁.rows σ₁.made k x g.a → Here 0 0 σ₁ → If (Visited t ways ins reps k σ) (ite_on t ways vis σ₁ k g x c)
        unfolding ite_on
        ite_on_went σ₁ x left ea eb ec rx s =
            chosen_went σ₁ g.b (λ y. with g x y g.c) hb sb eb
            (λ p lt ry. (alike x p.1 g.c (kp x p.1 g.c), rf p.0.rows p.0.made x p.1 g.c (rx.0, lt x _ rx.1) ry (itself p.0 g.c hc sc))) s
        ite_on_went σ₁ x right ea eb ec rx s =
            chosen_went σ₁ g.c (λ z. with g x g.b z) hc sc ec
            (λ p lt rz. (alike x g.b p.1 (kp x g.b p.1), rf p.0.rows p.0.made x g.b p.1 (rx.0, lt x _ rx.1) (itself p.0 g.b hb sb) rz)) s
        ite_on_went σ₁ x undecided ea eb ec rx s =
            operand (Visited t ways ins reps k σ) σ₁ g.b _ hb sb s
            (λ p y lt ry. operand (Visited t ways ins reps k σ) p.0 g.c _ hc sc y
            (λ q z lt' rz.
            let nd : Node = with g x p.1 q.1 in
            let tx : At t ways ins reps q.0 x (node_at t g.a).sort = lt' x _ (lt x _ rx.1) in
            let ty : At t ways ins reps q.0 p.1 (node_at t g.b).sort = lt' p.1 _ ry.1 in
            finished 3 (set_row q.0 k nd) stays _ (omega arith)
            (row_went q.0 nd (alike x p.1 q.1 (kp x p.1 q.1), rf q.0.rows q.0.made x p.1 q.1 (rx.0, tx) (ry.0, ty) rz) z) tt
            (ite-asks t ways ins reps k g.sort (set_row q.0 k nd) x p.1 q.1 rx.0 ry.0 rz.0
            (after_row q.0 nd x 1 (subst (At t ways ins reps q.0 x) ea tx)) (after_row q.0 nd p.1 g.sort (subst (At t ways ins reps q.0 p.1) eb ty)) (after_row q.0 nd q.1 g.sort (subst (At t ways ins reps q.0 q.1) ec rz.1)))))

      -- ---- Next, Read, State
      next_went : g.a < k → g.b < k → may_serve (node_at t g.a) ≡ true → may_serve (node_at t g.b) ≡ true
          → ((y : ℕ) → Rests (with g g.a y g.c))
          → ((rows : ℕ → Node) (made y : ℕ) → Ref t rows made k g.a g.a → Ref t rows made k y g.b → Refs t rows made k (operands (with g g.a y g.c)) (operands g))
          → If (Visited t ways ins reps k σ) (vis σ g.a >>= λ p. vis p.0 g.b >>= λ q. settle t ways k (set_row q.0 k (with g g.a q.1 g.c)) stays)
      next_went ha hb sa sb kp rf =
          operand (Visited t ways ins reps k σ) σ g.a _ ha sa (went_none t ways ins reps k 0 σ f₀)
          (λ p x _ _. operand (Visited t ways ins reps k σ) p.0 g.b _ hb sb x
          (λ q y _ ry. settled 0 0 (set_row q.0 k (with g g.a q.1 g.c)) stays (omega arith) (omega arith)
          (row_went q.0 (with g g.a q.1 g.c) (alike g.a q.1 g.c (kp q.1), rf q.0.rows q.0.made q.1 ((λ _. ha), stands-itself t q.0.rows q.0.made g.a (omega arith) sa) ry) y) tt))

      -- a Read settled with what its walk found: its looks are paid, and what it passed is counted only if it found a value
      tallied : (σ₁ : St) (r : Found) → r.looked ≤ fee t k → r.unsettled ≤ r.looked → Strict ways.reading (σ₁.passed + passed_by r.value r.unsettled) → Folds σ₁ (fold_found r.value) → Here 0 0 σ₁
          → If (Visited t ways ins reps k σ) (settle t ways k (add_tally σ₁ r.looked (passed_by r.value r.unsettled)) (fold_found r.value))
      unfolding settle
      tallied σ₁ r hl ha st ff x = go r.value st ff
        where
          passing : (n : ℕ) → Strict ways.reading n → Books t ways.reading ins reps n σ₁.inputs σ₁.replies σ₁.asked σ₁.held
          passing n h = books_passed t ways.reading ins reps σ₁.passed σ₁.inputs σ₁.replies σ₁.asked σ₁.held x.fine.books n h

          looked : Here 0 r.looked (add_tally σ₁ r.looked 0)
          looked =
              let books = passing (σ₁.passed + 0) (strict-zero ways.reading σ₁.passed x.fine.books.clean) in
              let fair : σ₁.passed + 0 ≤ σ₁.looked + r.looked = omega (arith, x.fine.fair) in
              let gained : σ₁.passed + 0 ≤ credit (fee t) (length t) σ₁.mark = omega (arith, x.fine.gained) in
              let looks : σ₁.looked + r.looked + unpaid (fee t) (length t) σ₁.mark ≤ σ.looked + unpaid (fee t) (length t) σ.mark + r.looked = omega (arith, x.looks) in
              assumption (books, fair, gained, looks)

          found : (v : ℕ) → Strict ways.reading (σ₁.passed + r.unsettled) → If (Visited t ways ins reps k σ) (settle t ways k (add_tally σ₁ r.looked 0) (swap v))
              → If (Visited t ways ins reps k σ) (settle t ways k (add_tally σ₁ r.looked r.unsettled) (swap v))
          found v h w =
              let books = passing (σ₁.passed + r.unsettled) h in
              let fair : σ₁.passed + r.unsettled ≤ σ₁.looked + r.looked = omega (arith, x.fine.fair) in
              let gained : σ₁.passed + r.unsettled ≤ credit (fee t) (length t) (put σ₁.mark k (replaced v)) =
              omega (arith, x.fine.gained, credit-replaced (fee t) (length t) σ₁.mark k v l (x.above k (omega arith) ∙ fresh!)) in
              assumption (books, fair, gained)

          go : (o : Option ℕ) → Strict ways.reading (σ₁.passed + passed_by o r.unsettled) → Folds σ₁ (fold_found o) → If (Visited t ways ins reps k σ) (settle t ways k (add_tally σ₁ r.looked (passed_by o r.unsettled)) (fold_found o))
          go none h g' = settled 0 r.looked (add_tally σ₁ r.looked 0) stays (omega arith) hl looked tt
          go (some v) h g' = found v h (settled 0 r.looked (add_tally σ₁ r.looked 0) (swap v) (omega arith) hl looked g')

      forward_went : (σ₁ : St) (m : ℕ) (c : Option ℕ) → writes t ≤ fee t k → g.sort ≡ 2 → Below t k m → Here 0 0 σ₁ → If (Visited t ways ins reps k σ) (forward t ways k σ₁ m c)
      unfolding forward
      forward_went σ₁ m none h e b x = settled 0 0 σ₁ stays (omega arith) (omega arith) x tt
      forward_went σ₁ m (some y) h e b x =
          let r : Found = find ways.reading (length t) σ₁.rows y m in
          let pt = points t σ₁.rows σ₁.made σ₁.mark x.fine.shape legal in
          tallied σ₁ r (omega (arith, looked-writes t ways.reading σ₁.rows σ₁.made pt y (length t) m)) (find-among ways.reading σ₁.rows (length t) y m)
          (tally_strict ways.reading σ₁.passed σ₁.rows (length t) y m x.fine.books.clean)
          (subst (λ s. FoldStands t σ₁.rows σ₁.made k s (fold_found r.value)) (sym e) (found-fold t ways.reading σ₁.rows σ₁.made pt y (length t) k m b)) x

      take_input_went : (xs : List ℕ) → σ.inputs ≡ xs → g.kind ≡ State → known_sort g.sort ≡ true → operands g ≡ [] → If (Visited t ways ins reps k σ) (take_input t ways σ k g xs)
      unfolding settle take_input
      take_input_went [] ei ks kn os = settled 0 0 σ stays (omega arith) (omega arith) (went_none t ways ins reps k 0 σ f₀) tt
      take_input_went (x ∷ xs) ei ks kn os =
          cases (If (Visited t ways ins reps k σ)) (ways.dump g.name) (λ _. settled 0 0 σ stays (omega arith) (omega arith) (went_none t ways ins reps k 0 σ f₀) tt)
          (λ _. cases (If (Visited t ways ins reps k σ)) (eqb g.sort 3) (λ _. tt)
          (λ n. cases (If (Visited t ways ins reps k σ)) (fits g.sort x)
          (λ u. held (settled 0 0 σ (make g.sort x) (omega arith) (omega arith) (went_none t ways ins reps k 0 σ f₀) (own_fold t σ.rows σ.made f₀.shape.shares k g.sort x kn (eqb-false g.sort 3 n) (ltb-true x (2 ^ width g.sort) u))))
          (λ _. tt)))
        where
          others : All (λ h. h.state ≢ k) σ.held
          others = marked-fresh t σ.mark k fresh! σ.held f₀.marked

          -- the state is marked, then known to hold the input
          held : If (Visited t ways ins reps k σ) (settle t ways k σ (make g.sort x)) → If (Visited t ways ins reps k σ) (settle t ways k (add_held (set_inputs σ xs) k (new_number t ways σ)) (make g.sort x))
          held v =
              let books =
              books_held t ways.reading ins reps σ.passed σ.inputs σ.replies σ.asked σ.held v.went.fine.books x xs (record { state = k; by = new_number t ways σ }) ei
              (record { inside = l; state = ap (λ (w : Node). w.kind) (sym eg) ∙ ks; by = omega arith; bare = ap operands (sym eg) ∙ os }) others in
              let marked = all_join (λ (h : Held). put σ.mark k (replaced (new_number t ways σ)) h.state ≡ replaced h.by)
              σ.held (record { state = k; by = new_number t ways σ } ∷ []) v.went.fine.marked
              (put_same σ.mark k (replaced (new_number t ways σ)), tt) in
              assumption (books, marked)

    -- ---- the kinds
    module _ (s a b c nm : ℕ) where
      process_went : (K : Kind) → mk K s a b c nm ≡ node_at t k → Legal t k (mk K s a b c nm) → If (Visited t ways ins reps k σ) (process t ways vis K σ k (mk K s a b c nm))
      unfolding process
      process_went Const eg g =
          settled (mk Const s a b c nm) eg 0 0 σ _ (omega arith) (omega arith) (went_none t ways ins reps k 0 σ f₀) (const_fold t σ.rows σ.made f₀.shape.shares k s a)
      process_went Read eg g =
          let nd : Node = mk Read s a b c nm in
          if-bind (Two nd eg g.before.0 g.before.1.0 g.serve.0 g.serve.1.0 (λ x y. (refl, refl)) (λ rows made x y rx ry. (rx, (ry, tt)))) (Visited t ways ins reps k σ) (visit2 vis σ k nd) _
          (visit2_went nd eg g.before.0 g.before.1.0 g.serve.0 g.serve.1.0 (λ x y. (refl, refl)) (λ rows made x y rx ry. (rx, (ry, tt))))
          (λ p x. forward_went nd eg p.0 p.1.0 (const_of p.0.rows p.1.1) read_fee (eqb-true s 2 g.sorts.0) x.first.0 x.here)
        where
          read_fee : writes t ≤ fee t k
          read_fee = let z : fee t k ≡ 1 * writes t = ap (λ (w : Node). bit (is Read w) * writes t) (sym eg) in omega arith
      process_went Write eg g =
          let nd : Node = mk Write s a b c nm in
          if-bind (λ (p : St × (ℕ × ℕ × ℕ)). Went t ways ins reps k 0 0 σ p.0) (Visited t ways ins reps k σ) (visit3 vis σ k nd) _
          (visit3_went nd eg g.before.0 g.before.1.0 g.before.1.1.0 g.serve.0 g.serve.1.0 g.serve.1.1.0 (λ x y z. (refl, refl)) (λ rows made x y z rx ry rz. (rx, (ry, (rz, tt)))))
          (λ p x. settled nd eg 0 0 p.0 stays (omega arith) (omega arith) x tt)
      process_went (Word op) eg g =
          binary_went (mk (Word op) s a b c nm) eg g.before.0 g.before.1.0 g.serve.0 g.serve.1.0 (λ x y. (refl, refl)) (λ rows made x y rx ry. (rx, (ry, tt)))
          0 (λ x y. fold_words s (compute ways.reading op)) quiet (omega arith)
          (λ p x cx cy fx fy. words_fold t p.0.rows p.0.made x.here.fine.shape.shares k s ways.reading op cx cy (eqb-true s 2 g.sorts.0) (subst (ConstFits t p.0.rows p.0.made cx) (eqb-true (node_at t a).sort 2 g.sorts.1.0) fx))
          (λ σ₁. quiet-asks t ways ins reps k s 0 σ₁)
      process_went Ult eg g =
          let e : s ≡ 1 = eqb-true s 1 g.sorts.0 in
          binary_went (mk Ult s a b c nm) eg g.before.0 g.before.1.0 g.serve.0 g.serve.1.0 (λ x y. (refl, refl)) (λ rows made x y rx ry. (rx, (ry, tt)))
          2 (λ x y. fold_test (length t) less) _ (omega arith) (λ p x cx cy fx fy. test_fold t p.0.rows p.0.made x.here.fine.shape.shares k s less cx cy e)
          (λ σ₁. bit-asks t ways ins reps k s 0 σ₁ quiet e (quiet-asks t ways ins reps k s 0 σ₁))
      process_went Ext eg g =
          unary_went (mk Ext s a b c nm) eg (fold_ext s) g.before.0 g.serve.0 (λ x. (refl, refl)) (λ rows made x r. (r, tt))
          (λ σ₁ x cx f₁ h fx. ext_fold t σ₁.rows σ₁.made f₁.shape.shares k s (node_at t a).sort cx (eqb-true s 2 g.sorts.0) fx)
      process_went Ite eg g =
          let nd : Node = mk Ite s a b c nm in
          operand nd eg (Visited t ways ins reps k σ) σ a _ g.before.0 g.serve.0 (went_none t ways ins reps k 0 σ f₀)
          (λ p x lt r. ite_on_went nd eg g.before.0 g.before.1.0 g.before.1.1.0 g.serve.0 g.serve.1.0 g.serve.1.1.0 (λ x y z. (refl, refl)) (λ rows made x y z rx ry rz. (rx, (ry, (rz, tt))))
          p.0 p.1 (branch (const_of p.0.rows p.1)) (eqb-true _ 1 g.sorts.0) (eqb-true _ s g.sorts.1.0) (eqb-true _ s g.sorts.1.1.0) r x)
      process_went Eq eg g =
          let e : s ≡ 1 = eqb-true s 1 g.sorts.0 in
          binary_went (mk Eq s a b c nm) eg g.before.0 g.before.1.0 g.serve.0 g.serve.1.0 (λ x y. (refl, refl)) (λ rows made x y rx ry. (rx, (ry, tt)))
          2 (fold_eq (length t)) _ (omega arith) (λ p x cx cy fx fy. eq_fold t p.0.rows p.0.made x.here.fine.shape.shares k s p.1.0 p.1.1 cx cy e)
          (λ σ₁. bit-asks t ways ins reps k s 0 σ₁ quiet e (quiet-asks t ways ins reps k s 0 σ₁))
      process_went And eg g =
          logic_went (mk And s a b c nm) eg g.before.0 g.before.1.0 g.serve.0 g.serve.1.0 (λ x y. (refl, refl)) (λ rows made x y rx ry. (rx, (ry, tt)))
          2 (fold_and s) _ (omega arith) (eqb-true (node_at t a).sort s g.sorts.1.0) (eqb-true (node_at t b).sort s g.sorts.1.1.0)
          (λ rows made sh x y cx cy. and_fold t rows made sh k s x y cx cy g.known (eqb-false s 3 (not-true _ g.sorts.0)))
          (λ σ₁. and-asks t ways ins reps k s σ₁)
      process_went Or eg g =
          logic_went (mk Or s a b c nm) eg g.before.0 g.before.1.0 g.serve.0 g.serve.1.0 (λ x y. (refl, refl)) (λ rows made x y rx ry. (rx, (ry, tt)))
          0 (fold_or s) quiet (omega arith) (eqb-true (node_at t a).sort s g.sorts.1.0) (eqb-true (node_at t b).sort s g.sorts.1.1.0)
          (λ rows made sh x y cx cy. or_fold t rows made sh k s x y cx cy g.known (eqb-false s 3 (not-true _ g.sorts.0)))
          (λ σ₁. quiet-asks t ways ins reps k s 0 σ₁)
      process_went Not eg g =
          unary_went (mk Not s a b c nm) eg (fold_not (length t) s) g.before.0 g.serve.0 (λ x. (refl, refl)) (λ rows made x r. (r, tt))
          (λ σ₁ x cx f₁ h fx. not_fold t σ₁.rows σ₁.made f₁.shape.shares k s cx g.known (eqb-false s 3 (not-true _ g.sorts.0)))
      process_went State eg g = go (eqb b 1) refl g.before g.serve
        where
          go : (q : Bool) → eqb b 1 ≡ q → All (λ x. x < k) (cond q (a ∷ []) []) → All (λ x. may_serve (node_at t x) ≡ true) (cond q (a ∷ []) [])
              → If (Visited t ways ins reps k σ) (elim q [ true ↦ unary t ways vis σ k (mk State s a b c nm) (λ x. stays) | false ↦ take_input t ways σ k (mk State s a b c nm) σ.inputs ])
          go true q h v =
              unary_went (mk State s a b c nm) eg (λ x. stays) h.0 v.0
              (λ x. (refl, ap (λ z. cond z (c ∷ []) (x ∷ b ∷ c ∷ [])) q ∙ sym (ap (λ z. cond z (c ∷ []) (a ∷ b ∷ c ∷ [])) q)))
              (λ rows made x r. subst (λ z. Refs t rows made k (cond z (x ∷ []) []) (cond z (a ∷ []) [])) (sym q) (r, tt)) (λ σ₁ x cx f₁ h fx. tt)
          go false q h v = take_input_went (mk State s a b c nm) eg σ.inputs refl refl g.known (ap (λ z. cond z (a ∷ []) []) q)
      process_went Next eg g =
          next_went (mk Next s a b c nm) eg g.before.0 g.before.1.0 g.serve.0 g.serve.1.0 (λ y. (refl, refl)) (λ rows made y ra ry. (ra, (ry, tt)))
      process_went Input eg g = settled (mk Input s a b c nm) eg 0 0 σ stays (omega arith) (omega arith) (went_none t ways ins reps k 0 σ f₀) tt
      process_went Bad eg g =
          unary_went (mk Bad s a b c nm) eg (λ x. stays) g.before.0 g.serve.0 (λ x. (refl, refl)) (λ rows made x r. (r, tt)) (λ σ₁ x cx f₁ h fx. tt)

  -- ---- visiting
  module _ (legal : AllLegal t) where
    marked_went : (vis : St → ℕ → Out (St × ℕ)) → ((σ : St) (j : ℕ) → j < length t → Fine t ways ins reps σ → If (Visited t ways ins reps j σ) (vis σ j))
        → (σ : St) (k : ℕ) → k < length t → Fine t ways ins reps σ → (m : Mark) → σ.mark k ≡ m → If (Visited t ways ins reps k σ) (visit_marked t ways vis m σ k)
    marked_went vis h σ k l f fresh e =
        let nd : Node = node_at t k in
        process_went legal vis h k l σ f e nd.sort nd.a nd.b nd.c nd.name nd.kind refl (legal k l)
    marked_went vis h σ k l f kept e =
        record { went = went_none t ways ins reps (suc k) 0 σ f; upto = λ i. omega arith; stands = λ q. stands-itself t σ.rows σ.made k l q }
    marked_went vis h σ k l f (replaced r) e =
        let m : MarkStands t σ.rows σ.made k (replaced r) = subst (MarkStands t σ.rows σ.made k) e (f.shape.marks k l) in
        record { went = went_none t ways ins reps (suc k) 0 σ f; upto = λ i. let j = m.0 i in omega (arith, j); stands = λ _. m.1 }

    pub visit_went : (fuel : ℕ) (σ : St) (k : ℕ) → k < length t → Fine t ways ins reps σ → If (Visited t ways ins reps k σ) (visit t ways fuel σ k)
    unfolding visit
    visit_went zero σ k l f = record { went = went_none t ways ins reps (suc k) 0 σ f; upto = λ i. omega arith; stands = λ q. stands-itself t σ.rows σ.made k l q }
    visit_went (suc fuel) σ k l f = marked_went (visit t ways fuel) (visit_went fuel) σ k l f (σ.mark k) refl
