-- The shape of rows, marks and constants, and the books of inputs and replies: how they start, what keeps them, and what a shape says.
-- Assumes nothing.
use Prim.Native.Nat.{ℕ, zero, suc, ◌+◌, ◌-◌, ◌<◌, ◌≤◌, ◌^◌}
use mathlib.Core.Path.{◌≡◌, refl, sym, ap, ◌∙◌, subst}
use mathlib.Core.Logic.{◌≢◌}
use mathlib.Core.Bool.{Bool, true, false, cond, ◌||◌, not}
use mathlib.Core.List.{List, [], ◌∷◌, ◌++◌}
use native.Mathlib.Omega.{arith}
use native.Mathlib.Nat.{add-zero}
use lib.ListN.{length, get_or, drop, length-append, get_or-append}
use lib.Seq.{get_or-append_seam}
use lib.Dec.{eqb}
use borrow.Author.Tests.{eqb-true}
use Rattle.btor.specs.Operators.{Reading, rust, standard}
use Rattle.rules.specs.Lists.{put, All}
use Rattle.rules.specs.Table.{Const, Write, Next, Bad, Node, constant, unknown, kind_code, node_at, is, operands_as, operands}
use Rattle.rules.specs.Check.{may_serve}
use Rattle.rules.specs.Legal.{AllLegal}
use Rattle.rules.specs.Walk.{Mark, fresh, kept, replaced, Question, Held, start_rows}
use Rattle.rules.specs.Fold.{const_of}
use Rattle.rules.specs.Questions.{first_reply, other_replies}
use Rattle.rules.specs.Tally.{reply_at, Apart}
use Rattle.rules.specs.Laws.{MadeRow}
use Rattle.rules.specs.Fine.{Below, Stands, Refs, kept_as, Alike, MarkStands, Shape, Used, Strict, Took, Books, Marked}
use Rattle.rules.proofs.Base.{no, inside-or-past, all_map, all_join, put_same, put_other, put_all, is-kind, kind-is}
use Rattle.rules.proofs.Words.{width-bit}
use Rattle.rules.proofs.Legal.{legal_as}
use Rattle.rules.proofs.Start.{given-row, new_row}
use Rattle.rules.proofs.Standing.{ConstFits, stands-itself, stands-row, stands_const, refs_map, const_fits}
use Rattle.rules.proofs.Search.{Points}

pub alike-itself : (g : Node) → Alike g g
alike-itself g = record { kind = refl; sort = refl; name = refl; kept = refl; unused = refl }

pub first_word : (x y : ℕ) → ◌≡◌ {A = List ℕ} (x ∷ []) (y ∷ []) → x ≡ y
first_word x y e = ap (λ l. get_or l 0 0) e

module _ (t : List Node) where
  -- a node that had no replacement is marked
  pub used-put : (mark : ℕ → Mark) (made k : ℕ) (m : Mark) → mark k ≡ fresh → Used t mark made → Used t (put mark k m) made
  used-put mark made k m e h r l u =
      let w = h r l u in
      (w.0, w.1, put_other mark k m w.0 (λ z. let q = ap mark (sym z) ∙ w.2 in cc) ∙ w.2)

  -- and where one more constant is made, it is by that
  pub used-made : (mark : ℕ → Mark) (made k : ℕ) → k < length t → mark k ≡ fresh → Used t mark made → Used t (put mark k (replaced (length t + 2 + made))) (suc made)
  used-made mark made k i e h r l u =
      inside-or-past _ r (length t + 2 + made) (λ q. used-put mark made k (replaced (length t + 2 + made)) e h r l q)
      (λ q. let z : length t + 2 + made ≡ r = omega arith in (k, i, put_same mark k (replaced (length t + 2 + made)) ∙ ap replaced z))

  -- so none of them is fresh
  pub marked-fresh : (mark : ℕ → Mark) (k : ℕ) → mark k ≡ fresh → (hs : List Held) → Marked t mark hs → All (λ h. h.state ≢ k) hs
  marked-fresh mark k e hs h = all_map (λ h. mark h.state ≡ replaced h.by) (λ h. h.state ≢ k) (λ h q z. let r = ap mark (sym z) ∙ q in cc) hs h

  pub marked-put : (mark : ℕ → Mark) (k : ℕ) (m : Mark) (hs : List Held) → All (λ h. h.state ≢ k) hs → Marked t mark hs → Marked t (put mark k m) hs
  marked-put mark k m [] n h = tt
  marked-put mark k m (g ∷ hs) n h = (put_other mark k m g.state n.0 ∙ h.0, marked-put mark k m hs n.1 h.1)

  -- ---- the changes of a shape
  module _ (rows : ℕ → Node) (made : ℕ) (mark : ℕ → Mark) (h : Shape t rows made mark) where
    mark-map : (rows' : ℕ → Node) (made' k : ℕ) → ((x s : ℕ) → Stands t rows made x s → Stands t rows' made' x s) → (m : Mark) → MarkStands t rows made k m → MarkStands t rows' made' k m
    mark-map rows' made' k f fresh g = tt
    mark-map rows' made' k f kept g = tt
    mark-map rows' made' k f (replaced r) g = (g.0, f r (node_at t k).sort g.1)

    pub shape_row : (k : ℕ) (nd : Node) → k < length t → Alike nd (node_at t k) → Refs t rows made k (operands nd) (operands (node_at t k)) → Shape t (put rows k nd) made mark
    shape_row k nd l a r =
        record {
          shares = record {
            false! = put_other rows k nd (length t) (λ e. omega arith) ∙ h.shares.false!;
            true! = put_other rows k nd (length t + 1) (λ e. omega arith) ∙ h.shares.true!;
          };
          news = put_all (λ j (w : Node). length t ≤ j → j < length t + 2 + made → MadeRow w) rows k nd (λ i. absurd (omega arith)) h.news;
          past = put_all (λ j (w : Node). length t ≤ j → is Write w ≡ false) rows k nd (λ i. absurd (omega arith)) h.past;
          alike = put_all (λ j (w : Node). j < length t → Alike w (node_at t j)) rows k nd (λ _. a) h.alike;
          refs = put_all (λ j (w : Node). j < length t → Refs t (put rows k nd) made j (operands w) (operands (node_at t j))) rows k nd
              (λ _. refs_map t rows (put rows k nd) made made k (stands-row t rows made k nd l) (operands nd) (operands (node_at t k)) r)
              (λ j i. refs_map t rows (put rows k nd) made made j (stands-row t rows made k nd l) (operands (rows j)) (operands (node_at t j)) (h.refs j i));
          marks = λ j i. mark-map (put rows k nd) made j (stands-row t rows made k nd l) (mark j) (h.marks j i);
        }

    pub shape_const : (nd : Node) → MadeRow nd → Shape t (put rows (length t + 2 + made) nd) (suc made) mark
    shape_const nd w =
        let r : ℕ = length t + 2 + made in
        record {
          shares = record {
            false! = put_other rows r nd (length t) (λ e. omega arith) ∙ h.shares.false!;
            true! = put_other rows r nd (length t + 1) (λ e. omega arith) ∙ h.shares.true!;
          };
          news = λ j i u. at j i u (eqb j r) refl;
          past = put_all (λ j (q : Node). length t ≤ j → is Write q ≡ false) rows r nd (λ _. ap (is Write) w.const) h.past;
          alike = put_all (λ j (q : Node). j < length t → Alike q (node_at t j)) rows r nd (λ i. absurd (omega arith)) h.alike;
          refs = put_all (λ j (q : Node). j < length t → Refs t (put rows r nd) (suc made) j (operands q) (operands (node_at t j))) rows r nd
              (λ i. absurd (omega arith))
              (λ j i. refs_map t rows (put rows r nd) made (suc made) j (stands_const t rows made nd) (operands (rows j)) (operands (node_at t j)) (h.refs j i));
          marks = λ j i. mark-map (put rows r nd) (suc made) j (stands_const t rows made nd) (mark j) (h.marks j i);
        }
      where
        at : (j : ℕ) → length t ≤ j → j < length t + 2 + suc made → (b : Bool) → eqb j (length t + 2 + made) ≡ b → MadeRow (cond b nd (rows j))
        at j i u true e = w
        at j i u false e = let z = borrow.Author.Tests.eqb-false j (length t + 2 + made) e in h.news j i (omega (arith, z))

    pub shape_mark : (k : ℕ) (m : Mark) → MarkStands t rows made k m → Shape t rows made (put mark k m)
    shape_mark k m g = assumption (h, put_all (λ j x. j < length t → MarkStands t rows made j x) mark k m (λ _. g) h.marks)

    -- ---- what a shape says
    -- what stands for a node has its sort, and serves
    pub stands_sort : (x s : ℕ) → Stands t rows made x s → (rows x).sort ≡ s
    stands_sort x s q = inside-or-past _ x (length t) (λ l. (h.alike x l).sort ∙ q.sort l) (λ l. (q.new l).sort)

    pub stands_serves : (x s : ℕ) → Stands t rows made x s → may_serve (rows x) ≡ true
    stands_serves x s q =
        inside-or-past _ x (length t) (λ l. ap (λ K. not (eqb (kind_code K) (kind_code Next) || eqb (kind_code K) (kind_code Bad))) (h.alike x l).kind ∙ q.serve l)
        (λ l. ap may_serve (h.news x l (q.new l).inside).const)

    module _ (legal : AllLegal t) where
      write_refs : (m : ℕ) → m < length t → (rows m).kind ≡ Write → (node_at t m).kind ≡ Write
          → Refs t rows made m ((rows m).a ∷ (rows m).b ∷ (rows m).c ∷ []) ((node_at t m).a ∷ (node_at t m).b ∷ (node_at t m).c ∷ [])
      write_refs m l e q =
          subst (λ K. Refs t rows made m ((rows m).a ∷ (rows m).b ∷ (rows m).c ∷ []) (operands_as K (node_at t m))) q
          (subst (λ K. Refs t rows made m (operands_as K (rows m)) (operands (node_at t m))) e (h.refs m l))

      pub points : Points t rows made
      points = record { inside = within; given = λ m e. kind-is Write (node_at t m) (both m e); memory = λ m e. (write_refs m (within m e) (is-kind Write (rows m) e) (both m e)).0.0; value = λ m e. word m e }
        where
          within : (m : ℕ) → is Write (rows m) ≡ true → m < length t
          within m e = inside-or-past (m < length t) m (length t) (λ l. l) (λ l. no (sym (h.past m l) ∙ e))

          both : (m : ℕ) → is Write (rows m) ≡ true → (node_at t m).kind ≡ Write
          both m e = sym (h.alike m (within m e)).kind ∙ is-kind Write (rows m) e

          word : (m : ℕ) → is Write (rows m) ≡ true → Below t m (rows m).c × Stands t rows made (rows m).c 2
          word m e =
              let r = (write_refs m (within m e) (is-kind Write (rows m) e) (both m e)).1.1.0 in
              let g = legal_as t m Write (node_at t m) (both m e) (legal m (within m e)) in
              (r.0, subst (Stands t rows made (rows m).c) (eqb-true (node_at t (node_at t m).c).sort 2 g.sorts.1.1.1.0) r.1)

      -- the number of a constant operand fits its sort
      pub operand_fits : (x s : ℕ) → Stands t rows made x s → ConstFits t rows made (const_of rows x) s
      operand_fits x s q =
          const_fits t legal rows made x s (λ l. (h.alike x l).kind)
          (λ l e. first_word (rows x).a (node_at t x).a (subst (λ K. kept_as K (rows x) ≡ kept_as K (node_at t x)) (is-kind Const (node_at t x) e) (h.alike x l).kept)) (λ l. h.news x l (q.new l).inside) q

  -- ---- the start
  -- operands that serve stand for themselves
  refs_given : (k : ℕ) → k < length t → (os : List ℕ) → All (λ x. x < k) os → All (λ x. may_serve (node_at t x) ≡ true) os → Refs t (start_rows t) 0 k os os
  refs_given k l [] b s = tt
  refs_given k l (o ∷ os) b s = (((λ _. b.0), stands-itself t (start_rows t) 0 o (omega (arith, b.0, l)) s.0), refs_given k l os b.1 s.1)

  pub start_shape : AllLegal t → (mark : ℕ → Mark) → ((k : ℕ) → mark k ≡ fresh) → Shape t (start_rows t) 0 mark
  start_shape legal mark e =
      record {
        shares = record { false! = ap (start_rows t) (sym (add-zero (length t))) ∙ new_row t 0; true! = new_row t 1 };
        news = λ r l u. at r l (λ q. MadeRow q) (λ i q. row i (omega (arith, q, u)));
        past = λ r l. at r l (λ q. is Write q ≡ false) (λ i q. quiet i);
        alike = λ k l. subst (λ q. Alike q (node_at t k)) (sym (given-row t k l)) (alike-itself (node_at t k));
        refs = λ k l. subst (λ (q : Node). Refs t (start_rows t) 0 k (operands q) (operands (node_at t k))) (sym (given-row t k l)) (refs_given k l (operands (node_at t k)) (legal k l).before (legal k l).serve);
        marks = λ k l. subst (MarkStands t (start_rows t) 0 k) (sym (e k)) tt;
      }
    where
      at : (r : ℕ) → length t ≤ r → (P : Node → Type 0) → ((i : ℕ) → r ≡ length t + i → P (get_or (constant 1 0 ∷ constant 1 1 ∷ []) i unknown)) → P (start_rows t r)
      at r l P f =
          let q : r ≡ length t + (r - length t) = omega arith in
          subst (λ j. P (start_rows t j)) (sym q) (subst P (sym (new_row t (r - length t))) (f (r - length t) q))

      bit_row : (x : ℕ) → x < 2 → MadeRow (constant 1 x)
      bit_row x l = record { const = refl; known = refl; sort = λ z. omega arith; fits = subst (λ w. x < 2 ^ w) (sym width-bit) l }

      row : (i : ℕ) → i < 2 → MadeRow (get_or (constant 1 0 ∷ constant 1 1 ∷ []) i unknown)
      row zero l = bit_row 0 (omega arith)
      row (suc zero) l = bit_row 1 (omega arith)
      row (suc (suc i)) l = absurd (omega arith)

      quiet : (i : ℕ) → is Write (get_or (constant 1 0 ∷ constant 1 1 ∷ []) i unknown) ≡ false
      quiet zero = refl
      quiet (suc zero) = refl
      quiet (suc (suc i)) = refl

  -- ---- the changes of the books
  one_more : (hs : List Held) (h : Held) → Apart hs → All (λ g. g.state ≢ h.state) hs → Apart (hs ++ (h ∷ []))
  one_more [] h a n = (tt, tt)
  one_more (g ∷ hs) h a n = (all_join (λ q. q.state ≢ g.state) hs (h ∷ []) a.0 ((λ e. n.0 (sym e)), tt), one_more hs h a.1 n.1)

  module _ (how : Reading) (ins reps : List ℕ) (passed : ℕ) (inputs replies : List ℕ) (asked : List Question) (held : List Held) (b : Books t how ins reps passed inputs replies asked held) where
    -- one more question takes the first reply left
    pub books_asked : (q : Question) → q.reply ≡ first_reply replies → Books t how ins reps passed inputs (other_replies replies) (asked ++ (q ∷ [])) held
    books_asked q e =
        record {
          clean = b.clean;
          fewer = b.fewer;
          left = b.left;
          unasked = ap other_replies b.unasked ∙ after (length asked) reps ∙ ap (λ i. drop i reps) (sym more);
          answers = λ i l. at i l (eqb i (length asked)) refl;
          took = b.took;
          apart = b.apart;
        }
      where
        more : length (asked ++ (q ∷ [])) ≡ suc (length asked)
        more = length-append asked (q ∷ []) ∙ omega arith

        after : (i : ℕ) (l : List ℕ) → other_replies (drop i l) ≡ drop (suc i) l
        after zero [] = refl
        after zero (x ∷ l) = refl
        after (suc i) [] = refl
        after (suc i) (x ∷ l) = after i l

        first : (i : ℕ) (l : List ℕ) → first_reply (drop i l) ≡ get_or l i 0
        first zero [] = refl
        first zero (x ∷ l) = refl
        first (suc i) [] = refl
        first (suc i) (x ∷ l) = first i l

        at : (i : ℕ) → i < length (asked ++ (q ∷ [])) → (c : Bool) → eqb i (length asked) ≡ c → reply_at (asked ++ (q ∷ [])) i ≡ get_or reps i 0
        at i l true z =
            let iz : i ≡ length asked = eqb-true i (length asked) z in
            subst (λ j. reply_at (asked ++ (q ∷ [])) j ≡ get_or reps j 0) (sym iz)
            (ap (λ (w : Question). w.reply) (get_or-append_seam asked q [] _) ∙ e ∙ ap first_reply b.unasked ∙ first (length asked) reps)
        at i l false z =
            let ne = borrow.Author.Tests.eqb-false i (length asked) z in
            let li : i < length asked = omega (arith, l, more, ne) in
            ap (λ (w : Question). w.reply) (get_or-append asked (q ∷ []) _ i li) ∙ b.answers i li

    -- one more state takes the first input left
    pub books_held : (x : ℕ) (xs : List ℕ) (h : Held) → inputs ≡ x ∷ xs → Took t h → All (λ g. g.state ≢ h.state) held → Books t how ins reps passed xs replies asked (held ++ (h ∷ []))
    books_held x xs h e k new =
        record {
          clean = b.clean;
          fewer = subst (λ n. n ≤ length ins) (sym more) (shorter (length held) ins (sym b.left ∙ e));
          left = tail (length held) ins (sym b.left ∙ e) ∙ ap (λ i. drop i ins) (sym more);
          unasked = b.unasked;
          answers = b.answers;
          took = all_join (Took t) held (h ∷ []) b.took (k, tt);
          apart = one_more held h b.apart new;
        }
      where
        more : length (held ++ (h ∷ [])) ≡ suc (length held)
        more = length-append held (h ∷ []) ∙ omega arith

        shorter : (i : ℕ) (l : List ℕ) → drop i l ≡ x ∷ xs → suc i ≤ length l
        shorter zero [] q = cc
        shorter zero (y ∷ l) q = omega arith
        shorter (suc i) [] q = cc
        shorter (suc i) (y ∷ l) q = omega (arith, shorter i l q)

        tail : (i : ℕ) (l : List ℕ) → drop i l ≡ x ∷ xs → xs ≡ drop (suc i) l
        tail zero [] q = cc
        tail zero (y ∷ l) q = cc
        tail (suc i) [] q = cc
        tail (suc i) (y ∷ l) q = tail i l q

    pub books_passed : (n : ℕ) → Strict how n → Books t how ins reps n inputs replies asked held
    books_passed n e = assumption (e, b)

strict-start : (how : Reading) → Strict how 0
strict-start rust = tt
strict-start standard = refl

pub start-books : (t : List Node) (how : Reading) (ins reps : List ℕ) → Books t how ins reps 0 ins reps [] []
start-books t how ins reps = record { clean = strict-start how; fewer = omega arith; left = refl; unasked = refl; answers = λ i l. absurd (omega arith); took = tt; apart = tt }
