-- Laws of renumbering: the operands are mapped and all else stays, maps join, and rules 3 and 5 and the values go along.
-- By cases on the kind, each by computation; values by a rank that is the new number, and 0 for a constant, which names none.
-- Assumes nothing.
use Prim.Native.Nat.{ℕ, zero, suc, ◌<◌, ◌≤◌}
use mathlib.Core.Path.{◌≡◌, refl, sym, ap, ap₂, ◌∙◌, subst}
use mathlib.Core.Logic.{◌⊎◌, inl, inr}
use mathlib.Core.Bool.{Bool, true, false, cond, ◌&&◌}
use mathlib.Core.List.{List, [], ◌∷◌, map}
use native.Mathlib.Omega.{arith}
use lib.Dec.{eqb}
use Rattle.btor.specs.Operators.{Reading}
use Rattle.rules.specs.Lists.{all_true, every, All}
use Rattle.rules.specs.Table.{Kind, Const, Read, Write, Word, Ult, Ext, Ite, Eq, And, Or, Not, State, Next, Input, Bad, Node, is, with, node_at, operands_as, operands, operand_words_as, moved, renumber_as, renumber}
use Rattle.rules.specs.Check.{unused_as, may_serve}
use Rattle.rules.specs.Value.{Value, meaning, worth, value}
use Rattle.rules.specs.Renumber.{RenumberedRow, RenumberedTwice, RenumberedNone, SameMap, SameButOperands, Solves, Down, Carries, SolvedAlong, ValuesAlong, ThreeAlong, FiveAlong, summed, constant_first, to_first, AlongWorked}
use Rattle.rules.proofs.Base.{cases_cond, all_map, is-kind, kind-is}
use Rattle.rules.proofs.Values.{meaning-same, solves}
use Rattle.rules.proofs.Passes.{coded-three, same-three, SortsLike, same-sorts}

-- ---- one row
pub operands-as : (K : Kind) (f : ℕ → ℕ) (nd : Node) → operands_as K (renumber_as K f nd) ≡ map f (operands_as K nd)
operands-as Const f nd = refl
operands-as Read f nd = refl
operands-as Write f nd = refl
operands-as (Word op) f nd = refl
operands-as Ult f nd = refl
operands-as Ext f nd = refl
operands-as Ite f nd = refl
operands-as Eq f nd = refl
operands-as And f nd = refl
operands-as Or f nd = refl
operands-as Not f nd = refl
operands-as State f nd = go (eqb nd.b 1)
  where
    go : (b : Bool) → cond b (moved b f nd.a ∷ []) [] ≡ map f (cond b (nd.a ∷ []) [])
    go true = refl
    go false = refl
operands-as Next f nd = refl
operands-as Input f nd = refl
operands-as Bad f nd = refl

unused-as : (K : Kind) (f : ℕ → ℕ) (nd : Node) → unused_as K (renumber_as K f nd) ≡ unused_as K nd
unused-as Const f nd = refl
unused-as Read f nd = refl
unused-as Write f nd = refl
unused-as (Word op) f nd = refl
unused-as Ult f nd = refl
unused-as Ext f nd = refl
unused-as Ite f nd = refl
unused-as Eq f nd = refl
unused-as And f nd = refl
unused-as Or f nd = refl
unused-as Not f nd = refl
unused-as State f nd = go (eqb nd.b 1)
  where
    go : (b : Bool) → cond b (nd.c ∷ []) (moved b f nd.a ∷ nd.b ∷ nd.c ∷ []) ≡ cond b (nd.c ∷ []) (nd.a ∷ nd.b ∷ nd.c ∷ [])
    go true = refl
    go false = refl
unused-as Next f nd = refl
unused-as Input f nd = refl
unused-as Bad f nd = refl

pub renumbered_rest : (f : ℕ → ℕ) (nd : Node) → SameButOperands (renumber f nd) nd
renumbered_rest f nd =
    record {
      kind = refl;
      sort = refl;
      name = refl;
      number = λ e. ap (λ K. (renumber_as K f nd).a) (is-kind Const nd e);
      from = λ e. ap (λ K. (renumber_as K f nd).b) (is-kind Ext nd e);
      init = λ e. ap (λ K. (renumber_as K f nd).b) (is-kind State nd e);
      unused = unused-as nd.kind f nd;
    }

pub renumbered_row : RenumberedRow
unfolding RenumberedRow
renumbered_row f nd = record { mapped = operands-as nd.kind f nd; rest = renumbered_rest f nd }

-- ---- maps
words_same : (nd : Node) {a b c a' b' c' : ℕ} → a ≡ a' → b ≡ b' → c ≡ c' → with nd a b c ≡ with nd a' b' c'
words_same nd p q r = λ i. with nd (p i) (q i) (r i)

moved_none : (b : Bool) (x : ℕ) → moved b (λ y. y) x ≡ x
moved_none true x = refl
moved_none false x = refl

pub renumbered_none : RenumberedNone
unfolding RenumberedNone
renumbered_none nd =
    let w : Bool × Bool × Bool = operand_words_as nd.kind nd in
    words_same nd (moved_none w.0 nd.a) (moved_none w.1 nd.b) (moved_none w.2 nd.c)

-- a State's b is no operand, so it still tells whether a is one
words_as : (K : Kind) (f : ℕ → ℕ) (nd : Node) → operand_words_as K (renumber_as K f nd) ≡ operand_words_as K nd
words_as Const f nd = refl
words_as Read f nd = refl
words_as Write f nd = refl
words_as (Word op) f nd = refl
words_as Ult f nd = refl
words_as Ext f nd = refl
words_as Ite f nd = refl
words_as Eq f nd = refl
words_as And f nd = refl
words_as Or f nd = refl
words_as Not f nd = refl
words_as State f nd = refl
words_as Next f nd = refl
words_as Input f nd = refl
words_as Bad f nd = refl

moved_twice : (b b' : Bool) (f g : ℕ → ℕ) (x : ℕ) → b' ≡ b → moved b' g (moved b f x) ≡ moved b (λ y. g (f y)) x
moved_twice true b' f g x e = ap (λ c. moved c g (f x)) e
moved_twice false b' f g x e = ap (λ c. moved c g x) e

pub renumbered_twice : RenumberedTwice
unfolding RenumberedTwice
renumbered_twice f g nd =
    let w : Bool × Bool × Bool = operand_words_as nd.kind nd in
    let e = words_as nd.kind f nd in
    words_same nd (moved_twice w.0 _ f g nd.a (ap (λ p. p.0) e)) (moved_twice w.1 _ f g nd.b (ap (λ p. p.1) e)) (moved_twice w.2 _ f g nd.c (ap (λ p. p.2) e))

same_as : (K : Kind) (f g : ℕ → ℕ) (nd : Node) → All (λ x. f x ≡ g x) (operands_as K nd) → renumber_as K f nd ≡ renumber_as K g nd
same_as Const f g nd h = refl
same_as Read f g nd h = words_same nd h.0 h.1.0 refl
same_as Write f g nd h = words_same nd h.0 h.1.0 h.1.1.0
same_as (Word op) f g nd h = words_same nd h.0 h.1.0 refl
same_as Ult f g nd h = words_same nd h.0 h.1.0 refl
same_as Ext f g nd h = words_same nd h.0 refl refl
same_as Ite f g nd h = words_same nd h.0 h.1.0 h.1.1.0
same_as Eq f g nd h = words_same nd h.0 h.1.0 refl
same_as And f g nd h = words_same nd h.0 h.1.0 refl
same_as Or f g nd h = words_same nd h.0 h.1.0 refl
same_as Not f g nd h = words_same nd h.0 refl refl
same_as State f g nd h = words_same nd (go (eqb nd.b 1) h) refl refl
  where
    go : (b : Bool) → All (λ x. f x ≡ g x) (cond b (nd.a ∷ []) []) → moved b f nd.a ≡ moved b g nd.a
    go true q = q.0
    go false q = refl
same_as Next f g nd h = words_same nd h.0 h.1.0 refl
same_as Input f g nd h = refl
same_as Bad f g nd h = words_same nd h.0 refl refl

pub same_map : SameMap
unfolding SameMap
same_map f g nd h = same_as nd.kind f g nd h

-- ---- values
meaning_as : (how : Reading) (K : Kind) (f : ℕ → ℕ) (v : ℕ → Value) (own : Value) (nd : Node) → meaning how K v own (renumber_as K f nd) ≡ meaning how K (λ x. v (f x)) own nd
meaning_as how Const f v own nd = refl
meaning_as how Read f v own nd = refl
meaning_as how Write f v own nd = refl
meaning_as how (Word op) f v own nd = refl
meaning_as how Ult f v own nd = refl
meaning_as how Ext f v own nd = refl
meaning_as how Ite f v own nd = refl
meaning_as how Eq f v own nd = refl
meaning_as how And f v own nd = refl
meaning_as how Or f v own nd = refl
meaning_as how Not f v own nd = refl
meaning_as how State f v own nd = refl
meaning_as how Next f v own nd = refl
meaning_as how Input f v own nd = refl
meaning_as how Bad f v own nd = refl

-- the rank of a row falls to its operands
module _ (rows : ℕ → Node) (f : ℕ → ℕ) (Dom : ℕ → Type 0) (down : Down rows f Dom) where
  abbrev rank : ℕ → ℕ
  rank k = cond (is Const (rows k)) 0 (suc (f k))

  rank_most : (k : ℕ) → rank k ≤ suc (f k)
  rank_most k = cases_cond (λ r. r ≤ suc (f k)) (is Const (rows k)) (λ _. omega arith) (λ _. omega arith)

  falls : (k : ℕ) → Dom k → All (λ j. Dom j × (rank j < rank k)) (operands (rows k))
  falls k d = go (is Const (rows k)) refl
    where
      below : (j : ℕ) → (f j < f k) ⊎ ((rows j).kind ≡ Const) → rank j < suc (f k)
      below j (inl h) = omega (arith, rank_most j)
      below j (inr e) = subst (λ b. cond b 0 (suc (f j)) < suc (f k)) (sym (kind-is Const (rows j) e)) (omega arith)

      go : (b : Bool) → is Const (rows k) ≡ b → All (λ j. Dom j × (rank j < cond b 0 (suc (f k)))) (operands (rows k))
      go true e = subst (All (λ j. Dom j × (rank j < 0))) (sym (ap (λ K. operands_as K (rows k)) (is-kind Const (rows k) e))) tt
      go false e = all_map _ (λ j. Dom j × (rank j < suc (f k))) (λ j h. (h.0, below j h.1)) (operands (rows k)) (down k d)

  -- there is one solution at most
  module _ (how : Reading) (α u w : ℕ → Value) (su : Solves how rows α Dom u) (sw : Solves how rows α Dom w) where
    agree : (n k : ℕ) → Dom k → rank k < n → u k ≡ w k
    agree zero k d h = absurd (omega arith)
    agree (suc n) k d h =
        sym (su k d)
        ∙ meaning-same how (rows k).kind (rows k) u w (α k)
        (all_map _ (λ j. u j ≡ w j) (λ j q. let r = q.1 in agree n j q.0 (omega (arith, r))) (operands (rows k)) (falls k d))
        ∙ sw k d

    pub one_solution : (k : ℕ) → Dom k → u k ≡ w k
    one_solution k d = agree (suc (rank k)) k d (omega arith)

-- rows that name numbers before them, or constants, have their values for one
pub value-solves : (how : Reading) (rows : ℕ → Node) (α : ℕ → Value) (Dom : ℕ → Type 0) → Down rows (λ k. k) Dom → Solves how rows α Dom (value how rows α)
unfolding value
value-solves how rows α Dom down =
    solves how rows (λ v. α) Dom (rank rows (λ k. k) Dom down) (λ u v k h. refl) (falls rows (λ k. k) Dom down) (λ k d. omega (arith, rank_most rows (λ k. k) Dom down k))

all-mapped : (P : ℕ → Type 0) (f : ℕ → ℕ) (xs : List ℕ) → All (λ x. P (f x)) xs → All P (map f xs)
all-mapped P f [] h = tt
all-mapped P f (x ∷ xs) h = (h.0, all-mapped P f xs h.1)

module _ (how : Reading) (rows rows' : ℕ → Node) (α α' : ℕ → Value) (Dom : ℕ → Type 0) (f : ℕ → ℕ) (c : Carries rows rows' α α' Dom f) where
  -- the numbers that f gives
  abbrev Image : ℕ → Type 0
  Image y = (k : ℕ) × Dom k × (f k ≡ y)

  image-down : Down rows' (λ y. y) Image
  image-down y d =
      subst (λ z. All (λ j. Image j × ((j < z) ⊎ ((rows' j).kind ≡ Const))) (operands (rows' z))) d.2
      (subst (All (λ j. Image j × ((j < f d.0) ⊎ ((rows' j).kind ≡ Const)))) (sym (ap operands (c.row d.0 d.1) ∙ operands-as (rows d.0).kind f (rows d.0)))
      (all-mapped _ f (operands (rows d.0))
      (all_map _ (λ j. Image (f j) × ((f j < f d.0) ⊎ ((rows' (f j)).kind ≡ Const))) (λ j h. ((j, h.0, refl), kept j h.0 h.1)) (operands (rows d.0)) (c.down d.0 d.1))))
    where
      kept : (j : ℕ) → Dom j → (f j < f d.0) ⊎ ((rows j).kind ≡ Const) → (f j < f d.0) ⊎ ((rows' (f j)).kind ≡ Const)
      kept j q (inl h) = inl h
      kept j q (inr e) = inr (ap (λ (w : Node). w.kind) (c.row j q) ∙ e)

  new-solves : Solves how rows α Dom (λ k. value how rows' α' (f k))
  new-solves k d =
      sym (meaning_as how (rows k).kind f (value how rows' α') (α k) (rows k))
      ∙ sym (ap₂ (λ (o : Value) (w : Node). worth how (value how rows' α') o w) (c.given k d) (c.row k d))
      ∙ value-solves how rows' α' Image image-down (f k) (k, d, refl)

pub solved_along : SolvedAlong
unfolding SolvedAlong
solved_along how rows rows' α α' Dom f c =
    let s = new-solves how rows rows' α α' Dom f c in
    record { new = s; only = λ u h. one_solution rows f Dom c.down how α (λ k. value how rows' α' (f k)) u s h }

pub values-along : ValuesAlong
unfolding ValuesAlong SolvedAlong
values-along how rows rows' α α' Dom f c down = (solved_along how rows rows' α α' Dom f c).only (value how rows α) (value-solves how rows α Dom down)

-- ---- rules 3 and 5
pub three-along : ThreeAlong
unfolding ThreeAlong
three-along names f nd = coded-three names (renumber f nd) ∙ same-three names (renumber f nd) nd (renumbered_rest f nd) ∙ sym (coded-three names nd)

every-mapped : (p q : ℕ → Bool) (f : ℕ → ℕ) (xs : List ℕ) → All (λ x. p (f x) ≡ q x) xs → every p (map f xs) ≡ every q xs
every-mapped p q f [] h = refl
every-mapped p q f (x ∷ xs) h = ap₂ ◌&&◌ h.0 (every-mapped p q f xs h.1)

module _ (at at' : ℕ → Node) (f : ℕ → ℕ) where
  sorts_like : (xs : List ℕ) → All (λ x. at' (f x) ≡ renumber f (at x)) xs → SortsLike at' at (map f xs) xs
  sorts_like [] h = tt
  sorts_like (x ∷ xs) h = (ap (λ (w : Node). w.sort) h.0, sorts_like xs h.1)

  -- a Next's state is its first operand
  state-along : (nd : Node) → All (λ x. at' (f x) ≡ renumber f (at x)) (operands nd) → is Next nd ≡ true → is State (at' (renumber f nd).a) ≡ is State (at nd.a)
  state-along nd h q =
      let e = is-kind Next nd q in
      ap (λ K. is State (at' (renumber_as K f nd).a)) e ∙ ap (is State) (subst (λ K. All (λ x. at' (f x) ≡ renumber f (at x)) (operands_as K nd)) e h).0

pub five-along : FiveAlong
unfolding FiveAlong
five-along at at' f nd h =
    ap₂ ◌&&◌
    (ap (every (λ x. may_serve (at' x))) (operands-as nd.kind f nd)
    ∙ every-mapped (λ x. may_serve (at' x)) (λ x. may_serve (at x)) f (operands nd) (all_map _ (λ x. may_serve (at' (f x)) ≡ may_serve (at x)) (λ x e. ap may_serve e) (operands nd) h))
    (ap all_true (same-sorts at' at nd.kind (renumber f nd) nd (renumbered_rest f nd) refl (state-along at at' f nd h)
    (subst (λ xs. SortsLike at' at xs (operands nd)) (sym (operands-as nd.kind f nd)) (sorts_like at at' f (operands nd) h))))

-- ---- at work
first_rows : (k : ℕ) → k < 3 → node_at constant_first (to_first k) ≡ renumber to_first (node_at summed k)
first_rows zero l = refl
first_rows (suc zero) l = refl
first_rows (suc (suc zero)) l = refl
first_rows (suc (suc (suc k))) l = absurd (omega arith)

-- before their row, by the old numbers and by the new
first-down : (f : ℕ → ℕ) → f 0 < f 2 → f 1 < f 2 → Down (node_at summed) f (λ k. k < 3)
first-down f p q zero l = tt
first-down f p q (suc zero) l = tt
first-down f p q (suc (suc zero)) l = ((omega arith, inl p), ((omega arith, inl q), tt))
first-down f p q (suc (suc (suc k))) l = absurd (omega arith)

pub along-worked : AlongWorked
unfolding AlongWorked ValuesAlong
along-worked how α α' h =
    values-along how (node_at summed) (node_at constant_first) α α' (λ k. k < 3) to_first
    (record { row = first_rows; given = h; down = first-down to_first (omega arith) (omega arith) }) (first-down (λ k. k) (omega arith) (omega arith))
