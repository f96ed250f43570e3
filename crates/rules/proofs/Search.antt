-- The walk down the writes of a table whose rows point down: it meets each Write at most once, what it finds stands for a word,
-- and the table's length is fuel enough.
-- Assumes nothing.
use Prim.Native.Nat.{ℕ, zero, suc, ◌+◌, ◌<◌, ◌≤◌}
use mathlib.Core.Path.{◌≡◌, refl, sym, ap, ◌∙◌, subst}
use mathlib.Core.Bool.{Bool, true, false}
use mathlib.Core.Option.{Option, none, some}
use mathlib.Core.List.{List}
use native.Mathlib.Omega.{arith}
use lib.ListN.{length}
use lib.Dec.{leb, eqb}
use borrow.Author.Tests.{leb-true, leb-false}
use Rattle.btor.specs.Operators.{Reading, rust, standard, bit}
use Rattle.rules.specs.Lists.{sum}
use Rattle.rules.specs.Table.{Write, Node, node_at, is}
use Rattle.rules.specs.Fold.{const_of}
use Rattle.rules.specs.Memory.{Found, lost, meet_unsettled, meet, look_at, find, fold_found, passed_by}
use Rattle.rules.specs.Tally.{writes}
use Rattle.rules.specs.Fine.{Below, Stands, Strict}
use Rattle.btor.proofs.Agreement.{cases}
use Rattle.rules.proofs.Base.{cases_cond, inside-or-past}
use Rattle.rules.proofs.Standing.{FoldStands}

sum_mono : (f : ℕ → ℕ) (a b : ℕ) → a ≤ b → sum a f ≤ sum b f
unfolding sum
sum_mono f a zero h = let e : a ≡ 0 = omega arith in subst (λ i. sum i f ≤ 0) (sym e) (omega arith)
sum_mono f a (suc b) h = go (leb a b) refl (sum_mono f a b)
  where
    go : (c : Bool) → leb a b ≡ c → (a ≤ b → sum a f ≤ sum b f) → sum a f ≤ f b + sum b f
    go true e ih = omega (arith, ih (leb-true a b e))
    go false e ih =
        let l = leb-false a b e in
        let q : a ≡ suc b = omega (arith, l) in
        subst (λ i. sum i f ≤ f b + sum b f) (sym q) (omega arith)

-- what a row says where it is a Write: it is one of the table, and its memory and value point down
pub record Points (t : List Node) (rows : ℕ → Node) (made : ℕ) : Type 0 where
  pub inside : (m : ℕ) → is Write (rows m) ≡ true → m < length t
  pub given : (m : ℕ) → is Write (rows m) ≡ true → is Write (node_at t m) ≡ true
  pub memory : (m : ℕ) → is Write (rows m) ≡ true → Below t m (rows m).a
  pub value : (m : ℕ) → is Write (rows m) ≡ true → Below t m (rows m).c × Stands t rows made (rows m).c 2

meet-looked : (how : Reading) (x v : ℕ) (c : Option ℕ) (r : Found) → (meet how x v c r).looked ≤ r.looked + 1
meet-looked rust x v none r = omega arith
meet-looked standard x v none r = omega arith
meet-looked how x v (some y) r = cases_cond (λ (f : Found). f.looked ≤ r.looked + 1) (eqb y x) (λ _. omega arith) (λ _. omega arith)

module _ (t : List Node) (how : Reading) (rows : ℕ → Node) (made : ℕ) (p : Points t rows made) (x : ℕ) where
  abbrev wr : ℕ → ℕ
  wr k = bit (is Write (node_at t k))

  -- ---- how many are looked at
  abbrev Bound : ℕ → ℕ → Type 0
  Bound m l = (m < length t → l ≤ sum (suc m) wr) × (length t ≤ m → l ≡ 0)

  look_at-looked : (m : ℕ) (go : ℕ → Found) → ((j : ℕ) → Bound j (go j).looked) → Bound m (look_at how rows go x (rows m)).looked
  unfolding look_at sum
  look_at-looked m go g =
      cases (λ (r : Found). Bound m r.looked) (is Write (rows m))
      (λ e. ((λ l. low e l), λ l. absurd (omega (arith, p.inside m e))))
      (λ _. ((λ l. omega arith), λ l. refl))
    where
      low : is Write (rows m) ≡ true → m < length t → (meet how x (rows m).c (const_of rows (rows m).b) (go (rows m).a)).looked ≤ wr m + sum m wr
      low e l =
          let step = meet-looked how x (rows m).c (const_of rows (rows m).b) (go (rows m).a) in
          let one : wr m ≡ 1 = ap bit (p.given m e) in
          inside-or-past _ (rows m).a (length t)
          (λ i. omega (arith, step, one, (g (rows m).a).0 i, sum_mono wr (suc (rows m).a) m (p.memory m e i)))
          (λ i. omega (arith, step, one, (g (rows m).a).1 i))

  find-looked : (f m : ℕ) → Bound m (find how f rows x m).looked
  unfolding find
  find-looked zero m = ((λ l. omega arith), λ l. refl)
  find-looked (suc f) m = look_at-looked m (find how f rows x) (find-looked f)

  pub looked-writes : (f m : ℕ) → (find how f rows x m).looked ≤ writes t
  unfolding writes
  looked-writes f m =
      inside-or-past ((find how f rows x m).looked ≤ sum (length t) wr) m (length t)
      (λ l. omega (arith, (find-looked f m).0 l, sum_mono wr (suc m) (length t) l))
      (λ l. omega (arith, (find-looked f m).1 l))

  -- ---- what is found
  abbrev FoundStands : ℕ → Option ℕ → Type 0
  FoundStands k none = Unit
  FoundStands k (some v) = Below t k v × Stands t rows made v 2

  meet-stands : (k v : ℕ) (c : Option ℕ) (r : Found) → FoundStands k (some v) → FoundStands k r.value → FoundStands k (meet how x v c r).value
  meet-stands k v none r h g = unsettled how
    where
      unsettled : (how : Reading) → FoundStands k (meet_unsettled how r).value
      unsettled rust = g
      unsettled standard = tt
  meet-stands k v (some y) r h g = cases_cond (λ (f : Found). FoundStands k f.value) (eqb y x) (λ _. h) (λ _. g)

  find-stands : (f k m : ℕ) → Below t k m → FoundStands k (find how f rows x m).value
  unfolding find look_at
  find-stands zero k m h = tt
  find-stands (suc f) k m h =
      cases (λ (r : Found). FoundStands k r.value) (is Write (rows m))
      (λ e.
      let v = p.value m e in
      let l = h (p.inside m e) in
      meet-stands k (rows m).c (const_of rows (rows m).b) (find how f rows x (rows m).a) ((λ i. let q = v.0 i in omega (arith, q, l)), v.1)
      (find-stands f k (rows m).a (λ i. let q = p.memory m e i in omega (arith, q, l))))
      (λ _. tt)

  pub found-fold : (f k m : ℕ) → Below t k m → FoldStands t rows made k 2 (fold_found (find how f rows x m).value)
  found-fold f k m h = go (find how f rows x m).value (find-stands f k m h)
    where
      go : (o : Option ℕ) → FoundStands k o → FoldStands t rows made k 2 (fold_found o)
      go none g = tt
      go (some v) g = g

  -- ---- fuel: the table's length is enough, so a walk is what one step makes of the walk from there
  lost-past : (f m : ℕ) → length t ≤ m → find how f rows x m ≡ lost
  unfolding find look_at
  lost-past zero m h = refl
  lost-past (suc f) m h = cases (λ (r : Found). r ≡ lost) (is Write (rows m)) (λ e. absurd (omega (arith, p.inside m e))) (λ _. refl)

  look_at-same : (m : ℕ) (u v : ℕ → Found) → (is Write (rows m) ≡ true → u (rows m).a ≡ v (rows m).a) → look_at how rows u x (rows m) ≡ look_at how rows v x (rows m)
  unfolding look_at
  look_at-same m u v h = go (is Write (rows m)) h
    where
      go : (b : Bool) → (b ≡ true → u (rows m).a ≡ v (rows m).a)
          → ◌≡◌ {A = Found} (elim b [ true ↦ meet how x (rows m).c (const_of rows (rows m).b) (u (rows m).a) | false ↦ lost ])
          (elim b [ true ↦ meet how x (rows m).c (const_of rows (rows m).b) (v (rows m).a) | false ↦ lost ])
      go true e = ap (meet how x (rows m).c (const_of rows (rows m).b)) (e refl)
      go false e = refl

  find-suc : (f m : ℕ) → find how (suc f) rows x m ≡ look_at how rows (find how f rows x) x (rows m)
  unfolding find
  find-suc f m = refl

  find-more : (f m : ℕ) → (m < length t → m < f) → find how (suc f) rows x m ≡ find how f rows x m
  find-more zero m h = inside-or-past _ m (length t) (λ l. let q = h l in absurd (omega (arith, q))) (λ l. lost-past 1 m l ∙ sym (lost-past 0 m l))
  find-more (suc f) m h =
      find-suc (suc f) m
      ∙ look_at-same m (find how (suc f) rows x) (find how f rows x)
      (λ e. find-more f (rows m).a (λ i. let q = p.memory m e i in let l = h (p.inside m e) in omega (arith, q, l)))
      ∙ sym (find-suc f m)

  pub find-is : (m : ℕ) → find how (length t) rows x m ≡ look_at how rows (find how (length t) rows x) x (rows m)
  find-is m = sym (find-more (length t) m (λ l. l)) ∙ find-suc (length t) m

-- ---- unsettled writes are among those looked at
meet-among : (how : Reading) (x v : ℕ) (c : Option ℕ) (r : Found) → r.unsettled ≤ r.looked → (meet how x v c r).unsettled ≤ (meet how x v c r).looked
meet-among rust x v none r h = omega arith
meet-among standard x v none r h = omega arith
meet-among how x v (some y) r h = cases_cond (λ (f : Found). f.unsettled ≤ f.looked) (eqb y x) (λ _. omega arith) (λ _. omega arith)

pub find-among : (how : Reading) (rows : ℕ → Node) (f x m : ℕ) → (find how f rows x m).unsettled ≤ (find how f rows x m).looked
unfolding find look_at
find-among how rows zero x m = omega arith
find-among how rows (suc f) x m =
    cases (λ (r : Found). r.unsettled ≤ r.looked) (is Write (rows m))
    (λ _. meet-among how x (rows m).c (const_of rows (rows m).b) (find how f rows x (rows m).a) (find-among how rows f x (rows m).a)) (λ _. omega arith)

-- ---- the standard's walk passes nothing
meet-settled : (x v : ℕ) (c : Option ℕ) (r : Found) → r.unsettled ≡ 0 → (meet standard x v c r).unsettled ≡ 0
meet-settled x v none r h = refl
meet-settled x v (some y) r h = cases_cond (λ (f : Found). f.unsettled ≡ 0) (eqb y x) (λ _. refl) (λ _. omega arith)

find-settled : (rows : ℕ → Node) (f x m : ℕ) → (find standard f rows x m).unsettled ≡ 0
unfolding find look_at
find-settled rows zero x m = refl
find-settled rows (suc f) x m =
    cases (λ (r : Found). r.unsettled ≡ 0) (is Write (rows m))
    (λ _. meet-settled x (rows m).c (const_of rows (rows m).b) (find standard f rows x (rows m).a) (find-settled rows f x (rows m).a)) (λ _. refl)

passed_by-zero : (o : Option ℕ) (u : ℕ) → u ≡ 0 → passed_by o u ≡ 0
passed_by-zero none u e = refl
passed_by-zero (some v) u e = e

pub tally_strict : (how : Reading) (n : ℕ) (rows : ℕ → Node) (f x m : ℕ) → Strict how n → Strict how (n + passed_by (find how f rows x m).value (find how f rows x m).unsettled)
tally_strict rust n rows f x m h = tt
tally_strict standard n rows f x m h = omega (arith, h, passed_by-zero (find standard f rows x m).value (find standard f rows x m).unsettled (find-settled rows f x m))

pub strict-zero : (how : Reading) (n : ℕ) → Strict how n → Strict how (n + 0)
strict-zero rust n h = tt
strict-zero standard n h = omega arith
