-- Small laws: tests by cases, a function changed at one place, lists of facts, outcomes, marks, and kinds told by their codes.
-- Assumes nothing.
use Prim.Native.Nat.{ℕ, zero, suc, ◌+◌, ◌<◌, ◌≤◌}
use mathlib.Core.Path.{◌≡◌, refl, sym, ap, ◌∙◌, subst}
use mathlib.Core.Bool.{Bool, true, false, cond, ◌&&◌}
use mathlib.Core.List.{List, [], ◌∷◌, ◌++◌}
use lib.ListN.{length, get_or}
use native.Mathlib.Omega.{arith}
use lib.Dec.{ltb, leb, eqb, lit<}
use borrow.Author.Tests.{leb-true, eqb-true, eq-eqb, ne_eqb, ltb-true, ltb-false}
use Rattle.btor.specs.Operators.{Op, Add, Sub, Mul, Divu, Div, Rem, Sll, Srl}
use Rattle.rules.specs.Lists.{put, All}
use Rattle.rules.specs.Refusal.{Out, refused, done, ◌>>=◌, OfDone}
use Rattle.rules.specs.Check.{known_kind}
use Rattle.rules.specs.Walk.{Mark, fresh, kept, replaced}
use Rattle.rules.specs.Table.{Kind, kinds, Const, Read, Write, Word, Ult, Ext, Ite, Eq, And, Or, Not, State, Next, Input, Bad, Node, kind_of, op_code, kind_code, is}

-- ---- tests
pub cases_cond : {A : Type 0} (P : A → Type 0) (b : Bool) {x y : A} → (b ≡ true → P x) → (b ≡ false → P y) → P (cond b x y)
cases_cond P true f g = f refl
cases_cond P false f g = g refl

pub no : {A : Type 0} → false ≡ true → A
no e = absurd (mathlib.Core.Bool.false≢true e)

pub and_both : (a b : Bool) → (a && b) ≡ true → (a ≡ true) × (b ≡ true)
and_both true b e = (refl, e)
and_both false b e = no e

-- a number is inside or past a bound
pub inside-or-past : (P : Type 0) (r n : ℕ) → (r < n → P) → (n ≤ r → P) → P
inside-or-past P r n f g = go (ltb r n) refl
  where
    go : (b : Bool) → ltb r n ≡ b → P
    go true e = f (ltb-true r n e)
    go false e = g (ltb-false r n e)

-- ---- a function changed at one place
pub put_same : {A : Type 0} (f : ℕ → A) (k : ℕ) (x : A) → put f k x k ≡ x
put_same f k x = ap (λ b. cond b x (f k)) (eq-eqb k k refl)

pub put_other : {A : Type 0} (f : ℕ → A) (k : ℕ) (x : A) (j : ℕ) → (j ≡ k → ⊥) → put f k x j ≡ f j
put_other f k x j h = ap (λ b. cond b x (f j)) (ne_eqb j k h)

-- what holds of the new value and of all old ones
pub put_all : {A : Type 0} (P : ℕ → A → Type 0) (f : ℕ → A) (k : ℕ) (x : A) → P k x → ((j : ℕ) → P j (f j)) → (j : ℕ) → P j (put f k x j)
put_all P f k x h g j = cases_cond (λ y. P j y) (eqb j k) (λ e. subst (λ i. P i x) (sym (eqb-true j k e)) h) (λ e. g j)

-- ---- lists of facts
pub all_left : {A : Type 0} (P : A → Type 0) (xs ys : List A) → All P (xs ++ ys) → All P xs
all_left P [] ys h = tt
all_left P (x ∷ xs) ys h = (h.0, all_left P xs ys h.1)

pub all_right : {A : Type 0} (P : A → Type 0) (xs ys : List A) → All P (xs ++ ys) → All P ys
all_right P [] ys h = h
all_right P (x ∷ xs) ys h = all_right P xs ys h.1

pub all_join : {A : Type 0} (P : A → Type 0) (xs ys : List A) → All P xs → All P ys → All P (xs ++ ys)
all_join P [] ys h g = g
all_join P (x ∷ xs) ys h g = (h.0, all_join P xs ys h.1 g)

pub all_map : {A : Type 0} (P Q : A → Type 0) → ((x : A) → P x → Q x) → (xs : List A) → All P xs → All Q xs
all_map P Q f [] h = tt
all_map P Q f (x ∷ xs) h = (f x h.0, all_map P Q f xs h.1)

-- ---- outcomes: what holds of a result, if there is one
abbrev pub If : {A : Type 0} → (A → Type 0) → Out A → Type 0
If P (refused r) = Unit
If P (done x) = P x

pub if-bind : {A B : Type 0} (P : A → Type 0) (Q : B → Type 0) (m : Out A) (f : A → Out B) → If P m → ((x : A) → P x → If Q (f x)) → If Q (m >>= f)
if-bind P Q (refused r) f h g = tt
if-bind P Q (done x) f h g = g x h

pub if-after : {A B : Type 0} (Q : B → Type 0) (m : Out A) (f : A → Out B) → ((x : A) → If Q (f x)) → If Q (m >>= f)
if-after Q (refused r) f g = tt
if-after Q (done x) f g = g x

pub if-map : {A : Type 0} (P Q : A → Type 0) (m : Out A) → ((x : A) → P x → Q x) → If P m → If Q m
if-map P Q (refused r) f h = tt
if-map P Q (done x) f h = f x h

pub if-always : {A : Type 0} (P : A → Type 0) (m : Out A) → ((x : A) → P x) → If P m
if-always P (refused r) h = tt
if-always P (done x) h = h x

-- what is not refused, by what is known of it
pub of_done : {A : Type 0} (P : A → Type 0) (Q : Out A → Type 0) (o : Out A) → ((x : A) → o ≡ done x → P x → Q (done x)) → OfDone P o → Q o
of_done P Q (refused r) f h = absurd h
of_done P Q (done x) f h = f x refl h

-- ---- marks
pub fresh≢replaced : (r : ℕ) (m : Mark) → m ≡ fresh → m ≡ replaced r → ⊥
fresh≢replaced r m e q = let z : ◌≡◌ {A = ℕ} 0 1 = cc in omega arith

pub kept≢replaced : (r : ℕ) (m : Mark) → m ≡ kept → m ≡ replaced r → ⊥
kept≢replaced r m e q = let z : ◌≡◌ {A = ℕ} 0 1 = cc in omega arith

-- ---- kinds
abbrev pub mk : Kind → ℕ → ℕ → ℕ → ℕ → ℕ → Node
mk K s a b c nm = record { kind = K; sort = s; a = a; b = b; c = c; name = nm }

pub kind-of-code : (K : Kind) → kind_of (kind_code K) ≡ K
kind-of-code Const = refl
kind-of-code Read = refl
kind-of-code Write = refl
kind-of-code (Word Add) = refl
kind-of-code (Word Sub) = refl
kind-of-code (Word Mul) = refl
kind-of-code (Word Divu) = refl
kind-of-code (Word Div) = refl
kind-of-code (Word Rem) = refl
kind-of-code (Word Sll) = refl
kind-of-code (Word Srl) = refl
kind-of-code Ult = refl
kind-of-code Ext = refl
kind-of-code Ite = refl
kind-of-code Eq = refl
kind-of-code And = refl
kind-of-code Or = refl
kind-of-code Not = refl
kind-of-code State = refl
kind-of-code Next = refl
kind-of-code Input = refl
kind-of-code Bad = refl

-- codes are places: the kind at a known code has that code
Placed : ℕ → List Kind → Type 0
Placed c [] = Unit
Placed c (K ∷ Ks) = (kind_code K ≡ c) × Placed (suc c) Ks

placed : Placed 1 kinds
unfolding Placed
placed = assumption refl

code_at : (c : ℕ) (Ks : List Kind) → Placed c Ks → (i : ℕ) → i < length Ks → kind_code (get_or Ks i Input) ≡ i + c
unfolding Placed
code_at c [] h i l = absurd (omega arith)
code_at c (K ∷ Ks) h zero l = h.0 ∙ omega arith
code_at c (K ∷ Ks) h (suc i) l = code_at (suc c) Ks h.1 i (omega arith) ∙ omega arith

pub code-of-kind : (c : ℕ) → known_kind c ≡ true → kind_code (kind_of c) ≡ c
code-of-kind zero e = no e
code-of-kind (suc c) e = code_at 1 kinds placed c (leb-true (suc c) (length kinds) (and_both (ltb 0 (suc c)) (leb (suc c) (length kinds)) e).1) ∙ omega arith

pub is-kind : (K : Kind) (nd : Node) → is K nd ≡ true → nd.kind ≡ K
is-kind K nd e = sym (kind-of-code nd.kind) ∙ ap kind_of (eqb-true (kind_code nd.kind) (kind_code K) e) ∙ kind-of-code K

pub kind-is : (K : Kind) (nd : Node) → nd.kind ≡ K → is K nd ≡ true
kind-is K nd e = eq-eqb (kind_code nd.kind) (kind_code K) (ap kind_code e)

pub op-code : (op : Op) → (3 < op_code op) × (op_code op < 12)
op-code Add = (lit< tt, lit< tt)
op-code Sub = (lit< tt, lit< tt)
op-code Mul = (lit< tt, lit< tt)
op-code Divu = (lit< tt, lit< tt)
op-code Div = (lit< tt, lit< tt)
op-code Rem = (lit< tt, lit< tt)
op-code Sll = (lit< tt, lit< tt)
op-code Srl = (lit< tt, lit< tt)

pub word-not-write : {A : Type 0} (op : Op) → eqb (op_code op) 3 ≡ true → A
word-not-write op e = absurd (omega (arith, op-code op, eqb-true (op_code op) 3 e))
