-- The rules' process of a node, over any way to visit, is what its form says, and the operands that its form visits stand before it.
-- Assumes nothing.
use Prim.Native.Nat.{ℕ, ◌<◌}
use mathlib.Core.Path.{◌≡◌, refl, ap, sym, ◌∙◌, subst}
use mathlib.Core.Bool.{Bool, true, false, cond}
use mathlib.Core.List.{List, [], ◌∷◌}
use native.Mathlib.Omega.{arith}
use lib.Dec.{eqb}
use Rattle.rules.specs.Refusal.{Out, refused, done, ◌>>=◌}
use Rattle.rules.specs.Lists.{All}
use Rattle.rules.specs.Table.{Kind, Const, Read, Write, Word, Ult, Ext, Ite, Eq, And, Or, Not, State, Next, Input, Bad, Node, kind_of, operands_as}
use Rattle.rules.specs.Legal.{AllLegal}
use Rattle.rules.specs.Walk.{St}
use Rattle.rules.specs.Fold.{stays, const_of}
use Rattle.rules.specs.Visit.{Ways, Branch, left, right, undecided, branch, visit1, visit2, visit3, unary, binary, ite_on, process}
use Rattle.std.specs.Prelude.{Result}
use Rattle.tables.specs.declared.refusal.Refusal.{Refusal}
use Rattle.optimize.specs.declared.folder.ConstantFolder.{ConstantFolder}
use Rattle.optimize.specs.declared.form.Form.{Form}
use Rattle.optimize.specs.declared.form.Pair.{Pair}
use Rattle.optimize.specs.Bounds.{count_of}
use Rattle.rules.specs.Sections.{word_of}
use Rattle.optimize.specs.View.{node_of, table_of}
use Rattle.optimize.specs.declared.fold.Rule.{Rule}
use Rattle.optimize.specs.declared.fold.Single.{Single}
use Rattle.optimize.specs.Folding.{operator_of}
use Rattle.optimize.specs.Call.{ways_of}
use Rattle.optimize.specs.Folder.{given_in, seen}
use Rattle.optimize.specs.Clauses.{Walks}
use Rattle.optimize.specs.Process.{form_of, form_at, after_one, after_two, take_of, process_of, one_of, two_then, two_of, three_of, chosen_of, ite_of, step_of, by_form, visit_of, Before}
use Rattle.optimize.proofs.FoldLaws.{op-is}
use Rattle.optimize.proofs.Steps.{table-length}
use Rattle.optimize.proofs.Walks.{comes, node_at_lem}

-- ---- binds
pub assoc : {A B C : Type 0} (o : Out A) (f : A → Out B) (k : B → Out C) → ((o >>= f) >>= k) ≡ (o >>= λ x. f x >>= k)
assoc (refused z) f k = refl
assoc (done x) f k = refl

pub bind_same : {A B : Type 0} (o : Out A) (f k : A → Out B) → ((x : A) → f x ≡ k x) → (o >>= f) ≡ (o >>= k)
bind_same (refused z) f k h = refl
bind_same (done x) f k h = h x

-- ---- process by form
module _ (g : List ℕ) (ways : Ways) (vis : St → ℕ → Out (St × ℕ)) (σ : St) (k : ℕ) where
  abbrev by_kind : Kind → Out (St × ℕ)
  by_kind K = process (table_of g) ways vis K σ k (node_of g k)

  one_is : (rule : Single) → one_of g ways vis rule σ k ≡ (visit1 vis σ k (node_of g k) >>= λ p. after_one g ways rule p.0 k p.1)
  unfolding visit1
  one_is rule = sym (assoc (vis σ (word_of g k 2)) _ _)

  two_then_lem : (after : St → ℕ → ℕ → ℕ → Out (St × ℕ)) → two_then g ways vis after σ k ≡ (visit2 vis σ k (node_of g k) >>= λ p. after p.0 k p.1.0 p.1.1)
  unfolding visit2
  two_then_lem after =
      sym (assoc (vis σ (word_of g k 2)) _ _
      ∙ bind_same (vis σ (word_of g k 2)) _ _ (λ p. assoc (vis p.0 (word_of g k 3)) _ _))

  two_is : (pair : Pair) → two_of g ways vis pair σ k ≡ (visit2 vis σ k (node_of g k) >>= λ p. after_two g ways pair p.0 k p.1.0 p.1.1)
  two_is pair = two_then_lem (after_two g ways pair)

  three-is : three_of g ways vis σ k ≡ by_kind Write
  unfolding process visit3
  three-is =
      sym (assoc (vis σ (word_of g k 2)) _ _
      ∙ bind_same (vis σ (word_of g k 2)) _ _ (λ p. assoc (vis p.0 (word_of g k 3)) _ _
      ∙ bind_same (vis p.0 (word_of g k 3)) _ _ (λ q. assoc (vis q.0 (word_of g k 4)) _ _)))

  chosen_is : (br : Branch) (x : ℕ) (τ : St) → chosen_of g ways vis br x τ k ≡ ite_on (table_of g) ways vis τ k (node_of g k) x br
  unfolding chosen_of ite_on
  chosen_is left x τ = refl
  chosen_is right x τ = refl
  chosen_is undecided x τ = rw (table-length g)

  ite-is : ite_of g ways vis σ k ≡ by_kind Ite
  unfolding process
  ite-is = bind_same (vis σ (word_of g k 2)) _ _ (λ p. chosen_is (branch (const_of p.0.rows p.1)) p.1 p.0)

  step_is : step_of g ways vis σ k ≡ by_kind Next
  unfolding process
  step_is = refl

  state-is : (b : Bool) → eqb (word_of g k 3) 1 ≡ b → by_form g ways vis (cond b (Form.One Single.Stays) Form.Free) σ k ≡ by_kind State
  unfolding by_form process unary
  state-is true e = one_is Single.Stays ∙ sym (ap (λ b. elim b [ true ↦ unary (table_of g) ways vis σ k (node_of g k) (λ x. stays) | false ↦ take_of g ways σ k ]) e)
  state-is false e = sym (ap (λ b. elim b [ true ↦ unary (table_of g) ways vis σ k (node_of g k) (λ x. stays) | false ↦ take_of g ways σ k ]) e)

  pub form_is : (K : Kind) → by_form g ways vis (form_of K (word_of g k 3)) σ k ≡ by_kind K
  unfolding by_form form_of after_two process unary binary
  form_is Const = rw (table-length g)
  form_is Read = two_is Pair.Reads
  form_is Write = three-is
  form_is (Word op) = two_is (Pair.Folds (Rule.Word (operator_of op))) ∙ simp (op-is op)
  form_is Ult = two_is (Pair.Folds Rule.Ult) ∙ rw (table-length g)
  form_is Ext = one_is Single.Ext
  form_is Ite = ite-is
  form_is Eq = two_is (Pair.Folds Rule.Eq) ∙ rw (table-length g)
  form_is And = two_is (Pair.Folds Rule.And) ∙ rw (table-length g)
  form_is Or = two_is (Pair.Folds Rule.Or)
  form_is Not = one_is Single.Not ∙ rw (table-length g)
  form_is State = state-is (eqb (word_of g k 3) 1) refl
  form_is Next = step_is
  form_is Input = refl
  form_is Bad = one_is Single.Stays

  pub process-is : (F : Form) → F ≡ form_at g k → by_form g ways vis F σ k ≡ process_of g ways vis σ k
  process-is F d = ap (λ z. by_form g ways vis z σ k) d ∙ form_is (kind_of (word_of g k 0))

-- a node is processed as its form says
pub formed : (f f' : ConstantFolder) (r : Result ℕ Refusal) (n : ℕ) (F : Form) → F ≡ form_at (given_in f) n
    → Walks f f' r n (λ g ways vis σ. by_form g ways vis F σ n) → Walks f f' r n (λ g ways vis σ. process_of g ways vis σ n)
formed f f' r n F e w =
    record { walked = λ h fuel l. comes (w.walked h fuel l) (process-is (given_in f) (ways_of f.call) (visit_of (given_in f) (ways_of f.call) fuel) (seen h f) n F e) }

-- ---- operands before their node
before-state : (g : List ℕ) (k : ℕ) (b : Bool) → All (λ x. x < k) (cond b (word_of g k 2 ∷ []) []) → Before (cond b (Form.One Single.Stays) Form.Free) g k
before-state g k true h = h.0
before-state g k false h = tt

before_form : (g : List ℕ) (k : ℕ) (K : Kind) → All (λ x. x < k) (operands_as K (node_of g k)) → Before (form_of K (word_of g k 3)) g k
unfolding form_of
before_form g k Const h = tt
before_form g k Read h = (h.0, h.1.0)
before_form g k Write h = (h.0, h.1.0, h.1.1.0)
before_form g k (Word op) h = (h.0, h.1.0)
before_form g k Ult h = (h.0, h.1.0)
before_form g k Ext h = h.0
before_form g k Ite h = (h.0, h.1.0, h.1.1.0)
before_form g k Eq h = (h.0, h.1.0)
before_form g k And h = (h.0, h.1.0)
before_form g k Or h = (h.0, h.1.0)
before_form g k Not h = h.0
before_form g k State h = before-state g k (eqb (word_of g k 3) 1) h
before_form g k Next h = (h.0, h.1.0)
before_form g k Input h = tt
before_form g k Bad h = h.0

pub before-is : (g : List ℕ) (k : ℕ) → AllLegal (table_of g) → k < count_of g → (F : Form) → F ≡ form_at g k → Before F g k
before-is g k legal l F d =
    let b : All (λ x. x < k) (operands_as (kind_of (word_of g k 0)) (node_of g k)) = subst (λ (nd : Node). All (λ x. x < k) (operands_as nd.kind nd)) (node_at_lem g k l) (legal k (omega (arith, table-length g))).before in
    subst (λ z. Before z g k) (sym d) (before_form g k (kind_of (word_of g k 0)) b)
