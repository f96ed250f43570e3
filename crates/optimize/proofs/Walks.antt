-- Visits chained: what a refused visit ends, and what a done visit goes on with; what a mark says of a visit.
-- Assumes nothing.
use Prim.Native.Nat.{ℕ, zero, suc, ◌+◌, ◌<◌, ◌≤◌}
use mathlib.Core.Path.{◌≡◌, refl, ap, sym, ◌∙◌}
use mathlib.Core.Bool.{Bool, true, false, cond}
use mathlib.Core.List.{List}
use mathlib.Core.Option.{some}
use native.Mathlib.Omega.{arith}
use lib.Dec.{lit<}
use borrow.Author.Tests.{ne_eqb}
use Rattle.std.specs.Prelude.{Result, Ok, Err, IsErrAnd}
use Rattle.rules.specs.Refusal.{Out, done, ◌>>=◌}
use Rattle.rules.specs.Table.{row_width, with, node_at, unknown}
use Rattle.rules.specs.Walk.{St, Mark, fresh, kept, replaced, Held, set_row}
use Rattle.rules.specs.Fold.{swap, const_of}
use Rattle.rules.specs.Visit.{Ways, Branch, left, right, undecided, branch, settle, process, visit_marked, visit}
use Rattle.tables.specs.declared.refusal.Refusal.{Refusal}
use Rattle.optimize.specs.declared.call.Call.{Call}
use Rattle.optimize.specs.declared.folder.ConstantFolder.{ConstantFolder}
use Rattle.optimize.specs.Bounds.{count_of}
use Rattle.rules.specs.Sections.{word_of}
use Rattle.optimize.specs.View.{node_of, table_of, mark_of, view, outcome_of}
use Rattle.optimize.specs.Call.{ways_of}
use Rattle.optimize.specs.Folder.{Keeps, given_in, count_in, rows_in, seen}
use Rattle.optimize.specs.Process.{visit_of, take_of, process_of, chosen_of}
use Rattle.optimize.specs.Clauses.{PutsRow, Settles, Takes, Meets, Walks}
use Rattle.optimize.proofs.Asks.{raised}
use Rattle.optimize.proofs.Views.{firsts_at}

-- ---- outcomes
pub bind_done : {A B : Type 0} (o : Out A) (x : A) (f : A → Out B) → o ≡ done x → (o >>= f) ≡ f x
bind_done o x f e = ap (λ z. z >>= f) e

pub meets : {f : ConstantFolder} {r : Result ℕ Refusal} {o : Out (St × ℕ)} (h : List Held) → outcome_of (seen h f) r ≡ o → Meets f r o
meets h e = record { held = h; came = e }

pub comes : {f : ConstantFolder} {r : Result ℕ Refusal} {o p : Out (St × ℕ)} → Meets f r o → o ≡ p → Meets f r p
comes m e = record { held = m.held; came = m.came ∙ e }

pub came-done : {f : ConstantFolder} {a : ℕ} {o : Out (St × ℕ)} (m : Meets f (Ok a) o) → o ≡ done (seen m.held f, a)
unfolding outcome_of
came-done m = sym m.came

-- a refused visit ends what would follow, a done one goes on
pub stops : {f f' : ConstantFolder} {z : Refusal} {o : Out (St × ℕ)} (more : St × ℕ → Out (St × ℕ)) → Meets f (Err z) o → Meets f' (Err z) (o >>= more)
unfolding outcome_of
stops more m = record { held = m.held; came = ap (λ x. x >>= more) m.came }

pub goes : {f f' : ConstantFolder} {a : ℕ} {r : Result ℕ Refusal} {o : Out (St × ℕ)} (m : Meets f (Ok a) o) (more : St × ℕ → Out (St × ℕ)) → Meets f' r (more (seen m.held f, a)) → Meets f' r (o >>= more)
goes m more n = record { held = n.held; came = n.came ∙ sym (bind_done _ _ more (came-done m)) }

-- ---- a folder of the same call
module _ (f f₁ f₂ : ConstantFolder) (same : f₁.call ≡ f.call) (r : Result ℕ Refusal) where
  pub settles-at : (rule : List ℕ → Ways → St → Out (St × ℕ)) → Settles f₁ f₂ r rule
      → (h : List Held) → outcome_of (seen h f₂) r ≡ rule (given_in f) (ways_of f.call) (seen h f₁)
  settles-at rule s h = s h ∙ ap (λ (c : Call). rule c.given.now (ways_of c) (seen h f₁)) same

-- ---- one walk after another
abbrev Step : Type 0
Step = List ℕ → Ways → (St → ℕ → Out (St × ℕ)) → St → Out (St × ℕ)

abbrev More : Type 0
More = List ℕ → Ways → (St → ℕ → Out (St × ℕ)) → St × ℕ → Out (St × ℕ)

module _ {f f₁ f₂ : ConstantFolder} {r : Result ℕ Refusal} {n : ℕ} {step : Step} (more : More) where
  -- a refused one ends what would follow
  pub halts : {z : Refusal} → IsErrAnd r (λ e. e ≡ z) → Walks f f₁ (Err z) n step → Walks f f₂ r n (λ g ways vis σ. step g ways vis σ >>= more g ways vis)
  halts {z} e w = record { walked = λ h fuel l. rw (raised r z e) (stops (more _ _ _) (w.walked h fuel l)) }

  -- a done one goes on in the folder that it left
  pub onward : {a : ℕ} → Keeps f f₁ → Walks f f₁ (Ok a) n step → Walks f₁ f₂ r n (λ g ways vis σ. more g ways vis (σ, a)) → Walks f f₂ r n (λ g ways vis σ. step g ways vis σ >>= more g ways vis)
  onward {a} k w v =
      record {
        walked = λ h fuel l.
            let m = w.walked h fuel l in
            goes m (more _ _ _)
            (comes (v.walked m.held fuel l) (ap (λ (c : Call). more c.given.now (ways_of c) (visit_of c.given.now (ways_of c) fuel) (seen m.held f₁, a)) k.call));
      }

-- a walk by another rule that comes to the same
pub walks-as : {f f' : ConstantFolder} {r : Result ℕ Refusal} {n : ℕ} {step other : Step}
    → ((g : List ℕ) (ways : Ways) (vis : St → ℕ → Out (St × ℕ)) (σ : St) → step g ways vis σ ≡ other g ways vis σ) → Walks f f' r n step → Walks f f' r n other
walks-as {f} e w = record { walked = λ h fuel l. comes (w.walked h fuel l) (e (given_in f) (ways_of f.call) (visit_of (given_in f) (ways_of f.call) fuel) (seen h f)) }

-- a step at the node, and an input that it takes
pub settled-walks : {f f' : ConstantFolder} {r : Result ℕ Refusal} {n : ℕ} {rule : List ℕ → Ways → St → Out (St × ℕ)} → Settles f f' r rule → Walks f f' r n (λ g ways vis σ. rule g ways σ)
settled-walks s = record { walked = λ h fuel l. meets h (s h) }

pub taken-walks : {f f' : ConstantFolder} {r : Result ℕ Refusal} {n : ℕ} → Takes f f' r n → Walks f f' r n (λ g ways vis σ. take_of g ways σ n)
taken-walks t = record { walked = λ h fuel l. t h }

-- a node's row put, then what a step at the node leaves
pub row-settled : {f f₁ f₂ : ConstantFolder} {r : Result ℕ Refusal} {k a b c : ℕ} (rule : List ℕ → Ways → St → Out (St × ℕ)) (a' b' c' : List ℕ → ℕ)
    → Keeps f f₁ → PutsRow f f₁ k a b c → a ≡ a' (given_in f) → b ≡ b' (given_in f) → c ≡ c' (given_in f) → Settles f₁ f₂ r rule
    → Walks f f₂ r k (λ g ways vis σ. rule g ways (set_row σ k (with (node_of g k) (a' g) (b' g) (c' g))))
row-settled {f} {f₁} {f₂} {r} {k} {a} {b} {c} rule a' b' c' e p ea eb ec s =
    record { walked = λ h fuel l. meets h (settles-at f f₁ f₂ e.call r rule s h ∙ ap (rule (given_in f) (ways_of f.call)) (p h ∙ rw (ea, eb, ec))) }

-- ---- branches
pub chosen-is : (g : List ℕ) (ways : Ways) (vis : St → ℕ → Out (St × ℕ)) (b : Bool) (x : ℕ) (σ : St) (k : ℕ)
    → (vis σ (word_of g k (cond b 3 4)) >>= λ p. settle (table_of g) ways k (set_row p.0 k (with (node_of g k) x (cond b p.1 (word_of g k 3)) (cond b (word_of g k 4) p.1))) (swap p.1))
    ≡ chosen_of g ways vis (cond b left right) x σ k
unfolding chosen_of
chosen-is g ways vis true x σ k = refl
chosen-is g ways vis false x σ k = refl

pub chosen-before : (g : List ℕ) (b : Bool) (k : ℕ) → word_of g k 3 < k → word_of g k 4 < k → word_of g k (cond b 3 4) < k
chosen-before g true k l r = l
chosen-before g false k l r = r

pub chosen-word : (b : Bool) → cond b 3 4 < row_width
chosen-word true = lit< tt
chosen-word false = lit< tt

-- the branch that a condition's constant chooses
pub branched : {f f' : ConstantFolder} {r : Result ℕ Refusal} {n : ℕ} (x : ℕ) (b : Branch) → branch (const_of (rows_in f) x) ≡ b
    → Walks f f' r n (λ g ways vis σ. chosen_of g ways vis b x σ n) → Walks f f' r n (λ g ways vis σ. chosen_of g ways vis (branch (const_of σ.rows x)) x σ n)
unfolding view
branched {f} {f'} {r} {n} x b e w =
    record { walked = λ h fuel l. comes (w.walked h fuel l) (ap (λ d. chosen_of (given_in f) (ways_of f.call) (visit_of (given_in f) (ways_of f.call) fuel) d x (seen h f) n) (sym e)) }

pub undecided-is : (v : ℕ) → (v ≡ 1 → ⊥) → (v ≡ 0 → ⊥) → branch (some v) ≡ undecided
undecided-is v a b = rw (ne_eqb v 1 a, ne_eqb v 0 b)

-- ---- a visit by its mark
pub deep : (P : ℕ → Type 0) (k : ℕ) → ((f : ℕ) → k ≤ f → P (suc f)) → (f : ℕ) → k + 1 ≤ f → P f
deep P k p zero l = let o : ⊥ = omega arith in absurd o
deep P k p (suc f) l = p f (omega arith)

pub node_at_lem : (g : List ℕ) (k : ℕ) → k < count_of g → node_at (table_of g) k ≡ node_of g k
unfolding table_of
node_at_lem g k h = firsts_at (count_of g) (node_of g) unknown k h

module _ (g : List ℕ) (ways : Ways) (f : ℕ) (σ : St) (k : ℕ) where
  visit-by : (m : Mark) → σ.mark k ≡ m → visit_of g ways (suc f) σ k ≡ visit_marked (table_of g) ways (visit (table_of g) ways f) m σ k
  unfolding visit
  visit-by m e = ap (λ z. visit_marked (table_of g) ways (visit (table_of g) ways f) z σ k) e

  pub visit-fresh : k < count_of g → σ.mark k ≡ fresh → process_of g ways (visit_of g ways f) σ k ≡ visit_of g ways (suc f) σ k
  visit-fresh h e = sym (visit-by fresh e ∙ ap (λ nd. process (table_of g) ways (visit (table_of g) ways f) nd.kind σ k nd) (node_at_lem g k h))

module _ (f : ConstantFolder) (ways : Ways) (fuel : ℕ) (h : List Held) (k : ℕ) (l : k < count_in f) where
  pub again_fresh : (f' : ConstantFolder) (r : Result ℕ Refusal) → mark_of (count_in f) f.scratch.now k ≡ fresh
      → Meets f' r (process_of (given_in f) ways (visit_of (given_in f) ways fuel) (seen h f) k) → Meets f' r (visit_of (given_in f) ways (suc fuel) (seen h f) k)
  unfolding view
  again_fresh f' r e m = comes m (visit-fresh (given_in f) ways fuel (seen h f) k l e)

  pub again_kept : mark_of (count_in f) f.scratch.now k ≡ kept → Meets f (Ok k) (visit_of (given_in f) ways (suc fuel) (seen h f) k)
  unfolding view outcome_of
  again_kept e = meets h (sym (visit-by (given_in f) ways fuel (seen h f) k kept e))

  pub again_replaced : (r : ℕ) → mark_of (count_in f) f.scratch.now k ≡ replaced r → Meets f (Ok r) (visit_of (given_in f) ways (suc fuel) (seen h f) k)
  unfolding view outcome_of
  again_replaced r e = meets h (sym (visit-by (given_in f) ways fuel (seen h f) k (replaced r) e))

-- a fresh node's visit is its process
pub visited-fresh : (f f' : ConstantFolder) (r : Result ℕ Refusal) (n : ℕ) → n < count_in f → mark_of (count_in f) f.scratch.now n ≡ fresh
    → Walks f f' r n (λ g ways vis σ. process_of g ways vis σ n) → Walks f f' r (n + 1) (λ g ways vis σ. vis σ n)
visited-fresh f f' r n l e w =
    record { walked = λ h. deep (λ k. Meets f' r (visit_of (given_in f) (ways_of f.call) k (seen h f) n)) n (λ k o. again_fresh f (ways_of f.call) k h n l f' r e (w.walked h k o)) }

-- a node that stays, and one that another node or a constant stands for
pub visited-kept : (f : ConstantFolder) (n : ℕ) → n < count_in f → mark_of (count_in f) f.scratch.now n ≡ kept → Walks f f (Ok n) (n + 1) (λ g ways vis σ. vis σ n)
visited-kept f n l e =
    record { walked = λ h. deep (λ k. Meets f (Ok n) (visit_of (given_in f) (ways_of f.call) k (seen h f) n)) n (λ k o. again_kept f (ways_of f.call) k h n l e) }

pub visited-replaced : (f : ConstantFolder) (n a : ℕ) → n < count_in f → mark_of (count_in f) f.scratch.now n ≡ replaced a → Walks f f (Ok a) (n + 1) (λ g ways vis σ. vis σ n)
visited-replaced f n a l e =
    record { walked = λ h. deep (λ k. Meets f (Ok a) (visit_of (given_in f) (ways_of f.call) k (seen h f) n)) n (λ k o. again_replaced f (ways_of f.call) k h n l a e) }
