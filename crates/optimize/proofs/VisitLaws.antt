-- The visits of a list, one by one, as the folder goes on.
-- Assumes nothing.
use Prim.Native.Nat.{ℕ, ◌+◌, ◌<◌, ◌≤◌}
use mathlib.Core.Path.{◌≡◌, ap, sym, ◌∙◌}
use mathlib.Core.List.{List, ◌∷◌}
use native.Mathlib.Numerals.{add-one}
use native.Mathlib.Omega.{arith}
use lib.ListN.{length, get_or, drop, drop_of_length-le}
use lib.Seq.{drop-cons}
use Rattle.std.specs.Prelude.{Result, Ok, Err, ⊤}
use Rattle.rules.specs.Refusal.{Out, ◌>>=◌}
use Rattle.rules.specs.Walk.{St, Held}
use Rattle.rules.specs.Visit.{visit, visit_top}
use Rattle.rules.specs.Whole.{visit_all}
use Rattle.tables.specs.declared.refusal.Refusal.{Refusal}
use Rattle.optimize.specs.declared.call.Call.{Call}
use Rattle.optimize.specs.declared.folder.ConstantFolder.{ConstantFolder}
use Rattle.optimize.specs.View.{table_of, outcome_of}
use Rattle.optimize.specs.Call.{ways_of}
use Rattle.optimize.specs.Folder.{given_in, seen}
use Rattle.optimize.specs.Lists.{walked_of}
use Rattle.optimize.specs.Clauses.{Walks, WalksAll}

-- the visit at the top is that at the fuel of the node's number
pub visited-top : (f f' : ConstantFolder) (k : ℕ) (r : Result ℕ Refusal) → Walks f f' r (k + 1) (λ g ways vis σ. vis σ k)
    → (h : List Held) → (h' : List Held) × (outcome_of (seen h' f') r ≡ visit_top (table_of (given_in f)) (ways_of f.call) (seen h f) k)
visited-top f f' k r v h =
    let m = v.walked h (k + 1) (omega arith) in
    (m.held, m.came ∙ ap (λ n. visit (table_of (given_in f)) (ways_of f.call) n (seen h f) k) (add-one k))

-- the rules' visits of a list, by a call
abbrev pub all_by : Call → St → List ℕ → Out St
all_by c σ ks = visit_all (table_of c.given.now) (ways_of c) σ ks

-- the first i nodes were visited on the way from f₀ to f
abbrev pub VisitsFirst : ConstantFolder → ConstantFolder → List ℕ → ℕ → Type 0
VisitsFirst f₀ f ks i = (h : List Held) → (h' : List Held) × (all_by f₀.call (seen h f₀) ks ≡ all_by f₀.call (seen h' f) (drop i ks))

module _ (f₀ f f' : ConstantFolder) (ks : List ℕ) (i k : ℕ) (same : f.call ≡ f₀.call) (a : k ≡ get_or ks i 0) (l : i < length ks) (r : Result ℕ Refusal) (v : Walks f f' r (k + 1) (λ g ways vis σ. vis σ k)) (p : VisitsFirst f₀ f ks i) where
  abbrev rest : St × ℕ → Out St
  rest q = all_by f₀.call q.0 (drop (i + 1) ks)

  next : (h : List Held) → all_by f₀.call (seen h f₀) ks ≡ (outcome_of (seen (visited-top f f' k r v (p h).0).0 f') r >>= rest)
  unfolding visit_all
  next h =
      let d : drop i ks ≡ k ∷ drop (i + 1) ks = drop-cons ks i 0 l ∙ rw (add-one, a) in
      (p h).1 ∙ ap (all_by f₀.call (seen (p h).0 f)) d
      ∙ ap (λ o. o >>= rest) (sym ((visited-top f f' k r v (p h).0).1 ∙ ap (λ (c : Call). visit_top (table_of c.given.now) (ways_of c) (seen (p h).0 f) k) same))

  pub visits-on : (x : ℕ) → r ≡ Ok x → VisitsFirst f₀ f' ks (i + 1)
  unfolding outcome_of
  visits-on x e = λ h. let h' = (visited-top f f' k r v (p h).0).0 in (h', next h ∙ ap (λ z. outcome_of (seen h' f') z >>= rest) e)

  pub visits-stop : (z : Refusal) → r ≡ Err z → WalksAll f₀ f' ks (Err z)
  unfolding outcome_of walked_of
  visits-stop z e = λ h. let h' = (visited-top f f' k r v (p h).0).0 in (h', sym (next h ∙ ap (λ z. outcome_of (seen h' f') z >>= rest) e))

pub visits_none : (f : ConstantFolder) (ks : List ℕ) → VisitsFirst f f ks 0
visits_none f ks = λ h. (h, mathlib.Core.Path.refl)

pub visits_end : (f₀ f : ConstantFolder) (ks : List ℕ) (i : ℕ) (x : ⊤) → length ks ≤ i → VisitsFirst f₀ f ks i → WalksAll f₀ f ks (Ok x)
unfolding visit_all walked_of
visits_end f₀ f ks i x l p = λ h. ((p h).0, sym ((p h).1 ∙ ap (all_by f₀.call (seen (p h).0 f)) (drop_of_length-le ks {i = i} l)))
