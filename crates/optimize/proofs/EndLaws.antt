-- Why the end of a run leaves the state: past its end a list has no entries.
--     least-left    as much is left of a list        same-counted    the state is the same         finished    what the writer of the result needs
-- Assumes nothing.
use Prim.Native.Nat.{ℕ, ◌≤◌, min}
use mathlib.Core.Path.{◌≡◌, sym, ap, ◌∙◌, subst}
use mathlib.Core.List.{List, flatten}
use native.Mathlib.Omega.{arith}
use lib.ListN.{length, drop, drop_of_length-le}
use Rattle.rules.specs.Walk.{Held}
use Rattle.rules.specs.Model.{Model}
use Rattle.rules.specs.Whole.{Folded}
use Rattle.rules.specs.Result.{result_words}
use Rattle.optimize.specs.declared.folder.ConstantFolder.{ConstantFolder}
use Rattle.optimize.specs.declared.lists.Lists.{Lists}
use Rattle.optimize.specs.declared.walk.Walk.{Walk}
use Rattle.optimize.specs.View.{view}
use Rattle.optimize.specs.Folder.{given_in}
use Rattle.optimize.specs.ResultView.{Finished, folded_in, Handed}
use Rattle.optimize.specs.Ending.{Ended}
use Rattle.rules.proofs.Base.{inside-or-past}

-- ---- counters
pub least-left : (k t : ℕ) (l : List ℕ) → k ≡ min t (length l) → drop k l ≡ drop t l
least-left k t l e =
    inside-or-past (drop k l ≡ drop t l) t (length l)
    (λ h. let q : k ≡ t = omega arith in ap (λ i. drop i l) q)
    (λ h. drop_of_length-le l {i = k} (omega arith) ∙ sym (drop_of_length-le l {i = t} h))

module _ (h : List Held) (g inputs replies R S : List ℕ) (w : Walk) where
  pub same-counted : (t u : ℕ) → drop t inputs ≡ drop w.taken inputs → drop u replies ≡ drop w.used replies
      → view h g inputs replies R S (record w { taken = t; used = u }) ≡ view h g inputs replies R S w
  unfolding view
  same-counted t u e d = rw (e, d)

-- ---- the end
pub same_fold : (h : List Held) (d g inputs replies R S : List ℕ) (w x : Walk) (ss initial later : List ℕ) (v : ℕ) → view h g inputs replies R S x ≡ view h g inputs replies R S w
    → folded_in h d g inputs replies R S x ss initial later v ≡ folded_in h d g inputs replies R S w ss initial later v
unfolding folded_in
same_fold h d g inputs replies R S w x ss initial later v e = rw e

pub handed_same : (m : Model) {f e : Folded} {c : ℕ} {P : List ℕ} {r : ℕ} → f ≡ e → Handed (flatten (result_words m f)) c P r → Handed (flatten (result_words m e)) c P r
handed_same m {f} {e} {c} {P} {r} p h = subst (λ (y : Folded). Handed (flatten (result_words m y)) c P r) p h

pub finished : (f : ConstantFolder) (kept : Lists) (x : Walk) → Ended f kept → x.made ≡ f.walk.made → x.asked ≡ f.walk.asked → x.taken ≤ length f.call.inputs.now
    → Finished (given_in f) f.call.inputs.now f.res.now f.scratch.now x kept
finished f kept x fine made asked taken =
    record {
      counted = omega (arith, f.call.table.whole);
      few = f.call.table.small;
      least = f.room;
      room = omega (arith, fine.room, made, asked);
      scratch = omega (arith, f.asks, asked);
      made = omega (arith, f.made, made);
      taken = taken;
      known = fine.known;
    }
