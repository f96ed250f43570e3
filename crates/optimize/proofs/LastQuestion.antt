-- The last question by the number of bads left; the bads that question 5 is about are forgotten, since no buffer holds them.
-- Assumes nothing.
use Prim.Native.Nat.{ℕ, zero, suc, ◌-◌, ◌≤◌}
use mathlib.Core.Path.{◌≡◌, refl, ap, ap₂, sym, ◌∙◌}
use mathlib.Core.Bool.{Bool, true, false}
use mathlib.Core.List.{List, [], ◌∷◌, ◌++◌, map}
use native.Mathlib.Omega.{arith}
use lib.ListN.{length, get_or}
use lib.Dec.{leb}
use Rattle.rules.specs.Refusal.{Out, done, refuse}
use Rattle.rules.specs.Model.{Model, Mode}
use Rattle.rules.specs.Walk.{St, Question, Held, add_asked}
use Rattle.rules.specs.Questions.{ask, most, first_reply, other_replies, question}
use Rattle.rules.specs.Whole.{last_question}
use Rattle.optimize.specs.declared.walk.Walk.{Walk}
use Rattle.optimize.specs.declared.folder.ConstantFolder.{ConstantFolder}
use Rattle.tables.specs.declared.refusal.Refusal as tables
use Rattle.std.specs.Prelude.{Ok, Err}
use Rattle.optimize.specs.Bounds.{count_of}
use Rattle.optimize.specs.View.{firsts, question_of, view, outcome_of}
use Rattle.optimize.specs.Folder.{seen}
use Rattle.optimize.specs.declared.last_question.Verdict.{Verdict}
use Rattle.optimize.specs.LastQuestion.{verdict_is, answered_of, verdict_of, verdict_then, unnamed, without_bads, forgotten}

-- ---- nothing is forgotten of a state that lies in the buffers
map_more : (xs : List Question) (q : Question) → map unnamed (xs ++ (q ∷ [])) ≡ map unnamed xs ++ (unnamed q ∷ [])
map_more [] q = refl
map_more (x ∷ xs) q = ap (λ l. unnamed x ∷ l) (map_more xs q)

plain-firsts : (c : ℕ) (n : ℕ) (S : List ℕ) → map unnamed (firsts c (question_of n S)) ≡ firsts c (question_of n S)
unfolding firsts
plain-firsts zero n S = refl
plain-firsts (suc c) n S = map_more (firsts c (question_of n S)) (question_of n S c) ∙ ap (λ l. l ++ (question_of n S c ∷ [])) (plain-firsts c n S)

pub plain-view : (h : List Held) (g inputs replies R S : List ℕ) (w : Walk) → without_bads (view h g inputs replies R S w) ≡ view h g inputs replies R S w
unfolding view
plain-view h g inputs replies R S w = rw (plain-firsts w.asked (count_of g) S)

-- ---- a question about several bads, and the same about none
same_asked : (count : ℕ) (σ : St) (q x y : ℕ) (bs : List ℕ) → forgotten (verdict_then (ask count σ q x y bs)) ≡ forgotten (verdict_then (ask count σ q x y []))
unfolding ask
same_asked count σ q x y bs = go (leb (first_reply σ.replies) (most q))
  where
    more : (l : List ℕ) → map unnamed (σ.asked ++ (question q x y l (first_reply σ.replies) ∷ [])) ≡ map unnamed σ.asked ++ (question q x y [] (first_reply σ.replies) ∷ [])
    more l = map_more σ.asked (question q x y l (first_reply σ.replies))

    same : (l : List ℕ) → without_bads (add_asked σ (other_replies σ.replies) (question q x y l (first_reply σ.replies)))
        ≡ add_asked (without_bads σ) (other_replies σ.replies) (question q x y [] (first_reply σ.replies))
    same l = rw (more l)

    go : (b : Bool) → forgotten (verdict_then (elim b [ true ↦ done (add_asked σ (other_replies σ.replies) (question q x y bs (first_reply σ.replies)), first_reply σ.replies) | false ↦ refuse 11 6 (count - length σ.replies) ]))
        ≡ forgotten (verdict_then (elim b [ true ↦ done (add_asked σ (other_replies σ.replies) (question q x y [] (first_reply σ.replies)), first_reply σ.replies) | false ↦ refuse 11 6 (count - length σ.replies) ]))
    go true = ap (λ τ. done (τ, verdict_of (first_reply σ.replies))) (same bs ∙ sym (same []))
    go false = refl

-- ---- by how many are left
module _ (m : Model) (how : Mode) (σ : St) where
  none_left : (l : List ℕ) → length l ≡ 0 → last_question m how σ l ≡ done (σ, 3)
  unfolding last_question
  none_left [] e = refl
  none_left (b ∷ l) e = absurd (omega arith)

  one_left : (l : List ℕ) → length l ≡ 1 → last_question m how σ l ≡ verdict_then (ask (length m.replies) σ 2 (get_or l 0 0) 0 [])
  unfolding last_question
  one_left [] e = absurd (omega arith)
  one_left (b ∷ []) e = refl
  one_left (b ∷ c ∷ l) e = absurd (omega arith)

  many_left : (l : List ℕ) → 2 ≤ length l → last_question m how σ l ≡ verdict_then (ask (length m.replies) σ 5 (length l) 0 l)
  unfolding last_question
  many_left [] e = absurd (omega arith)
  many_left (b ∷ []) e = absurd (omega arith)
  many_left (b ∷ c ∷ l) e = refl

-- ---- what the question left is as it stands
pub plain-seen : (h : List Held) (f : ConstantFolder) → without_bads (seen h f) ≡ seen h f
plain-seen h f = plain-view h f.call.given.now f.call.inputs.now f.call.replies.now f.res.now f.scratch.now f.walk

module _ (h : List Held) (f : ConstantFolder) (o : Out (St × ℕ)) where
  pub verdict-stop : (z : tables.Refusal) → outcome_of {A = ℕ} (seen h f) (Err z) ≡ o → answered_of (seen h f) (Err z) ≡ forgotten (verdict_then o)
  unfolding outcome_of answered_of
  verdict-stop z e = ap (λ x. forgotten (verdict_then x)) e

  pub verdict-reply : (r : ℕ) (v : Verdict) → outcome_of (seen h f) (Ok r) ≡ o → verdict_is v ≡ verdict_of r → answered_of (seen h f) (Ok v) ≡ forgotten (verdict_then o)
  unfolding outcome_of answered_of
  verdict-reply r v e d = ap₂ (λ τ x. done (τ, x)) (sym (plain-seen h f)) d ∙ ap (λ x. forgotten (verdict_then x)) e

module _ (m : Model) (how : Mode) (h : List Held) (f : ConstantFolder) (E : List ℕ) where
  pub last_none : length E ≡ 0 → answered_of (seen h f) (Ok Verdict.NoneLeft) ≡ forgotten (last_question m how (seen h f) E)
  unfolding answered_of
  last_none e = ap (λ τ. done (τ, 3)) (sym (plain-seen h f)) ∙ sym (ap forgotten (none_left m how (seen h f) E e))

  module _ (n : ℕ) (c : length m.replies ≡ n) where
    pub last_one : length E ≡ 1 → (b : ℕ) → b ≡ get_or E 0 0 → forgotten (verdict_then (ask n (seen h f) 2 b 0 [])) ≡ forgotten (last_question m how (seen h f) E)
    last_one e b d = ap₂ (λ k z. forgotten (verdict_then (ask k (seen h f) 2 z 0 []))) (sym c) d ∙ sym (ap forgotten (one_left m how (seen h f) E e))

    pub last_many : 2 ≤ length E → forgotten (verdict_then (ask n (seen h f) 5 (length E) 0 [])) ≡ forgotten (last_question m how (seen h f) E)
    last_many e =
        ap (λ k. forgotten (verdict_then (ask k (seen h f) 5 (length E) 0 []))) (sym c) ∙ sym (same_asked (length m.replies) (seen h f) 5 (length E) 0 E)
        ∙ sym (ap forgotten (many_left m how (seen h f) E e))
