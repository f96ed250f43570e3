-- Judging bads: by the condition, one after the other; and what a judged bad leaves for the next.
-- Assumes nothing.
use Prim.Native.Nat.{ℕ, suc, ◌+◌, ◌<◌, ◌≤◌}
use mathlib.Core.Path.{◌≡◌, refl, ap, ap₂, sym, ◌∙◌, subst}
use mathlib.Core.Bool.{Bool, true, false, cond}
use mathlib.Core.Option.{Option}
use mathlib.Core.List.{List, [], ◌∷◌, ◌++◌, append_assoc, append-nil}
use native.Mathlib.Numerals.{add-one}
use native.Mathlib.Omega.{arith}
use lib.ListN.{length, get_or, take, drop, set, drop_of_length-le}
use lib.Seq.{drop-cons}
use Rattle.std.specs.Prelude.{Result, Ok, Err, OnOk}
use Rattle.rules.specs.Refusal.{Out, refused, done, refuse, ◌>>=◌}
use Rattle.rules.specs.Table.{Node}
use Rattle.rules.specs.Legal.{BadEntry}
use Rattle.rules.specs.Walk.{St, Held}
use Rattle.rules.specs.Fold.{const_of, is_const}
use Rattle.rules.specs.Questions.{ask}
use Rattle.rules.specs.Visit.{Ways, visit_top}
use Rattle.rules.specs.Whole as whole
use Rattle.rules.specs.Whole.{Bads, Judgement, noted, judge_bad}
use Rattle.rules.proofs.Base.{If}
use Rattle.rules.proofs.Walked.{Walked, Goes, bads_walked}
use Rattle.tables.specs.declared.refusal.Refusal.{Refusal}
use Rattle.tables.specs.Refusals.{refusal_of}
use Rattle.optimize.specs.declared.bads.Judging.{Judging}
use Rattle.optimize.specs.declared.call.Call.{Call}
use Rattle.optimize.specs.declared.folder.ConstantFolder.{ConstantFolder}
use Rattle.optimize.specs.Bounds.{count_of}
use Rattle.rules.specs.Sections.{word_of}
use Rattle.optimize.specs.View.{table_of, view, outcome_of}
use Rattle.optimize.specs.Call.{ways_of}
use Rattle.optimize.specs.Folder.{given_in, count_in, rows_in, seen, Keeps, LaidIn}
use Rattle.optimize.specs.Bads.{SpareIn, judgement, retained_of, judged_of, reply_rule, bad_rule, visited_rule, retain_rule, list_rule}
use Rattle.optimize.specs.Clauses.{Walks, RetainsBad, JudgesBads}
use Rattle.optimize.proofs.Views.{row_below}
use Rattle.optimize.proofs.Steps.{table-length}
use Rattle.optimize.proofs.Forms.{assoc, bind_same}
use Rattle.optimize.proofs.Entries.{entries-more}
use Rattle.optimize.proofs.VisitLaws.{visited-top}
use Rattle.optimize.proofs.Keeps.{seen_by, spare_after, laid_after}

-- ---- by the condition
module _ (f : ConstantFolder) (how : Judging) (place c : ℕ) (h : List Held) (x : Option ℕ) (e : x ≡ const_of (rows_in f) c) where
  abbrev σ : St
  σ = seen h f

  abbrev rule : Out (St × Judgement)
  rule = bad_rule (given_in f) (ways_of f.call) how place σ c

  abbrev judge : Option ℕ → Out (St × Judgement)
  judge y = judge_bad (table_of (given_in f)) (ways_of f.call) how.solver how.terminate how.section place σ c y

  bad-is : judge x ≡ rule
  unfolding view
  bad-is = ap judge e

  abbrev asked : Out (St × Judgement)
  asked = ask (length f.call.replies.now) σ 4 c 0 [] >>= λ p. reply_rule (given_in f) (ways_of f.call) how place p.0 p.1

  abbrev by_flags : Bool → Bool → Bool → Bool → Out (St × Judgement)
  by_flags zero? one? terminate solver =
      elim zero? [
        | true ↦ done (σ, whole.drop)
        | false ↦ elim one? [
          | true ↦ elim terminate [ true ↦ refuse 13 how.section place | false ↦ done (σ, whole.stay) ]
          | false ↦ elim solver [ false ↦ done (σ, whole.stay) | true ↦ asked ]
        ]
      ]

  pub bad-zero : is_const x 0 ≡ true → done (σ, whole.drop) ≡ rule
  bad-zero z = sym (ap (λ b. by_flags b (is_const x 1) how.terminate how.solver) z) ∙ bad-is

  module _ (z : is_const x 0 ≡ false) where
    pub bad-refused : is_const x 1 ≡ true → how.terminate ≡ true → refuse 13 how.section place ≡ rule
    bad-refused o t = sym (ap (λ b. by_flags b (is_const x 1) how.terminate how.solver) z ∙ ap₂ (λ b d. by_flags false b d how.solver) o t) ∙ bad-is

    pub bad_one : is_const x 1 ≡ true → how.terminate ≡ false → done (σ, whole.stay) ≡ rule
    bad_one o t = sym (ap (λ b. by_flags b (is_const x 1) how.terminate how.solver) z ∙ ap₂ (λ b d. by_flags false b d how.solver) o t) ∙ bad-is

    module _ (o : is_const x 1 ≡ false) where
      pub bad-unasked : how.solver ≡ false → done (σ, whole.stay) ≡ rule
      bad-unasked t = sym (ap (λ b. by_flags b (is_const x 1) how.terminate how.solver) z ∙ ap₂ (λ b d. by_flags false b how.terminate d) o t) ∙ bad-is

      asks : how.solver ≡ true → asked ≡ rule
      asks t = sym (ap (λ b. by_flags b (is_const x 1) how.terminate how.solver) z ∙ ap₂ (λ b d. by_flags false b how.terminate d) o t) ∙ bad-is

      pub bad_replied : how.solver ≡ true → (τ : St) (r : ℕ) → outcome_of τ (Ok r) ≡ ask (length f.call.replies.now) σ 4 c 0 []
          → (a : Result Bool Refusal) → retained_of τ a ≡ reply_rule (given_in f) (ways_of f.call) how place τ r → retained_of τ a ≡ rule
      unfolding outcome_of
      bad_replied t τ r q a d = d ∙ ap (λ (u : Out (St × ℕ)). u >>= λ p. reply_rule (given_in f) (ways_of f.call) how place p.0 p.1) q ∙ asks t

      pub bad_stopped : how.solver ≡ true → (τ υ : St) (v : Refusal) → outcome_of τ (Err v) ≡ ask (length f.call.replies.now) σ 4 c 0 [] → retained_of υ (Err v) ≡ rule
      unfolding outcome_of retained_of
      bad_stopped t τ υ v q = ap (λ (u : Out (St × ℕ)). u >>= λ p. reply_rule (given_in f) (ways_of f.call) how place p.0 p.1) q ∙ asks t

-- ---- a bad judged by what its visit came to
module _ (f f' : ConstantFolder) (how : Judging) (place b : ℕ) (r : Result ℕ Refusal) (v : Walks f f' r (b + 1) (λ g ways vis σ. vis σ b)) where
  pub retain_refused : (z : Refusal) → r ≡ Err z → RetainsBad f f' how place b (Err z)
  unfolding outcome_of retained_of
  retain_refused z e = λ h. let m = visited-top f f' b r v h in
      (m.0, ap (visited_rule (given_in f) (ways_of f.call) how place b) (sym (ap (outcome_of (seen m.0 f')) e) ∙ m.1))

  pub retain_done : (a : ℕ) → r ≡ Ok a → f'.call ≡ f.call → b < count_in f → (c : ℕ) → c ≡ word_of f'.res.now b 2 → (f'' : ConstantFolder) (s : Result Bool Refusal)
      → ((h : List Held) → retained_of (seen h f'') s ≡ bad_rule (given_in f') (ways_of f'.call) how place (seen h f') c) → RetainsBad f f'' how place b s
  unfolding view outcome_of
  retain_done a e same l c d f'' s judged = λ h.
      let m = visited-top f f' b r v h in
      let l' : b < count_in f' = subst (λ (k : Call). b < count_of k.given.now) (sym same) l in (
        m.0,
        judged m.0
            ∙ ap (bad_rule (given_in f') (ways_of f'.call) how place (seen m.0 f')) (d ∙ sym (ap (λ (nd : Node). nd.a) (row_below (count_in f') f'.walk.made f'.res.now b l')))
            ∙ ap (λ (k : Call). bad_rule k.given.now (ways_of k) how place (seen m.0 f') ((seen m.0 f').rows b).a) same
            ∙ ap (visited_rule (given_in f) (ways_of f.call) how place b) (sym (ap (outcome_of (seen m.0 f')) e) ∙ m.1),
      )

-- ---- a list, one by one
abbrev pub before : List ℕ → List ℕ → Bads → Bads
before E D r = record { after = r.after; stay = E ++ r.stay; dropped = D ++ r.dropped }

module _ (g : List ℕ) (ways : Ways) (how : Judging) (i : ℕ) (σ : St) (b : ℕ) (bs : List ℕ) where
  abbrev rest : St × Judgement → Out Bads
  rest q = list_rule g ways how (suc i) q.0 bs >>= λ r. done (noted q.1 b r)

  list_is : list_rule g ways how i σ (b ∷ bs) ≡ (retain_rule g ways how i b σ >>= rest)
  unfolding whole.judge_bads
  list_is = sym (assoc (visit_top (table_of g) ways σ b) _ _)

  list_step : (σ₂ : St) (v : Judgement) → retain_rule g ways how i b σ ≡ done (σ₂, v) → list_rule g ways how i σ (b ∷ bs) ≡ rest (σ₂, v)
  list_step σ₂ v e = list_is ∙ ap (λ (o : Out (St × Judgement)). o >>= rest) e

  pub list_refused : (z : Refusal) → refused (refusal_of z) ≡ retain_rule g ways how i b σ → (E D : List ℕ) → refused (refusal_of z) ≡ (list_rule g ways how i σ (b ∷ bs) >>= λ r. done (before E D r))
  list_refused z e E D = ap (λ (o : Out (St × Judgement)). (o >>= rest) >>= λ r. done (before E D r)) e ∙ ap (λ (o : Out Bads). o >>= λ r. done (before E D r)) (sym list_is)

  noted-is : (stays : Bool) (E D : List ℕ) (r : Bads) → before E D (noted (judgement stays) b r) ≡ before (E ++ cond stays (b ∷ []) []) (D ++ cond stays [] (b ∷ [])) r
  noted-is true E D r = ap₂ (λ s d. record { after = r.after; stay = s; dropped = d }) (sym (append_assoc E (b ∷ []) r.stay)) (ap (λ d. d ++ r.dropped) (sym (append-nil D)))
  noted-is false E D r = ap₂ (λ s d. record { after = r.after; stay = s; dropped = d }) (ap (λ s. s ++ r.stay) (sym (append-nil E))) (sym (append_assoc D (b ∷ []) r.dropped))

  pub list_on : (σ₂ : St) (stays : Bool) → retain_rule g ways how i b σ ≡ done (σ₂, judgement stays) → (E D E' : List ℕ) → E' ≡ E ++ cond stays (b ∷ []) []
      → (list_rule g ways how i σ (b ∷ bs) >>= λ r. done (before E D r)) ≡ (list_rule g ways how (i + 1) σ₂ bs >>= λ r. done (before E' (D ++ cond stays [] (b ∷ [])) r))
  list_on σ₂ stays e E D E' d =
      ap (λ (o : Out Bads). o >>= λ r. done (before E D r)) (list_step σ₂ (judgement stays) e)
      ∙ assoc (list_rule g ways how (suc i) σ₂ bs) _ _
      ∙ bind_same (list_rule g ways how (suc i) σ₂ bs) _ _ (λ r. ap done (noted-is stays E D r))
      ∙ ap₂ (λ j F. list_rule g ways how j σ₂ bs >>= λ r. done (before F (D ++ cond stays [] (b ∷ [])) r)) (sym (add-one i)) (sym d)

pub list_end : (g : List ℕ) (ways : Ways) (how : Judging) (i : ℕ) (σ : St) (E D l : List ℕ) → l ≡ [] → (list_rule g ways how i σ l >>= λ r. done (before E D r)) ≡ done (record { after = σ; stay = E; dropped = D })
unfolding whole.judge_bads
list_end g ways how i σ E D l e =
    ap (λ z. list_rule g ways how i σ z >>= λ r. done (before E D r)) e
    ∙ ap₂ (λ s d. done (record { after = σ; stay = s; dropped = d })) (append-nil E) (append-nil D)

pub list_start : (o : Out Bads) → o ≡ (o >>= λ r. done (before [] [] r))
list_start (refused z) = refl
list_start (done r) = refl

-- ---- what a judged bad leaves
module _ (f f' : ConstantFolder) (how : Judging) (i b : ℕ) (stays : Bool) (l : LaidIn f) (bad : BadEntry (table_of (given_in f)) b) (k : Keeps f f') (v : RetainsBad f f' how i b (Ok stays)) where
  abbrev g : List ℕ
  g = given_in f

  pub retained_is : (h : List Held) → retain_rule g (ways_of f.call) how i b (seen h f) ≡ done (seen (v h).0 f', judgement stays)
  unfolding retained_of
  retained_is h = sym (v h).1

  walked : Walked (table_of g) (ways_of f.call) f.call.inputs.now f.call.replies.now f.call.table.legal 1 (seen l.held f) (seen_by f.call (v l.held).0 f')
  unfolding whole.judge_bads
  walked =
      subst (If (λ (q : Bads). Goes (table_of g) (ways_of f.call) f.call.inputs.now f.call.replies.now f.call.table.legal 1 (seen l.held f) q.after))
      (list_step g (ways_of f.call) how i (seen l.held f) b [] (seen_by f.call (v l.held).0 f') (judgement stays) (retained_is l.held ∙ ap (λ c. done (seen_by c (v l.held).0 f', judgement stays)) k.call))
      (bads_walked (table_of g) (ways_of f.call) f.call.inputs.now f.call.replies.now f.call.table.legal how.solver how.terminate how.section i (seen l.held f) (b ∷ []) (bad, tt)) l.fine

-- whatever the judgement is
module _ (f f' : ConstantFolder) (how : Judging) (i b : ℕ) (l : LaidIn f) (bad : BadEntry (table_of (given_in f)) b) (k : Keeps f f') where
  pub laid_judged : (r : Result Bool Refusal) → RetainsBad f f' how i b r → SpareIn f 1 → OnOk r (LaidIn f')
  laid_judged (Ok stays) v s = laid_after f f' k l 1 (v l.held).0 (walked f f' how i b stays l bad k v) s
  laid_judged (Err z) v s = tt

  pub spare_judged : (r : Result Bool Refusal) → RetainsBad f f' how i b r → OnOk r ((c : ℕ) → SpareIn f (c + 1) → SpareIn f' c)
  spare_judged (Ok stays) v = spare_after f f' k l 1 (v l.held).0 (walked f f' how i b stays l bad k v)
  spare_judged (Err z) v = tt

pub bad-inside : (g : List ℕ) (b : ℕ) → BadEntry (table_of g) b → b < count_of g
bad-inside g b e = omega (arith, e.inside, table-length g)

-- ---- a list, as the folder goes on
-- the rules' judgement of a list, by a call
abbrev pub list_by : Call → Judging → ℕ → St → List ℕ → Out Bads
list_by c how i σ bs = list_rule c.given.now (ways_of c) how i σ bs

-- the first i bads were judged on the way from f₀ to f; those that stay are E
abbrev pub JudgesFirst : ConstantFolder → ConstantFolder → Judging → List ℕ → ℕ → List ℕ → Type 0
JudgesFirst f₀ f how bs i E =
    (h : List Held) → (h' : List Held) × (D : List ℕ) × (list_by f₀.call how 0 (seen h f₀) bs ≡ (list_by f₀.call how i (seen h' f) (drop i bs) >>= λ q. done (before E D q)))

module _ (f₀ f f' : ConstantFolder) (how : Judging) (bs : List ℕ) (i b : ℕ) (same : f.call ≡ f₀.call) (nb : b ≡ get_or bs i 0) (l : i < length bs) (E : List ℕ) (p : JudgesFirst f₀ f how bs i E) where
  next : (h : List Held) → list_by f₀.call how 0 (seen h f₀) bs ≡ (list_by f₀.call how i (seen (p h).0 f) (b ∷ drop (i + 1) bs) >>= λ q. done (before E (p h).1 q))
  next h = (p h).2 ∙ ap (λ z. list_by f₀.call how i (seen (p h).0 f) z >>= λ q. done (before E (p h).1 q)) (drop-cons bs i 0 l ∙ rw (add-one, nb))

  abbrev retained_by : Call → List Held → Out (St × Judgement)
  retained_by c h = retain_rule c.given.now (ways_of c) how i b (seen h f)

  pub bads-on : (stays : Bool) → RetainsBad f f' how i b (Ok stays) → (E' : List ℕ) → E' ≡ E ++ cond stays (b ∷ []) [] → JudgesFirst f₀ f' how bs (i + 1) E'
  unfolding retained_of
  bads-on stays v E' e = λ h.
      let h' : List Held = (v (p h).0).0 in
      let q : retained_by f₀.call (p h).0 ≡ done (seen h' f', judgement stays) = sym ((v (p h).0).1 ∙ ap (λ c. retained_by c (p h).0) same) in (
        h',
        (p h).1 ++ cond stays [] (b ∷ []),
        next h ∙ list_on f₀.call.given.now (ways_of f₀.call) how i (seen (p h).0 f) b (drop (i + 1) bs) (seen h' f') stays q E (p h).1 E' e,
      )

  pub bads-stop : (z : Refusal) → RetainsBad f f' how i b (Err z) → (kept : List ℕ) → JudgesBads f₀ f' how bs kept (Err z)
  unfolding retained_of judged_of
  bads-stop z v kept = λ h.
      let h' : List Held = (v (p h).0).0 in
      let q : refused (refusal_of z) ≡ retained_by f₀.call (p h).0 = (v (p h).0).1 ∙ ap (λ c. retained_by c (p h).0) same in
      (h', [], list_refused f₀.call.given.now (ways_of f₀.call) how i (seen (p h).0 f) b (drop (i + 1) bs) z q E (p h).1 ∙ sym (next h))

pub bads_none : (f : ConstantFolder) (how : Judging) (bs E : List ℕ) → E ≡ [] → JudgesFirst f f how bs 0 E
bads_none f how bs E e = λ h. (h, [], list_start (list_by f.call how 0 (seen h f) bs) ∙ ap (λ e. list_by f.call how 0 (seen h f) bs >>= λ q. done (before e [] q)) (sym e))

pub bads_end : (f₀ f : ConstantFolder) (how : Judging) (bs kept : List ℕ) (i count : ℕ) → length bs ≤ i → JudgesFirst f₀ f how bs i (take count kept) → JudgesBads f₀ f how bs kept (Ok count)
unfolding judged_of
bads_end f₀ f how bs kept i count l p = λ h.
    ((p h).0, (p h).1, sym ((p h).2 ∙ list_end f₀.call.given.now (ways_of f₀.call) how i (seen (p h).0 f) (take count kept) (p h).1 (drop i bs) (drop_of_length-le bs {i = i} l)))

-- a bad that stays is put after those before it
pub entry-kept : (K K' : List ℕ) (count count' x b : ℕ) (stays : Bool) → stays ≡ true → count < length K → b ≡ x → K' ≡ set K count x → count' ≡ count + 1 → take count' K' ≡ take count K ++ cond stays (b ∷ []) []
entry-kept K K' count count' x b stays s l e k c = ap₂ take c k ∙ entries-more K count x l ∙ ap₂ (λ t y. take count K ++ cond t (y ∷ []) []) (sym s) (sym e)

pub entry-none : (K K' : List ℕ) (count count' b : ℕ) (stays : Bool) → stays ≡ false → K' ≡ K → count' ≡ count → take count' K' ≡ take count K ++ cond stays (b ∷ []) []
entry-none K K' count count' b stays s k c = ap₂ take c k ∙ sym (append-nil (take count K)) ∙ ap (λ t. take count K ++ cond t (b ∷ []) []) (sym s)

pub spare-less : (f : ConstantFolder) (c d : ℕ) → d ≤ c → SpareIn f c → SpareIn f d
spare-less f c d l s = omega (arith, s)
