-- The whole fold (docs/FORMAT.md, "Folding", "Bad states", "One-query"; should_retain_sequential, should_retain_bad_state and optimize_model_impl).
--     judge_sequentials   which Nexts are dropped, on the table as given        judge_bads   which bads of a list are dropped
--     fold               sequentials, initial bads, sequential bads            run         refusals 3 to 7, then the fold
-- Assumes nothing.
use Rattle.std.specs.Prelude.{ℕ, suc, Bool, true, false, cond, ◌&&◌, ◌||◌, List, [], ◌∷◌, ◌++◌, length, eqb}
use Rattle.std.proofs.Math.Option.{Option, none, some}
use Rattle.rules.specs.Refusal.{Out, done, refuse, ◌>>=◌, unless_refused}
use Rattle.rules.specs.Table.{Row, Node, node_at}
use Rattle.rules.specs.Model.{Model, Mode}
use Rattle.rules.specs.Check.{check}
use Rattle.rules.specs.Walk.{St, replaced, set_mark, start}
use Rattle.rules.specs.Fold.{const_of, is_const}
use Rattle.rules.specs.Questions.{ask, always_false, satisfiable, several}
use Rattle.rules.specs.Visit.{Ways, visit_top}

abbrev pub ways_of : Model → Mode → Ways
ways_of m how = record { dump = m.dump; minimise = how.minimise; reply_count = length m.replies; reading = how.reading }

-- ---- "First all sequentials are judged, on the table as given"
abbrev pub same_const : Option ℕ → Option ℕ → Bool
same_const none cy = false
same_const (some x) cy = is_const cy x

module _ (t : List Node) where
  -- "a Next is dropped when its next value is the state itself, or when init and next value are Consts of the table with equal numbers"
  abbrev pub trivial : Node → Bool
  trivial nx = eqb nx.a nx.b || same_const (const_of (node_at t) (node_at t nx.a).a) (const_of (node_at t) nx.b)

  -- "The state of a dropped Next is replaced by its init, as it stands and unvisited"
  abbrev pub drop_next : St → Node → St
  drop_next σ nx = set_mark σ nx.a (replaced (node_at t nx.a).a)

  -- the state with the replaced states, and the Nexts that are kept
  unfoldable pub judge_sequentials : St → List ℕ → St × List ℕ
  judge_sequentials σ [] = (σ, [])
  judge_sequentials σ (s ∷ ss) =
      elim (trivial (node_at t s)) [
        | true ↦ judge_sequentials (drop_next σ (node_at t s)) ss
        | false ↦ let r : St × List ℕ = judge_sequentials σ ss in (r.0, s ∷ r.1)
      ]

-- whether a bad stays
pub data Judgement : Type 0 where
  stay drop : Judgement

-- what a list of bads leaves: the state, the bads that stay and those dropped
pub record Bads : Type 0 where
  pub after : St
  pub stay : List ℕ
  pub dropped : List ℕ

abbrev pub if_stays : Judgement → ℕ → List ℕ → List ℕ
if_stays stay b bs = b ∷ bs
if_stays drop b bs = bs

abbrev pub if_dropped : Judgement → ℕ → List ℕ → List ℕ
if_dropped stay b bs = bs
if_dropped drop b bs = b ∷ bs

abbrev pub noted : Judgement → ℕ → Bads → Bads
noted v b r = record { after = r.after; stay = if_stays v b r.stay; dropped = if_dropped v b r.dropped }

module _ (t : List Node) (ways : Ways) where
  -- "the kept Nexts are visited in order"
  unfoldable pub visit_all : St → List ℕ → Out St
  visit_all σ [] = done σ
  visit_all σ (k ∷ ks) = visit_top t ways σ k >>= λ p. visit_all p.0 ks

  module _ (solver terminate : Bool) (section : ℕ) where
    -- "Reply 1 drops it; 0 keeps it; 2 keeps it, and is refusal 14 under terminate."
    abbrev pub by_reply : ℕ → St → ℕ → Out (St × Judgement)
    by_reply place σ r =
        elim (eqb r 1) [
          | true ↦ done (σ, drop)
          | false ↦ elim (eqb r 2 && terminate) [ true ↦ refuse 14 section place | false ↦ done (σ, stay) ]
        ]

    -- "the constant 0: it is dropped"; "the constant 1: it is kept; under terminate it is refusal 13"; "anything else: question 4 is put"
    abbrev pub judge_bad : ℕ → St → ℕ → Option ℕ → Out (St × Judgement)
    judge_bad place σ c x =
        elim (is_const x 0) [
          | true ↦ done (σ, drop)
          | false ↦ elim (is_const x 1) [
            | true ↦ elim terminate [ true ↦ refuse 13 section place | false ↦ done (σ, stay) ]
            | false ↦ elim solver [
              | false ↦ done (σ, stay)
              | true ↦ ask ways.reply_count σ satisfiable c 0 [] >>= λ p. by_reply place p.0 p.1
            ]
          ]
        ]

    unfoldable pub judge_bads : ℕ → St → List ℕ → Out Bads
    judge_bads place σ [] = done (record { after = σ; stay = []; dropped = [] })
    judge_bads place σ (b ∷ bs) = do
      (σ₁, k) ← visit_top t ways σ b
      (σ₂, v) ← judge_bad place σ₁ (σ₁.rows b).a (const_of σ₁.rows (σ₁.rows b).a)
      r ← judge_bads (suc place) σ₂ bs
      done (noted v b r)

-- what a fold leaves: the state of the walk, the three kept lists, the bads dropped, and the tally's verdict
pub record Folded : Type 0 where
  pub state : St
  pub sequentials : List ℕ
  pub initial : List ℕ
  pub later : List ℕ
  pub dropped : List ℕ
  pub verdict : ℕ

module _ (m : Model) (how : Mode) where
  abbrev pub bads : Bool → Bool → ℕ → St → List ℕ → Out Bads
  bads solver terminate section σ bs = judge_bads m.table (ways_of m how) solver terminate section 0 σ bs

  -- "2 after the reply 1 (none can be found), and 1 after the reply 0"
  abbrev pub verdict_of : ℕ → ℕ
  verdict_of r = cond (eqb r 1) 2 1

  -- "with one entry left question 2 about the Bad itself; with several, counted as entries, question 5; with none no question"; then the verdict is 3
  unfoldable pub last_question : St → List ℕ → Out (St × ℕ)
  last_question σ [] = done (σ, 3)
  last_question σ (b ∷ []) = do
    (σ₁, r) ← ask (length m.replies) σ always_false b 0 []
    done (σ₁, verdict_of r)
  last_question σ (b ∷ b' ∷ bs) = do
    (σ₁, r) ← ask (length m.replies) σ several (length (b ∷ b' ∷ bs)) 0 (b ∷ b' ∷ bs)
    done (σ₁, verdict_of r)

  -- "then the initial bads, then the sequential bads"; "Under one-query, initial bads alone are visited. No question 4 is put", "section 4 comes back as it was given"
  unfoldable pub fold_bads : Bool → St → List ℕ → Out Folded
  fold_bads true σ seqs = do
    i ← bads false true 3 σ m.initial
    (σ₂, v) ← last_question i.after i.stay
    done (record { state = σ₂; sequentials = seqs; initial = i.stay; later = m.later; dropped = i.dropped; verdict = v })
  fold_bads false σ seqs = do
    i ← bads true how.terminate 3 σ m.initial
    l ← bads true how.terminate 4 i.after m.later
    done (record { state = l.after; sequentials = seqs; initial = i.stay; later = l.stay; dropped = i.dropped ++ l.dropped; verdict = 0 })

  unfoldable pub fold : Out Folded
  fold =
      let j : St × List ℕ = judge_sequentials m.table (start m.table m.inputs m.replies) m.sequentials in
      visit_all m.table (ways_of m how) j.0 j.1 >>= λ σ. fold_bads how.one_query σ j.1

-- "the nodes, rising, .. the lists in order, .. as the walk meets them", on words that stand in their sections
unfoldable pub run : ℕ → List Row → Model → Mode → Out Folded
run names rs m how = unless_refused (check names rs m) (fold m how)
