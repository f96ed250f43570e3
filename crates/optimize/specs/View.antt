-- How the state of the walk lies in the two lent buffers and in the counters.
--     table_of    the nodes of the given words          rows_of, mark_of, question_of    what result and scratch hold
--     mark_is    the rules' mark of one                view    the rules' state               outcome_of    the rules' outcome of an answer
-- Result: the count of nodes, the words of each, the count of constants, two words for each (the two shared ones first).
-- Scratch: a mark for each node, a replacement for each, four words for each question, and after them the kept lists.
-- Assumes nothing.
use Rattle.std.specs.Prelude.{Option as Answer, Some, None, ℕ, zero, suc, ◌+◌, ◌-◌, ◌*◌, ◌≡◌, true, false, cond, List, [], ◌∷◌, ◌++◌, length, get_or, drop, ltb, eqb, Result, Ok, Err}
use Rattle.std.proofs.Math.Option.{Option, none, some}
use Rattle.rules.specs.Model.{Mode}
use Rattle.rules.specs.Refusal.{Out, refused, done}
use Rattle.rules.specs.Sections.{word_of}
use Rattle.rules.specs.Table.{Node, kind_of, kind_code, constant, unknown}
use Rattle.rules.specs.Walk.{St, Mark, fresh, kept, replaced, Question, Held}
use Rattle.rules.specs.Fold.{Fold, stays, swap, make, shared}
use Rattle.rules.specs.Questions.{question}
use Rattle.rules.specs.Visit.{Ways}
use Rattle.tables.specs.declared.refusal.Refusal.{Refusal}
use Rattle.tables.specs.Refusals.{refusal_of}
use Rattle.optimize.specs.Bounds.{count_of, constants_at}
use Rattle.optimize.specs.declared.fold.Folded.{Folded}
use Rattle.optimize.specs.declared.mark.Mark.{Mark as Recorded}
use Rattle.optimize.specs.declared.walk.Walk.{Walk}

-- ---- answers
-- the number of a constant, or a place: what the code answers, as the rules have it
abbrev pub constant_is : Answer ℕ → Option ℕ
constant_is (Some x) = some x
constant_is None = none

-- a fold, among n nodes
abbrev pub fold_is : ℕ → Folded → Fold
fold_is n Folded.Stays = stays
fold_is n (Folded.Swap r) = swap r
fold_is n (Folded.Shared t) = shared n t
fold_is n (Folded.Make c) = make c.sort c.value

-- ---- the given words
abbrev pub node_of : List ℕ → ℕ → Node
node_of g v = record { kind = kind_of (word_of g v 0); sort = word_of g v 1; a = word_of g v 2; b = word_of g v 3; c = word_of g v 4; name = word_of g v 5 }

-- a word is the code of a kind
abbrev pub Coded : ℕ → Type 0
Coded c = kind_code (kind_of c) ≡ c

-- row v of a buffer; it has a sort only where its first word is the code of a kind
abbrev pub sort_by : ℕ → ℕ → ℕ
sort_by code s = cond (eqb (kind_code (kind_of code)) code) s 0

abbrev pub row_of : List ℕ → ℕ → Node
row_of R v =
    record { kind = kind_of (word_of R v 0); sort = sort_by (word_of R v 0) (word_of R v 1); a = word_of R v 2; b = word_of R v 3; c = word_of R v 4; name = word_of R v 5 }

-- row v of a buffer has the given kind, sort and name
pub record RowKept (g R : List ℕ) (v : ℕ) : Type 0 where
  pub kind : (row_of R v).kind ≡ (node_of g v).kind
  pub sort : (row_of R v).sort ≡ (node_of g v).sort
  pub name : (row_of R v).name ≡ (node_of g v).name

-- the first c values of f
unfoldable pub firsts : {A : Type 0} → ℕ → (ℕ → A) → List A
firsts zero f = []
firsts (suc c) f = firsts c f ++ (f c ∷ [])

unfoldable pub table_of : List ℕ → List Node
table_of g = firsts (count_of g) (node_of g)

-- what a call fixes: which names are memory dumps (a 1 for each that is), what its mode asks for, and how many replies there are
abbrev pub ways_in : List ℕ → Mode → List ℕ → Ways
ways_in dumps mode replies = record { dump = λ k. eqb (get_or dumps k 0) 1; minimise = mode.minimise; reply_count = length replies; reading = mode.reading }

-- ---- the buffers
unfoldable pub rows_of : ℕ → ℕ → List ℕ → ℕ → Node
rows_of n made R k =
    elim (ltb k n) [
      | true ↦ row_of R k
      | false ↦ elim (ltb (k - n) (2 + made)) [
        | true ↦ constant (get_or R (constants_at n + 2 * (k - n)) 0) (get_or R (constants_at n + 2 * (k - n) + 1) 0)
        | false ↦ unknown
      ]
    ]

-- 0 fresh, 1 kept, else replaced
abbrev pub mark_by : ℕ → ℕ → Mark
mark_by m r = elim (eqb m 0) [ true ↦ fresh | false ↦ elim (eqb m 1) [ true ↦ kept | false ↦ replaced r ] ]

-- as the code has it
abbrev pub mark_is : Recorded → Mark
mark_is Recorded.Fresh = fresh
mark_is Recorded.Kept = kept
mark_is (Recorded.Replaced by) = replaced by

unfoldable pub mark_of : ℕ → List ℕ → ℕ → Mark
mark_of n S k = elim (ltb k n) [ true ↦ mark_by (get_or S k 0) (get_or S (n + k) 0) | false ↦ fresh ]

abbrev pub question_of : ℕ → List ℕ → ℕ → Question
question_of n S j = question (get_or S (2 * n + 4 * j) 0) (get_or S (2 * n + 4 * j + 1) 0) (get_or S (2 * n + 4 * j + 2) 0) [] (get_or S (2 * n + 4 * j + 3) 0)

-- the states that took an input, h, lie in no buffer; the given inputs and replies are those of the call
unfoldable pub view : List Held → List ℕ → List ℕ → List ℕ → List ℕ → List ℕ → Walk → St
view h g inputs replies R S w =
    record {
      rows = rows_of (count_of g) w.made R;
      mark = mark_of (count_of g) S;
      made = w.made;
      inputs = drop w.taken inputs;
      replies = drop w.used replies;
      asked = firsts w.asked (question_of (count_of g) S);
      held = h;
      looked = w.looked;
      passed = w.passed;
    }

-- what an answer comes to, with the state that stands then
unfoldable pub outcome_of : {A : Type 0} → St → Result A Refusal → Out (St × A)
outcome_of σ (Ok x) = done (σ, x)
outcome_of σ (Err r) = refused (refusal_of r)
