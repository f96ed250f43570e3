-- The three calls at work: their premises by computation, the rest by demand 3 and by the assignment that every accepted call has.
-- Assumes nothing.
use Prim.Native.Nat.{ℕ, ◌<◌, ◌≤◌, ◌^◌}
use mathlib.Core.Path.{◌≡◌, refl, sym, ap, ◌∙◌, subst}
use mathlib.Core.Logic.{◌≢◌}
use mathlib.Core.Bool.{true, false}
use mathlib.Core.List.{List, [], ◌∷◌, map}
use native.Mathlib.Omega.{arith}
use lib.ListN.{get_or}
use lib.Dec.{eqb, lit<}
use borrow.Author.Tests.{eqb-true, le-ltb}
use Rattle.btor.specs.Operators.{Reading, rust, compute, both, complement, choose, less, bit}
use Rattle.btor.specs.Sorts.{width, ones, word_code}
use Rattle.rules.specs.Lists.{All}
use Rattle.rules.specs.Refusal.{done, OfDone}
use Rattle.rules.specs.Table.{Next, Node, node_at, decode, constant}
use Rattle.rules.specs.Check.{check, check_nodes, check_sequentials, check_bads}
use Rattle.rules.specs.Value.{Value, number, num, worth, value, over, over_in, Fits}
use Rattle.rules.specs.Walk.{St, Mark, fresh, replaced, Question, Held}
use Rattle.rules.specs.Memory.{find, look_at}
use Rattle.rules.specs.Questions.{ask, ask_or, satisfiable, question}
use Rattle.rules.specs.Visit.{visit, process, ite_on, forward, settle, finish, finish_stay, unary, binary, visit1, visit2, visit3, take_input}
use Rattle.rules.specs.Whole.{trivial, run, fold, fold_bads, judge_bads, judge_sequentials, visit_all, last_question}
use Rattle.rules.specs.Demand.{Assigns, worth_of, NonePassed, Faithful, Unreplaced, Same, Holds, Keeps}
use Rattle.rules.specs.Limits.{Limits, house}
use Rattle.rules.specs.Sections.{rows_words, encode, cut_section, rows_of, cut_six, cut}
use Rattle.rules.specs.Names.{cut_names, counted_names, names_of, starts_with}
use Rattle.rules.specs.Call.{Call, Entry, impl, Accepted, judge_mode, judge_room, judge_and_fold, judge_cut, outcome, FaithfulTo, HoldIn, value_in, Premises, Demand3OfCall, OperandsOfCall, FaithfulOfCall}
use Rattle.rules.specs.Cases.{row}
use Rattle.rules.specs.Worked.{Follows, Replaced, replaced_rows, replaced_held, replaced_asked, replaced_call, ReplacedWorked, several_rows, several_asked, several_call, Several, SeveralWorked, Stepped, stepped_rows, stepped_call, SteppedWorked}
use Rattle.btor.proofs.Agreement.{cases}
use Rattle.rules.proofs.Base.{of_done}
use Rattle.rules.proofs.Words.{width_word}
use Rattle.rules.proofs.Call.{demand3_of_call, operands_of_call}
use Rattle.rules.proofs.Faithful.{some-assigns, faithful_of_call}

-- ---- demand 3, of a call that meets its premises and whose node 0 is a word that is not replaced
abbrev Free : Accepted → Type 0
Free a = ((node_at a.model.table 0).sort ≡ 2) × Unreplaced a.model.table a.model.sequentials a.folded.state 0

module _ (t : List Node) (x : ℕ) (l : x < 2 ^ 64) (s : (node_at t 0).sort ≡ 2) where
  -- x for node 0
  abbrev giving : ℕ → Value
  giving k = elim (eqb k 0) [ true ↦ number x | false ↦ (some-assigns t).0 k ]

  giving-fits : Assigns t giving
  giving-fits k h i =
      cases (Fits (node_at t k).sort) (eqb k 0)
      (λ e. subst (λ s. Fits s (number x)) (sym s ∙ ap (λ j. (node_at t j).sort) (sym (eqb-true k 0 e))) ((λ z. omega arith), subst (λ w. x < 2 ^ w) (sym width_word) l))
      (λ _. (some-assigns t).1 k h i)

follows : (limits : Limits) (entry : Entry) (call : Call) (a : Accepted) → outcome limits entry call ≡ done a → Premises a → Free a → Follows a
unfolding Demand3OfCall FaithfulOfCall OperandsOfCall
follows limits entry call a e p q =
    record {
      some = λ x l. let f = faithful_of_call limits entry call a e (giving a.model.table x l q.0) (giving-fits a.model.table x l q.0) in (f.0, f.1, f.2 0 q.1);
      every = demand3_of_call limits entry call a e p;
      operands = operands_of_call limits entry call a e p;
    }

-- ---- what is computed of a call: its table and lists, what it kept, asked and counted, the marks of some nodes and one row
record Facts : Type 0 where
  nodes : List ℕ
  number : ℕ
  reading : Reading
  table : List Node
  given : List ℕ
  sequentials : List ℕ
  initial : List ℕ
  later : List ℕ
  dropped : List ℕ
  verdict : ℕ
  held : List Held
  asked : List Question
  looked : ℕ
  passed : ℕ
  marks : List Mark
  row : Node

abbrev facts_of : Facts → Accepted → Facts
facts_of f a =
    record f {
      reading = a.how.reading;
      table = a.model.table;
      given = a.model.sequentials;
      sequentials = a.folded.sequentials;
      initial = a.folded.initial;
      later = a.folded.later;
      dropped = a.folded.dropped;
      verdict = a.folded.verdict;
      held = a.folded.state.held;
      asked = a.folded.state.asked;
      looked = a.folded.state.looked;
      passed = a.folded.state.passed;
      marks = map a.folded.state.mark f.nodes;
      row = a.folded.state.rows f.number;
    }

module _ (f : Facts) (a : Accepted) (e : facts_of f a ≡ f) where
  abbrev σ : St
  σ = a.folded.state

  -- a statement about the table, from the facts to the call
  of-call : (P : Reading → List Node → Type 0) → P f.reading f.table → P a.how.reading a.model.table
  of-call P = subst (λ x. P x.reading x.table) (sym e)

  presumed : f.reading ≡ rust → f.passed ≡ 0 → ((α : ℕ → Value) → Faithful f.reading f.table f.given σ α → All (Holds (worth_of f.reading f.table α σ)) f.asked) → Premises a
  presumed how none claims =
      record {
        passed = subst (λ how. NonePassed how a.folded) (sym (ap (λ x. x.reading) e ∙ how)) (ap (λ x. x.passed) e ∙ none);
        replies = λ α h.
            let told = claims α (subst (λ x. Faithful x.reading x.table x.given σ α) e h) in
            subst (λ x. All (Holds (worth_of x.reading x.table α σ)) x.asked) (sym e) told;
      }

  unreplaced : (node_at f.table 0).sort ≡ 2 → All (λ s. trivial f.table (node_at f.table s) ≡ true → (node_at f.table s).a ≢ 0) f.given → All (λ h. h.state ≢ 0) f.held → Free a
  unreplaced sort next taken =
      subst (λ x. ((node_at x.table 0).sort ≡ 2) × (All (λ s. trivial x.table (node_at x.table s) ≡ true → (node_at x.table s).a ≢ 0) x.given × All (λ h. h.state ≢ 0) x.held)) (sym e)
      (sort, (next, taken))

  module _ (follow : Follows a) (α : ℕ → Value) (h : FaithfulTo a α) where
    keeps : Keeps f.reading f.table a.folded α
    keeps = subst (λ x. Keeps x.reading x.table a.folded α) e (follow.every α h)

  -- the i-th of the marks
  mark_is : (i : ℕ) → get_or (map σ.mark f.nodes) i fresh ≡ get_or f.marks i fresh
  mark_is i = ap (λ x. get_or x.marks i fresh) e

-- what holds of every call with these facts holds of the call that has them
of-facts : (f : Facts) (P : Accepted → Type 0) (call : Call) → OfDone (λ a. facts_of f a ≡ f) (outcome house impl call)
    → ((a : Accepted) → facts_of f a ≡ f → Premises a) → ((a : Accepted) → facts_of f a ≡ f → Free a) → ((a : Accepted) → facts_of f a ≡ f → Premises a → Follows a → P a)
    → OfDone P (outcome house impl call)
of-facts f P call h premises free then =
    of_done (λ a. facts_of f a ≡ f) (OfDone P) (outcome house impl call) (λ a q e. then a e (premises a e) (follows house impl call a q (premises a e) (free a e))) h

-- a number is below none that is not above it
not-below : (x y : ℕ) → y ≤ x → number (bit (less x y)) ≡ number 0
not-below x y h = ap (λ b. number (bit b)) (le-ltb x y h)

-- a reply of 0 asks for nothing
no : {P : Type 0} → ◌≡◌ {A = ℕ} 0 1 → P
no e = absurd (omega (arith, e))

-- ---- the first call
abbrev replaced_facts : Facts
replaced_facts =
    record {
      nodes = 1 ∷ 3 ∷ 6 ∷ 7 ∷ [];
      number = 16;
      reading = rust;
      table = map decode replaced_rows;
      given = 2 ∷ [];
      sequentials = [];
      initial = 12 ∷ [];
      later = [];
      dropped = 11 ∷ 13 ∷ [];
      verdict = 0;
      held = replaced_held;
      asked = replaced_asked;
      looked = 0;
      passed = 0;
      marks = replaced 0 ∷ replaced 16 ∷ replaced 15 ∷ replaced 0 ∷ [];
      row = constant 2 0;
    }

replaced_computed : OfDone (λ a. facts_of replaced_facts a ≡ replaced_facts) (outcome house impl replaced_call)
unfolding outcome judge_mode encode rows_words cut cut_six cut_section rows_of names_of counted_names cut_names judge_cut judge_room starts_with judge_and_fold run check check_nodes check_sequentials check_bads width ones fold fold_bads judge_bads judge_sequentials visit_all ask ask_or visit process ite_on settle finish finish_stay unary binary visit1 visit2 take_input
replaced_computed = refl {a = replaced_facts}

module _ (a : Accepted) (e : facts_of replaced_facts a ≡ replaced_facts) where
  -- a faithful assignment gives 1 what it gives 0, and 3 its constant; what is asked follows
  module _ (α : ℕ → Value) (f : Faithful rust (map decode replaced_rows) (2 ∷ []) a.folded.state α) where
    abbrev w : ℕ → Value
    w = worth_of rust (map decode replaced_rows) α a.folded.state

    init : α 1 ≡ α 0
    unfolding value over over_in
    init = f.inits.0 refl

    took : α 3 ≡ number 0
    unfolding value over over_in worth_of
    took = (subst (All (Same w)) (ap (λ x. x.held) e) f.same).0 ∙ ap (λ x. number x.row.a) e

    below : number (bit (less (num (α 1)) (num (α 0)))) ≡ number 0
    below = let q = ap num init in not-below (num (α 1)) (num (α 0)) (omega (arith, q))

    both-not : number (both (complement 1 (bit (less (num (α 1)) (num (α 0))))) (complement 1 (bit (less (num (α 1)) (num (α 0)))))) ≡ number 1
    unfolding complement
    both-not = ap (λ v. number (both (complement 1 (num v)) (complement 1 (num v)))) below

    chosen : choose (bit (less (num (α 1)) (num (α 0)))) (α 0) (α 1) ≡ α 0
    chosen = ap (λ v. choose (num v) (α 0) (α 1)) below ∙ init

    chosen_below : number (bit (less (num (choose (bit (less (num (α 1)) (num (α 0)))) (α 0) (α 1))) (num (α 0)))) ≡ number 0
    chosen_below = let q = ap num chosen in not-below _ (num (α 0)) (omega (arith, q))

    below-taken : number (bit (less (num (α 0)) (num (α 3)))) ≡ number 0
    below-taken = let q = ap num took in not-below (num (α 0)) (num (α 3)) (omega (arith, q))

    claims : All (Holds w) replaced_asked
    unfolding value over over_in worth_of width
    claims =
        (no, (no, ((λ _. below), ((λ _. both-not), ((λ _. chosen), (no, ((λ _. chosen_below), (no, ((λ _. below-taken), tt)))))))))

  replaced-premises : Premises a
  replaced-premises = presumed replaced_facts a e refl refl claims

  replaced-free : Free a
  replaced-free = unreplaced replaced_facts a e refl ((λ _ z. omega (arith, z)), tt) ((λ z. omega (arith, z)), tt)

  module _ (follow : Follows a) (α : ℕ → Value) (f : FaithfulTo a α) where
    kept-values : Keeps rust (map decode replaced_rows) a.folded α
    kept-values = keeps replaced_facts a e follow α f

    states : (value_in a α 1 ≡ value_in a α 0) × (value_in a α 3 ≡ number 0)
    unfolding value over over_in worth_of
    states =
        of-call replaced_facts a e (λ how t. (value how (node_at t) α 1 ≡ value how (node_at t) α 0) × (value how (node_at t) α 3 ≡ number 0)) (
          sym (kept-values.replacements 1 0 (lit< tt) (mark_is replaced_facts a e 0)),
          sym (kept-values.replacements 3 16 (lit< tt) (mark_is replaced_facts a e 1)) ∙ ap (λ x. number x.row.a) e,
        )

    others : (value_in a α 6 ≡ number 1) × (value_in a α 7 ≡ value_in a α 0)
    unfolding value over over_in worth_of
    others =
        of-call replaced_facts a e (λ how t. (value how (node_at t) α 6 ≡ number 1) × (value how (node_at t) α 7 ≡ value how (node_at t) α 0))
        (sym (kept-values.replacements 6 15 (lit< tt) (mark_is replaced_facts a e 2)), sym (kept-values.replacements 7 0 (lit< tt) (mark_is replaced_facts a e 3)))

    conditions : (value_in a α 4 ≡ number 0) × (value_in a α 10 ≡ number 0)
    conditions =
        let gone = subst (All (λ b. value rust (node_at (map decode replaced_rows)) α (node_at (map decode replaced_rows) b).a ≡ number 0)) (ap (λ x. x.dropped) e) kept-values.dropped in
        of-call replaced_facts a e (λ how t. (value how (node_at t) α 4 ≡ number 0) × (value how (node_at t) α 10 ≡ number 0)) (gone.0, gone.1.0)

  replaced-from : Premises a → Follows a → Replaced a
  replaced-from premises follow =
      record {
        sequentials = ap (λ x. x.sequentials) e;
        held = ap (λ x. x.held) e;
        asked = ap (λ x. x.asked) e;
        initial = ap (λ x. x.initial) e;
        dropped = ap (λ x. x.dropped) e;
        premises = premises;
        follows = follow;
        states = states follow;
        others = others follow;
        conditions = conditions follow;
      }

pub replaced-worked : ReplacedWorked
unfolding ReplacedWorked
replaced-worked = of-facts replaced_facts Replaced replaced_call replaced_computed replaced-premises replaced-free replaced-from

-- ---- the second
abbrev several_facts : Facts
several_facts =
    record {
      nodes = 2 ∷ [];
      number = 9;
      reading = rust;
      table = map decode several_rows;
      given = [];
      sequentials = [];
      initial = 5 ∷ 6 ∷ [];
      later = [];
      dropped = [];
      verdict = 2;
      held = [];
      asked = several_asked;
      looked = 0;
      passed = 0;
      marks = replaced 9 ∷ [];
      row = constant 2 0;
    }

several_computed : OfDone (λ a. facts_of several_facts a ≡ several_facts) (outcome house impl several_call)
unfolding compute outcome judge_mode encode rows_words cut cut_six cut_section rows_of names_of counted_names cut_names judge_cut judge_room starts_with judge_and_fold run check check_nodes check_sequentials check_bads width ones fold fold_bads judge_bads judge_sequentials visit_all last_question ask ask_or visit process settle finish finish_stay unary binary visit1 visit2
several_computed = refl {a = several_facts}

module _ (a : Accepted) (e : facts_of several_facts a ≡ several_facts) where
  several-claims : (α : ℕ → Value) → All (Holds (worth_of rust (map decode several_rows) α a.folded.state)) several_asked
  unfolding compute value over over_in worth_of
  several-claims α = ((λ _. (not-below (num (α 0)) 0 (omega arith), (not-below (num (α 0)) (num (α 0)) (omega arith), tt))), tt)

  several-premises : Premises a
  several-premises = presumed several_facts a e refl refl (λ α f. several-claims α)

  several-free : Free a
  several-free = unreplaced several_facts a e refl tt tt

  -- the reply says it of each bad
  several-says : (α : ℕ → Value) → HoldIn a α → (value_in a α 5 ≡ number 0) × (value_in a α 6 ≡ number 0)
  unfolding worth_of
  several-says α h =
      let told = subst (λ x. All (Holds (worth_of x.reading x.table α a.folded.state)) x.asked) e h in
      of-call several_facts a e (λ how t. (value how (node_at t) α 5 ≡ number 0) × (value how (node_at t) α 6 ≡ number 0)) ((told.0 refl).0, (told.0 refl).1.0)

  several-values : Follows a → (α : ℕ → Value) → FaithfulTo a α → value_in a α 2 ≡ number 0
  unfolding worth_of
  several-values follow α f =
      of-call several_facts a e (λ how t. value how (node_at t) α 2 ≡ number 0)
      (sym ((keeps several_facts a e follow α f).replacements 2 9 (lit< tt) (mark_is several_facts a e 0)) ∙ ap (λ x. number x.row.a) e)

  several-from : Premises a → Follows a → Several a
  several-from premises follow =
      record {
        initial = ap (λ x. x.initial) e;
        asked = ap (λ x. x.asked) e;
        verdict = ap (λ x. x.verdict) e;
        says = several-says;
        premises = premises;
        follows = follow;
        values = several-values follow;
      }

pub several-worked : SeveralWorked
unfolding SeveralWorked
several-worked = of-facts several_facts Several several_call several_computed several-premises several-free several-from

-- ---- the third
abbrev stepped_facts : Facts
stepped_facts =
    record {
      nodes = 6 ∷ [];
      number = 8;
      reading = rust;
      table = map decode stepped_rows;
      given = 8 ∷ [];
      sequentials = 8 ∷ [];
      initial = [];
      later = 10 ∷ [];
      dropped = [];
      verdict = 0;
      held = [];
      asked = question satisfiable 9 0 [] 2 ∷ [];
      looked = 2;
      passed = 0;
      marks = replaced 0 ∷ [];
      row = decode (row Next word_code 7 0 0 0);
    }

stepped_computed : OfDone (λ a. facts_of stepped_facts a ≡ stepped_facts) (outcome house impl stepped_call)
unfolding outcome judge_mode encode rows_words cut cut_six cut_section rows_of names_of counted_names cut_names judge_cut judge_room starts_with judge_and_fold run check check_nodes check_sequentials check_bads width ones fold fold_bads judge_bads judge_sequentials visit_all ask visit process forward find look_at settle finish finish_stay unary binary visit1 visit2 visit3 take_input
stepped_computed = refl {a = stepped_facts}

module _ (a : Accepted) (e : facts_of stepped_facts a ≡ stepped_facts) where
  stepped_claims : (α : ℕ → Value) → All (Holds (worth_of rust (map decode stepped_rows) α a.folded.state)) (question satisfiable 9 0 [] 2 ∷ [])
  stepped_claims α = ((λ z. absurd (omega (arith, z))), tt)

  stepped_premises : Premises a
  stepped_premises = presumed stepped_facts a e refl refl (λ α f. stepped_claims α)

  stepped_free : Free a
  stepped_free = unreplaced stepped_facts a e refl ((λ _ z. omega (arith, z)), tt) tt

  stepped_values : Follows a → (α : ℕ → Value) → FaithfulTo a α → (value_in a α 6 ≡ value_in a α 0) × (value_in a α 8 ≡ value_in a α 0)
  unfolding value over over_in worth_of
  stepped_values follow α f =
      let k = keeps stepped_facts a e follow α f in
      let next = ap (λ x. worth rust (worth_of rust (map decode stepped_rows) α a.folded.state) (α 8) x.row) e in
      of-call stepped_facts a e (λ how t. (value how (node_at t) α 6 ≡ value how (node_at t) α 0) × (value how (node_at t) α 8 ≡ value how (node_at t) α 0))
      (sym (k.replacements 6 0 (lit< tt) (mark_is stepped_facts a e 0)), sym (k.rows 8 (lit< tt)) ∙ next)

  stepped_from : Premises a → Follows a → Stepped a
  stepped_from premises follow =
      record {
        sequentials = ap (λ x. x.sequentials) e;
        later = ap (λ x. x.later) e;
        asked = ap (λ x. x.asked) e;
        looked = ap (λ x. x.looked) e;
        premises = premises;
        follows = follow;
        values = stepped_values follow;
      }

pub stepped_worked : SteppedWorked
unfolding SteppedWorked
stepped_worked = of-facts stepped_facts Stepped stepped_call stepped_computed stepped_premises stepped_free stepped_from
