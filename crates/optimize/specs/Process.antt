-- The rules' steps in the code's order, and what its answers are in the rules' terms.
--     question_is, first_is, second_is    the number of a question, and what it is of       reply_is    the number of a reply
--     solved_of             the outcome of a chain of questions
--     Form, form_of        what a node's visit does, by its kind             by_form   the rules' process by form
--     one_of, two_of, ..    the visits of a node's operands, by any way to visit, then what comes after them
-- Assumes nothing.
use Rattle.std.specs.Prelude.{ℕ, ◌<◌, Bool, true, false, cond, List, eqb, Result, Ok, Err}
use Rattle.rules.specs.Refusal.{Out, refused, done, ◌>>=◌}
use Rattle.rules.specs.Table.{Kind, Const, Read, Write, Word, Ult, Ext, Ite, Eq, And, Or, Not, State, Next, Input, Bad, kind_of, with}
use Rattle.rules.specs.Walk.{St, set_row}
use Rattle.rules.specs.Fold.{Fold, stays, swap, make, const_of, fold_const}
use Rattle.rules.specs.Questions.{always_true, always_false, equal, satisfiable, several, quiet, ask_or, ask_bit, ask_ite}
use Rattle.rules.specs.Visit.{Ways, Branch, left, right, undecided, branch, settle, finish, forward, take_input, process, visit}
use Rattle.tables.specs.declared.refusal.Refusal.{Refusal}
use Rattle.tables.specs.Refusals.{refusal_of}
use Rattle.optimize.specs.declared.fold.Folded.{Folded}
use Rattle.optimize.specs.declared.fold.Rule.{Rule}
use Rattle.optimize.specs.declared.fold.Single.{Single}
use Rattle.optimize.specs.declared.smt_solver.Question.{Question}
use Rattle.optimize.specs.declared.reply.Reply.{Reply}
use Rattle.optimize.specs.declared.form.Form.{Form}
use Rattle.optimize.specs.declared.form.Pair.{Pair}
use Rattle.optimize.specs.Bounds.{count_of}
use Rattle.rules.specs.Sections.{word_of}
use Rattle.optimize.specs.View.{node_of, table_of, fold_is}
use Rattle.optimize.specs.Folding.{operator_of, fold_two, fold_one, asks_bit}

-- ---- questions
abbrev pub question_is : Question → ℕ
question_is (Question.AlwaysTrue x) = always_true
question_is (Question.AlwaysFalse x) = always_false
question_is (Question.Equal x y) = equal
question_is (Question.Satisfiable x) = satisfiable
question_is (Question.Several x) = several

-- the node that it is about, or how many bads, and the other node, or 0
abbrev pub first_is : Question → ℕ
first_is (Question.AlwaysTrue x) = x
first_is (Question.AlwaysFalse x) = x
first_is (Question.Equal x y) = x
first_is (Question.Satisfiable x) = x
first_is (Question.Several x) = x

abbrev pub second_is : Question → ℕ
second_is (Question.AlwaysTrue x) = 0
second_is (Question.AlwaysFalse x) = 0
second_is (Question.Equal x y) = y
second_is (Question.Satisfiable x) = 0
second_is (Question.Several x) = 0

-- the number of a reply, and of one that a question took
abbrev pub reply_is : Reply → ℕ
reply_is Reply.No = 0
reply_is Reply.Yes = 1
reply_is Reply.Satisfiable = 2

abbrev pub replied : Result Reply Refusal → Result ℕ Refusal
replied (Ok r) = Ok (reply_is r)
replied (Err r) = Err r

-- what a fold that questions gave comes to, among n nodes
unfoldable pub solved_of : ℕ → St → Result Folded Refusal → Out (St × Fold)
solved_of n σ (Ok f) = done (σ, fold_is n f)
solved_of n σ (Err r) = refused (refusal_of r)

abbrev pub is_stays : Fold → Bool
is_stays stays = true
is_stays (swap r) = false
is_stays (make s x) = false

-- one more question, where those before it had no yes
unfoldable pub then_ask_at : ℕ → ℕ → ℕ → ℕ → Fold → Fold → St → Out (St × Fold)
then_ask_at count q x y f stays σ = ask_or count q x y f quiet σ
then_ask_at count q x y f (swap r) σ = done (σ, swap r)
then_ask_at count q x y f (make s v) σ = done (σ, make s v)

abbrev pub then_ask : ℕ → ℕ → ℕ → ℕ → Fold → Out (St × Fold) → Out (St × Fold)
then_ask count q x y f o = o >>= λ p. then_ask_at count q x y f p.1 p.0

-- ---- what a visit does with a node, by its kind and its word b
unfoldable pub form_of : Kind → ℕ → Form
form_of Const b = Form.Constant
form_of Read b = Form.Two Pair.Reads
form_of Write b = Form.Three
form_of (Word op) b = Form.Two (Pair.Folds (Rule.Word (operator_of op)))
form_of Ult b = Form.Two (Pair.Folds Rule.Ult)
form_of Ext b = Form.One Single.Ext
form_of Ite b = Form.Choice
form_of Eq b = Form.Two (Pair.Folds Rule.Eq)
form_of And b = Form.Two (Pair.Folds Rule.And)
form_of Or b = Form.Two (Pair.Folds Rule.Or)
form_of Not b = Form.One Single.Not
form_of State b = cond (eqb b 1) (Form.One Single.Stays) Form.Free
form_of Next b = Form.Step
form_of Input b = Form.Given
form_of Bad b = Form.One Single.Stays

-- of node k of the table
abbrev pub form_at : List ℕ → ℕ → Form
form_at g k = form_of (kind_of (word_of g k 0)) (word_of g k 3)

module _ (g : List ℕ) (ways : Ways) where
  -- settle what the questions gave
  abbrev pub settle_then : ℕ → Out (St × Fold) → Out (St × ℕ)
  settle_then k o = o >>= λ p. settle (table_of g) ways k p.0 p.1

  -- the questions of a node that is asked about as a bit, or none
  abbrev pub bit_of : ℕ → Bool → St → Out (St × Fold)
  bit_of k b = cond b (ask_bit ways.reply_count (count_of g) k quiet) quiet

  -- after the only operand was visited and put into the row
  abbrev pub after_one : Single → St → ℕ → ℕ → Out (St × ℕ)
  after_one rule σ k x = settle (table_of g) ways k σ (fold_one rule (count_of g) (word_of g k 1) (const_of σ.rows x))

  -- after the two operands of a node that folds were visited and put into its row, and of a Read
  abbrev pub after_rule : Rule → St → ℕ → ℕ → ℕ → Out (St × ℕ)
  after_rule rule σ k x y =
      finish (table_of g) ways k σ (fold_two ways.reading rule (count_of g) (word_of g k 1) x y (const_of σ.rows x) (const_of σ.rows y)) (bit_of k (asks_bit rule (word_of g k 1)))

  abbrev pub after_read : St → ℕ → ℕ → ℕ → Out (St × ℕ)
  after_read σ k x y = forward (table_of g) ways k σ x (const_of σ.rows y)

  unfoldable pub after_two : Pair → St → ℕ → ℕ → ℕ → Out (St × ℕ)
  after_two (Pair.Folds rule) σ k x y = after_rule rule σ k x y
  after_two Pair.Reads σ k x y = after_read σ k x y

  -- after all three operands of an Ite
  abbrev pub after_ite : St → ℕ → ℕ → ℕ → ℕ → Out (St × ℕ)
  after_ite σ k x y z = finish (table_of g) ways k σ stays (ask_ite ways.reply_count (count_of g) (word_of g k 1) k x y z)

  abbrev pub take_of : St → ℕ → Out (St × ℕ)
  take_of σ k = take_input (table_of g) ways σ k (node_of g k) σ.inputs

  abbrev pub const_out : St → ℕ → Out (St × ℕ)
  const_out σ k = settle (table_of g) ways k σ (fold_const (count_of g) (word_of g k 1) (word_of g k 2))

  -- the recursive visits, at a fuel
  abbrev pub visit_of : ℕ → St → ℕ → Out (St × ℕ)
  visit_of f σ k = visit (table_of g) ways f σ k

  -- what a visit does with a fresh node, over any way to visit its operands
  module _ (vis : St → ℕ → Out (St × ℕ)) where
    abbrev pub process_of : St → ℕ → Out (St × ℕ)
    process_of σ k = process (table_of g) ways vis (kind_of (word_of g k 0)) σ k (node_of g k)

    abbrev pub one_of : Single → St → ℕ → Out (St × ℕ)
    one_of rule σ k = do
      (σ₁, x) ← vis σ (word_of g k 2)
      after_one rule (set_row σ₁ k (with (node_of g k) x (word_of g k 3) (word_of g k 4))) k x

    -- two operands, then what comes after them
    abbrev pub two_then : (St → ℕ → ℕ → ℕ → Out (St × ℕ)) → St → ℕ → Out (St × ℕ)
    two_then after σ k = do
      (σ₁, x) ← vis σ (word_of g k 2)
      (σ₂, y) ← vis σ₁ (word_of g k 3)
      after (set_row σ₂ k (with (node_of g k) x y (word_of g k 4))) k x y

    abbrev pub two_of : Pair → St → ℕ → Out (St × ℕ)
    two_of pair σ k = two_then (after_two pair) σ k

    abbrev pub three_of : St → ℕ → Out (St × ℕ)
    three_of σ k = do
      (σ₁, x) ← vis σ (word_of g k 2)
      (σ₂, y) ← vis σ₁ (word_of g k 3)
      (σ₃, z) ← vis σ₂ (word_of g k 4)
      settle (table_of g) ways k (set_row σ₃ k (with (node_of g k) x y z)) stays

    -- the chosen branch of an Ite, whose condition became x, replaces it
    abbrev pub left_of : ℕ → St → ℕ → Out (St × ℕ)
    left_of x σ k = do
      (σ₁, y) ← vis σ (word_of g k 3)
      settle (table_of g) ways k (set_row σ₁ k (with (node_of g k) x y (word_of g k 4))) (swap y)

    abbrev pub right_of : ℕ → St → ℕ → Out (St × ℕ)
    right_of x σ k = do
      (σ₁, z) ← vis σ (word_of g k 4)
      settle (table_of g) ways k (set_row σ₁ k (with (node_of g k) x (word_of g k 3) z)) (swap z)

    abbrev pub both_of : ℕ → St → ℕ → Out (St × ℕ)
    both_of x σ k = do
      (σ₁, y) ← vis σ (word_of g k 3)
      (σ₂, z) ← vis σ₁ (word_of g k 4)
      after_ite (set_row σ₂ k (with (node_of g k) x y z)) k x y z

    unfoldable pub chosen_of : Branch → ℕ → St → ℕ → Out (St × ℕ)
    chosen_of left x σ k = left_of x σ k
    chosen_of right x σ k = right_of x σ k
    chosen_of undecided x σ k = both_of x σ k

    abbrev pub ite_of : St → ℕ → Out (St × ℕ)
    ite_of σ k = do
      (σ₁, x) ← vis σ (word_of g k 2)
      chosen_of (branch (const_of σ₁.rows x)) x σ₁ k

    -- a Next's first word is never rewritten
    abbrev pub step_of : St → ℕ → Out (St × ℕ)
    step_of σ k = do
      (σ₁, state) ← vis σ (word_of g k 2)
      (σ₂, y) ← vis σ₁ (word_of g k 3)
      settle (table_of g) ways k (set_row σ₂ k (with (node_of g k) (word_of g k 2) y (word_of g k 4))) stays

    unfoldable pub by_form : Form → St → ℕ → Out (St × ℕ)
    by_form Form.Constant σ k = const_out σ k
    by_form Form.Given σ k = settle (table_of g) ways k σ stays
    by_form Form.Free σ k = take_of σ k
    by_form (Form.One rule) σ k = one_of rule σ k
    by_form (Form.Two pair) σ k = two_of pair σ k
    by_form Form.Three σ k = three_of σ k
    by_form Form.Choice σ k = ite_of σ k
    by_form Form.Step σ k = step_of σ k

-- the operands of a form that stand before their node
abbrev pub Before : Form → List ℕ → ℕ → Type 0
Before Form.Constant g k = Unit
Before Form.Given g k = Unit
Before Form.Free g k = Unit
Before (Form.One rule) g k = word_of g k 2 < k
Before (Form.Two pair) g k = (word_of g k 2 < k) × (word_of g k 3 < k)
Before Form.Three g k = (word_of g k 2 < k) × (word_of g k 3 < k) × (word_of g k 4 < k)
Before Form.Choice g k = (word_of g k 2 < k) × (word_of g k 3 < k) × (word_of g k 4 < k)
Before Form.Step g k = (word_of g k 2 < k) × (word_of g k 3 < k)
