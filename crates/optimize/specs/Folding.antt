-- What the code's operators and rules are, and what the walk down the Writes answers.
--     op_is, operator_of     an operator of the code and of the rules
--     fold_two, fold_one     what a rule folds to by its operands' numbers     asks_bit   the rules that minimise asks about
--     search_is             the rules' account of a search          Falls                 the rows of Writes point down
-- Assumes nothing.
use Rattle.std.specs.Prelude.{Option as Answer, Some, None, ℕ, ◌<◌, ◌≡◌, Bool, true, false, cond, List, eqb}
use Rattle.std.proofs.Math.Option.{Option, none, some}
use Rattle.btor.specs.Operators.{Op, Reading, compute, less}
use Rattle.rules.specs.Table.{Write, is}
use Rattle.btor.specs.Sorts.{ones}
use Rattle.rules.specs.Fold.{Fold, stays, swap, is_const, fold_words, fold_test, fold_eq, fold_not, fold_ext, fold_and, fold_or}
use Rattle.rules.specs.Memory as memory
use Rattle.optimize.specs.View.{rows_of}
use Rattle.optimize.specs.declared.fold.Operator.{Operator}
use Rattle.optimize.specs.declared.fold.Rule.{Rule}
use Rattle.optimize.specs.declared.fold.Single.{Single}
use Rattle.optimize.specs.declared.memory.Search.{Search}
use Rattle.optimize.specs.declared.memory.Look.{Look}

-- ---- folds
abbrev pub op_is : Operator → Op
op_is Operator.Add = Op.Add
op_is Operator.Sub = Op.Sub
op_is Operator.Mul = Op.Mul
op_is Operator.Divu = Op.Divu
op_is Operator.Div = Op.Div
op_is Operator.Rem = Op.Rem
op_is Operator.Sll = Op.Sll
op_is Operator.Srl = Op.Srl

abbrev pub operator_of : Op → Operator
operator_of Op.Add = Operator.Add
operator_of Op.Sub = Operator.Sub
operator_of Op.Mul = Operator.Mul
operator_of Op.Divu = Operator.Divu
operator_of Op.Div = Operator.Div
operator_of Op.Rem = Operator.Rem
operator_of Op.Sll = Operator.Sll
operator_of Op.Srl = Operator.Srl

-- two constants fold by g
abbrev pub fold_constants : (ℕ → ℕ → Fold) → Option ℕ → Option ℕ → Fold
fold_constants g none cy = stays
fold_constants g (some x) none = stays
fold_constants g (some x) (some y) = g x y

-- And and Or alike: zeros on a side leave that side if they win and else the other, ones the other way
abbrev pub fold_junction : Bool → (ℕ → ℕ → ℕ) → ℕ → ℕ → ℕ → Option ℕ → Option ℕ → Fold
fold_junction zeros_win joined s x y cx cy =
    let kept : ℕ = cond zeros_win x y in
    let other : ℕ = cond zeros_win y x in
    cond (is_const cx 0) (swap kept)
    (cond (is_const cy 0) (swap other)
    (cond (is_const cx (ones s)) (swap other)
    (cond (is_const cy (ones s)) (swap kept)
    (fold_words s joined cx cy))))

-- a node of two operands x and y, cx and cy their numbers where they are constants, among n nodes
abbrev pub fold_two : Reading → Rule → ℕ → ℕ → ℕ → ℕ → Option ℕ → Option ℕ → Fold
fold_two how (Rule.Word f) n sort x y cx cy = fold_words sort (compute how (op_is f)) cx cy
fold_two how Rule.Ult n sort x y cx cy = fold_test n less cx cy
fold_two how Rule.Eq n sort x y cx cy = fold_eq n x y cx cy
fold_two how Rule.And n sort x y cx cy = fold_and sort x y cx cy
fold_two how Rule.Or n sort x y cx cy = fold_or sort x y cx cy

-- a node of one operand, cx its number where it is a constant
abbrev pub fold_one : Single → ℕ → ℕ → Option ℕ → Fold
fold_one Single.Ext n sort cx = fold_ext sort cx
fold_one Single.Not n sort cx = fold_not n sort cx
fold_one Single.Stays n sort cx = stays

-- "Ult; Eq; And of sort 1" ask 1, then 2
abbrev pub asks_bit : Rule → ℕ → Bool
asks_bit (Rule.Word f) sort = false
asks_bit Rule.Ult sort = true
asks_bit Rule.Eq sort = true
asks_bit Rule.And sort = eqb sort 1
asks_bit Rule.Or sort = false

-- ---- the walk down the Writes
abbrev pub value_is : Answer ℕ → Option ℕ
value_is (Some v) = some v
value_is None = none

abbrev pub search_is : Search → memory.Found
search_is s = record { value = value_is s.found; looked = s.looked; unsettled = s.passed }

-- each Write's memory is below it or a constant's number
pub record Falls (n made : ℕ) (R : List ℕ) : Type 0 where
  pub memory : (k : ℕ) → k < n → is Write (rows_of n made R k) ≡ true → (rows_of n made R k).a < n → (rows_of n made R k).a < k

-- what one place of the chain says of the walk; go is the walk from a memory on
abbrev pub look_is : Look → (ℕ → memory.Found) → memory.Found
look_is Look.End go = memory.lost
look_is (Look.Hit v) go = memory.hit v
look_is Look.Stop go = record { value = none; looked = 1; unsettled = 0 }
look_is (Look.Settled m) go = memory.past 0 (go m)
look_is (Look.Unsettled m) go = memory.past 1 (go m)

-- the memory with which the walk goes on from the place k, among n nodes
abbrev pub GoesOn : ℕ → ℕ → Look → Type 0
GoesOn n k Look.End = Unit
GoesOn n k (Look.Hit v) = k < n
GoesOn n k Look.Stop = k < n
GoesOn n k (Look.Settled m) = (k < n) × (m < n → m < k)
GoesOn n k (Look.Unsettled m) = (k < n) × (m < n → m < k)

-- what a look at the place k says
pub record LooksAt (how : Reading) (n made : ℕ) (R : List ℕ) (k address : ℕ) (r : Look) : Type 0 where
  pub says : (go : ℕ → memory.Found) → look_is r go ≡ memory.look_at how (rows_of n made R) go address (rows_of n made R k)
  pub goes_on : GoesOn n k r
