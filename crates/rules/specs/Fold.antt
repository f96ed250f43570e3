-- What a node folds to, from its rewritten operands (docs/FORMAT.md, "Folding"; the fold functions of optimize.rs).
--     Fold     it stays, or another node or a new constant takes its place
--     const_of  the number of a constant          shared    the shared false or true
-- In each rule x and y are the rewritten operands, cx and cy their numbers where they are constants, s is the node's sort, and n is the shared false.
-- "A made constant has the sort of the node that it is made for"
-- Assumes nothing.
use Rattle.std.specs.Prelude.{ℕ, ◌+◌, Bool, true, false, cond, ◌&&◌, eqb}
use Rattle.std.proofs.Math.Option.{Option, none, some}
use Rattle.btor.specs.Operators.{both, either, complement, same, extend}
use Rattle.btor.specs.Sorts.{width, ones}
use Rattle.rules.specs.Table.{Const, Node, is}

pub data Fold : Type 0 where
  stays : Fold
  swap : ℕ → Fold
  make : ℕ → ℕ → Fold

abbrev pub const_of : (ℕ → Node) → ℕ → Option ℕ
const_of rows r = elim (is Const (rows r)) [ true ↦ some (rows r).a | false ↦ none ]

abbrev pub is_const : Option ℕ → ℕ → Bool
is_const none x = false
is_const (some y) x = eqb y x

abbrev pub shared : ℕ → Bool → Fold
shared n true = swap (n + 1)
shared n false = swap n

-- Const "of sort 1: replaced by the shared false or true. Of another sort: stays"
abbrev pub fold_const : ℕ → ℕ → ℕ → Fold
fold_const n s x =
    cond (eqb s 1 && eqb x 0) (shared n false)
    (cond (eqb s 1 && eqb x 1) (shared n true)
    stays)

-- "two constants: replaced by a made constant of sort 2" under Add to Srl, "by a made constant of the And's sort" and "of the Or's sort" under And and Or
abbrev pub fold_words : ℕ → (ℕ → ℕ → ℕ) → Option ℕ → Option ℕ → Fold
fold_words s f none cy = stays
fold_words s f (some x) none = stays
fold_words s f (some x) (some y) = make s (f x y)

-- "two constants: replaced by the shared true if left is below right, else by the shared false"; so too for Eq, by whether their numbers are equal
abbrev pub fold_test : ℕ → (ℕ → ℕ → Bool) → Option ℕ → Option ℕ → Fold
fold_test n f none cy = stays
fold_test n f (some x) none = stays
fold_test n f (some x) (some y) = shared n (f x y)

-- "left and right are the same node now: the shared true. Two constants: true if their numbers are equal, else false"
abbrev pub fold_eq : ℕ → ℕ → ℕ → Option ℕ → Option ℕ → Fold
fold_eq n x y cx cy = cond (eqb x y) (shared n true) (fold_test n same cx cy)

-- "of sort 1 the shared true for 0, the shared false for 1; of another sort a made constant of the Not's sort, the complement within its width"
abbrev pub fold_not : ℕ → ℕ → Option ℕ → Fold
fold_not n s none = stays
fold_not n s (some x) =
    cond (eqb s 1 && eqb x 0) (shared n true)
    (cond (eqb s 1 && eqb x 1) (shared n false)
    (make s (complement (width s) x)))

-- "a made constant of sort 2 with the same number", which is the Ext's own
abbrev pub fold_ext : ℕ → Option ℕ → Fold
fold_ext s none = stays
fold_ext s (some x) = make s (extend x)

-- "left is 0 (replaced by left), right is 0 (by right), left is all ones of the And's sort (by right), right is all ones (by left), two constants"
abbrev pub fold_and : ℕ → ℕ → ℕ → Option ℕ → Option ℕ → Fold
fold_and s x y cx cy =
    cond (is_const cx 0) (swap x)
    (cond (is_const cy 0) (swap y)
    (cond (is_const cx (ones s)) (swap y)
    (cond (is_const cy (ones s)) (swap x)
    (fold_words s both cx cy))))

-- "left is 0 (replaced by right), right is 0 (by left), left is all ones of the Or's sort (by left), right is all ones (by right), two constants"
abbrev pub fold_or : ℕ → ℕ → ℕ → Option ℕ → Option ℕ → Fold
fold_or s x y cx cy =
    cond (is_const cx 0) (swap y)
    (cond (is_const cy 0) (swap x)
    (cond (is_const cx (ones s)) (swap x)
    (cond (is_const cy (ones s)) (swap y)
    (fold_words s either cx cy))))
