-- A row renumbered along a map, by laws: what it keeps, how maps join, and that rules 3 and 5 and the values go along (renumber of Table).
--     SameButOperands, RenumberedRow        the operands are mapped, all else stays
--     RenumberedTwice, SameMap              maps in turn, and maps that agree on the operands
--     SolvedAlong, ValuesAlong              the values of rows along a map that carries lookups to lookups
--     ThreeAlong, FiveAlong                 rules 3 and 5
--     AlongWorked                           a table of three along a map that is not monotone
-- Assumes nothing.
use Rattle.std.specs.Prelude.{ℕ, ◌<◌, ◌≡◌, ◌⊎◌, true, cond, List, [], ◌∷◌, map, eqb}
use Rattle.btor.specs.Operators.{Reading, Add}
use Rattle.btor.specs.Sorts.{word_code}
use Rattle.rules.specs.Lists.{All}
use Rattle.rules.specs.Table.{Const, Word, Ext, State, Input, Node, coded, is, constant, node_at, operands, renumber}
use Rattle.rules.specs.Check.{unused_as, rule3, rule5_at}
use Rattle.rules.specs.Value.{Value, worth, value}
use Rattle.rules.specs.Cases.{node}

-- ---- one row
-- nd keeps g's kind, sort, name and unused words, a Const its number, an Ext its from, a State its b
pub record SameButOperands (nd g : Node) : Type 0 where
  pub kind : nd.kind ≡ g.kind
  pub sort : nd.sort ≡ g.sort
  pub name : nd.name ≡ g.name
  pub number : is Const g ≡ true → nd.a ≡ g.a
  pub from : is Ext g ≡ true → nd.b ≡ g.b
  pub init : is State g ≡ true → nd.b ≡ g.b
  pub unused : unused_as g.kind nd ≡ unused_as g.kind g

pub record Renumbered (f : ℕ → ℕ) (nd : Node) : Type 0 where
  pub mapped : operands (renumber f nd) ≡ map f (operands nd)
  pub rest : SameButOperands (renumber f nd) nd

unfoldable pub RenumberedRow : Type 0
RenumberedRow = (f : ℕ → ℕ) (nd : Node) → Renumbered f nd

unfoldable pub RenumberedTwice : Type 0
RenumberedTwice = (f g : ℕ → ℕ) (nd : Node) → renumber g (renumber f nd) ≡ renumber (λ y. g (f y)) nd

unfoldable pub RenumberedNone : Type 0
RenumberedNone = (nd : Node) → renumber (λ y. y) nd ≡ nd

unfoldable pub SameMap : Type 0
SameMap = (f g : ℕ → ℕ) (nd : Node) → All (λ x. f x ≡ g x) (operands nd) → renumber f nd ≡ renumber g nd

-- ---- values
-- u gives each number of Dom what its row makes of what u gives the others
abbrev pub Solves : Reading → (ℕ → Node) → (ℕ → Value) → (ℕ → Type 0) → (ℕ → Value) → Type 0
Solves how rows α Dom u = (k : ℕ) → Dom k → worth how u (α k) (rows k) ≡ u k

-- in the numbers that f gives, each operand stands before its row or is a constant, which names none
abbrev pub Down : (ℕ → Node) → (ℕ → ℕ) → (ℕ → Type 0) → Type 0
Down rows f Dom = (k : ℕ) → Dom k → All (λ j. Dom j × ((f j < f k) ⊎ ((rows j).kind ≡ Const))) (operands (rows k))

-- f carries the rows of Dom, and what the assignment gives them, to rows' and α', where operands stand before their rows
pub record Carries (rows rows' : ℕ → Node) (α α' : ℕ → Value) (Dom : ℕ → Type 0) (f : ℕ → ℕ) : Type 0 where
  pub row : (k : ℕ) → Dom k → rows' (f k) ≡ renumber f (rows k)
  pub given : (k : ℕ) → Dom k → α' (f k) ≡ α k
  pub down : Down rows f Dom

-- Of rows in any order, as those to be arranged: the new values solve the old equations, and nothing else does.
pub record Solved (how : Reading) (rows rows' : ℕ → Node) (α α' : ℕ → Value) (Dom : ℕ → Type 0) (f : ℕ → ℕ) : Type 0 where
  pub new : Solves how rows α Dom (λ k. value how rows' α' (f k))
  pub only : (u : ℕ → Value) → Solves how rows α Dom u → (k : ℕ) → Dom k → value how rows' α' (f k) ≡ u k

unfoldable pub SolvedAlong : Type 1
SolvedAlong =
    (how : Reading) (rows rows' : ℕ → Node) (α α' : ℕ → Value) (Dom : ℕ → Type 0) (f : ℕ → ℕ) → Carries rows rows' α α' Dom f → Solved how rows rows' α α' Dom f

-- Of rows whose operands stand before them or are constants, as those that a fold leaves: the new values are the old.
unfoldable pub ValuesAlong : Type 1
ValuesAlong =
    (how : Reading) (rows rows' : ℕ → Node) (α α' : ℕ → Value) (Dom : ℕ → Type 0) (f : ℕ → ℕ) → Carries rows rows' α α' Dom f → Down rows (λ k. k) Dom
    → (k : ℕ) → Dom k → value how rows' α' (f k) ≡ value how rows α k

-- ---- rules 3 and 5
unfoldable pub ThreeAlong : Type 0
ThreeAlong = (names : ℕ) (f : ℕ → ℕ) (nd : Node) → rule3 names (coded (renumber f nd)) ≡ rule3 names (coded nd)

-- where f carries what the row names
unfoldable pub FiveAlong : Type 0
FiveAlong =
    (at at' : ℕ → Node) (f : ℕ → ℕ) (nd : Node) → All (λ x. at' (f x) ≡ renumber f (at x)) (operands nd) → rule5_at at' (renumber f nd) ≡ rule5_at at nd

-- ---- at work: an Input, the number 5 and their sum, and the same with the constant put first
abbrev pub summed : List Node
summed = node Input word_code 0 0 0 ∷ constant word_code 5 ∷ node (Word Add) word_code 0 1 0 ∷ []

abbrev pub constant_first : List Node
constant_first = constant word_code 5 ∷ node Input word_code 0 0 0 ∷ node (Word Add) word_code 1 0 0 ∷ []

abbrev pub to_first : ℕ → ℕ
to_first k = cond (eqb k 0) 1 (cond (eqb k 1) 0 k)

unfoldable pub AlongWorked : Type 0
AlongWorked =
    (how : Reading) (α α' : ℕ → Value) → ((k : ℕ) → k < 3 → α' (to_first k) ≡ α k)
    → (k : ℕ) → k < 3 → value how (node_at constant_first) α' (to_first k) ≡ value how (node_at summed) α k
