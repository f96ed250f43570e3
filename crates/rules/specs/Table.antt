-- A table of nodes (docs/FORMAT.md, "Nodes"; Node of mod.rs).
--     Row, row_width   a node as six words        Kind, kinds, kind_code   the 22 kinds and their codes
--     Node, decode    the node that a row is     operands                the numbers that a node names
--     coded           the row that a node is     renumber                the node with its operands mapped
-- Assumes nothing.
use Rattle.std.specs.Prelude.{ℕ, ◌^◌, Bool, true, false, cond, List, [], ◌∷◌, get_or, ltb, eqb}
use Rattle.btor.specs.Operators.{Op, Add, Sub, Mul, Divu, Div, Rem, Sll, Srl}
use Rattle.btor.specs.Sorts.{width}

-- "A node is six words: kind, sort, a, b, c, name."
pub record Row : Type 0 where
  pub code : ℕ
  pub sort : ℕ
  pub a : ℕ
  pub b : ℕ
  pub c : ℕ
  pub name : ℕ

abbrev pub row_width : ℕ
row_width = 6

-- the eight operators on words are one kind with an operator
pub data Kind : Type 0 where
  Const Read Write : Kind
  Word : Op → Kind
  Ult Ext Ite Eq And Or Not State Next Input Bad : Kind

-- in the order of their codes, 1 to 22, which is that of the Rust's Node
abbrev pub kinds : List Kind
kinds =
    Const ∷ Read ∷ Write ∷ Word Add ∷ Word Sub ∷ Word Mul ∷ Word Divu ∷ Word Div ∷ Word Rem ∷ Word Sll ∷ Word Srl
    ∷ Ult ∷ Ext ∷ Ite ∷ Eq ∷ And ∷ Or ∷ Not ∷ State ∷ Next ∷ Input ∷ Bad ∷ []

-- the kind with a code; a code that no kind has reads as Input
abbrev pub kind_of : ℕ → Kind
kind_of code = get_or (Input ∷ kinds) code Input

abbrev pub op_code : Op → ℕ
op_code Add = 4
op_code Sub = 5
op_code Mul = 6
op_code Divu = 7
op_code Div = 8
op_code Rem = 9
op_code Sll = 10
op_code Srl = 11

-- a kind's place in that order
abbrev pub kind_code : Kind → ℕ
kind_code Const = 1
kind_code Read = 2
kind_code Write = 3
kind_code (Word op) = op_code op
kind_code Ult = 12
kind_code Ext = 13
kind_code Ite = 14
kind_code Eq = 15
kind_code And = 16
kind_code Or = 17
kind_code Not = 18
kind_code State = 19
kind_code Next = 20
kind_code Input = 21
kind_code Bad = 22

pub record Node : Type 0 where
  pub kind : Kind
  pub sort : ℕ
  pub a : ℕ
  pub b : ℕ
  pub c : ℕ
  pub name : ℕ

abbrev pub decode : Row → Node
decode r = record { kind = kind_of r.code; sort = r.sort; a = r.a; b = r.b; c = r.c; name = r.name }

-- the row that a node is
abbrev pub coded : Node → Row
coded nd = record { code = kind_code nd.kind; sort = nd.sort; a = nd.a; b = nd.b; c = nd.c; name = nd.name }

abbrev pub is : Kind → Node → Bool
is K nd = eqb (kind_code nd.kind) (kind_code K)

-- the same node with other operands
abbrev pub with : Node → ℕ → ℕ → ℕ → Node
with nd x y z = record { kind = nd.kind; sort = nd.sort; a = x; b = y; c = z; name = nd.name }

abbrev pub constant : ℕ → ℕ → Node
constant s x = record { kind = Const; sort = s; a = x; b = 0; c = 0; name = 0 }

-- what stands at a number that no node has
abbrev pub unknown : Node
unknown = record { kind = Input; sort = 0; a = 0; b = 0; c = 0; name = 0 }

abbrev pub node_at : List Node → ℕ → Node
node_at t k = get_or t k unknown

-- "Operands stand in a, b, c in the order of the table below": Const's a, Ext's b and State's b are none, and State's a only where b is 1
abbrev pub operands_as : Kind → Node → List ℕ
operands_as Const nd = []
operands_as Read nd = nd.a ∷ nd.b ∷ []
operands_as Write nd = nd.a ∷ nd.b ∷ nd.c ∷ []
operands_as (Word op) nd = nd.a ∷ nd.b ∷ []
operands_as Ult nd = nd.a ∷ nd.b ∷ []
operands_as Ext nd = nd.a ∷ []
operands_as Ite nd = nd.a ∷ nd.b ∷ nd.c ∷ []
operands_as Eq nd = nd.a ∷ nd.b ∷ []
operands_as And nd = nd.a ∷ nd.b ∷ []
operands_as Or nd = nd.a ∷ nd.b ∷ []
operands_as Not nd = nd.a ∷ []
operands_as State nd = cond (eqb nd.b 1) (nd.a ∷ []) []
operands_as Next nd = nd.a ∷ nd.b ∷ []
operands_as Input nd = []
operands_as Bad nd = nd.a ∷ []

abbrev pub operands : Node → List ℕ
operands nd = operands_as nd.kind nd

-- which of the words a, b and c those are
abbrev pub operand_words_as : Kind → Node → Bool × Bool × Bool
operand_words_as Const nd = (false, false, false)
operand_words_as Read nd = (true, true, false)
operand_words_as Write nd = (true, true, true)
operand_words_as (Word op) nd = (true, true, false)
operand_words_as Ult nd = (true, true, false)
operand_words_as Ext nd = (true, false, false)
operand_words_as Ite nd = (true, true, true)
operand_words_as Eq nd = (true, true, false)
operand_words_as And nd = (true, true, false)
operand_words_as Or nd = (true, true, false)
operand_words_as Not nd = (true, false, false)
operand_words_as State nd = (eqb nd.b 1, false, false)
operand_words_as Next nd = (true, true, false)
operand_words_as Input nd = (false, false, false)
operand_words_as Bad nd = (true, false, false)

-- a word that is an operand is mapped
abbrev pub moved : Bool → (ℕ → ℕ) → ℕ → ℕ
moved b f x = cond b (f x) x

abbrev pub renumber_as : Kind → (ℕ → ℕ) → Node → Node
renumber_as K f nd =
    let w : Bool × Bool × Bool = operand_words_as K nd in
    with nd (moved w.0 f nd.a) (moved w.1 f nd.b) (moved w.2 f nd.c)

-- the node with its operands mapped, and all else as it was
abbrev pub renumber : (ℕ → ℕ) → Node → Node
renumber f nd = renumber_as nd.kind f nd

-- a number that fits the width of a sort
abbrev pub fits : ℕ → ℕ → Bool
fits sort x = ltb x (2 ^ width sort)
