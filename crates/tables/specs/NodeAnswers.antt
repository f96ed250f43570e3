-- What the answers of node.rt say in the rules' terms.
--     kind_is   the rules' kind of a kind         kind_in   the kind that a code names, if it names one
--     node_is   the node of a row whose kind is known      row_at    a row of the words      HasRow   that it is there
-- Assumes nothing.
use Rattle.std.specs.Prelude.{ℕ, ◌+◌, ◌*◌, ◌<◌, cond, List, length, Result, Ok, Err}
use Rattle.std.proofs.Math.Option.{Option, none, some}
use Rattle.btor.specs.Operators.{Op}
use Rattle.rules.specs.Table as rules
use Rattle.rules.specs.Table.{Kind, kind_of, kind_code, row_width}
use Rattle.rules.specs.Sections.{word_of}
use Rattle.rules.specs.Check.{known_kind}
use Rattle.tables.specs.declared.node.NodeKind.{NodeKind}
use Rattle.tables.specs.declared.node.UnknownKind.{UnknownKind}
use Rattle.tables.specs.declared.node.Row.{Row}
use Rattle.tables.specs.declared.node.Node.{Node}

abbrev pub kind_is : NodeKind → Kind
kind_is NodeKind.Const = rules.Const
kind_is NodeKind.Read = rules.Read
kind_is NodeKind.Write = rules.Write
kind_is NodeKind.Add = rules.Word Op.Add
kind_is NodeKind.Sub = rules.Word Op.Sub
kind_is NodeKind.Mul = rules.Word Op.Mul
kind_is NodeKind.Divu = rules.Word Op.Divu
kind_is NodeKind.Div = rules.Word Op.Div
kind_is NodeKind.Rem = rules.Word Op.Rem
kind_is NodeKind.Sll = rules.Word Op.Sll
kind_is NodeKind.Srl = rules.Word Op.Srl
kind_is NodeKind.Ult = rules.Ult
kind_is NodeKind.Ext = rules.Ext
kind_is NodeKind.Ite = rules.Ite
kind_is NodeKind.Eq = rules.Eq
kind_is NodeKind.And = rules.And
kind_is NodeKind.Or = rules.Or
kind_is NodeKind.Not = rules.Not
kind_is NodeKind.State = rules.State
kind_is NodeKind.Next = rules.Next
kind_is NodeKind.Input = rules.Input
kind_is NodeKind.Bad = rules.Bad

abbrev pub coded_kind_of : Result NodeKind UnknownKind → Option Kind
coded_kind_of (Ok k) = some (kind_is k)
coded_kind_of (Err e) = none

abbrev pub kind_in : ℕ → Option Kind
kind_in code = cond (known_kind code) (some (kind_of code)) none

abbrev pub row_is : Row → rules.Row
row_is r = record { code = r.code; sort = r.sort; a = r.a; b = r.b; c = r.c; name = r.name }

abbrev pub node_is : Node → rules.Node
node_is n = record { kind = kind_is n.kind; sort = n.row.sort; a = n.row.a; b = n.row.b; c = n.row.c; name = n.row.name }

-- what stands past the table
abbrev pub row_unknown : rules.Row
row_unknown = record { code = kind_code rules.Input; sort = 0; a = 0; b = 0; c = 0; name = 0 }

-- the row of a node in words that start with section 1
abbrev pub row_at : List ℕ → ℕ → rules.Row
row_at ws k = record { code = word_of ws k 0; sort = word_of ws k 1; a = word_of ws k 2; b = word_of ws k 3; c = word_of ws k 4; name = word_of ws k 5 }

-- the words have the row of a node
abbrev pub HasRow : List ℕ → ℕ → Type 0
HasRow ws k = row_width * k + row_width < length ws
