-- The sorts of nodes (docs/FORMAT.md, "Nodes"; NodeType, get_sort and bitsize of mod.rs, ones of optimize.rs).
--     code_of    the code of a sort       width_of    its bits; a memory is no number and has none
--     bit_code, word_code, memory_code      the three codes that rules name
--     ones_of    all ones of a sort       sort_of     the sort that a code names, if it names one
-- Assumes nothing.
use Rattle.std.specs.Prelude.{ℕ, ◌-◌, ◌^◌, cond, List, [], ◌∷◌, ◌==◌, Result, Ok, Err}
use Rattle.btor.specs.declared.node_type.NodeType.{NodeType}
use Rattle.btor.specs.declared.node_type.NodeType.TheVariants.{Bit, Word, Memory, Input1Byte, Input2Byte, Input3Byte, Input4Byte, Input5Byte, Input6Byte, Input7Byte}
use Rattle.btor.specs.declared.node_type.UnknownSort.{UnknownSort}

-- all ten
abbrev pub sorts : List NodeType
sorts = Bit ∷ Word ∷ Memory ∷ Input1Byte ∷ Input2Byte ∷ Input3Byte ∷ Input4Byte ∷ Input5Byte ∷ Input6Byte ∷ Input7Byte ∷ []

-- 1 bit, 2 word, 3 memory, 11 to 17 for 8 to 56 bits
abbrev pub code_of : NodeType → ℕ
code_of Bit = 1
code_of Word = 2
code_of Memory = 3
code_of Input1Byte = 11
code_of Input2Byte = 12
code_of Input3Byte = 13
code_of Input4Byte = 14
code_of Input5Byte = 15
code_of Input6Byte = 16
code_of Input7Byte = 17

-- the codes that rules on sorts name
abbrev pub bit_code : ℕ
bit_code = code_of Bit

abbrev pub word_code : ℕ
word_code = code_of Word

abbrev pub memory_code : ℕ
memory_code = code_of Memory

abbrev pub width_of : NodeType → ℕ
width_of Bit = 1
width_of Word = 64
width_of Memory = 0
width_of Input1Byte = 8
width_of Input2Byte = 16
width_of Input3Byte = 24
width_of Input4Byte = 32
width_of Input5Byte = 40
width_of Input6Byte = 48
width_of Input7Byte = 56

abbrev pub ones_of : NodeType → ℕ
ones_of s = 2 ^ width_of s - 1

-- the one of some sorts that has the code c
abbrev pub named_in : List NodeType → ℕ → Result NodeType UnknownSort
named_in [] c = Err (record { 0 = c })
named_in (s ∷ ss) c = cond (c == code_of s) (Ok s) (named_in ss c)

abbrev pub sort_of : ℕ → Result NodeType UnknownSort
sort_of c = named_in sorts c

-- the width of a code's sort, for tables, whose sorts are codes; 0 where the code names none
abbrev pub bits_of : Result NodeType UnknownSort → ℕ
bits_of (Ok s) = width_of s
bits_of (Err e) = 0

unfoldable pub width : ℕ → ℕ
width c = bits_of (sort_of c)

unfoldable pub ones : ℕ → ℕ
ones c = 2 ^ width c - 1
