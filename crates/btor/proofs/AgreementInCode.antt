-- SMT-LIB's operators, of the functions of operators.rt that a fold by the standard calls: what answers as their contracts say is the standard's
-- operator on all words. A change of a contract in operators.rt is a change of what stands before the arrows here.
-- Assumes nothing.
use Rattle.std.proofs.Common.{◌≡◌, ℕ, ◌^◌, ◌<◌, ◌∙◌}
use Rattle.btor.specs.declared.reading.Reading.{Reading}
use Rattle.btor.specs.Operators.{Op, Add, Sub, Mul, Divu, Div, Rem, Sll, Srl, standard, compute}
use Rattle.btor.specs.Standard.{bit_vector_op, on_numbers}
use Rattle.btor.specs.Agreement.{StandardAgrees}
use Rattle.btor.proofs.Agreement.{standard_agrees}
use Rattle.btor.proofs.LawsInCode.{Words, Meets, Contract}
use Rattle.btor.proofs.operators.div.Reads as div
use Rattle.btor.proofs.operators.rem.Reads as rem

-- what a caller learns from each function's contract: Div and Rem are asked for the standard's reading
abbrev pub StandardContract : Op → Words → ℕ → Words → Type 0
StandardContract Add = Contract Add
StandardContract Sub = Contract Sub
StandardContract Mul = Contract Mul
StandardContract Divu = Contract Divu
StandardContract Div = λ given r left. div.Learnt tt (Reading.Standard, given) r (Reading.Standard, left)
StandardContract Rem = λ given r left. rem.Learnt tt (Reading.Standard, given) r (Reading.Standard, left)
StandardContract Sll = Contract Sll
StandardContract Srl = Contract Srl

by_standard : (f : Op → ℕ → ℕ → ℕ) → ((op : Op) → Meets (StandardContract op) (f op)) → (op : Op) (x y : ℕ) → x < 2 ^ 64 → y < 2 ^ 64 → f op x y ≡ compute standard op x y
unfolding compute
by_standard f m Add = m Add
by_standard f m Sub = m Sub
by_standard f m Mul = m Mul
by_standard f m Divu = m Divu
by_standard f m Div = m Div
by_standard f m Rem = m Rem
by_standard f m Sll = m Sll
by_standard f m Srl = m Srl

pub standard_in_code : (f : Op → ℕ → ℕ → ℕ) → ((op : Op) → Meets (StandardContract op) (f op))
    → (op : Op) (x y : ℕ) → x < 2 ^ 64 → y < 2 ^ 64 → f op x y ≡ on_numbers 64 (bit_vector_op 64 op) x y
unfolding StandardAgrees
standard_in_code f m op x y hx hy = by_standard f m op x y hx hy ∙ standard_agrees op x y hx hy
