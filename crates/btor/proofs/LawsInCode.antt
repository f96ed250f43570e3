-- The laws, of the functions of operators.rt: what answers as their contracts say obeys them, in the Rust's reading. So `operator_laws rust` is what a
-- caller may cite of their answers. A change of a contract in operators.rt is a change of what stands before the arrows here.
-- Assumes nothing.
use Rattle.std.proofs.Common.{◌≡◌, ℕ, ◌^◌, ◌<◌, ap, ◌∙◌}
use Rattle.btor.specs.Operators.{Op, Add, Sub, Mul, Divu, Div, Rem, Sll, Srl, rust, compute}
use Rattle.btor.specs.Laws.{Laws, LawsHold}
use Rattle.btor.proofs.Laws.{operator_laws, laws_hold}
use Rattle.btor.proofs.operators.wrapping_add.Reads as wrapping_add
use Rattle.btor.proofs.operators.wrapping_sub.Reads as wrapping-sub
use Rattle.btor.proofs.operators.wrapping_mul.Reads as wrapping-mul
use Rattle.btor.proofs.operators.btor_u64_divu.Reads as btor-u64-divu
use Rattle.btor.proofs.operators.btor_u64_div.Reads as btor-u64-div
use Rattle.btor.proofs.operators.btor_u64_rem.Reads as btor-u64-rem
use Rattle.btor.proofs.operators.btor_u64_sll.Reads as btor-u64-sll
use Rattle.btor.proofs.operators.btor_u64_srl.Reads as btor-u64-srl
use Rattle.btor.proofs.operators.and.Reads as and
use Rattle.btor.proofs.operators.or.Reads as or

-- two words, as a call has them and leaves them
abbrev pub Words : Type 0
Words = ℕ × (ℕ × Unit)

-- on words f answers what a contract allows
abbrev pub Meets : (Words → ℕ → Words → Type 0) → (ℕ → ℕ → ℕ) → Type 0
Meets learnt f = (x y : ℕ) → x < 2 ^ 64 → y < 2 ^ 64 → learnt (x, (y, tt)) (f x y) (x, (y, tt))

-- what a caller learns from the contract of each operator's function, which borrows nothing (tt)
abbrev pub Contract : Op → Words → ℕ → Words → Type 0
Contract Add = wrapping_add.Learnt tt
Contract Sub = wrapping-sub.Learnt tt
Contract Mul = wrapping-mul.Learnt tt
Contract Divu = btor-u64-divu.Learnt tt
Contract Div = btor-u64-div.Learnt tt
Contract Rem = btor-u64-rem.Learnt tt
Contract Sll = btor-u64-sll.Learnt tt
Contract Srl = btor-u64-srl.Learnt tt

as_computed : (f : Op → ℕ → ℕ → ℕ) → ((op : Op) → Meets (Contract op) (f op)) → (op : Op) (x y : ℕ) → x < 2 ^ 64 → y < 2 ^ 64 → f op x y ≡ compute rust op x y
as_computed f m Add = m Add
as_computed f m Sub = m Sub
as_computed f m Mul = m Mul
as_computed f m Divu = m Divu
as_computed f m Div = m Div
as_computed f m Rem = m Rem
as_computed f m Sll = m Sll
as_computed f m Srl = m Srl

pub laws_in_code : (f : Op → ℕ → ℕ → ℕ) (g h : ℕ → ℕ → ℕ)
    → ((op : Op) → Meets (Contract op) (f op)) → Meets (and.Learnt tt) g → Meets (or.Learnt tt) h → Laws rust f g h
unfolding LawsHold
laws_in_code f g h m a o = laws_hold rust f g h (record { on = as_computed f m; and = a; or = o })

-- a law cited by who calls `wrapping_add` and then `wrapping_sub`: the last two premises are what the two contracts tell
pub sum_undone : (x y sum difference : ℕ) → x < 2 ^ 64 → y < 2 ^ 64
    → Contract Add (x, (y, tt)) sum (x, (y, tt)) → Contract Sub (sum, (y, tt)) difference (sum, (y, tt)) → difference ≡ x
sum_undone x y sum difference hx hy added subtracted =
    subtracted ∙ ap (λ (n : ℕ). compute rust Sub n y) added ∙ (operator_laws rust).sub_undoes_add x y hx hy
