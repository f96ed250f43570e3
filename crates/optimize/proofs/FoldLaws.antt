-- All ones and the complement by a sort's code, and that each operator of the rules is the code's.
-- Assumes nothing.
use Prim.Native.Nat.{ℕ, ◌-◌, ◌^◌}
use mathlib.Core.Path.{◌≡◌, refl, sym, ap, ◌∙◌}
use mathlib.Core.Bool.{Bool}
use lib.Dec.{eqb}
use Rattle.std.specs.Prelude.{Option as Answer, Some, None, Result, Ok, Err, MatchResult}
use Rattle.std.specs.Option.{option_eq}
use mathlib.Core.Option.{Option, none, some}
use Rattle.btor.specs.Operators.{Op, complement}
use Rattle.btor.specs.Sorts.{sort_of, bits_of, width_of, ones_of, width, ones}
use Rattle.btor.specs.declared.node_type.NodeType.{NodeType}
use Rattle.btor.specs.declared.node_type.UnknownSort.{UnknownSort}
use Rattle.rules.specs.Fold.{is_const, shared, make, fold_words, fold_test}
use Rattle.optimize.specs.View.{constant_is}
use Rattle.optimize.specs.Folding.{op_is, operator_of, fold_constants}

-- ---- a sort by its code
pub width-known : (code : ℕ) (s : NodeType) → sort_of code ≡ Ok s → width code ≡ width_of s
unfolding width
width-known code s e = ap bits_of e

pub width-unknown : (code : ℕ) (u : UnknownSort) → sort_of code ≡ Err u → width code ≡ 0
unfolding width
width-unknown code u e = ap bits_of e

pub ones-known : (code : ℕ) (s : NodeType) → sort_of code ≡ Ok s → ones_of s ≡ ones code
unfolding ones
ones-known code s e = sym (ap (λ (w : ℕ). 2 ^ w - 1) (width-known code s e))

pub ones-unknown : (code : ℕ) (u : UnknownSort) → sort_of code ≡ Err u → 0 ≡ ones code
unfolding ones
ones-unknown code u e = sym (ap (λ (w : ℕ). 2 ^ w - 1) (width-unknown code u e))

pub complement-known : (code : ℕ) (s : NodeType) (x : ℕ) → sort_of code ≡ Ok s → complement (width_of s) x ≡ complement (width code) x
complement-known code s x e = sym (ap (λ (w : ℕ). complement w x) (width-known code s e))

complement-zero : (x : ℕ) → 0 ≡ complement 0 x
unfolding complement
complement-zero x = sym (native.Mathlib.Nat.zero-sub _)

pub complement-unknown : (code x : ℕ) (u : UnknownSort) → sort_of code ≡ Err u → 0 ≡ complement (width code) x
complement-unknown code x u e = complement-zero x ∙ sym (ap (λ (w : ℕ). complement w x) (width-unknown code u e))

-- what is made of a sort that a code may name, and 0 where it names none
pub ones-named : (code v : ℕ) (P : NodeType → Type 0) → ((s : NodeType) → P s → v ≡ ones_of s) → (r : Result NodeType UnknownSort) → sort_of code ≡ r
    → MatchResult r P (λ _. v ≡ 0) → v ≡ ones code
ones-named code v P p (Ok s) e m = p s m ∙ ones-known code s e
ones-named code v P p (Err u) e m = m ∙ ones-unknown code u e

pub complement-named : (code x v : ℕ) (P : NodeType → Type 0) → ((s : NodeType) → P s → v ≡ complement (width_of s) x) → (r : Result NodeType UnknownSort) → sort_of code ≡ r
    → MatchResult r P (λ _. v ≡ 0) → v ≡ complement (width code) x
complement-named code x v P p (Ok s) e m = p s m ∙ complement-known code s x e
complement-named code x v P p (Err u) e m = m ∙ complement-unknown code x u e

-- ---- operators
pub op-is : (op : Op) → op_is (operator_of op) ≡ op
op-is Op.Add = refl
op-is Op.Sub = refl
op-is Op.Mul = refl
op-is Op.Divu = refl
op-is Op.Div = refl
op-is Op.Rem = refl
op-is Op.Sll = refl
op-is Op.Srl = refl

-- ---- constants
-- a constant's number compared with one
pub is_const-eq : (v : Answer ℕ) (x : ℕ) (b : Bool) → b ≡ option_eq eqb v (Some x) → is_const (constant_is v) x ≡ b
is_const-eq None x b e = sym e
is_const-eq (Some y) x b e = sym e

pub words_by : (s : ℕ) (f : ℕ → ℕ → ℕ) (cx cy : Option ℕ) → fold_constants (λ x y. make s (f x y)) cx cy ≡ fold_words s f cx cy
words_by s f none cy = refl
words_by s f (some x) none = refl
words_by s f (some x) (some y) = refl

pub test_by : (n : ℕ) (f : ℕ → ℕ → Bool) (cx cy : Option ℕ) → fold_constants (λ x y. shared n (f x y)) cx cy ≡ fold_test n f cx cy
test_by n f none cy = refl
test_by n f (some x) none = refl
test_by n f (some x) (some y) = refl
