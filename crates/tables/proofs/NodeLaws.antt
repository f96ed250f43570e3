-- Laws for the proofs of node.rt.
-- Assumes nothing.
use Prim.Native.Nat.{ℕ, zero, suc, ◌-◌, ◌^◌, ◌≤◌}
use mathlib.Core.Path.{◌≡◌, refl, sym, ap, ap₂, ◌∙◌}
use mathlib.Core.Bool.{Bool, true, false, cond, ◌&&◌, false≢true}
use mathlib.Core.Option.{none, some}
use mathlib.Core.List.{◌∷◌}
use native.Mathlib.Omega.{arith}
use lib.Dec.{ltb, leb, eqb}
use lib.Pow.{pow_pos}
use lib.ListN.{get_or-eq_default}
use borrow.Author.Tests.{ltb-true, ltb-false, leb-false, lt-ltb, le-ltb, le-leb, lt-leb, ne_eqb}
use Rattle.btor.specs.Sorts.{sort_of, width_of, bits_of, width}
use Rattle.btor.specs.declared.node_type.NodeType.{NodeType}
use Rattle.btor.specs.declared.node_type.UnknownSort.{UnknownSort}
use Rattle.std.specs.Prelude.{Result, Ok, Err}
use Rattle.rules.specs.Table.{Kind, Input, kinds, kind_of, kind_code, fits}
use Rattle.rules.specs.Check.{known_kind}
use Rattle.tables.specs.NodeAnswers.{kind_in}
use Rattle.rules.proofs.Base.{code-of-kind}

-- ---- kinds and codes
-- a code that names no kind reads as Input
pub unknown-kind : (code : ℕ) → known_kind code ≡ false → kind_of code ≡ Input
unknown-kind zero h = refl
unknown-kind (suc code) h = get_or-eq_default (Input ∷ kinds) Input (past (leb (suc code) 22) refl)
  where
    past : (b : Bool) → leb (suc code) 22 ≡ b → 23 ≤ suc code
    past true e = absurd (false≢true (sym h ∙ ap₂ ◌&&◌ (lt-ltb 0 (suc code) (omega arith)) e))
    past false e = leb-false (suc code) 22 e

-- to be of a kind other than Input is to have its code
pub is_code : (k : ℕ) → known_kind k ≡ true → eqb 21 k ≡ false → (code : ℕ) → eqb (kind_code (kind_of code)) k ≡ eqb code k
is_code k hk hi code = go (known_kind code) refl
  where
    go : (b : Bool) → known_kind code ≡ b → eqb (kind_code (kind_of code)) k ≡ eqb code k
    go true e = ap (λ (c : ℕ). eqb c k) (code-of-kind code e)
    go false e =
        ap (λ (x : Kind). eqb (kind_code x) k) (unknown-kind code e) ∙ hi
        ∙ sym (ne_eqb code k (λ q. false≢true (sym e ∙ ap known_kind q ∙ hk)))

-- what a code names, where it names a kind and where not
pub names-kind : (code : ℕ) (k : Kind) → some k ≡ kind_in code → (known_kind code ≡ true) × (k ≡ kind_of code)
names-kind code k h = go (known_kind code) refl h
  where
    go : (b : Bool) → known_kind code ≡ b → some k ≡ cond b (some (kind_of code)) none → (known_kind code ≡ true) × (k ≡ kind_of code)
    go true e h = (e, cc)
    go false e h = let z : ◌≡◌ {A = ℕ} 0 1 = cc in absurd (omega arith)

pub names-none : (code : ℕ) → none ≡ kind_in code → known_kind code ≡ false
names-none code h = go (known_kind code) refl h
  where
    go : (b : Bool) → known_kind code ≡ b → none ≡ cond b (some (kind_of code)) none → known_kind code ≡ false
    go true e h = let z : ◌≡◌ {A = ℕ} 0 1 = cc in absurd (omega arith)
    go false e h = e

-- ---- numbers that fit a sort
below-ones : (w x : ℕ) → leb x (2 ^ w - 1) ≡ ltb x (2 ^ w)
below-ones w x = go (ltb x (2 ^ w)) refl
  where
    go : (b : Bool) → ltb x (2 ^ w) ≡ b → leb x (2 ^ w - 1) ≡ b
    go true e = let h = ltb-true x (2 ^ w) e in le-leb x (2 ^ w - 1) (omega arith)
    go false e = let h = ltb-false x (2 ^ w) e in lt-leb x (2 ^ w - 1) (omega (arith, pow_pos w))

pub fits_known : (sort x : ℕ) (s : NodeType) → sort_of sort ≡ Ok s → leb x (2 ^ width_of s - 1) ≡ fits sort x
unfolding width
fits_known sort x s e = below-ones (width_of s) x ∙ sym (ap (λ (c : Result NodeType UnknownSort). ltb x (2 ^ bits_of c)) e)

pub fits_unknown : (sort x : ℕ) (e : UnknownSort) → sort_of sort ≡ Err e → eqb x 0 ≡ fits sort x
unfolding width
fits_unknown sort x u e = zero-only x ∙ sym (ap (λ (c : Result NodeType UnknownSort). ltb x (2 ^ bits_of c)) e)
  where
    zero-only : (x : ℕ) → eqb x 0 ≡ ltb x 1
    zero-only zero = refl
    zero-only (suc x) = ne_eqb (suc x) 0 (λ q. omega arith) ∙ sym (le-ltb (suc x) 1 (omega arith))
