-- Judging the names bytes by a walk over a slice and a place: what the names are does not matter to whether they are refused.
-- By the outcomes of one name, at the place where its length byte stands.
--     fault              the refusal of an outcome, if it is one
--     missing_at, over-at, short-at, whole-at, end_at   one step of the walk, and its end
--     names-fault        the refusal of the names bytes is that of the walk from byte 2
-- Assumes nothing.
use Prim.Native.Nat.{ℕ, suc, ◌+◌, ◌*◌, ◌<◌, ◌≤◌}
use mathlib.Core.Path.{◌≡◌, refl, sym, ap, ◌∙◌}
use mathlib.Core.Option.{Option, none, some}
use mathlib.Core.List.{List, [], ◌∷◌}
use native.Mathlib.Omega.{arith}
use native.Mathlib.Numerals.{add-one}
use lib.ListN.{length, get_or, take, drop, length-drop, drop_of_length-le}
use lib.Seq.{drop-cons, drop-drop}
use Rattle.rules.specs.Refusal.{Refusal, Out, refused, done, ◌>>=◌}
use Rattle.rules.specs.Limits.{Limits}
use Rattle.rules.specs.Sections.{none_left}
use Rattle.rules.specs.Names.{cut_names, names_of}
use Rattle.rules.proofs.Names.{name-over, name-short, name-whole, name_missing, names-within}

abbrev pub fault : {A : Type 0} → Out A → Option Refusal
fault (refused r) = some r
fault (done x) = none

abbrev pub fault_of : ℕ → Option Refusal
fault_of reason = some (record { reason = reason; section = 7; position = 0 })

-- one name more in front
abbrev add : List ℕ → List (List ℕ) × List ℕ → Out (List (List ℕ) × List ℕ)
add name p = done (name ∷ p.0, p.1)

module _ (limits : Limits) (bs : List ℕ) where
  -- so many names from a place on, and nothing after them: the fault
  unfoldable pub fault_from : ℕ → ℕ → Option Refusal
  fault_from count at = fault (cut_names limits count (drop at bs) >>= λ p. none_left 7 p.0 p.1)

  pub end_at : (at : ℕ) → length bs ≤ at → fault_from 0 at ≡ none
  unfolding fault_from cut_names
  end_at at h = ap (λ l. fault (none_left {A = List (List ℕ)} 7 [] l)) (drop_of_length-le bs {i = at} h)

  pub left_at : (at : ℕ) → at < length bs → fault_from 0 at ≡ fault_of 1
  unfolding fault_from cut_names
  left_at at h = ap (λ l. fault (none_left {A = List (List ℕ)} 7 [] l)) (drop-cons bs at 0 h)

  pub missing_at : (count at : ℕ) → length bs ≤ at → fault_from (suc count) at ≡ fault_of 1
  unfolding fault_from
  missing_at count at h =
      ap (λ o. fault (o >>= λ p. none_left 7 p.0 p.1)) (ap (λ l. cut_names limits (suc count) l) (drop_of_length-le bs {i = at} h) ∙ name_missing limits count)

  module _ (count at : ℕ) (inside : at < length bs) where
    here : cut_names limits (suc count) (drop at bs) ≡ cut_names limits (suc count) (get_or bs at 0 ∷ drop (suc at) bs)
    here = ap (λ l. cut_names limits (suc count) l) (drop-cons bs at 0 inside)

    pub over-at : limits.name_length < get_or bs at 0 → fault_from (suc count) at ≡ fault_of 2
    unfolding fault_from
    over-at h = ap (λ o. fault (o >>= λ p. none_left 7 p.0 p.1)) (here ∙ name-over limits count (get_or bs at 0) (drop (suc at) bs) h)

    pub short-at : get_or bs at 0 ≤ limits.name_length → length bs < at + 1 + get_or bs at 0 → fault_from (suc count) at ≡ fault_of 1
    unfolding fault_from
    short-at h l =
        ap (λ o. fault (o >>= λ p. none_left 7 p.0 p.1))
        (here ∙ name-short limits count (get_or bs at 0) (drop (suc at) bs) h (omega (arith, length-drop (suc at) bs)))

    pub whole-at : get_or bs at 0 ≤ limits.name_length → at + 1 + get_or bs at 0 ≤ length bs → fault_from (suc count) at ≡ fault_from count (at + 1 + get_or bs at 0)
    unfolding fault_from
    whole-at h l =
        let next : drop (get_or bs at 0) (drop (suc at) bs) ≡ drop (at + 1 + get_or bs at 0) bs = drop-drop (get_or bs at 0) (suc at) bs ∙ ap (λ i. drop (i + get_or bs at 0) bs) (sym (add-one at)) in
        ap (λ o. fault (o >>= λ p. none_left 7 p.0 p.1))
        (here ∙ name-whole limits count (get_or bs at 0) (drop (suc at) bs) h (omega (arith, length-drop (suc at) bs)))
        ∙ go (take (get_or bs at 0) (drop (suc at) bs)) (cut_names limits count (drop (get_or bs at 0) (drop (suc at) bs)))
        ∙ ap (λ l. fault (cut_names limits count l >>= λ p. none_left 7 p.0 p.1)) next
      where
        rest : (x y : List (List ℕ)) (r : List ℕ) → fault (none_left 7 x r) ≡ fault (none_left 7 y r)
        rest x y [] = refl
        rest x y (w ∷ r) = refl

        go : (name : List ℕ) (o : Out (List (List ℕ) × List ℕ))
            → fault ((o >>= add name) >>= λ p. none_left 7 p.0 p.1) ≡ fault (o >>= λ p. none_left 7 p.0 p.1)
        go name (refused r) = refl
        go name (done p) = rest (name ∷ p.0) p.0 p.1

-- the count stands in the first two bytes
pub names-fault : (limits : Limits) (low high : ℕ) (bs : List ℕ) → low + 256 * high ≤ limits.names
    → fault (names_of limits (low ∷ high ∷ bs)) ≡ fault_from limits (low ∷ high ∷ bs) (low + 256 * high) 2
unfolding names_of fault_from
names-fault limits low high bs h = ap fault (names-within limits (low + 256 * high) bs h)
