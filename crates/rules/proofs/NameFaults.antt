-- Section 7 draws 2 exactly where a count or a length that can be found is over its limit, and else 1 or nothing: 2 before 1 for the whole section.
-- By recursion over how many names are left; after a short name no further length can be found.
--     met                the lengths that can be found
--     over-met, none_over   2 where one of them is over its limit; 1, or the names, where none is
--     starts-with        a name starts with a prefix exactly if its first bytes are the prefix
-- Assumes nothing.
use Prim.Native.Nat.{ℕ, zero, suc, ◌≤◌}
use mathlib.Core.Path.{◌≡◌, refl, sym, ap, ap₂, ◌∙◌, subst}
use mathlib.Core.Logic.{◌↔◌}
use mathlib.Core.Bool.{Bool, true, false, ◌||◌}
use mathlib.Core.List.{List, [], ◌∷◌}
use native.Mathlib.Omega.{arith}
use lib.ListN.{length, take, drop, drop_of_length-le}
use lib.Dec.{ltb, eqb}
use borrow.Author.Tests.{ltb-true, ltb-false, eqb-true, eq-eqb}
use Rattle.rules.specs.Refusal.{Out, refused, done, refuse, ◌>>=◌}
use Rattle.rules.specs.Limits.{Limits}
use Rattle.rules.specs.Names.{cut_names, starts_with}
use Rattle.rules.proofs.Base.{no, and_both}
use Rattle.rules.proofs.Names.{name-over, name-short, name-whole}

-- the length bytes that can be found, so many names being due
unfoldable pub met : ℕ → List ℕ → List ℕ
met zero bs = []
met (suc count) [] = []
met (suc count) (size ∷ bs) = size ∷ met count (drop size bs)

unfoldable pub any_over : ℕ → List ℕ → Bool
any_over limit [] = false
any_over limit (x ∷ xs) = ltb limit x || any_over limit xs

-- refused as short, or whole
abbrev pub ShortOrWhole : {A : Type 0} → Out A → Type 0
ShortOrWhole (done x) = Unit
ShortOrWhole (refused r) = r ≡ record { reason = 1; section = 7; position = 0 }

met-none : (limit count : ℕ) → any_over limit (met count []) ≡ false
unfolding met any_over
met-none limit zero = refl
met-none limit (suc count) = refl

or-false : (a b : Bool) → (a || b) ≡ false → (a ≡ false) × (b ≡ false)
or-false false b e = (refl, e)
or-false true b e = no (sym e)

through_bind : {A B : Type 0} (o : Out A) (f : A → B) → ShortOrWhole o → ShortOrWhole (o >>= λ x. done (f x))
through_bind (done x) f h = tt
through_bind (refused r) f h = h

module _ (limits : Limits) where
  pub over-met : (count : ℕ) (bs : List ℕ) → any_over limits.name_length (met count bs) ≡ true → cut_names limits count bs ≡ refuse 2 7 0
  unfolding met any_over
  over-met zero bs e = no e
  over-met (suc count) [] e = no e
  over-met (suc count) (size ∷ bs) e = first (ltb limits.name_length size) refl e (λ q. over-met count (drop size bs) q)
    where
      More : Type 0
      More = any_over limits.name_length (met count (drop size bs)) ≡ true

      second : size ≤ limits.name_length → (b : Bool) → ltb (length bs) size ≡ b → More → (More → cut_names limits count (drop size bs) ≡ refuse 2 7 0)
          → cut_names limits (suc count) (size ∷ bs) ≡ refuse 2 7 0
      second h true l q rec =
          let z : drop size bs ≡ [] = drop_of_length-le bs {i = size} (omega (arith, ltb-true (length bs) size l)) in
          no (sym (met-none limits.name_length count) ∙ subst (λ c. any_over limits.name_length (met count c) ≡ true) z q)
      second h false l q rec =
          name-whole limits count size bs h (ltb-false (length bs) size l) ∙ ap (λ o. o >>= λ p. done (take size bs ∷ p.0, p.1)) (rec q)

      first : (b : Bool) → ltb limits.name_length size ≡ b → (b || any_over limits.name_length (met count (drop size bs))) ≡ true
          → (More → cut_names limits count (drop size bs) ≡ refuse 2 7 0) → cut_names limits (suc count) (size ∷ bs) ≡ refuse 2 7 0
      first true h q rec = name-over limits count size bs (ltb-true limits.name_length size h)
      first false h q rec = second (ltb-false limits.name_length size h) (ltb (length bs) size) refl q rec

  pub none_over : (count : ℕ) (bs : List ℕ) → any_over limits.name_length (met count bs) ≡ false → ShortOrWhole (cut_names limits count bs)
  unfolding met any_over cut_names
  none_over zero bs e = tt
  none_over (suc count) [] e = refl
  none_over (suc count) (size ∷ bs) e =
      let q = or-false (ltb limits.name_length size) (any_over limits.name_length (met count (drop size bs))) e in
      go (ltb-false limits.name_length size q.0) (ltb (length bs) size) refl (none_over count (drop size bs) q.1)
    where
      go : size ≤ limits.name_length → (b : Bool) → ltb (length bs) size ≡ b → ShortOrWhole (cut_names limits count (drop size bs)) → ShortOrWhole (cut_names limits (suc count) (size ∷ bs))
      go h true l r = subst (λ o. ShortOrWhole o) (sym (name-short limits count size bs h (ltb-true (length bs) size l))) refl
      go h false l r =
          subst (λ o. ShortOrWhole o) (sym (name-whole limits count size bs h (ltb-false (length bs) size l)))
          (through_bind (cut_names limits count (drop size bs)) (λ p. (take size bs ∷ p.0, p.1)) r)

-- ---- a prefix
pub starts-with : (ps bs : List ℕ) → (starts_with ps bs ≡ true) ↔ (take (length ps) bs ≡ ps)
unfolding starts_with
starts-with [] bs = ((λ e. refl), λ e. refl)
starts-with (p ∷ ps) [] = ((λ e. no e), λ e. cc)
starts-with (p ∷ ps) (b ∷ bs) =
    let r = starts-with ps bs in (
      (λ e. let q = and_both (eqb b p) (starts_with ps bs) e in ap₂ (λ x xs. x ∷ xs) (eqb-true b p q.0) (r.0 q.1)),
      λ e. let h : b ≡ p = cc in let t : take (length ps) bs ≡ ps = cc in rw (eq-eqb b p h) (r.1 t),
    )
