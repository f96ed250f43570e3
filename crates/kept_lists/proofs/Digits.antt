-- The number of digits that are read one by one.
--     digits-next     one digit more
--     digits-stop     a byte that is no digit, or a number that grows too large: then the whole is no number either
--     digits-whole    all bytes are passed
-- Assumes nothing.
use Prim.Native.Nat.{ℕ, ◌+◌, ◌*◌, ◌<◌, ◌≤◌}
use mathlib.Core.Path.{◌≡◌, refl, sym, ap, subst, ◌∙◌}
use mathlib.Core.Bool.{true}
use mathlib.Core.List.{List, [], ◌∷◌, ◌++◌}
use native.Mathlib.Omega.{arith}
use lib.ListN.{length, get_or, take, drop}
use Rattle.std.proofs.lemmas.List.{take-append-drop, take_all}
use Rattle.std.proofs.lemmas.Str.{digit_value_digit}
use Rattle.std.proofs.lemmas.Int.Digits.{digits_value_more, digits_more}
use Rattle.std.proofs.lemmas.Str.Parse.{IsNumeralModel, numerals_by_value, tells_all_ascii_digits, digit_at}
use Rattle.std.specs.Char.{digit_value}
use Rattle.std.specs.Str.{all_ascii_digits}
use Rattle.std.specs.Str.Parse.{AllDigits, digits_value, digits_value_after}

abbrev pub most : ℕ
most = 18446744073709551616

after_append : (n : ℕ) (xs ys : List ℕ) → digits_value_after 10 n (xs ++ ys) ≡ digits_value_after 10 (digits_value_after 10 n xs) ys
after_append n [] ys = refl
after_append n (x ∷ xs) ys = after_append (n * 10 + digit_value x) xs ys

after_ge : (n : ℕ) (cs : List ℕ) → n ≤ digits_value_after 10 n cs
after_ge n [] = omega arith
after_ge n (c ∷ cs) = omega (arith, after_ge (n * 10 + digit_value c) cs)

model : IsNumeralModel (λ ds. all_ascii_digits ds ≡ true) (digits_value 10)
model = numerals_by_value (λ ds. all_ascii_digits ds ≡ true) tells_all_ascii_digits

module _ (ds : List ℕ) (i value : ℕ) where
  pub record Passed : Type 0 where
    pub digits : AllDigits 10 (take i ds)
    pub number : value ≡ digits_value 10 (take i ds)
    pub small : value < most

  pub digits-stop : Passed → i < length ds → ((digit_value (get_or ds i 0) < 10) × (value * 10 + digit_value (get_or ds i 0) < most) → ⊥)
      → (all_ascii_digits ds ≡ true) × (0 < length ds) × (digits_value 10 ds < most) → ⊥
  digits-stop p l n (a, z, f) =
      let k = digit_at ds i (model.to ds a) l in
      let whole : digits_value 10 ds ≡ digits_value_after 10 (digits_value 10 (take (i + 1) ds)) (drop (i + 1) ds) =
      ap (λ xs. digits_value 10 xs) (sym (take-append-drop (i + 1) ds)) ∙ after_append 0 (take (i + 1) ds) (drop (i + 1) ds) in
      n (omega (arith, digit_value_digit (get_or ds i 0) k), omega (arith, digits_value_more 10 ds i l, p.number, whole, after_ge (digits_value 10 (take (i + 1) ds)) (drop (i + 1) ds), f))

  pub digits-whole : Passed → length ds ≤ i → 0 < length ds → ((all_ascii_digits ds ≡ true) × (0 < length ds) × (digits_value 10 ds < most)) × (value ≡ digits_value 10 ds)
  digits-whole p l z =
      let e : take i ds ≡ ds = take_all i ds l in
      let n : value ≡ digits_value 10 ds = p.number ∙ ap (λ xs. digits_value 10 xs) e in
      ((model.from ds (subst (AllDigits 10) e p.digits), z, omega (arith, n, p.small)), n)

pub digits-next : (ds : List ℕ) (i value : ℕ) → Passed ds i value → i < length ds → (digit_value (get_or ds i 0) < 10) × (value * 10 + digit_value (get_or ds i 0) < most)
    → (next : ℕ) → next ≡ value * 10 + digit_value (get_or ds i 0) → Passed ds (i + 1) next
digits-next ds i value p l k next e =
    record {
      digits = digits_more 10 ds i l p.digits k.0;
      number = omega (arith, digits_value_more 10 ds i l, p.number, e);
      small = omega (arith, e, k.1);
    }
