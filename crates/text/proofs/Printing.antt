-- Printing, one case each: a number's digits, a line, a section, and what is left to print in a loop.
-- By recursion over the bytes, and over the fuel of a number's digits.
--     decimal_same       std's digits of a number are the rules'
--     *-next             a loop prints the next element, and what is left is less by it
-- Assumes nothing.
use Prim.Native.Nat.{ℕ, zero, suc, ◌+◌, ◌/◌, ◌%◌, ◌^◌, ◌<◌, ◌≤◌}
use mathlib.Core.Path.{◌≡◌, refl, sym, ap, ◌∙◌}
use mathlib.Core.Bool.{Bool, true, false}
use mathlib.Core.List.{List, [], ◌∷◌, ◌++◌}
use native.Mathlib.Omega.{arith}
use native.Mathlib.Numerals.{add-one}
use lib.ListN.{length, get_or, take, drop}
use lib.Seq.{drop-cons}
use lib.Dec.{ltb}
use borrow.Author.Tests.{lt-ltb, le-ltb, ltb-false}
use Rattle.std.specs.Fmt.{decimal as std_decimal}
use Rattle.std.proofs.lemmas.Fmt.{decimal_by_steps}
use Rattle.rules.specs.Text.{decimal_of, decimal, blanked, line, lines}
use Rattle.text.proofs.Laid.{laid_two}
use Rattle.text.specs.Printing.{Page, laid, section_size, SectionEnds, sections_in}

-- ---- a number's digits: the fuel does not matter
pub decimal_fuel : (f g x : ℕ) → x ≤ f → x ≤ g → decimal_of f x ≡ decimal_of g x
unfolding decimal_of
decimal_fuel zero zero x h l = refl
decimal_fuel zero (suc g) x h l = rw (decimal_of, lt-ltb x 10 (omega arith))
decimal_fuel (suc f) zero x h l = rw (decimal_of, lt-ltb x 10 (omega arith))
decimal_fuel (suc f) (suc g) x h l = go (ltb x 10) refl λ a b. decimal_fuel f g (x / 10) a b
  where
    go : (b : Bool) → ltb x 10 ≡ b → (x / 10 ≤ f → x / 10 ≤ g → decimal_of f (x / 10) ≡ decimal_of g (x / 10))
        → ◌≡◌ {A = List ℕ} (elim b [ true ↦ (48 + x) ∷ [] | false ↦ decimal_of f (x / 10) ++ ((48 + x % 10) ∷ []) ])
        (elim b [ true ↦ (48 + x) ∷ [] | false ↦ decimal_of g (x / 10) ++ ((48 + x % 10) ∷ []) ])
    go true e tenth = refl
    go false e tenth =
        let m : 10 ≤ x = ltb-false x 10 e in
        ap (λ ds. ds ++ ((48 + x % 10) ∷ [])) (tenth (omega arith) (omega arith))

pub decimal-short : (x : ℕ) → x < 10 → decimal x ≡ (48 + x) ∷ []
unfolding decimal_of
decimal-short x h = decimal_fuel x (suc x) x (omega arith) (omega arith) ∙ rw (decimal_of, lt-ltb x 10 h)

pub decimal_long : (x : ℕ) → 10 ≤ x → decimal x ≡ decimal (x / 10) ++ ((48 + x % 10) ∷ [])
unfolding decimal_of
decimal_long x h =
    decimal_fuel x (suc x) x (omega arith) (omega arith) ∙ rw (decimal_of, le-ltb x 10 h)
    (ap (λ ds. ds ++ ((48 + x % 10) ∷ [])) (decimal_fuel x (x / 10) (x / 10) (omega arith) (omega arith)))

-- std's digits are those of the rules
pub decimal_same : (x : ℕ) → x < 2 ^ 64 → std_decimal x ≡ decimal x
decimal_same x h = decimal_by_steps (λ n ds. ds ≡ decimal n) (λ n l. sym (decimal-short n l)) (λ n ds l e. ap (λ ds. ds ++ ((48 + n % 10) ∷ [])) e ∙ sym (decimal_long n l)) x h

-- ---- loops: what is left to print, from element i on
module _ (p q : Page) where
  pub blanked_next : (r s : Page) (xs : List ℕ) (i : ℕ) → laid q (blanked (drop i xs)) ≡ p → r ≡ laid q (32 ∷ []) → s ≡ laid r (decimal (get_or xs i 0)) → i < length xs
      → laid s (blanked (drop (i + 1) xs)) ≡ p
  unfolding blanked
  blanked_next r s xs i e f g h =
      let rest : List ℕ = blanked (drop (suc i) xs) in
      ap (λ n. laid s (blanked (drop n xs))) (add-one i)
      ∙ laid_two q r (laid s rest) (32 ∷ []) (decimal (get_or xs i 0) ++ rest) f (laid_two r s (laid s rest) (decimal (get_or xs i 0)) rest g refl)
      ∙ ap (λ l. laid q (blanked l)) (sym (drop-cons xs i 0 h)) ∙ e

-- ---- the sections that are left
module _ (p q : Page) (widths rest : List ℕ) (k : ℕ) (left : laid q (lines (sections_in (drop k widths) rest)) ≡ p) where
  pub sections_next : (r : Page) (front back : List ℕ) (end : ℕ) → k < length widths → SectionEnds (get_or widths k 0) rest end → front ≡ take end rest → back ≡ drop end rest
      → r ≡ laid q (line front) → laid r (lines (sections_in (drop (k + 1) widths) back)) ≡ p
  unfolding lines sections_in
  sections_next r front back end h ends e f g =
      let size : ℕ = section_size (get_or widths k 0) rest in
      let printed : r ≡ laid q (line (take size rest)) = g ∙ ap (λ l. laid q (line l)) (e ∙ ends.section) in
      ap (λ l. laid r (lines (sections_in (drop (k + 1) widths) l))) (f ∙ ends.rest) ∙ ap (λ n. laid r (lines (sections_in (drop n widths) (drop size rest)))) (add-one k)
      ∙ laid_two q r _ (line (take size rest)) (lines (sections_in (drop (suc k) widths) (drop size rest))) printed refl
      ∙ ap (λ l. laid q (lines (sections_in l rest))) (sym (drop-cons widths k 0 h)) ∙ left
