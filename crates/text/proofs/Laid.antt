-- Bytes printed at a place of a buffer: one byte, bytes after bytes, and what it comes to where they fit and where they do not.
-- By recursion over the bytes.
--     put_full, put_next   a byte past the buffer's end, and one within it
--     laid_append, laid_two   bytes after bytes are printed by printing both
--     laid-fits          the bytes stand at the place, everything else is unchanged
--     laid_full          as many as fit stand there, and the page is full
-- Assumes nothing.
use Prim.Native.Nat.{ℕ, suc, ◌+◌, ◌-◌, ◌<◌, ◌≤◌}
use mathlib.Core.Path.{◌≡◌, refl, sym, ap, ◌∙◌}
use mathlib.Core.Bool.{Bool, true, false}
use mathlib.Core.List.{List, [], ◌∷◌, ◌++◌, append-nil}
use native.Mathlib.Omega.{arith}
use native.Mathlib.Nat.{add-zero}
use native.Mathlib.Numerals.{add-one}
use lib.ListN.{length, take, drop, set, length-set}
use lib.Seq.{sets, sets-eq, take_all, take-suc-set, append_snoc}
use lib.Dec.{ltb}
use borrow.Author.Tests.{ltb-true, ltb-false, lt-ltb, le-ltb}
use Rattle.std.specs.Prelude.{Some, None}
use Rattle.text.specs.Printing.{Page, page, put_at, put_byte, laid}

-- ---- a byte at a place
pub put_full : (bytes : List ℕ) (at b : ℕ) → length bytes ≤ at → put_at bytes at b ≡ page bytes None
unfolding put_at
put_full bytes at b h = rw (le-ltb at (length bytes) h, put_at)

pub put_next : (bytes : List ℕ) (at b : ℕ) → at < length bytes → put_at bytes at b ≡ page (set bytes at b) (Some (at + 1))
unfolding put_at
put_next bytes at b h = rw (lt-ltb at (length bytes) h, put_at)

pub laid_append : (p : Page) (xs ys : List ℕ) → laid p (xs ++ ys) ≡ laid (laid p xs) ys
unfolding laid
laid_append p [] ys = refl
laid_append p (x ∷ xs) ys = laid_append (put_byte p.bytes p.place x) xs ys

-- one part printed after the other
pub laid_two : (p q r : Page) (xs ys : List ℕ) → q ≡ laid p xs → r ≡ laid q ys → r ≡ laid p (xs ++ ys)
laid_two p q r xs ys e f = f ∙ ap (λ s. laid s ys) e ∙ sym (laid_append p xs ys)

-- ---- what it comes to
sets-laid : (bs bytes : List ℕ) (at : ℕ) → at + length bs ≤ length bytes → laid (page bytes (Some at)) bs ≡ page (sets bytes at bs) (Some (at + length bs))
unfolding laid
sets-laid [] bytes at h = ap (λ n. page bytes (Some n)) (sym (add-zero at))
sets-laid (b ∷ bs) bytes at h =
    let e : suc at + length bs ≡ at + suc (length bs) = omega arith in
    ap (λ p. laid p bs) (put_next bytes at b (omega arith)) ∙ ap (λ n. laid (page (set bytes at b) (Some n)) bs) (add-one at)
    ∙ sets-laid bs (set bytes at b) (suc at) (omega (arith, length-set bytes at b)) ∙ ap (λ n. page (sets (set bytes at b) (suc at) bs) (Some n)) e

-- the bytes stand at the place, and everything else in the buffer is unchanged
pub laid-fits : (bs bytes : List ℕ) (at : ℕ) → at + length bs ≤ length bytes
    → laid (page bytes (Some at)) bs ≡ page (take at bytes ++ bs ++ drop (at + length bs) bytes) (Some (at + length bs))
laid-fits bs bytes at h = sets-laid bs bytes at h ∙ ap (λ l. page l (Some (at + length bs))) (sets-eq bs bytes at h)

at_full : (bs bytes : List ℕ) → laid (page bytes None) bs ≡ page bytes None
unfolding laid
at_full [] bytes = refl
at_full (b ∷ bs) bytes = at_full bs bytes

-- where they do not fit, as many as fit stand from the place to the buffer's end, and the page is full
pub laid_full : (bs bytes : List ℕ) (at : ℕ) → at ≤ length bytes → length bytes < at + length bs
    → laid (page bytes (Some at)) bs ≡ page (take at bytes ++ take (length bytes - at) bs) None
unfolding laid
laid_full [] bytes at h l = let o : ⊥ = omega arith in absurd o
laid_full (b ∷ bs) bytes at h l = go (ltb at (length bytes)) refl λ m. laid_full bs (set bytes at b) (suc at) (omega (arith, length-set bytes at b)) (omega (arith, length-set bytes at b))
  where
    go : (t : Bool) → ltb at (length bytes) ≡ t
        → (at < length bytes → laid (page (set bytes at b) (Some (suc at))) bs ≡ page (take (suc at) (set bytes at b) ++ take (length (set bytes at b) - suc at) bs) None)
        → laid (put_at bytes at b) bs ≡ page (take at bytes ++ take (length bytes - at) (b ∷ bs)) None
    go true e more =
        let m : at < length bytes = ltb-true at (length bytes) e in
        let n : length bytes - at ≡ suc (length (set bytes at b) - suc at) = omega (arith, length-set bytes at b) in
        ap (λ p. laid p bs) (put_next bytes at b m) ∙ ap (λ n. laid (page (set bytes at b) (Some n)) bs) (add-one at) ∙ more m
        ∙ ap (λ l. page (l ++ take (length (set bytes at b) - suc at) bs) None) (take-suc-set bytes at b m)
        ∙ ap (λ l. page l None) (append_snoc (take at bytes) b (take (length (set bytes at b) - suc at) bs))
        ∙ ap (λ n. page (take at bytes ++ take n (b ∷ bs)) None) (sym n)
    go false e more =
        let m : length bytes ≤ at = ltb-false at (length bytes) e in
        let n : length bytes - at ≡ 0 = omega arith in
        ap (λ p. laid p bs) (put_full bytes at b m) ∙ at_full bs bytes
        ∙ ap (λ l. page l None) (sym (append-nil bytes) ∙ ap (λ l. l ++ []) (sym (take_all at bytes m)))
        ∙ ap (λ n. page (take at bytes ++ take n (b ∷ bs)) None) (sym n)
