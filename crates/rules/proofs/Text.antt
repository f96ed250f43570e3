-- The program's text: what is printed reads back, a text within the limits is a call, and no number is read past the last place.
-- By recursion over the digits, and by the stages of the text form, which are the call's after the cuts.
--     decimal-number, decimal-first   a printed number is that number, and begins with no 0
--     after-is-call      numbers whose sections and names are cut go on as the call with those words and bytes
--     too_many           after 4,096 numbers everything is refused so
-- Assumes nothing.
use Prim.Native.Nat.{ℕ, zero, suc, ◌+◌, ◌-◌, ◌/◌, ◌%◌, ◌^◌, ◌<◌, ◌≤◌}
use mathlib.Core.Path.{◌≡◌, refl, sym, ap, ap₂, ◌∙◌}
use mathlib.Core.Bool.{Bool, true, false, ◌&&◌}
use mathlib.Core.Option.{Option, none, some}
use mathlib.Core.List.{List, [], ◌∷◌, ◌++◌}
use native.Mathlib.Omega.{arith}
use native.Mathlib.Nat.{div-add-mod', mod-lt, add-zero}
use lib.ListN.{length, get_or, take, length-append, get_or-append}
use lib.Seq.{take_at}
use lib.Dec.{ltb, leb, lit<}
use borrow.Author.Tests.{ltb-true, ltb-false, leb-true, leb-false, lt-ltb, le-leb}
use Rattle.rules.specs.Refusal.{Out, refused, done, refuse, ◌>>=◌}
use Rattle.rules.specs.Model.{Mode}
use Rattle.rules.specs.Limits.{Limits}
use Rattle.rules.specs.Sections.{Sections, cut_six, cut, encode}
use Rattle.rules.specs.Names.{counted_names, names_of, name_bytes}
use Rattle.rules.specs.Call.{Call, impl, judge_mode, judge_cut, outcome}
use Rattle.rules.specs.Text.{most_numbers, program_room, is_digit, all_digits, decimal_from, number_of, judge_token, numbers_from, all_name_bytes, judge_bytes, names_in_numbers, after_numbers, decimal_of, decimal}
use Rattle.btor.proofs.Agreement.{cases}
use Rattle.rules.proofs.Sections.{bind_done, never, same-done, through, cut-encode, encode-cut_six}
use Rattle.rules.proofs.Names.{names_back, counted_names_done}
use Rattle.rules.proofs.Reader.{digits_snoc, decimal_snoc}

-- ---- a printed number
below_ten : (x : ℕ) → x % 10 < 10
below_ten x = mod-lt x (lit< tt)

-- a number of two digits or more: its tenth is less by one at least
tenth : (f x : ℕ) → x ≤ suc f → 10 ≤ x → (x / 10 ≤ f) × (0 < x / 10)
tenth f x h l = omega (arith, div-add-mod' x 10, below_ten x)

abbrev last : ℕ → ℕ
last x = 48 + x % 10

digit_is : (x : ℕ) → x < 10 → is_digit (48 + x) ≡ true
digit_is x h = rw (le-leb 48 (48 + x) (omega arith), lt-ltb (48 + x) 58 (omega arith))

decimal_digits : (f x : ℕ) → x ≤ f → all_digits (decimal_of f x) ≡ true
unfolding decimal_of all_digits
decimal_digits zero x h = rw (digit_is x (omega arith))
decimal_digits (suc f) x h =
    cases (λ ds. all_digits ds ≡ true) (ltb x 10)
    (λ l. rw (digit_is x (ltb-true x 10 l)))
    (λ l. let t = tenth f x h (ltb-false x 10 l) in
    digits_snoc (decimal_of f (x / 10)) (last x) ∙ rw (decimal_digits f (x / 10) t.0, digit_is (x % 10) (below_ten x)))

decimal-value : (f x : ℕ) → x ≤ f → decimal_from 0 (decimal_of f x) ≡ x
unfolding decimal_of decimal_from
decimal-value zero x h = omega arith
decimal-value (suc f) x h =
    cases (λ ds. decimal_from 0 ds ≡ x) (ltb x 10)
    (λ l. omega arith)
    (λ l. let t = tenth f x h (ltb-false x 10 l) in
    decimal_snoc (decimal_of f (x / 10)) 0 (last x) ∙ rw (decimal-value f (x / 10) t.0) (omega (arith, div-add-mod' x 10)))

-- digits or not, and the number that they come to
abbrev taken : Bool → ℕ → Option ℕ
taken digits x = elim (digits && ltb x (2 ^ 64)) [ true ↦ some x | false ↦ none ]

-- a number below 2^64 is printed as a token that is that number
pub decimal-number : (x : ℕ) → x < 2 ^ 64 → number_of (decimal x) ≡ some x
unfolding number_of
decimal-number x h =
    ap₂ taken (decimal_digits x x (omega arith)) (decimal-value x x (omega arith)) ∙ ap (λ b. elim b [ true ↦ some x | false ↦ none ]) (lt-ltb x (2 ^ 64) h)

long : (f x : ℕ) → 0 < length (decimal_of f x)
unfolding decimal_of
long zero x = lit< tt
long (suc f) x =
    cases (λ (ds : List ℕ). 0 < length ds) (ltb x 10) (λ l. lit< tt)
    (λ l. omega (arith, length-append (decimal_of f (x / 10)) (last x ∷ []), long f (x / 10)))

-- without leading zeros
pub decimal-first : (f x : ℕ) → x ≤ f → 0 < x → 48 < get_or (decimal_of f x) 0 0
unfolding decimal_of
decimal-first zero x h p = omega arith
decimal-first (suc f) x h p =
    cases (λ (ds : List ℕ). 48 < get_or ds 0 0) (ltb x 10) (λ l. omega arith)
    (λ l. let t = tenth f x h (ltb-false x 10 l) in
    rw (get_or-append (decimal_of f (x / 10)) (last x ∷ []) 0 0 (long f (x / 10))) (decimal-first f (x / 10) t.0 t.1))

-- ---- a text as a call
abbrev pub call_of : ℕ → Sections → List (List ℕ) → Call
call_of mode s names = record { mode = mode; words = encode s; names = name_bytes names; result_room = program_room; scratch_room = program_room }

module _ (limits : Limits) where
  -- "2 before 1" for the section as a whole: a count or a length over its limit is 2, whatever the byte values
  pub names_in_numbers-two : (count : ℕ) (xs : List ℕ) → counted_names limits count xs ≡ refuse 2 7 0 → names_in_numbers limits (count ∷ xs) ≡ refuse 2 7 0
  unfolding names_in_numbers
  names_in_numbers-two count xs e = ap (λ o. o >>= judge_bytes) e

  -- names in numbers, whole and of bytes, are the names of their bytes
  pub names_in_numbers-done : (xs : List ℕ) (names : List (List ℕ)) → names_in_numbers limits xs ≡ done names → names_of limits (name_bytes names) ≡ done names
  unfolding names_in_numbers
  names_in_numbers-done [] names e = never (refuse 1 7 0) _ names refl e
  names_in_numbers-done (count ∷ xs) names e =
      through (counted_names limits count xs) _ names e λ found c f.
      let same : found ≡ names = go found (all_name_bytes found) f in
      names_back limits names (counted_names_done limits count xs names (c ∙ ap done same)).2
    where
      go : (found : List (List ℕ)) (b : Bool) → elim b [ true ↦ done found | false ↦ refuse 1 7 0 ] ≡ done names → found ≡ names
      go found true f = same-done found names f
      go found false f = never (refuse 1 7 0) _ names refl f

  -- after the cuts the first refusal is the call's, and so is what is accepted
  pub after-is-call : (mode : ℕ) (xs : List ℕ) (s : Sections) (rest : List ℕ) (names : List (List ℕ)) → cut_six limits xs ≡ done (s, rest)
      → names_in_numbers limits rest ≡ done names → after_numbers limits (mode, xs) ≡ outcome limits impl (call_of mode s names)
  unfolding after_numbers outcome
  after-is-call mode xs s rest names c n =
      let w = encode-cut_six limits xs (s, rest) c in
      go (judge_mode mode) (cut-encode limits s w.1) (names_in_numbers-done rest names n)
    where
      go : (o : Out Mode) → cut limits (encode s) ≡ done s → names_of limits (name_bytes names) ≡ done names
          → (o >>= λ how. cut_six limits xs >>= λ p. names_in_numbers limits p.1 >>= λ ns. judge_cut impl how p.0 ns program_room program_room)
          ≡ (o >>= λ how. cut limits (encode s) >>= λ t. names_of limits (name_bytes names) >>= λ ns. judge_cut impl how t ns program_room program_room)
      go (refused r) k m = refl
      go (done how) k m =
          bind_done (cut_six limits xs) _ (s, rest) c ∙ bind_done (names_in_numbers limits rest) _ names n
          ∙ sym (bind_done (cut limits (encode s)) _ s k ∙ bind_done (names_of limits (name_bytes names)) _ names m)

  -- the call's words are the numbers before the names
  pub text_words : (xs : List ℕ) (s : Sections) (rest : List ℕ) → cut_six limits xs ≡ done (s, rest) → encode s ≡ take (length xs - length rest) xs
  text_words xs s rest c =
      let w : encode s ++ rest ≡ xs = (encode-cut_six limits xs (s, rest) c).0 in
      let e : length (encode s) ≡ length xs - length rest = omega (arith, length-append (encode s) rest, ap length w) in
      sym (take_at (encode s) rest (length xs - length rest) e) ∙ ap (λ l. take (length xs - length rest) l) w

-- ---- the last place
-- the tokens of a text are judged one after the other
pub numbers-onto : (ts us : List (List ℕ)) (place : ℕ)
    → numbers_from place (ts ++ us) ≡ (numbers_from place ts >>= λ xs. numbers_from (place + length ts) us >>= λ ys. done (xs ++ ys))
unfolding numbers_from
numbers-onto [] us place = rw (add-zero place) (go (numbers_from place us))
  where
    go : (p : Out (List ℕ)) → p ≡ (p >>= λ ys. done ([] ++ ys))
    go (refused r) = refl
    go (done ys) = refl
numbers-onto (t ∷ ts) us place = first (judge_token place (number_of t)) (numbers-onto ts us (suc place))
  where
    behind : List ℕ → Out (List ℕ)
    behind xs = numbers_from (place + suc (length ts)) us >>= λ ys. done (xs ++ ys)

    third : (x : ℕ) (xs : List ℕ) (q : Out (List ℕ)) → ((q >>= λ ys. done (xs ++ ys)) >>= λ zs. done (x ∷ zs)) ≡ (q >>= λ ys. done ((x ∷ xs) ++ ys))
    third x xs (refused r) = refl
    third x xs (done ys) = refl

    second : (x : ℕ) (p : Out (List ℕ)) → ((p >>= behind) >>= λ zs. done (x ∷ zs)) ≡ ((p >>= λ xs. done (x ∷ xs)) >>= behind)
    second x (refused r) = refl
    second x (done xs) = third x xs (numbers_from (place + suc (length ts)) us)

    first : (o : Out ℕ) → numbers_from (suc place) (ts ++ us) ≡ (numbers_from (suc place) ts >>= λ xs. numbers_from (suc place + length ts) us >>= λ ys. done (xs ++ ys))
        → (o >>= λ x. numbers_from (suc place) (ts ++ us) >>= λ xs. done (x ∷ xs))
        ≡ ((o >>= λ x. numbers_from (suc place) ts >>= λ xs. done (x ∷ xs)) >>= behind)
    first (refused r) e = refl
    first (done x) e =
        let n : suc place + length ts ≡ place + suc (length ts) = omega arith in
        ap (λ p. p >>= λ zs. done (x ∷ zs)) (e ∙ ap (λ m. numbers_from (suc place) ts >>= λ xs. numbers_from m us >>= λ ys. done (xs ++ ys)) n)
        ∙ second x (numbers_from (suc place) ts)

past-last : (place : ℕ) (o : Option ℕ) → most_numbers ≤ place → judge_token place o ≡ refuse 2 0 most_numbers
unfolding judge_token
past-last place o h = rw (le-leb most_numbers place h, judge_token)

-- after 4,096 numbers anything is refused, number or not
pub too_many : (ts : List (List ℕ)) (xs : List ℕ) (u : List ℕ) (us : List (List ℕ)) → numbers_from 0 ts ≡ done xs → length ts ≡ most_numbers
    → numbers_from 0 (ts ++ (u ∷ us)) ≡ refuse 2 0 most_numbers
unfolding numbers_from
too_many ts xs u us e n =
    numbers-onto ts (u ∷ us) 0 ∙ bind_done (numbers_from 0 ts) _ xs e
    ∙ ap (λ o. (o >>= λ x. numbers_from (suc (0 + length ts)) us >>= λ zs. done (x ∷ zs)) >>= λ ys. done (xs ++ ys)) (past-last (0 + length ts) (number_of u) (omega arith))

token-place : (place : ℕ) (o : Option ℕ) (x : ℕ) → judge_token place o ≡ done x → place < most_numbers
token-place place o x e = go (leb most_numbers place) refl
  where
    go : (b : Bool) → leb most_numbers place ≡ b → place < most_numbers
    go true h = never (judge_token place o) _ x (past-last place o (leb-true most_numbers place h)) e
    go false h = leb-false most_numbers place h

-- what is read has one number for each token, and no more than there may be
pub numbers-bound : (ts : List (List ℕ)) (place : ℕ) (xs : List ℕ) → place ≤ most_numbers → numbers_from place ts ≡ done xs → (length xs ≡ length ts) × (place + length ts ≤ most_numbers)
unfolding numbers_from
numbers-bound [] place xs h e = (ap length (sym (same-done [] xs e)), omega arith)
numbers-bound (t ∷ ts) place xs h e =
    through (judge_token place (number_of t)) _ xs e λ x j f.
    through (numbers_from (suc place) ts) _ xs f λ ys g k.
    let l : place < most_numbers = token-place place (number_of t) x j in
    let r = numbers-bound ts (suc place) ys l g in
    (ap length (sym (same-done (x ∷ ys) xs k)) ∙ ap suc r.0, omega (arith, r.1))
