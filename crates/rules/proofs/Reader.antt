-- The streaming reader reads what the plain definition says: numbers out of tokens out of the whole text.
-- By recursion over the bytes, with the token that has begun as bytes on one side and as a state on the other.
--     feed_append        chunks may be fed one after the other
--     reader-is          at the end of the bytes the reader has the definition's numbers, or its refusal
-- Assumes nothing.
use Prim.Native.Nat.{ℕ, suc, ◌+◌, ◌-◌, ◌*◌, ◌^◌, ◌≤◌}
use mathlib.Core.Path.{◌≡◌, refl, sym, ap, ap₂, ◌∙◌}
use mathlib.Core.Bool.{Bool, true, false, ◌&&◌}
use mathlib.Core.Option.{Option, none, some}
use mathlib.Core.List.{List, [], ◌∷◌, ◌++◌, append-nil}
use native.Mathlib.Omega.{arith}
use lib.ListN.{length, length-append}
use lib.Seq.{append_snoc}
use lib.Dec.{ltb}
use borrow.Author.Tests.{ltb-false, le-ltb}
use Rattle.rules.specs.Refusal.{Out, refused, done, ◌>>=◌}
use Rattle.rules.specs.Text.{separates, ended, tokens_after, tokens, is_digit, all_digits, decimal_from, number_of, judge_token, numbers_from, with_mode, numbers}
use Rattle.rules.specs.Reader.{Token, between, within, junk, Reader, fresh, digit_after, grown, put, closed, step, feed, read_out}

pub feed_append : (r : Reader) (xs ys : List ℕ) → feed r (xs ++ ys) ≡ feed (feed r xs) ys
unfolding feed
feed_append r [] ys = refl
feed_append r (x ∷ xs) ys = feed_append (step r x) xs ys

-- ---- a token as a state
abbrev state_of : Option ℕ → Token
state_of none = junk
state_of (some x) = within x

abbrev token_of : List ℕ → Token
token_of [] = between
token_of (b ∷ bs) = state_of (number_of (b ∷ bs))

-- digits or not, and the number that they come to
abbrev tested : Bool → ℕ → Token
tested digits x = elim (digits && ltb x (2 ^ 64)) [ true ↦ within x | false ↦ junk ]

state-tested : (t : List ℕ) → state_of (number_of t) ≡ tested (all_digits t) (decimal_from 0 t)
unfolding number_of
state-tested t = go (all_digits t && ltb (decimal_from 0 t) (2 ^ 64))
  where
    go : (b : Bool) → state_of (elim b [ true ↦ some (decimal_from 0 t) | false ↦ none ]) ≡ elim b [ true ↦ within (decimal_from 0 t) | false ↦ junk ]
    go true = refl
    go false = refl

pub digits_snoc : (t : List ℕ) (b : ℕ) → all_digits (t ++ (b ∷ [])) ≡ (all_digits t && is_digit b)
unfolding all_digits
digits_snoc [] b = and-true (is_digit b)
  where
    and-true : (x : Bool) → (x && true) ≡ x
    and-true true = refl
    and-true false = refl
digits_snoc (c ∷ t) b = go (is_digit c) (digits_snoc t b)
  where
    go : (x : Bool) → all_digits (t ++ (b ∷ [])) ≡ (all_digits t && is_digit b) → (x && all_digits (t ++ (b ∷ []))) ≡ ((x && all_digits t) && is_digit b)
    go true e = e
    go false e = refl

pub decimal_snoc : (t : List ℕ) (x b : ℕ) → decimal_from x (t ++ (b ∷ [])) ≡ decimal_from x t * 10 + (b - 48)
unfolding decimal_from
decimal_snoc [] x b = refl
decimal_snoc (c ∷ t) x b = decimal_snoc t (x * 10 + (c - 48)) b

-- one byte more
digit_tested : (x b : ℕ) → digit_after x b ≡ tested (is_digit b) (x * 10 + (b - 48))
unfolding digit_after
digit_tested x b = go (is_digit b)
  where
    go : (d : Bool) → elim d [ true ↦ elim (ltb (x * 10 + (b - 48)) (2 ^ 64)) [ true ↦ within (x * 10 + (b - 48)) | false ↦ junk ] | false ↦ junk ] ≡ tested d (x * 10 + (b - 48))
    go true = refl
    go false = refl

grown-tested : (digits : Bool) (x b : ℕ) → grown (tested digits x) b ≡ tested (digits && is_digit b) (x * 10 + (b - 48))
grown-tested false x b = refl
grown-tested true x b = go (ltb x (2 ^ 64)) refl
  where
    large : (d : Bool) → 2 ^ 64 ≤ x → junk ≡ tested d (x * 10 + (b - 48))
    large false h = refl
    large true h = rw (le-ltb (x * 10 + (b - 48)) (2 ^ 64) (omega arith), tested)

    go : (l : Bool) → ltb x (2 ^ 64) ≡ l → grown (elim l [ true ↦ within x | false ↦ junk ]) b ≡ tested (is_digit b) (x * 10 + (b - 48))
    go true h = digit_tested x b
    go false h = large (is_digit b) (ltb-false x (2 ^ 64) h)

grown_snoc : (t : List ℕ) (b : ℕ) → grown (token_of t) b ≡ token_of (t ++ (b ∷ []))
unfolding decimal_from all_digits
grown_snoc [] b = digit_tested 0 b ∙ ap (λ d. tested d (0 * 10 + (b - 48))) (sym (digits_snoc [] b)) ∙ sym (state-tested (b ∷ []))
grown_snoc (c ∷ t) b =
    ap (λ k. grown k b) (state-tested (c ∷ t)) ∙ grown-tested (all_digits (c ∷ t)) (decimal_from 0 (c ∷ t)) b
    ∙ ap₂ tested (sym (digits_snoc (c ∷ t) b)) (sym (decimal_snoc (c ∷ t) 0 b)) ∙ sym (state-tested ((c ∷ t) ++ (b ∷ [])))

-- ---- the numbers, put behind those that are there
abbrev onto : List (List ℕ) → List ℕ → Out (List ℕ)
onto ts xs = numbers_from (length xs) ts >>= λ ys. done (xs ++ ys)

closed-state : (o : Option ℕ) (xs : List ℕ) → closed (state_of o) (done xs) ≡ put o xs
closed-state none xs = refl
closed-state (some x) xs = refl

put-onto : (xs : List ℕ) (ts : List (List ℕ)) (o : Out ℕ)
    → ((o >>= λ y. done (xs ++ (y ∷ []))) >>= onto ts) ≡ ((o >>= λ y. numbers_from (suc (length xs)) ts >>= λ ys. done (y ∷ ys)) >>= λ ys. done (xs ++ ys))
put-onto xs ts (refused r) = refl
put-onto xs ts (done y) =
    let e : length (xs ++ (y ∷ [])) ≡ suc (length xs) = omega (arith, length-append xs (y ∷ [])) in
    ap (λ n. numbers_from n ts >>= λ ys. done ((xs ++ (y ∷ [])) ++ ys)) e ∙ go (numbers_from (suc (length xs)) ts)
  where
    go : (p : Out (List ℕ)) → (p >>= λ ys. done ((xs ++ (y ∷ [])) ++ ys)) ≡ ((p >>= λ ys. done (y ∷ ys)) >>= λ ys. done (xs ++ ys))
    go (refused r) = refl
    go (done ys) = ap done (append_snoc xs y ys)

close_then : (t : List ℕ) (read : Out (List ℕ)) (ts : List (List ℕ)) → (closed (token_of t) read >>= onto ts) ≡ (read >>= onto (ended t ts))
unfolding numbers_from
close_then [] read ts = refl
close_then (c ∷ t) (refused r) ts = go (number_of (c ∷ t))
  where
    go : (o : Option ℕ) → (closed (state_of o) (refused r) >>= onto ts) ≡ refused r
    go none = refl
    go (some x) = refl
close_then (c ∷ t) (done xs) ts =
    ap (λ p. p >>= onto ts) (closed-state (number_of (c ∷ t)) xs) ∙ put-onto xs ts (judge_token (length xs) (number_of (c ∷ t)))

onto-none : (p : Out (List ℕ)) → p ≡ (p >>= onto [])
unfolding numbers_from
onto-none (refused r) = refl
onto-none (done xs) = ap done (sym (append-nil xs))

-- ---- a byte more
module _ (read : Out (List ℕ)) (k : Token) (b : ℕ) where
  step-ends : separates b ≡ true → step (record { read = read; token = k }) b ≡ record { read = closed k read; token = between }
  unfolding step
  step-ends e = rw (e, step)

  step_grows : separates b ≡ false → step (record { read = read; token = k }) b ≡ record { read = read; token = grown k b }
  unfolding step
  step_grows e = rw (e, step)

-- what a reader has at the end
abbrev got : Reader → Out (List ℕ)
got r = closed r.token r.read

fed : (bs t : List ℕ) (read : Out (List ℕ)) → got (feed (record { read = read; token = token_of t }) bs) ≡ (read >>= onto (tokens_after t bs))
unfolding feed tokens_after
fed [] t read = onto-none (closed (token_of t) read) ∙ close_then t read []
fed (b ∷ bs) t read = go (separates b) refl (fed bs [] (closed (token_of t) read)) (fed bs (t ++ (b ∷ [])) read)
  where
    go : (s : Bool) → separates b ≡ s → got (feed (record { read = closed (token_of t) read; token = between }) bs) ≡ (closed (token_of t) read >>= onto (tokens_after [] bs))
        → got (feed (record { read = read; token = token_of (t ++ (b ∷ [])) }) bs) ≡ (read >>= onto (tokens_after (t ++ (b ∷ [])) bs))
        → got (feed (step (record { read = read; token = token_of t }) b) bs)
        ≡ (read >>= onto (elim s [ true ↦ ended t (tokens_after [] bs) | false ↦ tokens_after (t ++ (b ∷ [])) bs ]))
    go true e f g = ap (λ r. got (feed r bs)) (step-ends read (token_of t) b e) ∙ f ∙ close_then t read (tokens_after [] bs)
    go false e f g =
        ap (λ r. got (feed r bs)) (step_grows read (token_of t) b e) ∙ ap (λ k. got (feed (record { read = read; token = k }) bs)) (grown_snoc t b) ∙ g

pub reader-is : (bytes : List ℕ) → read_out (feed fresh bytes) ≡ numbers bytes
unfolding numbers
reader-is bytes = ap (λ o. o >>= with_mode) (fed bytes [] (done []) ∙ same (numbers_from 0 (tokens bytes)))
  where
    same : (p : Out (List ℕ)) → (p >>= λ ys. done ([] ++ ys)) ≡ p
    same (refused r) = refl
    same (done ys) = refl
