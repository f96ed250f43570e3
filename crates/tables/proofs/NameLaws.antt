-- Laws of the names bytes, between the code's answers and the rules' definitions.
-- By the tests of one name, which is one step of cutting the names; the walk to name k by the rules' own laws.
--     read_cuts          one name read is one step of cutting
--     count-.., judged-..   how many names, one name after the other
--     place-.., name-inside   where name k stands, and that it lies within the bytes
--     prefix_is          a prefix as the library has it
--     dump-place, marked-..   "memory-dump", for one name and for all
--     accepted-..        the answers on bytes that are not refused, in the rules' names
-- Assumes nothing.
use Prim.Native.Nat.{ℕ, zero, suc, ◌+◌, ◌-◌, ◌*◌, ◌<◌, ◌≤◌}
use mathlib.Core.Path.{◌≡◌, refl, sym, ap, ap₂, ◌∙◌}
use mathlib.Core.Bool.{Bool, true, false, ◌&&◌}
use mathlib.Core.Option.{Option, none, some}
use mathlib.Core.List.{List, [], ◌∷◌, ◌++◌}
use native.Mathlib.Omega.{arith}
use native.Mathlib.Numerals.{add-one}
use lib.ListN.{length, get_or, take, drop, length-append, length-drop, drop_of_length-le, get_or-append}
use lib.Seq.{drop-cons, drop-drop}
use lib.Dec.{ltb, eqb}
use borrow.Author.Tests.{ltb-true, ltb-false}
use Rattle.std.proofs.lemmas.Bool.Decides.{nat_tests}
use Rattle.std.proofs.lemmas.List.{get_or-append_right}
use Rattle.btor.specs.Operators.{bit}
use Rattle.rules.specs.Refusal.{Refusal, Out, refused, done, refuse, ◌>>=◌}
use Rattle.rules.specs.Limits.{Limits}
use Rattle.rules.specs.Sections.{none_left}
use Rattle.rules.specs.Names.{cut_names, names_of, name_of, length_place, name_start, name_size, sized_names, starts_with, memory_dump, dump}
use Rattle.rules.specs.Label.{at, named}
use Rattle.rules.proofs.Label.{named_in, named_past}
use Rattle.rules.proofs.Sections.{never, same-done}
use Rattle.rules.proofs.Names.{size_here, after_here, name-over, name-short, name-whole, name_missing, names-over, names-within, names_done, name-at}
use Rattle.std.specs.List as list
use Rattle.std.specs.List.{fold, range_with_len}
use Rattle.std.specs.Prelude.{nat_eq}
use Rattle.std.specs.Int.{from_bool}
use Rattle.tables.specs.NameAnswers.{counted, names_count, read_at, place_if, place_among, place_of, dump_among, is_dump, dump_mark}

-- a part of the bytes
abbrev pub part : List ℕ → ℕ → ℕ → List ℕ
part bs start len = take len (drop start bs)

-- ---- the names that are left, from a place on: so many in all, or the refusal
verdict : {A : Type 0} → ℕ → Out A → Out ℕ
verdict count (refused r) = refused r
verdict count (done x) = done count

abbrev judged_of : ℕ → Out (List (List ℕ) × List ℕ) → Out ℕ
judged_of count o = verdict count (o >>= λ p. none_left 7 p.0 p.1)

verdict-same : (o : Out (List (List ℕ))) (count : ℕ) → ((names : List (List ℕ)) → o ≡ done names → length names ≡ count) → counted o ≡ verdict count o
unfolding counted verdict
verdict-same (refused r) count h = refl
verdict-same (done names) count h = ap done (h names refl)

abbrev pub count_said : List ℕ → ℕ
count_said bs = get_or bs 0 0 + 256 * get_or bs 1 0

-- one name more does not change what follows it
verdict-left : (count : ℕ) (x y : List (List ℕ)) (rest : List ℕ) → verdict count (none_left 7 x rest) ≡ verdict count (none_left 7 y rest)
unfolding verdict
verdict-left count x y [] = refl
verdict-left count x y (b ∷ rest) = refl

judged-more : (count : ℕ) (name : List ℕ) (o : Out (List (List ℕ) × List ℕ)) → judged_of count (o >>= λ p. done (name ∷ p.0, p.1)) ≡ judged_of count o
unfolding verdict
judged-more count name (refused r) = refl
judged-more count name (done p) = verdict-left count (name ∷ p.0) p.0 p.1

-- ---- the walk from length byte to length byte
pub place_here : (bs : List ℕ) (at : ℕ) → length_place 0 bs at ≡ at
unfolding length_place
place_here bs at = refl

pub place-next : (k : ℕ) (bs : List ℕ) (at : ℕ) → 0 < k → length_place k bs at ≡ length_place (k - 1) bs (at + 1 + get_or bs at 0)
unfolding length_place
place-next zero bs at h = let o : ⊥ = omega arith in absurd o
place-next (suc k) bs at h = let p : suc k - 1 ≡ k = omega arith in rw p

-- so many steps from length byte to length byte, and how far they go at most
pub places_folded : (bs : List ℕ) (k i at : ℕ) → fold (λ at _. at + 1 + get_or bs at 0) at (range_with_len i k) ≡ length_place k bs at
unfolding length_place
places_folded bs zero i at = refl
places_folded bs (suc k) i at = places_folded bs k (i + 1) (at + 1 + get_or bs at 0)

pub places_summed : (k i n : ℕ) → fold (λ n x. n + 256) n (range_with_len i k) ≡ n + 256 * k
places_summed zero i n = omega arith
places_summed (suc k) i n = places_summed k (i + 1) (n + 256) ∙ omega arith

-- a test as a number, as the library has it
pub bit_is : (b : Bool) → from_bool b ≡ bit b
bit_is true = refl
bit_is false = refl

-- ---- a prefix, byte by byte, as the library has it
pub prefix_is : (name prefix : List ℕ) → list.starts_with nat_eq name prefix ≡ starts_with prefix name
unfolding starts_with
prefix_is name [] = refl
prefix_is [] (p ∷ prefix) = refl
prefix_is (b ∷ name) (p ∷ prefix) = ap₂ ◌&&◌ (same p b) (prefix_is name prefix)
  where
    same : (p b : ℕ) → eqb p b ≡ eqb b p
    same p b = grind (arith, nat_tests)

-- ---- where name k stands
counted-done : (o : Out (List (List ℕ))) (n : ℕ) → counted o ≡ done n → (names : List (List ℕ)) × ((o ≡ done names) × (length names ≡ n))
unfolding counted
counted-done (refused r) n e = never (refused r) r n refl e
counted-done (done names) n e = (names, (refl, same-done (length names) n e))

pub counted-refused : (o : Out (List (List ℕ))) (r : Refusal) → counted o ≡ refused r → o ≡ refused r
unfolding counted
counted-refused (refused q) r e = cc
counted-refused (done names) r e = never (refused r) r (length names) refl (sym e)

-- ---- a name of accepted bytes lies within them
room-here : (bs : List ℕ) (at : ℕ) (name more : List ℕ) → drop at bs ≡ length name ∷ name ++ more → at + 1 + get_or bs at 0 ≤ length bs
room-here bs at name more e = omega (arith, size_here bs at name more e, length-drop at bs, ap length e, length-append name more)

inside-walk : (names : List (List ℕ)) (bs : List ℕ) (at : ℕ) → drop at bs ≡ sized_names names → (k : ℕ) → k < length names
    → length_place k bs at + 1 + get_or bs (length_place k bs at) 0 ≤ length bs
unfolding sized_names length_place
inside-walk [] bs at e k h = let o : ⊥ = omega arith in absurd o
inside-walk (name ∷ names) bs at e zero h = room-here bs at name (sized_names names) e
inside-walk (name ∷ names) bs at e (suc k) h =
    inside-walk names bs (at + 1 + get_or bs at 0) (after_here bs at name (sized_names names) e) k (omega arith)

-- ---- "memory-dump"
abbrev or_empty : Option (List ℕ) → List ℕ
or_empty none = []
or_empty (some name) = name

name_of-named : (names : List (List ℕ)) (k : ℕ) → name_of names k ≡ or_empty (named names k)
unfolding at
name_of-named names zero = refl
name_of-named [] (suc k) = refl
name_of-named (name ∷ names) (suc zero) = refl
name_of-named (name ∷ names) (suc (suc k)) = name_of-named names (suc k)

unfoldable pub text_of : List ℕ → Option (ℕ × ℕ) → List ℕ
text_of bs none = []
text_of bs (some q) = part bs q.0 q.1

-- the place after name k
pub place_after : (k : ℕ) (bs : List ℕ) (at : ℕ) → length_place (suc k) bs at ≡ length_place k bs at + 1 + get_or bs (length_place k bs at) 0
unfolding length_place
place_after zero bs at = refl
place_after (suc k) bs at = place_after k bs (at + 1 + get_or bs at 0)

module _ (limits : Limits) where
  -- ---- one name, by its tests
  module _ (left : ℕ) (bs : List ℕ) (at : ℕ) where
    cut_missing : length bs ≤ at → cut_names limits (suc left) (drop at bs) ≡ refuse 1 7 0
    cut_missing h = ap (λ l. cut_names limits (suc left) l) (drop_of_length-le bs h) ∙ name_missing limits left

    module _ (inside : at < length bs) where
      here : cut_names limits (suc left) (drop at bs) ≡ cut_names limits (suc left) (get_or bs at 0 ∷ drop (suc at) bs)
      here = ap (λ l. cut_names limits (suc left) l) (drop-cons bs at 0 inside)

      cut-over : limits.name_length < get_or bs at 0 → cut_names limits (suc left) (drop at bs) ≡ refuse 2 7 0
      cut-over h = here ∙ name-over limits left (get_or bs at 0) (drop (suc at) bs) h

      cut_short : get_or bs at 0 ≤ limits.name_length → length bs < at + 1 + get_or bs at 0 → cut_names limits (suc left) (drop at bs) ≡ refuse 1 7 0
      cut_short h l = here ∙ name-short limits left (get_or bs at 0) (drop (suc at) bs) h (omega (arith, length-drop (suc at) bs))

      cut-whole : get_or bs at 0 ≤ limits.name_length → at + 1 + get_or bs at 0 ≤ length bs
          → cut_names limits (suc left) (drop at bs)
          ≡ (cut_names limits left (drop (at + 1 + get_or bs at 0) bs) >>= λ p. done (part bs (at + 1) (get_or bs at 0) ∷ p.0, p.1))
      cut-whole h l =
          here
          ∙ name-whole limits left (get_or bs at 0) (drop (suc at) bs) h (omega (arith, length-drop (suc at) bs))
          ∙ rw (← add-one at, drop-drop (get_or bs at 0) (at + 1) bs)

  module _ (bs : List ℕ) (at : ℕ) where
    cut_one : Out (List (List ℕ) × List ℕ) → Out (ℕ × ℕ)
    cut_one o = o >>= λ p. done (at + 1, get_or bs at 0)

    pub read_missing : length bs ≤ at → read_at limits bs at ≡ refuse 1 7 0
    unfolding read_at cut_one
    read_missing h = ap cut_one (cut_missing 0 bs at h)

    module _ (inside : at < length bs) where
      pub read_over : limits.name_length < get_or bs at 0 → read_at limits bs at ≡ refuse 2 7 0
      unfolding read_at cut_one
      read_over h = ap cut_one (cut-over 0 bs at inside h)

      pub read_short : get_or bs at 0 ≤ limits.name_length → length bs < at + 1 + get_or bs at 0 → read_at limits bs at ≡ refuse 1 7 0
      unfolding read_at cut_one
      read_short h l = ap cut_one (cut_short 0 bs at inside h l)

      pub read_whole : get_or bs at 0 ≤ limits.name_length → at + 1 + get_or bs at 0 ≤ length bs → read_at limits bs at ≡ done (at + 1, get_or bs at 0)
      unfolding read_at cut_one cut_names
      read_whole h l = ap cut_one (cut-whole 0 bs at inside h l)

  -- the four ways in which a name is read or not
  pub read_by : (P : Out (ℕ × ℕ) → Type 0) (bs : List ℕ) (at : ℕ)
      → (length bs ≤ at → P (refuse 1 7 0))
      → (at < length bs → limits.name_length < get_or bs at 0 → P (refuse 2 7 0))
      → (at < length bs → get_or bs at 0 ≤ limits.name_length → length bs < at + 1 + get_or bs at 0 → P (refuse 1 7 0))
      → (at < length bs → get_or bs at 0 ≤ limits.name_length → at + 1 + get_or bs at 0 ≤ length bs → P (done (at + 1, get_or bs at 0)))
      → P (read_at limits bs at)
  read_by P bs at missing over short whole = first (ltb at (length bs)) refl
    where
      third : at < length bs → get_or bs at 0 ≤ limits.name_length → (b : Bool) → ltb (length bs) (at + 1 + get_or bs at 0) ≡ b → P (read_at limits bs at)
      third i h true l = let m = ltb-true (length bs) (at + 1 + get_or bs at 0) l in rw (read_short bs at i h m) (short i h m)
      third i h false l = let m = ltb-false (length bs) (at + 1 + get_or bs at 0) l in rw (read_whole bs at i h m) (whole i h m)

      second : at < length bs → (b : Bool) → ltb limits.name_length (get_or bs at 0) ≡ b → P (read_at limits bs at)
      second i true h = let m = ltb-true limits.name_length (get_or bs at 0) h in rw (read_over bs at i m) (over i m)
      second i false h = third i (ltb-false limits.name_length (get_or bs at 0) h) (ltb (length bs) (at + 1 + get_or bs at 0)) refl

      first : (b : Bool) → ltb at (length bs) ≡ b → P (read_at limits bs at)
      first true i = second (ltb-true at (length bs) i) (ltb limits.name_length (get_or bs at 0)) refl
      first false i = let m = ltb-false at (length bs) i in rw (read_missing bs at m) (missing m)

  -- one name read is one step of cutting the names
  pub cut_step : ℕ → List ℕ → Out (ℕ × ℕ) → Out (List (List ℕ) × List ℕ)
  cut_step left bs (refused r) = refused r
  cut_step left bs (done q) = cut_names limits left (drop (q.0 + q.1) bs) >>= λ p. done (part bs q.0 q.1 ∷ p.0, p.1)

  pub read_cuts : (left : ℕ) (bs : List ℕ) (at : ℕ) → cut_names limits (suc left) (drop at bs) ≡ cut_step left bs (read_at limits bs at)
  unfolding cut_step
  read_cuts left bs at =
      read_by (λ o. cut_names limits (suc left) (drop at bs) ≡ cut_step left bs o) bs at (cut_missing left bs at) (cut-over left bs at) (cut_short left bs at) (cut-whole left bs at)

  pub judged : ℕ → ℕ → List ℕ → Out ℕ
  judged count left bs = judged_of count (cut_names limits left bs)

  -- the bytes as a whole, by their first two
  pub count_missing : (bs : List ℕ) → length bs < 2 → names_count limits bs ≡ refuse 1 7 0
  unfolding counted names_of
  count_missing [] h = refl
  count_missing (low ∷ []) h = refl
  count_missing (low ∷ high ∷ bs) h = let o : ⊥ = omega arith in absurd o

  pub count-over : (bs : List ℕ) → 2 ≤ length bs → limits.names < count_said bs → names_count limits bs ≡ refuse 2 7 0
  unfolding counted names_of
  count-over [] l h = let o : ⊥ = omega arith in absurd o
  count-over (low ∷ []) l h = let o : ⊥ = omega arith in absurd o
  count-over (low ∷ high ∷ bs) l h = ap counted (names-over limits (low + 256 * high) bs h)

  pub count-within : (bs : List ℕ) → 2 ≤ length bs → count_said bs ≤ limits.names → names_count limits bs ≡ judged (count_said bs) (count_said bs) (drop 2 bs)
  unfolding judged names_of
  count-within [] l h = let o : ⊥ = omega arith in absurd o
  count-within (low ∷ []) l h = let o : ⊥ = omega arith in absurd o
  count-within (low ∷ high ∷ bs) l h =
      let n : ℕ = low + 256 * high in
      verdict-same (names_of limits (low ∷ high ∷ bs)) n (λ names e. (names_done limits (low ∷ high ∷ bs) names e).1)
      ∙ ap (λ o. verdict n o) (names-within limits n bs h)

  -- no name is left to read
  pub judged_end : (count : ℕ) (bs : List ℕ) (at : ℕ) → length bs ≤ at → judged count 0 (drop at bs) ≡ done count
  unfolding judged cut_names verdict
  judged_end count bs at h = ap (λ l. judged count 0 l) (drop_of_length-le bs h)

  pub judged_leftover : (count : ℕ) (bs : List ℕ) (at : ℕ) → at < length bs → judged count 0 (drop at bs) ≡ refuse 1 7 0
  unfolding judged cut_names verdict
  judged_leftover count bs at h = ap (λ l. judged count 0 l) (drop-cons bs at 0 h)

  module _ (count left : ℕ) (bs : List ℕ) (at : ℕ) (some_left : 0 < left) where
    step : judged count left (drop at bs) ≡ judged_of count (cut_step (left - 1) bs (read_at limits bs at))
    unfolding judged
    step = let e : left ≡ suc (left - 1) = omega arith in ap (λ n. judged count n (drop at bs)) e ∙ ap (λ o. judged_of count o) (read_cuts (left - 1) bs at)

    pub judged-refused : (r : Refusal) → read_at limits bs at ≡ refused r → judged count left (drop at bs) ≡ refused r
    unfolding verdict cut_step
    judged-refused r e = step ∙ ap (λ a. judged_of count (cut_step (left - 1) bs a)) e

    pub judged-name : (start len : ℕ) → read_at limits bs at ≡ done (start, len) → judged count left (drop at bs) ≡ judged count (left - 1) (drop (start + len) bs)
    unfolding judged cut_step
    judged-name start len e =
        step ∙ ap (λ a. judged_of count (cut_step (left - 1) bs a)) e ∙ judged-more count (part bs start len) (cut_names limits (left - 1) (drop (start + len) bs))

  pub place-refused : (bs : List ℕ) (k : ℕ) (r : Refusal) → names_count limits bs ≡ refused r → place_of limits bs k ≡ none
  unfolding place_among
  place-refused bs k r e = ap (λ o. place_among bs k o) (counted-refused (names_of limits bs) r e)

  pub place_none : (bs : List ℕ) → place_of limits bs 0 ≡ none
  unfolding place_among
  place_none bs = go (names_of limits bs)
    where
      go : (o : Out (List (List ℕ))) → place_among bs 0 o ≡ none
      go (refused r) = refl
      go (done names) = refl

  module _ (bs : List ℕ) (n : ℕ) (e : names_count limits bs ≡ done n) where
    accepted : (names : List (List ℕ)) × ((names_of limits bs ≡ done names) × (length names ≡ n))
    accepted = counted-done (names_of limits bs) n e

    -- the count itself is there
    pub count_there : 2 ≤ length bs
    count_there = go (ltb (length bs) 2) refl
      where
        go : (b : Bool) → ltb (length bs) 2 ≡ b → 2 ≤ length bs
        go true h = never (names_count limits bs) _ n (count_missing bs (ltb-true (length bs) 2 h)) e
        go false h = ltb-false (length bs) 2 h

    pub count_limit : n ≤ limits.names
    count_limit = omega (arith, accepted.1.1, (names_done limits bs accepted.0 accepted.1.0).2.count)

    placed_as : (k : ℕ) (t : Option (List ℕ)) → named accepted.0 k ≡ t → place_of limits bs k ≡ place_if bs k t
    unfolding place_among
    placed_as k t h = ap (λ o. place_among bs k o) accepted.1.0 ∙ ap (λ t. place_if bs k t) h

    pub place-past : (k : ℕ) → n < k → place_of limits bs k ≡ none
    place-past k h = placed_as k none (named_past accepted.0 k (omega (arith, accepted.1.1)))

    pub place-within : (k : ℕ) → 0 < k → k ≤ n → place_of limits bs k ≡ some (name_start bs k, name_size bs k)
    place-within k l h = placed_as k _ (named_in accepted.0 k l (omega (arith, accepted.1.1)))

  pub name-inside : (bs : List ℕ) (names : List (List ℕ)) → names_of limits bs ≡ done names → (k : ℕ) → 0 < k → k ≤ length names
      → name_start bs k + name_size bs k ≤ length bs
  name-inside bs names e k p h = inside-walk names bs 2 (names_done limits bs names e).0 (k - 1) (omega arith)

  -- ---- name k by its place: the three ways in which it is found or not
  pub place-by : (P : Option (ℕ × ℕ) → Type 0) (bs : List ℕ) (k : ℕ)
      → ((r : Refusal) → names_of limits bs ≡ refused r → P none)
      → ((names : List (List ℕ)) → names_of limits bs ≡ done names → named names k ≡ none → P none)
      → ((names : List (List ℕ)) → names_of limits bs ≡ done names → name_start bs k + name_size bs k ≤ length bs
      → named names k ≡ some (part bs (name_start bs k) (name_size bs k)) → P (some (name_start bs k, name_size bs k)))
      → P (place_of limits bs k)
  unfolding place_among
  place-by P bs k unread nameless found = go (names_of limits bs) refl
    where
      within : (names : List (List ℕ)) → names_of limits bs ≡ done names → (k : ℕ) → k ≤ length names → 0 < k
          → (name_start bs k + name_size bs k ≤ length bs) × (named names k ≡ some (part bs (name_start bs k) (name_size bs k)))
      within names e k h l = (name-inside bs names e k l h, named_in names k l h ∙ ap some (name-at limits bs names e k l h))

      among : (names : List (List ℕ)) → names_of limits bs ≡ done names → (z p : Bool) → ltb 0 k ≡ z → ltb (length names) k ≡ p → P (place_if bs k (named names k))
      among names e false p z l =
          let k₀ : k ≡ 0 = omega (arith, ltb-false 0 k z) in let n : named names k ≡ none = ap (λ k. named names k) k₀ in rw n (nameless names e n)
      among names e true true z l = let n = named_past names k (ltb-true (length names) k l) in rw n (nameless names e n)
      among names e true false z l = let (i, n) = within names e k (ltb-false (length names) k l) (ltb-true 0 k z) in rw n (found names e i n)

      go : (o : Out (List (List ℕ))) → names_of limits bs ≡ o → P (place_among bs k o)
      go (refused r) e = unread r e
      go (done names) e = among names e (ltb 0 k) (ltb (length names) k) refl refl

  pub dump-place : (bs : List ℕ) (k : ℕ) → is_dump limits bs k ≡ starts_with memory_dump (text_of bs (place_of limits bs k))
  unfolding text_of dump_among starts_with
  dump-place bs k =
      place-by (λ p. is_dump limits bs k ≡ starts_with memory_dump (text_of bs p)) bs k
      (λ r e. ap (λ o. dump_among o k) e)
      (λ names e n. ap (λ o. dump_among o k) e ∙ ap (λ l. starts_with memory_dump l) (name_of-named names k ∙ ap or_empty n))
      (λ names e l n. ap (λ o. dump_among o k) e ∙ ap (λ l. starts_with memory_dump l) (name_of-named names k ∙ ap or_empty n))

  -- ---- the marks of the names
  pub marks-refused : (bs : List ℕ) (r : Refusal) → names_count limits bs ≡ refused r → (k : ℕ) → dump_mark limits bs k ≡ 0
  unfolding dump_among
  marks-refused bs r e k = ap (λ o. bit (dump_among o k)) (counted-refused (names_of limits bs) r e)

  module _ (bs : List ℕ) (n : ℕ) (e : names_count limits bs ≡ done n) where
    mark_none : (k : ℕ) → place_of limits bs k ≡ none → dump_mark limits bs k ≡ 0
    unfolding text_of starts_with
    mark_none k p = ap bit (dump-place bs k ∙ ap (λ p. starts_with memory_dump (text_of bs p)) p)

    pub mark_name : (k : ℕ) → 0 < k → k ≤ n → dump_mark limits bs k ≡ bit (starts_with memory_dump (part bs (name_start bs k) (name_size bs k)))
    unfolding text_of
    mark_name k l h = ap bit (dump-place bs k ∙ ap (λ p. starts_with memory_dump (text_of bs p)) (place-within bs n e k l h))

    -- no mark for no name, then those of the names, then marks that are not set
    pub marked : (marks rest : List ℕ) → length marks ≡ n → ((k : ℕ) → k < n → get_or marks k 0 ≡ dump_mark limits bs (k + 1)) → ((k : ℕ) → get_or rest k 0 ≡ 0)
        → (k : ℕ) → get_or (0 ∷ marks ++ rest) k 0 ≡ dump_mark limits bs k
    marked marks rest l m z zero = sym (mark_none 0 (place_none bs))
    marked marks rest l m z (suc k) = go (ltb k n) refl
      where
        go : (b : Bool) → ltb k n ≡ b → get_or (marks ++ rest) k 0 ≡ dump_mark limits bs (suc k)
        go true h =
            let i : k < n = ltb-true k n h in
            get_or-append marks rest 0 k (omega (arith, l, i)) ∙ m k i ∙ ap (λ (j : ℕ). dump_mark limits bs j) (add-one k)
        go false h =
            let i : n ≤ k = ltb-false k n h in
            get_or-append_right marks rest n k 0 l i ∙ z (k - n) ∙ sym (mark_none (suc k) (place-past bs n e (suc k) (omega (arith, i))))

  pub counted_inside : (bs : List ℕ) (n : ℕ) → names_count limits bs ≡ done n → (k : ℕ) → 0 < k → k ≤ n → name_start bs k + name_size bs k ≤ length bs
  counted_inside bs n e k l h = let (names, (p, q)) = accepted bs n e in name-inside bs names p k l (omega (arith, q))

  -- ---- what the answers say of bytes that are accepted
  module _ (bs : List ℕ) (names : List (List ℕ)) (e : names_of limits bs ≡ done names) where
    pub accepted_count : names_count limits bs ≡ done (length names)
    unfolding counted
    accepted_count = ap counted e

    pub accepted_place : (k : ℕ) → 0 < k → k ≤ length names
        → (place_of limits bs k ≡ some (name_start bs k, name_size bs k)) × (part bs (name_start bs k) (name_size bs k) ≡ name_of names k)
    accepted_place k l h = (place-within bs (length names) accepted_count k l h, sym (name-at limits bs names e k l h))

    pub accepted_dump : (k : ℕ) → is_dump limits bs k ≡ dump names k
    unfolding dump_among
    accepted_dump k = ap (λ o. dump_among o k) e

    pub accepted_mark : (k : ℕ) → dump_mark limits bs k ≡ bit (dump names k)
    accepted_mark k = ap bit (accepted_dump k)

-- what reading one name is proved by
pub ruleset one_name = (read_missing, read_over, read_short, read_whole)
