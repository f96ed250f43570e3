-- Splitting, one case each: the lengths of the names, and their bytes.
-- By the rules' laws of one name at a place; a name's values are the numbers after its length.
--     lengths_*          a loop over the lengths of the names
--     value_put          the names bytes, as they are written one after the other
--     after_*            the names after their count
--     part_*             the numbers from one place to another
-- Assumes nothing.
use Prim.Native.Nat.{ℕ, zero, suc, min, ◌+◌, ◌-◌, ◌<◌, ◌≤◌}
use mathlib.Core.Path.{◌≡◌, refl, sym, ap, ap₂, ◌∙◌}
use mathlib.Core.Logic.{◌⊎◌, inl, inr}
use mathlib.Core.Bool.{Bool, true, false, ◌&&◌}
use mathlib.Core.Option.{none, some}
use mathlib.Core.List.{List, [], ◌∷◌, ◌++◌}
use native.Mathlib.Omega.{arith}
use native.Mathlib.Numerals.{add-one}
use lib.ListN.{length, get_or, take, drop, set, length-drop}
use lib.Seq.{take-suc, take_at, length-take-le}
use Rattle.text.proofs.Front.{set_next}
use Rattle.std.proofs.lemmas.List.{length-take, take_min}
use lib.Dec.{ltb}
use borrow.Author.Tests.{ltb-true, lt-ltb}
use Rattle.rules.specs.Refusal.{Refusal, Out, refused, done, refuse, ◌>>=◌}
use Rattle.rules.specs.Lists.{All}
use Rattle.rules.specs.Limits.{house}
use Rattle.rules.specs.Names.{counted_names, name_bytes, sized_names}
use Rattle.rules.specs.Text.{all_bytes, all_name_bytes, judge_bytes, names_in_numbers}
use Rattle.rules.proofs.Names.{names-over, names-within, counted_names_done}
use Rattle.rules.proofs.NameWalk as walk
use Rattle.rules.proofs.NameWalk.{fault, fault_from}
use Rattle.rules.proofs.Base.{and_both}
use Rattle.text.specs.Front.{on_front}
use Rattle.text.specs.Splitting.{cut_all, counted, bytes_in}

-- ---- the lengths of the names: so many are left, from a place on
fault-none : {A : Type 0} (o : Out A) → fault o ≡ none → (x : A) × (o ≡ done x)
fault-none (done x) e = (x, refl)
fault-none (refused r) e = let z : ◌≡◌ {A = ℕ} 0 1 = cc in let o : ⊥ = omega arith in absurd o

fault-some : {A : Type 0} (o : Out A) (r : Refusal) → fault o ≡ some r → o ≡ refused r
fault-some (done x) r e = let z : ◌≡◌ {A = ℕ} 0 1 = cc in let o : ⊥ = omega arith in absurd o
fault-some (refused q) r e = cc

pub lengths_none : (xs : List ℕ) (count : ℕ) → fault_from house xs (count - 0) 0 ≡ fault (cut_all house count xs)
unfolding fault_from
lengths_none xs count = ap (λ n. fault (cut_all house n xs)) (omega arith)

module _ (xs rest : List ℕ) (count left : ℕ) (same : fault_from house rest left 0 ≡ fault (cut_all house count xs)) where
  pub lengths_end : left ≤ 0 → length rest ≤ 0 → (x : List (List ℕ)) × (cut_all house count xs ≡ done x)
  lengths_end h l =
      let e : left ≡ 0 = omega arith in
      fault-none (cut_all house count xs) (sym same ∙ ap (λ n. fault_from house rest n 0) e ∙ walk.end_at house rest 0 l)

  pub lengths_left : left ≤ 0 → 0 < length rest → cut_all house count xs ≡ refuse 1 7 0
  lengths_left h l =
      let e : left ≡ 0 = omega arith in
      fault-some (cut_all house count xs) _ (sym same ∙ ap (λ n. fault_from house rest n 0) e ∙ walk.left_at house rest 0 l)

  module _ (more : 0 < left) where
    one : left ≡ suc (left - 1)
    one = omega arith

    pub lengths_missing : length rest ≤ 0 → cut_all house count xs ≡ refuse 1 7 0
    lengths_missing l = fault-some (cut_all house count xs) _ (sym same ∙ ap (λ n. fault_from house rest n 0) one ∙ walk.missing_at house rest (left - 1) 0 l)

    -- the next name's length, and what follows it
    module _ (size : ℕ) (after : List ℕ) (is : rest ≡ size ∷ after) where
      inside : 0 < length rest
      inside = omega (arith, ap length is)

      first : get_or rest 0 0 ≡ size
      first = ap (λ l. get_or l 0 0) is

      pub lengths_over : 64 < size → cut_all house count xs ≡ refuse 2 7 0
      lengths_over h =
          fault-some (cut_all house count xs) _ (sym same ∙ ap (λ n. fault_from house rest n 0) one ∙ walk.over-at house rest (left - 1) 0 inside (omega (arith, first)))

      pub lengths_short : size ≤ 64 → length after < size → cut_all house count xs ≡ refuse 1 7 0
      lengths_short h l =
          fault-some (cut_all house count xs) _
          (sym same ∙ ap (λ n. fault_from house rest n 0) one ∙ walk.short-at house rest (left - 1) 0 inside (omega (arith, first)) (omega (arith, first, ap length is)))

      pub lengths_next : (back : List ℕ) (others : ℕ) → back ≡ drop size after → others ≡ left - 1 → size ≤ 64 → size ≤ length after
          → fault_from house back others 0 ≡ fault (cut_all house count xs)
      unfolding fault_from
      lengths_next back others e f h l =
          let place : 0 + 1 + get_or rest 0 0 ≡ suc size = omega (arith, first) in
          let next : drop (0 + 1 + get_or rest 0 0) rest ≡ back = ap₂ drop place is ∙ sym e in
          ap₂ (λ n l. fault (cut_all house n l)) f (sym next)
          ∙ sym (walk.whole-at house rest (left - 1) 0 inside (omega (arith, first)) (omega (arith, first, ap length is)))
          ∙ ap (λ n. fault_from house rest n 0) (sym one) ∙ same

pub ruleset lengths_judged = (lengths_none, lengths_end, lengths_left, lengths_missing)

-- ---- byte values
-- each of them is a byte
pub byte_at : (xs : List ℕ) (i : ℕ) → all_bytes xs ≡ true → i < length xs → get_or xs i 0 < 256
unfolding all_bytes
byte_at [] i e h = let o : ⊥ = omega arith in absurd o
byte_at (x ∷ xs) zero e h = ltb-true x 256 (and_both (ltb x 256) (all_bytes xs) e).0
byte_at (x ∷ xs) (suc i) e h = byte_at xs i (and_both (ltb x 256) (all_bytes xs) e).1 (omega arith)

-- ---- the names bytes, of which i values are written
pub value_put : (out entry values : List ℕ) (count i : ℕ) → out ≡ on_front (done (counted count (take i values))) entry → i < length values → i + 2 < length entry
    → set out (i + 2) (get_or values i 0) ≡ on_front (done (counted count (take (i + 1) values))) entry
value_put out entry values count i e h l =
    ap (λ o. set o (i + 2) (get_or values i 0)) e ∙ set_next (counted count (take i values)) entry (i + 2) (get_or values i 0) (omega (arith, length-take-le i values (omega arith))) l
    ∙ ap (λ o. on_front (done (counted count o)) entry) (sym (take-suc values i 0 h) ∙ ap (λ n. take n values) (sym (add-one i)))

-- so many bytes of them
pub counted_front : (count : ℕ) (values entry : List ℕ) → take (length values + 2) (on_front (done (counted count values)) entry) ≡ counted count values
counted_front count values entry =
    let n : length (counted count values) ≡ length values + 2 = omega arith in
    take_at (counted count values) (drop (length (counted count values)) entry) (length values + 2) n

-- ---- the names after their count
bytes_append : (xs ys : List ℕ) → all_bytes (xs ++ ys) ≡ (all_bytes xs && all_bytes ys)
unfolding all_bytes
bytes_append [] ys = refl
bytes_append (x ∷ xs) ys = go (ltb x 256) (bytes_append xs ys)
  where
    go : (b : Bool) → all_bytes (xs ++ ys) ≡ (all_bytes xs && all_bytes ys) → (b && all_bytes (xs ++ ys)) ≡ ((b && all_bytes xs) && all_bytes ys)
    go true e = e
    go false e = refl

-- a length is a byte, so the values are bytes where the names are
sized-bytes : (names : List (List ℕ)) → All (λ name. length name ≤ 64) names → all_bytes (sized_names names) ≡ all_name_bytes names
unfolding all_bytes all_name_bytes sized_names
sized-bytes [] h = refl
sized-bytes (name ∷ names) h =
    bytes_append (length name ∷ name) (sized_names names)
    ∙ ap₂ (λ a b. (a && all_bytes name) && b) (lt-ltb (length name) 256 (omega (arith, h.0))) (sized-bytes names h.1)

module _ (count : ℕ) (values : List ℕ) where
  pub after_over : 4096 < count → bytes_in house (count ∷ values) ≡ refuse 2 7 0
  unfolding names_in_numbers
  after_over h = ap (λ o. o >>= judge_bytes >>= λ names. done (name_bytes names)) (names-over house count values h)

  module _ (within : count ≤ 4096) where
    pub after_refused : (r : Refusal) → cut_all house count values ≡ refused r → bytes_in house (count ∷ values) ≡ refused r
    unfolding names_in_numbers
    after_refused r e = ap (λ o. o >>= judge_bytes >>= λ names. done (name_bytes names)) (names-within house count values within ∙ e)

    module _ (names : List (List ℕ)) (whole : cut_all house count values ≡ done names) where
      found : counted_names house count values ≡ done names
      found = names-within house count values within ∙ whole

      judged : (b : Bool) → all_bytes values ≡ b → all_name_bytes names ≡ b
      judged b e =
          let d = counted_names_done house count values names found in
          sym (sized-bytes names d.2.sizes) ∙ ap all_bytes d.0 ∙ e

      pub after_value : false ≡ all_bytes values → bytes_in house (count ∷ values) ≡ refuse 1 7 0
      unfolding names_in_numbers
      after_value e = ap (λ o. o >>= judge_bytes >>= λ names. done (name_bytes names)) found ∙ rw (judged false (sym e), judge_bytes)

      pub after_whole : true ≡ all_bytes values → bytes_in house (count ∷ values) ≡ done (counted count values)
      unfolding names_in_numbers
      after_whole e =
          let d = counted_names_done house count values names found in
          ap (λ o. o >>= judge_bytes >>= λ names. done (name_bytes names)) found ∙ rw (judged true (sym e), judge_bytes)
          (ap₂ (λ n l. done (counted n l)) d.1 d.0)

pub ruleset after_the_count = (after_over, after_refused, after_value, after_whole, counted_front)

-- ---- the names in numbers
pub in-none : (xs : List ℕ) → length xs ≡ 0 → bytes_in house xs ≡ refuse 1 7 0
unfolding names_in_numbers
in-none [] h = refl
in-none (x ∷ xs) h = let o : ⊥ = omega arith in absurd o

-- ---- the numbers from one place to another, or to the end where the second place is past it
module _ (xs : List ℕ) (from to end : ℕ) (e : end ≡ min to 4096) (size : length xs ≡ 4096) where
  pub part_none : (end < from) ⊎ (length xs < end) → bytes_in house (take (to - from) (drop from xs)) ≡ refuse 1 7 0
  part_none (inl h) = in-none (take (to - from) (drop from xs)) (omega (arith, length-take (to - from) (drop from xs), length-drop from xs))
  part_none (inr h) = let o : ⊥ = omega arith in absurd o

  pub part_some : take (end - from) (drop from xs) ≡ take (to - from) (drop from xs)
  part_some =
      let n : end - from ≡ min (to - from) (length (drop from xs)) = omega (arith, length-drop from xs) in
      ap (λ n. take n (drop from xs)) n ∙ take_min (to - from) (drop from xs)
