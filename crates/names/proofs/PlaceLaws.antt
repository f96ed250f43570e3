-- Laws of one name at a place, between the code's answers and the rules' cutting.
-- A name stands at a place where its length byte and its bytes do; every answer there is read off that. Name k by its place.
--     Stands, standing   a name and what follows it, at a place where one is read
--     next-.., name-.., after-..   what is read, handed back and passed, by how one name is read
--     begun, name_begins   name k's length byte stands before it, and the name read there is name k
-- Assumes nothing.
use Prim.Native.Nat.{ℕ, zero, suc, ◌+◌, ◌-◌, ◌<◌, ◌≤◌}
use mathlib.Core.Path.{◌≡◌, refl, sym, ap, ◌∙◌, subst}
use mathlib.Core.Option.{Option, none, some}
use mathlib.Core.List.{List, [], ◌∷◌, ◌++◌, append-nil}
use native.Mathlib.Omega.{arith}
use lib.ListN.{length, get_or, take, drop, length-append, length-drop}
use lib.Seq.{take-append_seam, drop-append_seam, length-take-le}
use borrow.Author.Tests.{le-ltb, lt-ltb}
use Rattle.rules.specs.Refusal.{Refusal, Out, refused, done, ◌>>=◌}
use Rattle.rules.specs.Lists.{All}
use Rattle.rules.specs.Limits.{house}
use Rattle.rules.specs.Names.{cut_names, names_of, name_of, name_start, name_size, length_place, sized_names}
use Rattle.rules.specs.Label.{at, named}
use Rattle.rules.proofs.Sections.{never, same-done, through}
use Rattle.rules.proofs.Names.{size_here, bytes_here, after_here as rest_here, name-whole, names_done, Named, cut_names_done}
use Rattle.tables.specs.NameAnswers.{read_of, read_at, place_of}
use Rattle.tables.proofs.NameLaws.{part, read_missing, read_whole, place-by}
use Rattle.std.specs.Prelude.{Result, Ok, Err}
use Rattle.tables.specs.LimitAnswers.{limits_is}
use Rattle.tables.specs.Refusals.{refusal_of}
use Rattle.tables.specs.declared.limits.Limits.{Limits}
use Rattle.tables.specs.declared.names.NameSpan.{NameSpan}
use Rattle.tables.specs.declared.refusal.Refusal as why
use Rattle.names.specs.Reading.{next_at, first_cut, name_at, past_read, after_at, begins_or, name_among, name_in}

-- ---- what stands at a place, by how one name is read there
module _ (bs : List ℕ) (at : ℕ) where
  pub next_end : length bs ≤ at → next_at bs at ≡ done none
  unfolding next_at
  next_end h = rw (le-ltb at (length bs) h, next_at)

  pub next_read : at < length bs → next_at bs at ≡ (read_at house bs at >>= λ q. done (some q))
  unfolding next_at
  next_read h = rw (lt-ltb at (length bs) h, next_at)

  abbrev one_read : Out (List (List ℕ) × List ℕ) → Out (ℕ × ℕ)
  one_read o = o >>= λ p. done (at + 1, get_or bs at 0)

  pub name_refused : (r : Refusal) → read_at house bs at ≡ refused r → name_at bs at ≡ []
  unfolding name_at read_at
  name_refused r e = go (cut_names house 1 (drop at bs)) e
    where
      go : (o : Out (List (List ℕ) × List ℕ)) → one_read o ≡ refused r → first_cut o ≡ []
      go (refused q) e = refl
      go (done p) e = never (refused r) r (at + 1, get_or bs at 0) refl (sym e)

  pub after_found : (start len : ℕ) → read_at house bs at ≡ done (start, len) → after_at bs at ≡ start + len
  unfolding after_at
  after_found start len e = ap (λ o. past_read at o) e

  pub after_refused : (r : Refusal) → read_at house bs at ≡ refused r → after_at bs at ≡ at
  unfolding after_at
  after_refused r e = ap (λ o. past_read at o) e

-- ---- one name read by limits that are the house's, as the code asks for it
module _ (bs : List ℕ) (at : ℕ) {l : Limits} {r : Result NameSpan why.Refusal} (e : limits_is l ≡ house) (f : read_of r ≡ read_at (limits_is l) bs at) where
  pub read_ok : {n : NameSpan} → r ≡ Ok n → read_at house bs at ≡ done (n.start, n.len)
  read_ok g = sym (rw e at f) ∙ ap read_of g

  pub read_err : {z : why.Refusal} → r ≡ Err z → read_at house bs at ≡ refused (refusal_of z)
  read_err g = sym (rw e at f) ∙ ap read_of g

-- ---- a name stands at a place: its length byte, its bytes, and what follows
pub record Stands (bs : List ℕ) (at : ℕ) (name more : List ℕ) : Type 0 where
  pub bytes : drop at bs ≡ length name ∷ name ++ more
  pub size : length name ≤ house.name_length

module _ (bs : List ℕ) (at : ℕ) (name more : List ℕ) (s : Stands bs at name more) where
  pub inside : at + 1 + length name ≤ length bs
  inside = omega (arith, length-drop at bs, ap length s.bytes, length-append name more)

  cut-here : cut_names house 1 (drop at bs) ≡ done (name ∷ [], more)
  unfolding cut_names
  cut-here =
      ap (λ l. cut_names house 1 l) s.bytes
      ∙ name-whole house 0 (length name) (name ++ more) s.size (omega (arith, length-append name more))
      ∙ rw (take-append_seam name more, drop-append_seam name more)

  pub read_here : read_at house bs at ≡ done (at + 1, length name)
  unfolding read_at
  read_here = ap (λ o. o >>= λ p. done (at + 1, get_or bs at 0)) cut-here ∙ ap (λ n. done (at + 1, n)) (size_here bs at name more s.bytes)

  pub next_here : next_at bs at ≡ done (some (at + 1, length name))
  next_here = next_read bs at (omega (arith, inside)) ∙ ap (λ o. o >>= λ q. done (some q)) read_here

  pub name-here : name_at bs at ≡ name
  unfolding name_at
  name-here = ap first_cut cut-here

  pub part-here : part bs (at + 1) (length name) ≡ name
  part-here = ap (λ l. take (length name) l) (bytes_here bs at name more s.bytes) ∙ take-append_seam name more

  pub after_here : after_at bs at ≡ at + 1 + length name
  after_here = after_found bs at (at + 1) (length name) read_here

  pub more-here : drop (at + 1 + length name) bs ≡ more
  more-here = ap (λ n. drop (at + 1 + n) bs) (sym (size_here bs at name more s.bytes)) ∙ rest_here bs at name more s.bytes

-- a name stands where one is read
pub standing : {C : Type 0} (bs : List ℕ) (at : ℕ) (q : ℕ × ℕ) → read_at house bs at ≡ done q
    → ((name more : List ℕ) → Stands bs at name more → q ≡ (at + 1, length name) → C) → C
unfolding read_at sized_names
standing {C} bs at q e k = through (cut_names house 1 (drop at bs)) (λ p. done (at + 1, get_or bs at 0)) q e λ p c f. single p.0 p.1 (cut_names_done house 1 (drop at bs) p c)
  where
    found : (name more : List ℕ) → Stands bs at name more → C
    found name more s = k name more s (same-done q (at + 1, length name) (sym e ∙ read_here bs at name more s))

    single : (names : List (List ℕ)) (rest : List ℕ) → Named house 1 (drop at bs) (names, rest) → C
    single [] rest n = let o : ⊥ = omega (arith, n.counted) in absurd o
    single (name ∷ []) rest n =
        found name rest (record { bytes = sym n.bytes ∙ ap (λ l. length name ∷ l ++ rest) (append-nil name); size = n.sizes.0 })
    single (name ∷ other ∷ names) rest n = let o : ⊥ = omega (arith, n.counted) in absurd o

pub name_found : (bs : List ℕ) (at start len : ℕ) → read_at house bs at ≡ done (start, len) → name_at bs at ≡ part bs start len
name_found bs at start len e =
    standing bs at (start, len) e λ name more s p. name-here bs at name more s ∙ sym (part-here bs at name more s) ∙ sym (ap (λ (q : ℕ × ℕ). part bs q.0 q.1) p)

-- ---- name k
nameless : (names : List (List ℕ)) (k : ℕ) → named names k ≡ none → name_of names k ≡ []
unfolding at
nameless names zero e = refl
nameless [] (suc k) e = refl
nameless (name ∷ names) (suc zero) e = let z : ◌≡◌ {A = ℕ} 0 1 = cc in let o : ⊥ = omega arith in absurd o
nameless (name ∷ names) (suc (suc k)) e = nameless names (suc k) e

name-is : (names : List (List ℕ)) (k : ℕ) (name : List ℕ) → named names k ≡ some name → name_of names k ≡ name
unfolding at
name-is names zero name e = let z : ◌≡◌ {A = ℕ} 0 1 = cc in let o : ⊥ = omega arith in absurd o
name-is [] (suc k) name e = let z : ◌≡◌ {A = ℕ} 0 1 = cc in let o : ⊥ = omega arith in absurd o
name-is (x ∷ names) (suc zero) name e = cc
name-is (x ∷ names) (suc (suc k)) name e = name-is names (suc k) name e

-- no name is over its limit, nor is one that is not there
name-size : (names : List (List ℕ)) (k : ℕ) → All (λ name. length name ≤ house.name_length) names → length (name_of names k) ≤ house.name_length
name-size names zero h = omega arith
name-size [] (suc k) h = omega arith
name-size (name ∷ names) (suc zero) h = h.0
name-size (name ∷ names) (suc (suc k)) h = name-size names (suc k) h.1

-- at the end of the bytes no name is read
name_end : (bs : List ℕ) → name_at bs (length bs) ≡ []
name_end bs = name_refused bs (length bs) _ (read_missing house bs (length bs) (omega arith))

module _ (bs : List ℕ) (names : List (List ℕ)) (e : names_of house bs ≡ done names) (k : ℕ) (room : name_start bs k + name_size bs k ≤ length bs)
    (n : named names k ≡ some (part bs (name_start bs k) (name_size bs k))) where
  size-within : name_size bs k ≤ house.name_length
  size-within =
      let s = name-size names k (names_done house bs names e).2.sizes in
      let l : length (part bs (name_start bs k) (name_size bs k)) ≡ name_size bs k =
      length-take-le (name_size bs k) (drop (name_start bs k) bs) (omega (arith, length-drop (name_start bs k) bs)) in
      let m = ap length (name-is names k _ n) in omega (arith, s, l, m)

  begins : name_start bs k - 1 ≡ length_place (k - 1) bs 2
  begins = omega arith

  name_there : name_at bs (name_start bs k - 1) ≡ name_of names k
  name_there =
      ap (λ i. name_at bs i) begins
      ∙ name_found bs (length_place (k - 1) bs 2) _ _ (read_whole house bs (length_place (k - 1) bs 2) (omega arith) size-within room)
      ∙ sym (name-is names k _ n)

-- the name that is read where name k begins is name k
pub name_begins : (bs : List ℕ) (k : ℕ) → name_at bs (begins_or (length bs) (place_of house bs k)) ≡ name_in bs k
unfolding name_among
name_begins bs k =
    place-by house (λ p. name_at bs (begins_or (length bs) p) ≡ name_in bs k) bs k
    (λ r e. name_end bs ∙ sym (ap (λ o. name_among o k) e))
    (λ names e n. name_end bs ∙ sym (nameless names k n) ∙ sym (ap (λ o. name_among o k) e))
    (λ names e room n. name_there bs names e k room n ∙ sym (ap (λ o. name_among o k) e))

-- a name begins after the two bytes of the count, and its length byte comes before its bytes
Begun : Option (ℕ × ℕ) → Type 0
Begun none = Unit
Begun (some q) = 1 ≤ q.0

pub begun : (bs : List ℕ) (k start len : ℕ) → place_of house bs k ≡ some (start, len) → 1 ≤ start
unfolding Begun
begun bs k start len e = subst (λ p. Begun p) e (place-by house (λ p. Begun p) bs k (λ r n. tt) (λ names n m. tt) (λ names n l m. omega arith))

-- what the functions over the bytes and a place are proved by
pub ruleset places = (read_ok, read_err, next_end, next_read, name_found, name_refused, after_found, after_refused, begun)
