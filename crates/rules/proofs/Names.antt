-- The names bytes: names within the limits are what is cut from their bytes, and name k stands where its length byte says.
-- By recursion over how many names are left, the two tests of a name by cases.
--     names_back, names_done   cutting undoes encoding, and what is cut encodes to the bytes
--     size_here, bytes_here, after_here   a name at its place
--     name-at            name k as a part of the bytes
-- Assumes nothing.
use Prim.Native.Nat.{ℕ, zero, suc, ◌+◌, ◌-◌, ◌*◌, ◌<◌, ◌≤◌}
use mathlib.Core.Path.{◌≡◌, refl, sym, ap, ◌∙◌, subst}
use mathlib.Core.Bool.{Bool, true, false}
use mathlib.Core.List.{List, [], ◌∷◌, ◌++◌, append_assoc, append-nil}
use native.Mathlib.Omega.{arith}
use native.Mathlib.Nat.{mod-add-div, add-zero}
use lib.ListN.{length, get_or, take, drop, length-append, take-append-drop}
use lib.Seq.{take-append_seam, drop-append_seam, drop-drop, get_or-drop, length-take-le}
use lib.Dec.{ltb}
use borrow.Author.Tests.{ltb-true, ltb-false, lt-ltb, le-ltb}
use Rattle.rules.specs.Refusal.{done, refuse, ◌>>=◌}
use Rattle.rules.specs.Lists.{All}
use Rattle.rules.specs.Limits.{Limits}
use Rattle.rules.specs.Sections.{none_left}
use Rattle.rules.specs.Names.{cut_names, counted_names, names_of, name_of, length_place, name_size, name_start, sized_names, name_bytes, NamesWithin}
use Rattle.rules.proofs.Sections.{bind_done, never, same-done, through}

-- ---- a name at its place: its length byte, its bytes, and what follows
module _ (bs : List ℕ) (at : ℕ) (name more : List ℕ) (e : drop at bs ≡ length name ∷ name ++ more) where
  pub size_here : get_or bs at 0 ≡ length name
  size_here = ap (λ i. get_or bs i 0) (sym (add-zero at)) ∙ sym (get_or-drop at bs 0 0) ∙ ap (λ l. get_or l 0 0) e

  pub bytes_here : drop (at + 1) bs ≡ name ++ more
  bytes_here = sym (drop-drop 1 at bs) ∙ ap (λ l. drop 1 l) e

  pub after_here : drop (at + 1 + get_or bs at 0) bs ≡ more
  after_here = sym (drop-drop (get_or bs at 0) (at + 1) bs) ∙ rw (bytes_here, size_here) (drop-append_seam name more)

module _ (limits : Limits) where
  -- ---- one name more
  module _ (count size : ℕ) (bs : List ℕ) where
    pub name-over : limits.name_length < size → cut_names limits (suc count) (size ∷ bs) ≡ refuse 2 7 0
    unfolding cut_names
    name-over h = rw (lt-ltb limits.name_length size h, cut_names)

    pub name-short : size ≤ limits.name_length → length bs < size → cut_names limits (suc count) (size ∷ bs) ≡ refuse 1 7 0
    unfolding cut_names
    name-short h l = rw (le-ltb limits.name_length size h, cut_names, lt-ltb (length bs) size l)

    pub name-whole : size ≤ limits.name_length → size ≤ length bs
        → cut_names limits (suc count) (size ∷ bs) ≡ (cut_names limits count (drop size bs) >>= λ p. done (take size bs ∷ p.0, p.1))
    unfolding cut_names
    name-whole h l = rw (le-ltb limits.name_length size h, cut_names, le-ltb (length bs) size l)

  pub name_missing : (count : ℕ) → cut_names limits (suc count) [] ≡ refuse 1 7 0
  unfolding cut_names
  name_missing count = refl

  pub names-over : (count : ℕ) (bs : List ℕ) → limits.names < count → counted_names limits count bs ≡ refuse 2 7 0
  unfolding counted_names
  names-over count bs h = rw (lt-ltb limits.names count h, counted_names)

  pub names-within : (count : ℕ) (bs : List ℕ) → count ≤ limits.names → counted_names limits count bs ≡ (cut_names limits count bs >>= λ p. none_left 7 p.0 p.1)
  unfolding counted_names
  names-within count bs h = rw (le-ltb limits.names count h, counted_names)

  -- ---- names within the limits are cut back from their bytes
  pub cut_names_back : (names : List (List ℕ)) (rest : List ℕ) → All (λ name. length name ≤ limits.name_length) names
      → cut_names limits (length names) (sized_names names ++ rest) ≡ done (names, rest)
  unfolding cut_names sized_names
  cut_names_back [] rest h = refl
  cut_names_back (name ∷ names) rest h =
      let more : List ℕ = sized_names names ++ rest in
      let e : sized_names (name ∷ names) ++ rest ≡ length name ∷ name ++ more = simp append_assoc in
      ap (λ bs. cut_names limits (suc (length names)) bs) e
      ∙ name-whole (length names) (length name) (name ++ more) h.0 (omega (arith, length-append name more))
      ∙ rw (take-append_seam name more, drop-append_seam name more)
      (bind_done (cut_names limits (length names) more) (λ p. done (name ∷ p.0, p.1)) (names, rest) (cut_names_back names rest h.1))

  pub counted_names_back : (names : List (List ℕ)) → NamesWithin limits names → counted_names limits (length names) (sized_names names) ≡ done names
  counted_names_back names h =
      ap (λ bs. counted_names limits (length names) bs) (sym (append-nil (sized_names names)))
      ∙ names-within (length names) (sized_names names ++ []) h.count
      ∙ bind_done _ _ _ (cut_names_back names [] h.sizes)

  pub names_back : (names : List (List ℕ)) → NamesWithin limits names → names_of limits (name_bytes names) ≡ done names
  unfolding names_of
  names_back names h =
      ap (λ c. counted_names limits c (sized_names names)) (mod-add-div (length names) 256) ∙ counted_names_back names h

  -- ---- and nothing else is
  pub record Named (count : ℕ) (bs : List ℕ) (p : List (List ℕ) × List ℕ) : Type 0 where
    pub bytes : sized_names p.0 ++ p.1 ≡ bs
    pub counted : length p.0 ≡ count
    pub sizes : All (λ name. length name ≤ limits.name_length) p.0

  named_more : (count size : ℕ) (bs : List ℕ) (p : List (List ℕ) × List ℕ) → size ≤ limits.name_length → size ≤ length bs → Named count (drop size bs) p
      → Named (suc count) (size ∷ bs) (take size bs ∷ p.0, p.1)
  unfolding sized_names
  named_more count size bs p h l g =
      let e : length (take size bs) ≡ size = length-take-le size bs l in
      record {
        bytes = simp append_assoc (rw (e, g.bytes, take-append-drop size bs));
        counted = ap suc g.counted;
        sizes = (omega arith, g.sizes);
      }

  pub cut_names_done : (count : ℕ) (bs : List ℕ) (q : List (List ℕ) × List ℕ) → cut_names limits count bs ≡ done q → Named count bs q
  unfolding cut_names sized_names
  cut_names_done zero bs q e = subst (λ q. Named zero bs q) (same-done ([], bs) q e) (record { bytes = refl; counted = refl; sizes = tt })
  cut_names_done (suc count) [] q e = never (cut_names limits (suc count) []) _ q (name_missing count) e
  cut_names_done (suc count) (size ∷ bs) q e = first (λ c p. cut_names_done count c p) (ltb limits.name_length size) refl
    where
      second : ((c : List ℕ) (p : List (List ℕ) × List ℕ) → cut_names limits count c ≡ done p → Named count c p) → size ≤ limits.name_length
          → (b : Bool) → ltb (length bs) size ≡ b → Named (suc count) (size ∷ bs) q
      second rec h true l = never (cut_names limits (suc count) (size ∷ bs)) _ q (name-short count size bs h (ltb-true (length bs) size l)) e
      second rec h false l =
          let m : size ≤ length bs = ltb-false (length bs) size l in
          through (cut_names limits count (drop size bs)) (λ p. done (take size bs ∷ p.0, p.1)) q (sym (name-whole count size bs h m) ∙ e) λ p c f.
          subst (λ q. Named (suc count) (size ∷ bs) q) (same-done (take size bs ∷ p.0, p.1) q f) (named_more count size bs p h m (rec (drop size bs) p c))

      first : ((c : List ℕ) (p : List (List ℕ) × List ℕ) → cut_names limits count c ≡ done p → Named count c p)
          → (b : Bool) → ltb limits.name_length size ≡ b → Named (suc count) (size ∷ bs) q
      first rec true h = never (cut_names limits (suc count) (size ∷ bs)) _ q (name-over count size bs (ltb-true limits.name_length size h)) e
      first rec false h = second rec (ltb-false limits.name_length size h) (ltb (length bs) size) refl

  nothing_left : (x y : List (List ℕ)) (rest : List ℕ) → none_left 7 x rest ≡ done y → (x ≡ y) × (rest ≡ [])
  nothing_left x y [] e = (same-done x y e, refl)
  nothing_left x y (w ∷ rest) e = never (refuse 1 7 0) _ y refl e

  pub counted_names_done : (count : ℕ) (bs : List ℕ) (names : List (List ℕ)) → counted_names limits count bs ≡ done names
      → (sized_names names ≡ bs) × (length names ≡ count) × NamesWithin limits names
  counted_names_done count bs names e = first (ltb limits.names count) refl
    where
      first : (b : Bool) → ltb limits.names count ≡ b → (sized_names names ≡ bs) × (length names ≡ count) × NamesWithin limits names
      first true h = never (counted_names limits count bs) _ names (names-over count bs (ltb-true limits.names count h)) e
      first false h =
          let m : count ≤ limits.names = ltb-false limits.names count h in
          through (cut_names limits count bs) (λ p. none_left 7 p.0 p.1) names (sym (names-within count bs m) ∙ e) λ p c f.
          let g = cut_names_done count bs p c in
          let (x, r) = nothing_left p.0 names p.1 f in
          let n : length names ≡ count = rw (← x) g.counted in (
            rw (← x) (sym (append-nil (sized_names p.0)) ∙ ap (λ l. sized_names p.0 ++ l) (sym r) ∙ g.bytes),
            n,
            record { count = omega arith; sizes = rw (← x) g.sizes },
          )

  -- the names that are cut: their bytes follow the two of the count
  pub names_done : (bs : List ℕ) (names : List (List ℕ)) → names_of limits bs ≡ done names
      → (drop 2 bs ≡ sized_names names) × (length names ≡ get_or bs 0 0 + 256 * get_or bs 1 0) × NamesWithin limits names
  unfolding names_of
  names_done [] names e = never (refuse 1 7 0) _ names refl e
  names_done (low ∷ []) names e = never (refuse 1 7 0) _ names refl e
  names_done (low ∷ high ∷ bs) names e = let h = counted_names_done (low + 256 * high) bs names e in (sym h.0, h.1, h.2)

  -- ---- where name k stands
  walk : (names : List (List ℕ)) (bs : List ℕ) (at : ℕ) → drop at bs ≡ sized_names names → (k : ℕ) → k < length names
      → get_or names k [] ≡ take (get_or bs (length_place k bs at) 0) (drop (length_place k bs at + 1) bs)
  unfolding sized_names length_place
  walk [] bs at e k h = let o : ⊥ = omega arith in absurd o
  walk (name ∷ names) bs at e zero h = rw (size_here bs at name (sized_names names) e, bytes_here bs at name (sized_names names) e) (sym (take-append_seam name (sized_names names)))
  walk (name ∷ names) bs at e (suc k) h = walk names bs (at + 1 + get_or bs at 0) (after_here bs at name (sized_names names) e) k (omega arith)

  -- name k, from 1, is so many bytes from its place on
  pub name-at : (bs : List ℕ) (names : List (List ℕ)) → names_of limits bs ≡ done names → (k : ℕ) → 0 < k → k ≤ length names
      → name_of names k ≡ take (name_size bs k) (drop (name_start bs k) bs)
  name-at bs names e zero p h = let o : ⊥ = omega arith in absurd o
  name-at bs names e (suc k) p h =
      let s : suc k - 1 ≡ k = omega arith in
      rw s (walk names bs 2 (names_done bs names e).0 k (omega arith))
