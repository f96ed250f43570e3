-- Reading on from the first name to the end of the bytes gives the names of accepted bytes, and of no others.
-- By recursion over the names, one of which stands at each place; back, over how many names are read at most.
--     reads_all, accepts_read   the two laws of specs/Laws.antt
-- Assumes nothing.
use Prim.Native.Nat.{ℕ, zero, suc, ◌+◌, ◌<◌, ◌≤◌}
use mathlib.Core.Path.{◌≡◌, refl, sym, ap, ap₂, ◌∙◌, subst}
use mathlib.Core.Bool.{Bool, true, false}
use mathlib.Core.Option.{Option, none, some}
use mathlib.Core.List.{List, [], ◌∷◌, ◌++◌}
use native.Mathlib.Omega.{arith}
use lib.ListN.{length, drop, length-append, length-drop, drop_of_length-le}
use lib.Dec.{ltb}
use borrow.Author.Tests.{ltb-true, ltb-false}
use Rattle.rules.specs.Refusal.{Out, refused, done, refuse, ◌>>=◌}
use Rattle.rules.specs.Lists.{All}
use Rattle.rules.specs.Limits.{house}
use Rattle.rules.specs.Names.{names_of, counted_names, sized_names}
use Rattle.rules.proofs.Sections.{never, same-done, through}
use Rattle.rules.proofs.Names.{names_done, counted_names_back}
use Rattle.tables.specs.NameAnswers.{read_at}
use Rattle.names.specs.Reading.{next_at, name_at, after_at, read_on, read_from}
use Rattle.names.specs.Laws.{ReadsAll, AcceptsRead}
use Rattle.names.proofs.PlaceLaws.{Stands, standing, next_end, next_read, next_here, name-here, after_here, more-here}

abbrev Sizes : List (List ℕ) → Type 0
Sizes names = All (λ name. length name ≤ house.name_length) names

-- ---- one name is read, and reading goes on after it
read-on : (most : ℕ) (bs : List ℕ) (at : ℕ) (name more : List ℕ) → Stands bs at name more
    → read_from (suc most) bs at ≡ (read_from most bs (at + 1 + length name) >>= λ names. done (name ∷ names))
unfolding read_from
read-on most bs at name more s =
    ap (λ o. o >>= λ next. read_on next (name_at bs at) (read_from most bs (after_at bs at))) (next_here bs at name more s)
    ∙ ap₂ (λ n a. read_from most bs a >>= λ names. done (n ∷ names)) (name-here bs at name more s) (after_here bs at name more s)

walk : (names : List (List ℕ)) (most : ℕ) (bs : List ℕ) (at : ℕ) → drop at bs ≡ sized_names names → Sizes names → length names < most
    → read_from most bs at ≡ done names
unfolding read_from sized_names
walk names zero bs at e h l = let o : ⊥ = omega arith in absurd o
walk [] (suc most) bs at e h l =
    ap (λ o. o >>= λ next. read_on next (name_at bs at) (read_from most bs (after_at bs at))) (next_end bs at (omega (arith, length-drop at bs, ap length e)))
walk (name ∷ names) (suc most) bs at e h l =
    let s : Stands bs at name (sized_names names) = record { bytes = e; size = h.0 } in
    read-on most bs at name (sized_names names) s
    ∙ ap (λ o. o >>= λ names. done (name ∷ names)) (walk names most bs (at + 1 + length name) (more-here bs at name (sized_names names) s) h.1 (omega arith))

-- each name has a length byte
sized-length : (names : List (List ℕ)) → length names ≤ length (sized_names names)
unfolding sized_names
sized-length [] = omega arith
sized-length (name ∷ names) = omega (arith, sized-length names, length-append name (sized_names names))

pub reads_all : ReadsAll
unfolding ReadsAll names_of
reads_all [] names e = never (refuse 1 7 0) _ names refl e
reads_all (low ∷ []) names e = never (refuse 1 7 0) _ names refl e
reads_all (low ∷ high ∷ bs) names e =
    let (d, c, w) = names_done house (low ∷ high ∷ bs) names e in
    walk names (length (low ∷ high ∷ bs)) (low ∷ high ∷ bs) 2 d w.sizes (omega (arith, sized-length names, ap length d))

-- ---- and back
module _ (bs : List ℕ) (at : ℕ) where
  next-none : next_at bs at ≡ done none → length bs ≤ at
  next-none e = go (ltb at (length bs)) refl
    where
      some_read : (o : Out (ℕ × ℕ)) → ◌≡◌ {A = Out (Option (ℕ × ℕ))} (o >>= λ q. done (some q)) (done none) → length bs ≤ at
      some_read (refused r) f = never (refused r) r none refl f
      some_read (done q) f = let z : ◌≡◌ {A = ℕ} 0 1 = cc in let o : ⊥ = omega arith in absurd o

      go : (b : Bool) → ltb at (length bs) ≡ b → length bs ≤ at
      go true t = some_read (read_at house bs at) (sym (next_read bs at (ltb-true at (length bs) t)) ∙ e)
      go false t = ltb-false at (length bs) t

  next-some : (q : ℕ × ℕ) → next_at bs at ≡ done (some q) → read_at house bs at ≡ done q
  next-some q e = go (ltb at (length bs)) refl
    where
      some_read : (o : Out (ℕ × ℕ)) → ◌≡◌ {A = Out (Option (ℕ × ℕ))} (o >>= λ q. done (some q)) (done (some q)) → o ≡ done q
      some_read (refused r) f = never (refused r) r (some q) refl f
      some_read (done p) f = cc

      go : (b : Bool) → ltb at (length bs) ≡ b → read_at house bs at ≡ done q
      go true t = some_read (read_at house bs at) (sym (next_read bs at (ltb-true at (length bs) t)) ∙ e)
      go false t = let z : ◌≡◌ {A = ℕ} 0 1 = cc (next_end bs at (ltb-false at (length bs) t)) in let o : ⊥ = omega arith in absurd o

-- what was read from a place on are the bytes from there
abbrev Bytes : List ℕ → ℕ → List (List ℕ) → Type 0
Bytes bs at names = (drop at bs ≡ sized_names names) × Sizes names

none_read : (bs : List ℕ) (at : ℕ) (names : List (List ℕ)) → length bs ≤ at → ◌≡◌ {A = Out (List (List ℕ))} (done []) (done names) → Bytes bs at names
unfolding sized_names
none_read bs at names l e = subst (λ names. Bytes bs at names) (same-done [] names e) (drop_of_length-le bs l, tt)

one-read : (bs : List ℕ) (at : ℕ) (name more : List ℕ) (names : List (List ℕ)) → Stands bs at name more → Bytes bs (at + 1 + length name) names → Bytes bs at (name ∷ names)
unfolding sized_names
one-read bs at name more names s b =
    (s.bytes ∙ ap (λ l. length name ∷ name ++ l) (sym (more-here bs at name more s) ∙ b.0), (s.size, b.1))

back : (most : ℕ) (bs : List ℕ) (at : ℕ) (names : List (List ℕ)) → length bs ≤ at + most → read_from most bs at ≡ done names → Bytes bs at names
unfolding read_from
back zero bs at names l e = none_read bs at names (omega arith) e
back (suc most) bs at names l e =
    through (next_at bs at) (λ next. read_on next (name_at bs at) (read_from most bs (after_at bs at))) names e (go (λ a rest. back most bs a rest))
  where
    go : ((a : ℕ) (rest : List (List ℕ)) → length bs ≤ a + most → read_from most bs a ≡ done rest → Bytes bs a rest) → (next : Option (ℕ × ℕ))
        → next_at bs at ≡ done next → read_on next (name_at bs at) (read_from most bs (after_at bs at)) ≡ done names → Bytes bs at names
    go rec none c f = none_read bs at names (next-none bs at c) f
    go rec (some q) c f =
        standing bs at q (next-some bs at q c) λ name more s p.
        through (read_from most bs (after_at bs at)) (λ names. done (name_at bs at ∷ names)) names f λ rest d g.
        let a = after_here bs at name more s in
        let x : name ∷ rest ≡ names = ap (λ n. n ∷ rest) (sym (name-here bs at name more s)) ∙ same-done (name_at bs at ∷ rest) names g in
        subst (λ names. Bytes bs at names) x (one-read bs at name more rest s (rec (at + 1 + length name) rest (omega arith) (ap (λ a. read_from most bs a) (sym a) ∙ d)))

pub accepts_read : AcceptsRead
unfolding AcceptsRead names_of
accepts_read [] names l c w e = let o : ⊥ = omega arith in absurd o
accepts_read (low ∷ []) names l c w e = let o : ⊥ = omega arith in absurd o
accepts_read (low ∷ high ∷ bs) names l c w e =
    let (b, h) = back (length (low ∷ high ∷ bs)) (low ∷ high ∷ bs) 2 names (omega arith) e in
    ap₂ (λ n l. counted_names house n l) (sym c) b ∙ counted_names_back house names (record { count = w; sizes = h })
