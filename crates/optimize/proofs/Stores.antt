-- What each store of buffers.rt makes of the state that lies in the buffers.
-- Assumes nothing.
use Prim.Native.Nat.{ℕ, ◌+◌, ◌*◌, ◌<◌}
use mathlib.Core.Path.{◌≡◌, ap, ◌∙◌}
use mathlib.Core.List.{List}
use native.Mathlib.Numerals.{add-one}
use native.Mathlib.Omega.{arith}
use lib.ListN.{length, get_or, set, length-set}
use lib.Seq.{get_or-set_same, get_or-set_other}
use Rattle.rules.specs.Table.{kind_of, with, row_width}
use Rattle.rules.specs.Walk.{Held, set_row, set_mark, add_const}
use Rattle.optimize.specs.declared.walk.Walk.{Walk}
use Rattle.optimize.specs.Bounds.{count_of, constants_at}
use Rattle.rules.specs.Sections.{word_of}
use Rattle.optimize.specs.View.{node_of, sort_by, row_of, RowKept, mark_by, view}
use Rattle.optimize.proofs.Views.{sort-same, rows_pushed, rows-put, marks-put, asked-same}

module _ (h : List Held) (g inputs replies R S : List ℕ) (w : Walk) where
  pub pushed : (n s x : ℕ) → n ≡ count_of g → constants_at n + 2 * (2 + w.made) + 1 < length R
      → view h g inputs replies (set (set R (constants_at n + 2 * (2 + w.made)) s) (constants_at n + 2 * (2 + w.made) + 1) x) S (record w { made = w.made + 1 })
      ≡ add_const (view h g inputs replies R S w) (count_of g + 2 + w.made) s x
  unfolding view
  pushed n s x i room =
      let e : ℕ = constants_at (count_of g) + 2 * (2 + w.made) in
      rw (
        i,
        rows_pushed (count_of g) w.made R (set (set R e s) (e + 1) x) s x
            (λ j l. get_or-set_other (set R e s) (e + 1) j x 0 (λ q. omega arith) ∙ get_or-set_other R e j s 0 (λ q. omega arith))
            (get_or-set_other (set R e s) (e + 1) e x 0 (λ q. omega arith) ∙ get_or-set_same R e s 0 (omega arith))
            (get_or-set_same (set R e s) (e + 1) x 0 (simp length-set (omega arith))),
        add-one w.made,
      )

  pub marked : (n k m r r' : ℕ) → n ≡ count_of g → r' ≡ r → k < count_of g → n + k < length S
      → view h g inputs replies R (set (set S k m) (n + k) r') w ≡ set_mark (view h g inputs replies R S w) k (mark_by m r)
  unfolding view
  marked n k m r r' i d l room =
      let T : List ℕ = set (set S k m) (count_of g + k) r in
      rw (
        i,
        d,
        marks-put (count_of g) S T k m r l
            (λ j _ a b. get_or-set_other (set S k m) (count_of g + k) j r 0 b ∙ get_or-set_other S k j m 0 a)
            (get_or-set_other (set S k m) (count_of g + k) k r 0 (λ q. omega arith) ∙ get_or-set_same S k m 0 (omega arith))
            (get_or-set_same (set S k m) (count_of g + k) r 0 (simp length-set (omega arith))),
        asked-same (count_of g) w.asked S T (λ j a b. get_or-set_other (set S k m) (count_of g + k) j r 0 (λ q. omega arith) ∙ get_or-set_other S k j m 0 (λ q. omega arith)),
      )

  pub rowed : (k x y z a b c : ℕ) → k < count_of g → row_width + row_width * k < length R → RowKept g R k → x ≡ a → y ≡ b → z ≡ c
      → view h g inputs replies (set (set (set R (1 + row_width * k + 2) x) (1 + row_width * k + 3) y) (1 + row_width * k + 4) z) S w ≡ set_row (view h g inputs replies R S w) k (with (node_of g k) a b c)
  unfolding view
  rowed k x y z a b c l room kept ex ey ez =
      let e : ℕ = 1 + row_width * k in
      let P : List ℕ = set R (e + 2) x in
      let O : List ℕ = set P (e + 3) y in
      let Q : List ℕ = set O (e + 4) z in
      let other : (i : ℕ) → (i ≡ e + 2 → ⊥) → (i ≡ e + 3 → ⊥) → (i ≡ e + 4 → ⊥) → get_or Q i 0 ≡ get_or R i 0 =
      λ i p q r. get_or-set_other O (e + 4) i z 0 r ∙ get_or-set_other P (e + 3) i y 0 q ∙ get_or-set_other R (e + 2) i x 0 p in
      let q0 : word_of Q k 0 ≡ word_of R k 0 = other (e + 0) (λ q. omega arith) (λ q. omega arith) (λ q. omega arith) in
      let q1 : word_of Q k 1 ≡ word_of R k 1 = other (e + 1) (λ q. omega arith) (λ q. omega arith) (λ q. omega arith) in
      let s0 : kind_of (word_of Q k 0) ≡ kind_of (word_of g k 0) = ap kind_of q0 ∙ kept.kind in
      let s1 : sort_by (word_of Q k 0) (word_of Q k 1) ≡ word_of g k 1 = sort-same (word_of Q k 0) (word_of R k 0) (word_of Q k 1) (word_of R k 1) q0 q1 ∙ kept.sort in
      let s2 : word_of Q k 2 ≡ a =
      get_or-set_other O (e + 4) (e + 2) z 0 (λ q. omega arith)
      ∙ get_or-set_other P (e + 3) (e + 2) y 0 (λ q. omega arith)
      ∙ get_or-set_same R (e + 2) x 0 (omega arith)
      ∙ ex in
      let s3 : word_of Q k 3 ≡ b = get_or-set_other O (e + 4) (e + 3) z 0 (λ q. omega arith) ∙ get_or-set_same P (e + 3) y 0 (simp length-set (omega arith)) ∙ ey in
      let s4 : word_of Q k 4 ≡ c = get_or-set_same O (e + 4) z 0 (simp length-set (omega arith)) ∙ ez in
      let s5 : word_of Q k 5 ≡ word_of g k 5 = other (e + 5) (λ q. omega arith) (λ q. omega arith) (λ q. omega arith) ∙ kept.name in
      let here : row_of Q k ≡ with (node_of g k) a b c = cc in
      rw (rows-put (count_of g) w.made R Q k (with (node_of g k) a b c) l (λ i d. other i (λ q. d (omega arith) (omega arith)) (λ q. d (omega arith) (omega arith)) (λ q. d (omega arith) (omega arith))) here)
