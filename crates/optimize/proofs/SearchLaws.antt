-- The walk down the Writes: what a look at one place says, and the loop's steps.
--     looks-..     a look at the place k, by the words of its row
--     Searched     the loop's invariant: after l Writes, u of them unsettled, the walk from k on finds the rest with the fuel that is left
--     search-..    the invariant holds at the start and after each Write that is passed, and gives the answer at the end
-- The fuel is never short: the places fall, so l Writes above k leave k below n - l. Assumes nothing.
use Prim.Native.Nat.{ℕ, zero, suc, ◌+◌, ◌-◌, ◌<◌, ◌≤◌}
use mathlib.Core.Path.{◌≡◌, refl, sym, ap, ap₂, ◌∙◌, subst}
use mathlib.Core.Bool.{true, false, cond}
use mathlib.Core.Option.{Option, none, some}
use mathlib.Core.List.{List}
use native.Mathlib.Nat.{sub-zero}
use native.Mathlib.Omega.{arith}
use borrow.Author.Tests.{eq-eqb, ne_eqb}
use Rattle.btor.specs.Operators.{Reading, rust, standard}
use Rattle.rules.specs.Table.{Write, Node, is}
use Rattle.rules.specs.Fold.{const_of}
use Rattle.rules.specs.Memory.{Found, lost, hit, past, meet_unsettled, meet, look_at, find}
use Rattle.rules.proofs.Steps.{after, same-found, after_none}
use Rattle.rules.specs.Sections.{word_of}
use Rattle.optimize.specs.View.{rows_of}
use Rattle.optimize.specs.Folding.{Falls, look_is, LooksAt}
use Rattle.optimize.specs.declared.memory.Look.{Look}
use Rattle.optimize.specs.declared.memory.Look.TheVariants.{End, Hit, Stop, Settled, Unsettled}
use Rattle.optimize.proofs.Views.{row_below}
use Rattle.optimize.proofs.RowLaws.{write-row, no-write-row, no-write-past}

-- ---- one place
module _ (how : Reading) (rows : ℕ → Node) (x k : ℕ) (go : ℕ → Found) where
  look_end : is Write (rows k) ≡ false → lost ≡ look_at how rows go x (rows k)
  unfolding look_at
  look_end e = sym (ap (λ b. elim b [ true ↦ meet how x (rows k).c (const_of rows (rows k).b) (go (rows k).a) | false ↦ lost ]) e)

  look-write : is Write (rows k) ≡ true → meet how x (rows k).c (const_of rows (rows k).b) (go (rows k).a) ≡ look_at how rows go x (rows k)
  unfolding look_at
  look-write e = sym (ap (λ b. elim b [ true ↦ meet how x (rows k).c (const_of rows (rows k).b) (go (rows k).a) | false ↦ lost ]) e)

  met-unsettled : (r : Found) → is Write (rows k) ≡ true → none ≡ const_of rows (rows k).b → r ≡ meet_unsettled how (go (rows k).a) → r ≡ look_at how rows go x (rows k)
  met-unsettled r e c d = d ∙ ap (λ o. meet how x (rows k).c o (go (rows k).a)) c ∙ look-write e

  look-unsettled : (m : ℕ) → how ≡ rust → is Write (rows k) ≡ true → m ≡ (rows k).a → none ≡ const_of rows (rows k).b → past 1 (go m) ≡ look_at how rows go x (rows k)
  look-unsettled m r e q c = met-unsettled (past 1 (go m)) e c (ap (λ i. past 1 (go i)) q ∙ sym (ap (λ h. meet_unsettled h (go (rows k).a)) r))

  look_stop : how ≡ standard → is Write (rows k) ≡ true → none ≡ const_of rows (rows k).b → look_is Stop go ≡ look_at how rows go x (rows k)
  look_stop r e c = met-unsettled (look_is Stop go) e c (sym (ap (λ h. meet_unsettled h (go (rows k).a)) r))

  look-settled : (m y : ℕ) → is Write (rows k) ≡ true → m ≡ (rows k).a → some y ≡ const_of rows (rows k).b → (y ≡ x → ⊥) → past 0 (go m) ≡ look_at how rows go x (rows k)
  look-settled m y e q c d =
      ap (λ i. past 0 (go i)) q ∙ sym (ap (λ b. cond b (hit (rows k).c) (past 0 (go (rows k).a))) (ne_eqb y x d))
      ∙ ap (λ o. meet how x (rows k).c o (go (rows k).a)) c ∙ look-write e

  look_hit : (v y : ℕ) → is Write (rows k) ≡ true → v ≡ (rows k).c → some y ≡ const_of rows (rows k).b → y ≡ x → hit v ≡ look_at how rows go x (rows k)
  look_hit v y e q c d =
      ap hit q ∙ sym (ap (λ b. cond b (hit (rows k).c) (past 0 (go (rows k).a))) (eq-eqb y x d))
      ∙ ap (λ o. meet how x (rows k).c o (go (rows k).a)) c ∙ look-write e

-- ---- one place, by the words of its row
module _ (how : Reading) (n made : ℕ) (R : List ℕ) (k x : ℕ) where
  no-look : is Write (rows_of n made R k) ≡ false → LooksAt how n made R k x End
  no-look e = record { says = λ go. look_end how (rows_of n made R) x k go e; goes_on = tt }

  pub looks-past : n ≤ k → LooksAt how n made R k x End
  looks-past l = no-look (no-write-past n made R k l)

  pub looks-other : k < n → (word_of R k 0 ≡ 3 → ⊥) → LooksAt how n made R k x End
  looks-other l w = no-look (no-write-row n made R k l w)

  module _ (l : k < n) (w : word_of R k 0 ≡ 3) (falls : Falls n made R) where
    goes : (m : ℕ) → m ≡ (rows_of n made R k).a → (k < n) × (m < n → m < k)
    goes m q = (l, λ i. subst (λ j. j < k) (sym q) (falls.memory k l (write-row n made R k l w) (subst (λ j. j < n) q i)))

    module _ (m z : ℕ) (p : m ≡ word_of R k 2) (q : z ≡ word_of R k 3) where
      memory-is : m ≡ (rows_of n made R k).a
      memory-is = p ∙ sym (ap (λ (nd : Node). nd.a) (row_below n made R k l))

      address_is : z ≡ (rows_of n made R k).b
      address_is = q ∙ sym (ap (λ (nd : Node). nd.b) (row_below n made R k l))

      pub looks-unsettled : how ≡ rust → none ≡ const_of (rows_of n made R) z → LooksAt how n made R k x (Unsettled m)
      looks-unsettled r c =
          record {
            says = λ go. look-unsettled how (rows_of n made R) x k go m r (write-row n made R k l w) memory-is (c ∙ ap (const_of (rows_of n made R)) address_is);
            goes_on = goes m memory-is;
          }

      pub looks_stop : how ≡ standard → none ≡ const_of (rows_of n made R) z → LooksAt how n made R k x Stop
      looks_stop r c =
          record {
            says = λ go. look_stop how (rows_of n made R) x k go r (write-row n made R k l w) (c ∙ ap (const_of (rows_of n made R)) address_is);
            goes_on = l;
          }

      pub looks_settled : (y : ℕ) → some y ≡ const_of (rows_of n made R) z → (y ≡ x → ⊥) → LooksAt how n made R k x (Settled m)
      looks_settled y c d =
          record {
            says = λ go. look-settled how (rows_of n made R) x k go m y (write-row n made R k l w) memory-is (c ∙ ap (const_of (rows_of n made R)) address_is) d;
            goes_on = goes m memory-is;
          }

      pub looks_hit : (v y : ℕ) → v ≡ word_of R k 4 → some y ≡ const_of (rows_of n made R) z → y ≡ x → LooksAt how n made R k x (Hit v)
      looks_hit v y r c d =
          record {
            says = λ go. look_hit how (rows_of n made R) x k go v y (write-row n made R k l w) (r ∙ sym (ap (λ (nd : Node). nd.c) (row_below n made R k l)))
                (c ∙ ap (const_of (rows_of n made R)) address_is) d;
            goes_on = l;
          }

-- ---- the loop
after-past : (l u w : ℕ) (r : Found) → after l u (past w r) ≡ after (l + 1) (u + w) r
after-past l u w r =
    same-found r.value (l + (r.looked + 1)) (l + 1 + r.looked) (u + (r.unsettled + w)) (u + w + r.unsettled) (omega arith) (omega arith)

pub record Searched (how : Reading) (n made : ℕ) (R : List ℕ) (from x k l u : ℕ) : Type 0 where
  pub within : l ≤ n
  pub among : u ≤ l
  pub left : k < n → l + k < n
  pub same : find how n (rows_of n made R) x from ≡ after l u (find how (n - l) (rows_of n made R) x k)

module _ (how : Reading) (n made : ℕ) (R : List ℕ) (from x : ℕ) where
  pub search_start : Searched how n made R from x from 0 0
  search_start =
      record {
        within = omega arith;
        among = omega arith;
        left = λ h. omega arith;
        same = sym (ap (λ f. after 0 0 (find how f (rows_of n made R) x from)) (sub-zero n) ∙ after_none (find how n (rows_of n made R) x from));
      }

  module _ (k l u : ℕ) (i : Searched how n made R from x k l u) (r : Look) (h : LooksAt how n made R k x r) where
    -- with fuel left, the walk is what the look says of the walk with one less
    look_on : (f : ℕ) → find how (suc f) (rows_of n made R) x k ≡ look_is r (find how f (rows_of n made R) x)
    unfolding find
    look_on f = sym (h.says (find how f (rows_of n made R) x))

    at_least_one : k < n → find how (n - l) (rows_of n made R) x k ≡ find how (suc (n - (l + 1))) (rows_of n made R) x k
    at_least_one d = let b = i.left d in let e : n - l ≡ suc (n - (l + 1)) = omega arith in ap (λ f. find how f (rows_of n made R) x k) e

    on : (m w k' u' : ℕ) → k < n → (m < n → m < k) → k' ≡ m → u' ≡ u + w → w ≤ 1
        → find how (suc (n - (l + 1))) (rows_of n made R) x k ≡ past w (find how (n - (l + 1)) (rows_of n made R) x m)
        → Searched how n made R from x k' (l + 1) u'
    on m w k' u' d g p q o e =
        let b = i.left d in
        record {
          within = omega arith;
          among = omega (arith, i.among);
          left = λ j. let c : m < k = g (subst (λ y. y < n) p j) in omega arith;
          same =
              i.same ∙ ap (after l u) (at_least_one d ∙ e) ∙ after-past l u w (find how (n - (l + 1)) (rows_of n made R) x m)
              ∙ sym (ap₂ (λ y v. after (l + 1) v (find how (n - (l + 1)) (rows_of n made R) x y)) p q);
        }

    pub search_settled : (m k' u' : ℕ) → r ≡ Settled m → k' ≡ m → u' ≡ u → Searched how n made R from x k' (l + 1) u'
    search_settled m k' u' e p q =
        let g : (k < n) × (m < n → m < k) = rw e at h.goes_on in
        on m 0 k' u' g.0 g.1 p (omega (arith, q)) (omega arith) (look_on (n - (l + 1)) ∙ ap (λ s. look_is s (find how (n - (l + 1)) (rows_of n made R) x)) e)

    pub search_unsettled : (m k' u' : ℕ) → r ≡ Unsettled m → k' ≡ m → u' ≡ u + 1 → Searched how n made R from x k' (l + 1) u'
    search_unsettled m k' u' e p q =
        let g : (k < n) × (m < n → m < k) = rw e at h.goes_on in
        on m 1 k' u' g.0 g.1 p q (omega arith) (look_on (n - (l + 1)) ∙ ap (λ s. look_is s (find how (n - (l + 1)) (rows_of n made R) x)) e)

    -- the Write at which the walk ends is within the table, so it can be counted
    counted : k < n → l + 1 ≤ n
    counted d = let b = i.left d in omega arith

    ends : (s : Look) (value : Option ℕ) → r ≡ s → k < n → look_is s (find how (n - (l + 1)) (rows_of n made R) x) ≡ record { value = value; looked = 1; unsettled = 0 }
        → record { value = value; looked = l + 1; unsettled = u } ≡ find how n (rows_of n made R) x from
    ends s value e d o =
        sym (i.same ∙ ap (after l u) (at_least_one d ∙ look_on (n - (l + 1)) ∙ ap (λ s. look_is s (find how (n - (l + 1)) (rows_of n made R) x)) e ∙ o)
        ∙ same-found value (l + 1) (l + 1) (u + 0) u refl (omega arith))

    pub hit_within : (v : ℕ) → r ≡ Hit v → l + 1 ≤ n
    hit_within v e = counted (rw e at h.goes_on)

    pub search_hit : (v : ℕ) → r ≡ Hit v → record { value = some v; looked = l + 1; unsettled = u } ≡ find how n (rows_of n made R) x from
    search_hit v e = ends (Hit v) (some v) e (rw e at h.goes_on) refl

    pub stop_within : r ≡ Stop → l + 1 ≤ n
    stop_within e = counted (rw e at h.goes_on)

    pub search_stop : r ≡ Stop → record { value = none; looked = l + 1; unsettled = u } ≡ find how n (rows_of n made R) x from
    search_stop e = ends Stop none e (rw e at h.goes_on) refl

    lost_at : (f : ℕ) → r ≡ End → find how f (rows_of n made R) x k ≡ lost
    unfolding find
    lost_at zero e = refl
    lost_at (suc f) e = look_on f ∙ ap (λ s. look_is s (find how f (rows_of n made R) x)) e

    pub search_end : r ≡ End → record { value = none; looked = l; unsettled = u } ≡ find how n (rows_of n made R) x from
    search_end e = sym (i.same ∙ ap (after l u) (lost_at (n - l) e) ∙ same-found none (l + 0) l (u + 0) u (omega arith) (omega arith))
