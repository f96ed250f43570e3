-- The walk down the writes, step by step from the front, as a loop with two counters goes: after l writes, u of them unsettled.
-- go is the walk from the next memory on: with less fuel, or by Search's find-is with the same.
-- Assumes nothing.
use Prim.Native.Nat.{ℕ, ◌+◌}
use mathlib.Core.Path.{◌≡◌, refl, ap, ap₂, ◌∙◌}
use mathlib.Core.Bool.{true, false, cond}
use mathlib.Core.Option.{Option, none, some}
use native.Mathlib.Omega.{arith}
use borrow.Author.Tests.{eq-eqb, ne_eqb}
use Rattle.btor.specs.Operators.{rust}
use Rattle.rules.specs.Table.{Write, Node, is}
use Rattle.rules.specs.Fold.{const_of}
use Rattle.rules.specs.Memory.{Found, lost, hit, past, meet, look_at}

-- what a walk finds, after l writes of which u were unsettled
abbrev pub after : ℕ → ℕ → Found → Found
after l u r = record { value = r.value; looked = l + r.looked; unsettled = u + r.unsettled }

pub same-found : (v : Option ℕ) (a b c d : ℕ) → a ≡ b → c ≡ d → ◌≡◌ {A = Found} (record { value = v; looked = a; unsettled = c }) (record { value = v; looked = b; unsettled = d })
same-found v a b c d p q = ap₂ (λ s t. record { value = v; looked = s; unsettled = t }) p q

pub after_none : (r : Found) → after 0 0 r ≡ r
after_none r = same-found r.value (0 + r.looked) r.looked (0 + r.unsettled) r.unsettled (omega arith) (omega arith)

module _ (rows : ℕ → Node) (go : ℕ → Found) (x m l u : ℕ) where
  -- anything but a Write: nothing is found
  pub at_end : is Write (rows m) ≡ false → after l u (look_at rust rows go x (rows m)) ≡ record { value = none; looked = l; unsettled = u }
  unfolding look_at
  at_end e =
      ap (λ b. after l u (elim b [ true ↦ meet rust x (rows m).c (const_of rows (rows m).b) (go (rows m).a) | false ↦ lost ])) e
      ∙ same-found none (l + 0) l (u + 0) u (omega arith) (omega arith)

  module _ (e : is Write (rows m) ≡ true) where
    opened : look_at rust rows go x (rows m) ≡ meet rust x (rows m).c (const_of rows (rows m).b) (go (rows m).a)
    unfolding look_at
    opened = ap (λ b. elim b [ true ↦ meet rust x (rows m).c (const_of rows (rows m).b) (go (rows m).a) | false ↦ lost ]) e

    -- an unsettled write is passed and counted twice
    pub at-unsettled : const_of rows (rows m).b ≡ none → after l u (look_at rust rows go x (rows m)) ≡ after (l + 1) (u + 1) (go (rows m).a)
    at-unsettled c =
        let r : Found = go (rows m).a in
        ap (after l u) (opened ∙ ap (λ k. meet rust x (rows m).c k r) c)
        ∙ same-found r.value (l + (r.looked + 1)) (l + 1 + r.looked) (u + (r.unsettled + 1)) (u + 1 + r.unsettled) (omega arith) (omega arith)

    -- a write at another address is passed
    pub at_other : (z : ℕ) → const_of rows (rows m).b ≡ some z → (z ≡ x → ⊥) → after l u (look_at rust rows go x (rows m)) ≡ after (l + 1) u (go (rows m).a)
    at_other z c d =
        let r : Found = go (rows m).a in
        ap (after l u) (opened ∙ ap (λ k. meet rust x (rows m).c k r) c ∙ ap (λ b. cond b (hit (rows m).c) (past 0 r)) (ne_eqb z x d))
        ∙ same-found r.value (l + (r.looked + 1)) (l + 1 + r.looked) (u + (r.unsettled + 0)) (u + r.unsettled) (omega arith) (omega arith)

    -- the first write that holds the address ends the walk
    pub at-hit : (z : ℕ) → const_of rows (rows m).b ≡ some z → z ≡ x → after l u (look_at rust rows go x (rows m)) ≡ record { value = some (rows m).c; looked = l + 1; unsettled = u }
    at-hit z c d =
        let r : Found = go (rows m).a in
        ap (after l u) (opened ∙ ap (λ k. meet rust x (rows m).c k r) c ∙ ap (λ b. cond b (hit (rows m).c) (past 0 r)) (eq-eqb z x d))
        ∙ same-found (some (rows m).c) (l + 1) (l + 1) (u + 0) u refl (omega arith)
