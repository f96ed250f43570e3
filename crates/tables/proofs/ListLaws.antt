-- Laws for the proofs of lists.rt: entries by their rows, lists at their places in cut words, and judging one entry after the other.
-- Assumes nothing.
use Prim.Native.Nat.{ℕ, zero, suc, ◌+◌, ◌*◌, ◌<◌, ◌≤◌}
use mathlib.Core.Path.{◌≡◌, refl, sym, ap, ap₂, ◌∙◌}
use mathlib.Core.Bool.{Bool, true, false, cond, ◌||◌, not, or-false}
use mathlib.Core.Option.{Option, none, some}
use mathlib.Core.List.{List, [], ◌∷◌, map}
use native.Mathlib.Omega.{arith}
use native.Mathlib.Numerals.{add-one}
use lib.Dec.{ltb, eqb}
use Rattle.std.specs.List.{fold, list_any, position_or_len}
use Rattle.std.proofs.lemmas.List.Sums.{fold_more}
use lib.ListN.{length, length-set, get_or, set, take, drop, replicate, length-take, length-drop, drop_of_length-le}
use lib.Seq.{drop-cons, get_or-set_same, get_or-set_other}
use Rattle.std.proofs.lemmas.Bool.Decides.{nat_tests}
use borrow.Author.Tests.{eqb-true, eqb-false}
use Rattle.rules.specs.Refusal.{Refusal, unless, first_of}
use Rattle.rules.specs.Lists.{all_true, member}
use Rattle.rules.specs.Table.{Node, decode, node_at}
use Rattle.rules.specs.Check.{sequential_entry, bad_entry, check_sequentials, check_bads}
use Rattle.tables.specs.SectionAnswers.{words_in, Lies}
use Rattle.tables.specs.Judging.{rows_in, table_in, states_of, Marks}
use Rattle.tables.specs.declared.sections.Part.{Part}
use Rattle.tables.specs.declared.sections.Sections.{Sections}
use Rattle.tables.proofs.JudgeLaws.{alone, rows-count}

map-length : {A B : Type 0} (f : A → B) (xs : List A) → length (map f xs) ≡ length xs
map-length f [] = refl
map-length f (x ∷ xs) = ap suc (map-length f xs)

-- ---- entries by their rows
module _ (ws : List ℕ) (s : Sections) where
  pub table_count : length (table_in ws s) ≡ s.nodes.count
  table_count = map-length decode (rows_in ws s) ∙ rows-count ws s

-- ---- a list in the words
module _ (ws : List ℕ) (at : ℕ) (p : Part) (l : Lies ws at 1 p) where
  pub list_count : length (words_in ws 1 p) ≡ p.count
  list_count = length-take (1 * p.count) (drop p.start ws) ∙ omega (arith, length-drop p.start ws, l.ends, l.within)

-- ---- sequentials, entry after entry
module _ (t : List Node) (ss : List ℕ) where
  abbrev entry_at : ℕ → Bool
  entry_at k = all_true (sequential_entry t (get_or ss k 0))

  abbrev state_at : ℕ → ℕ
  state_at k = (node_at t (get_or ss k 0)).a

  abbrev states_at : ℕ → List ℕ
  states_at k = states_of t (take k ss)

  abbrev from : ℕ → Option Refusal
  from k = check_sequentials t k (states_at k) (drop k ss)

  pub states-more : (k : ℕ) → k < length ss → states_at (k + 1) ≡ state_at k ∷ states_at k
  unfolding states_of
  states-more k h = fold_more (λ states entry. (node_at t entry).a ∷ states) [] ss k 0 h

  step : (k : ℕ) → k < length ss
      → from k ≡ first_of (unless (entry_at k) 6 2 k ∷ unless (not (member (state_at k) (states_at k))) 7 2 k ∷ from (k + 1) ∷ [])
  unfolding check_sequentials
  step k h =
      ap (check_sequentials t k (states_at k)) (drop-cons ss k 0 h)
      ∙ ap₂ (λ (m : ℕ) (s : List ℕ). first_of (unless (entry_at k) 6 2 k ∷ unless (not (member (state_at k) (states_at k))) 7 2 k ∷ check_sequentials t m s (drop m ss) ∷ []))
      (sym (add-one k)) (sym (states-more k h))

  pub sequentials-stop_6 : (k : ℕ) → k < length ss → entry_at k ≡ false → some (record { reason = 6; section = 2; position = k }) ≡ from k
  sequentials-stop_6 k h e = sym (step k h ∙ ap (λ (b : Bool). first_of (unless b 6 2 k ∷ unless (not (member (state_at k) (states_at k))) 7 2 k ∷ from (k + 1) ∷ [])) e)

  pub sequentials-stop_7 : (k : ℕ) → k < length ss → entry_at k ≡ true → member (state_at k) (states_at k) ≡ true
      → some (record { reason = 7; section = 2; position = k }) ≡ from k
  sequentials-stop_7 k h e f = sym (step k h ∙ ap₂ (λ (b c : Bool). first_of (unless b 6 2 k ∷ unless (not c) 7 2 k ∷ from (k + 1) ∷ [])) e f)

  pub sequentials-pass : (k : ℕ) → k < length ss → entry_at k ≡ true → member (state_at k) (states_at k) ≡ false → from (k + 1) ≡ from k
  sequentials-pass k h e f = sym (step k h ∙ ap₂ (λ (b c : Bool). first_of (unless b 6 2 k ∷ unless (not c) 7 2 k ∷ from (k + 1) ∷ [])) e f ∙ last (from (k + 1)))
    where
      last : (o : Option Refusal) → first_of (none ∷ none ∷ o ∷ []) ≡ o
      last none = refl
      last (some r) = refl

  pub sequentials_end : (k : ℕ) → length ss ≤ k → from k ≡ none
  unfolding check_sequentials
  sequentials_end k h = ap (check_sequentials t k (states_at k)) (drop_of_length-le ss h)

  -- one more state is listed, and marked
  pub marked : (k : ℕ) (marks : List Bool) (state : ℕ) → k < length ss → state ≡ state_at k → Marks (states_at k) marks → Marks (states_at (k + 1)) (set marks state true)
  marked k marks state l e g x h =
      go (eqb x state) refl ∙ ap (λ (y : ℕ). member x (y ∷ states_at k)) e ∙ sym (ap (member x) (states-more k l))
    where
      inside : x < length marks
      inside = omega (arith, length-set marks state true)

      go : (b : Bool) → eqb x state ≡ b → get_or (set marks state true) x false ≡ (eqb x state || member x (states_at k))
      go true q = let same = eqb-true x state q in rw (q, same, get_or-set_same marks state true false (omega (arith, inside)))
      go false q = rw (q, get_or-set_other marks state x true false (eqb-false x state q)) (g x inside)

-- what is replicated reads as itself
pub replicated : {A : Type 0} (d : A) (n k : ℕ) → get_or (replicate n d) k d ≡ d
replicated d zero k = refl
replicated d (suc n) zero = refl
replicated d (suc n) (suc k) = replicated d n k

-- at first no state is listed, and no mark is set
pub unmarked : (t : List Node) (marks : List Bool) → ((k : ℕ) → get_or marks k false ≡ false) → Marks (states_of t []) marks
unfolding states_of
unmarked t marks z x h = z x

-- the states of sequentials, as the library looks for them
module _ (t : List Node) (x : ℕ) where
  abbrev hit : ℕ → Bool
  hit e = eqb x (node_at t e).a

  listed_from : (ss states : List ℕ) → (list_any hit ss || member x states) ≡ member x (fold (λ states entry. (node_at t entry).a ∷ states) states ss)
  listed_from [] states = refl
  listed_from (s ∷ ss) states = swapped (hit s) (list_any hit ss) (member x states) ∙ listed_from ss ((node_at t s).a ∷ states)
    where
      swapped : (a b c : Bool) → ((a || b) || c) ≡ (b || (a || c))
      swapped true true c = refl
      swapped true false c = refl
      swapped false b c = refl

  pub listed_is : (ss : List ℕ) → list_any hit ss ≡ member x (states_of t ss)
  unfolding states_of
  listed_is ss = sym (or-false (list_any hit ss)) ∙ listed_from ss []

-- bads, by the first entry that is none
module _ (t : List Node) (section : ℕ) where
  abbrev pub no_bad : ℕ → Bool
  no_bad b = not (all_true (bad_entry t b))

  abbrev pub found_at : ℕ → List ℕ → Option Refusal
  found_at k bs = cond (ltb (position_or_len no_bad bs) (length bs)) (some (record { reason = 6; section = section; position = k + position_or_len no_bad bs })) none

  -- an entry more, and what is found among the later ones
  abbrev found : Bool → ℕ → Option Refusal
  found b place = cond b (some (record { reason = 6; section = section; position = place })) none

  found_later : (k p n : ℕ) → found (ltb p n) (suc k + p) ≡ found (ltb (1 + p) (suc n)) (k + (1 + p))
  found_later k p n = ap₂ found (grind (arith, nat_tests)) (omega arith)

  pub bads_by : (k : ℕ) (bs : List ℕ) → check_bads t section k bs ≡ found_at k bs
  unfolding check_bads
  bads_by k [] = refl
  bads_by k (b ∷ bs) = go (all_true (bad_entry t b)) refl (bads_by (suc k) bs)
    where
      go : (here : Bool) → all_true (bad_entry t b) ≡ here → check_bads t section (suc k) bs ≡ found_at (suc k) bs
          → first_of (unless (all_true (bad_entry t b)) 6 section k ∷ check_bads t section (suc k) bs ∷ []) ≡ found_at k (b ∷ bs)
      go true e f = rw e (alone (check_bads t section (suc k) bs) ∙ f ∙ found_later k (position_or_len no_bad bs) (length bs))
      go false e f = rw e (let z : k + 0 ≡ k = omega arith in let y : ltb 0 (suc (length bs)) ≡ true = grind (arith, nat_tests) in ap₂ found (sym y) (sym z))
