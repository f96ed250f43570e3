-- What comes after a node's operands: it is finished, asked about, takes an input or is forwarded, as the rules say.
-- Assumes nothing.
use Prim.Native.Nat.{ℕ, suc, ◌+◌, ◌<◌, ◌≤◌}
use mathlib.Core.Path.{◌≡◌, refl, ap, ap₂, sym, ◌∙◌}
use mathlib.Core.Bool.{Bool, true, false}
use mathlib.Core.Option.{Option}
use mathlib.Core.List.{List, [], ◌∷◌, ◌++◌}
use native.Mathlib.Numerals.{add-one}
use Rattle.std.specs.Prelude.{Some, None}
use Rattle.std.proofs.Common.{add-zero}
use lib.ListN.{length, get_or, drop, drop_of_length-le}
use lib.Seq.{drop-cons}
use borrow.Author.Tests.{eq-eqb, ne_eqb}
use Rattle.btor.specs.Operators.{Reading}
use Rattle.rules.specs.Refusal.{Out, done, refuse}
use Rattle.rules.specs.Table.{fits}
use Rattle.rules.specs.Walk.{St, Held, set_inputs, add_held, add_tally}
use Rattle.rules.specs.Fold.{Fold, stays, swap, make, const_of}
use Rattle.rules.specs.Memory as rules
use Rattle.rules.specs.Memory.{find, fold_found, passed_by}
use Rattle.rules.specs.Questions.{ask_or, ask_bit, ask_ite, quiet}
use Rattle.rules.specs.Visit.{Ways, new_number, settle, finish_stay, finish, forward, take_input}
use Rattle.rules.proofs.Base.{no}
use Rattle.optimize.specs.declared.walk.Walk.{Walk}
use Rattle.std.specs.Prelude.{Option as Answer, Some, None}
use Rattle.optimize.specs.declared.fold.Rule.{Rule}
use Rattle.optimize.specs.declared.fold.Single.{Single}
use Rattle.optimize.specs.declared.form.Pair.{Pair}
use Rattle.optimize.specs.declared.memory.Search.{Search}
use Rattle.optimize.specs.Bounds.{count_of}
use Rattle.rules.specs.Sections.{word_of}
use Rattle.optimize.specs.View.{node_of, table_of, rows_of, view, constant_is}
use Rattle.optimize.specs.Folding.{fold_two, fold_one, asks_bit, value_is, search_is}
use Rattle.optimize.specs.Process.{is_stays, then_ask, settle_then, bit_of, take_of, after_one, after_rule, after_read, after_two, after_ite}
use Rattle.optimize.proofs.Steps.{table-length}
use Rattle.optimize.proofs.Asks.{is-stay, chain_bit-more, chain_two}

-- ---- finishing
module _ (g : List ℕ) (ways : Ways) (k : ℕ) (σ : St) (F : Fold) (more : St → Out (St × Fold)) where
  pub finish-folded : is_stays F ≡ false → settle (table_of g) ways k σ F ≡ finish (table_of g) ways k σ F more
  unfolding finish
  finish-folded e = go F e
    where
      go : (G : Fold) → is_stays G ≡ false → settle (table_of g) ways k σ G ≡ finish (table_of g) ways k σ G more
      go stays e = no (sym e)
      go (swap r) e = refl
      go (make s v) e = refl

  pub finish-quiet : is_stays F ≡ true → ways.minimise ≡ false → settle (table_of g) ways k σ F ≡ finish (table_of g) ways k σ F more
  unfolding finish finish_stay
  finish-quiet e m = rw (is-stay F e, m)

  pub finish-asks : is_stays F ≡ true → ways.minimise ≡ true → settle_then g ways k (more σ) ≡ finish (table_of g) ways k σ F more
  unfolding finish finish_stay
  finish-asks e m = rw (is-stay F e, m)

pub quiet-stays : (g : List ℕ) (ways : Ways) (k : ℕ) (σ : St) (F : Fold) (b : Bool) → ways.minimise ≡ true → is_stays F ≡ true → b ≡ false
    → settle (table_of g) ways k σ F ≡ finish (table_of g) ways k σ F (bit_of g ways k b)
unfolding finish finish_stay
quiet-stays g ways k σ F b m e d = rw (is-stay F e, m, d)

pub bit-asks : (g : List ℕ) (ways : Ways) (k : ℕ) (b : Bool) (σ : St) → b ≡ true → ask_bit ways.reply_count (count_of g) k quiet σ ≡ bit_of g ways k b σ
bit-asks g ways k b σ e = rw e

-- ---- the rows of the state are those of the buffers
module _ (h : List Held) (g inputs replies R S : List ℕ) (w : Walk) (ways : Ways) (k : ℕ) where
  pub one_is : (rule : Single) (x : ℕ) (F : Fold) → F ≡ fold_one rule (count_of g) (word_of g k 1) (const_of (rows_of (count_of g) w.made R) x)
      → settle (table_of g) ways k (view h g inputs replies R S w) F ≡ after_one g ways rule (view h g inputs replies R S w) k x
  unfolding view
  one_is rule x F e = ap (settle (table_of g) ways k (view h g inputs replies R S w)) e

  pub rule_is : (rule : Rule) (x y : ℕ) (how : Reading) (F : Fold) (b : Bool) → how ≡ ways.reading
      → F ≡ fold_two how rule (count_of g) (word_of g k 1) x y (const_of (rows_of (count_of g) w.made R) x) (const_of (rows_of (count_of g) w.made R) y)
      → b ≡ asks_bit rule (word_of g k 1)
      → finish (table_of g) ways k (view h g inputs replies R S w) F (bit_of g ways k b) ≡ after_rule g ways rule (view h g inputs replies R S w) k x y
  unfolding view
  rule_is rule x y how F b q e d = rw (e, q, d)

  pub read_is : (x y : ℕ) (c : Option ℕ) → c ≡ const_of (rows_of (count_of g) w.made R) y
      → forward (table_of g) ways k (view h g inputs replies R S w) x c ≡ after_read g ways (view h g inputs replies R S w) k x y
  unfolding view
  read_is x y c e = ap (forward (table_of g) ways k (view h g inputs replies R S w) x) e

-- ---- what a node of two operands does with them
module _ (g : List ℕ) (ways : Ways) (σ : St) (k x y : ℕ) (pair : Pair) where
  pub two-folds : (rule : Rule) → pair ≡ Pair.Folds rule → after_rule g ways rule σ k x y ≡ after_two g ways pair σ k x y
  unfolding after_two
  two-folds rule e = sym (ap (λ z. after_two g ways z σ k x y) e)

  pub two_reads : pair ≡ Pair.Reads → after_read g ways σ k x y ≡ after_two g ways pair σ k x y
  unfolding after_two
  two_reads e = sym (ap (λ z. after_two g ways z σ k x y) e)

-- ---- forwarding
module _ (h : List Held) (g inputs replies R S : List ℕ) (w : Walk) (ways : Ways) (k m : ℕ) where
  pub forward-none : (c : Answer ℕ) → c ≡ None
      → settle (table_of g) ways k (view h g inputs replies R S w) stays ≡ forward (table_of g) ways k (view h g inputs replies R S w) m (constant_is c)
  unfolding forward
  forward-none c e = sym (ap (λ z. forward (table_of g) ways k (view h g inputs replies R S w) m (constant_is z)) e)

  -- what a search found is recorded with its counts
  pub forward-some : (c : Answer ℕ) (x : ℕ) (how : Reading) (s : Search) (w' : Walk) (p : ℕ) (F : Fold) → c ≡ Some x → how ≡ ways.reading
      → search_is s ≡ find how (count_of g) (rows_of (count_of g) w.made R) x m
      → p ≡ passed_by (value_is s.found) s.passed → F ≡ fold_found (value_is s.found)
      → view h g inputs replies R S w' ≡ add_tally (view h g inputs replies R S w) s.looked p
      → settle (table_of g) ways k (view h g inputs replies R S w') F ≡ forward (table_of g) ways k (view h g inputs replies R S w) m (constant_is c)
  unfolding forward view
  forward-some c x how s w' p F e i q ep ef ew =
      let σ : St = view h g inputs replies R S w in
      ap (λ τ. settle (table_of g) ways k τ F) ew
      ∙ rw (ep, ef)
      (ap (λ (r : rules.Found). settle (table_of g) ways k (add_tally σ r.looked (passed_by r.value r.unsettled)) (fold_found r.value)) (q ∙ ap₂ (λ r n. find r n σ.rows x m) i (sym (table-length g)))
      ∙ sym (ap (λ z. forward (table_of g) ways k σ m (constant_is z)) e))

pub tally_is : (h : List Held) (g inputs replies R S : List ℕ) (w : Walk) (l p : ℕ)
    → view h g inputs replies R S (record w { looked = w.looked + l; passed = w.passed + p }) ≡ add_tally (view h g inputs replies R S w) l p
unfolding view
tally_is h g inputs replies R S w l p = refl

pub looked_is : (h : List Held) (g inputs replies R S : List ℕ) (w : Walk) (l : ℕ)
    → view h g inputs replies R S (record w { looked = w.looked + l }) ≡ add_tally (view h g inputs replies R S w) l 0
unfolding view
looked_is h g inputs replies R S w l = rw (add-zero w.passed)

-- ---- inputs
module _ (g : List ℕ) (ways : Ways) (σ : St) (k : ℕ) where
  abbrev take_at : List ℕ → Out (St × ℕ)
  take_at l = take_input (table_of g) ways σ k (node_of g k) l

  pub take_none : σ.inputs ≡ [] → settle (table_of g) ways k σ stays ≡ take_of g ways σ k
  unfolding take_input
  take_none e = sym (ap take_at e)

  module _ (x : ℕ) (xs : List ℕ) (e : σ.inputs ≡ x ∷ xs) where
    pub take-dump : ways.dump (word_of g k 5) ≡ true → settle (table_of g) ways k σ stays ≡ take_of g ways σ k
    unfolding take_input
    take-dump d = sym (ap take_at e ∙ rw (take_input, d))

    module _ (d : ways.dump (word_of g k 5) ≡ false) where
      pub take-memory : word_of g k 1 ≡ 3 → refuse 8 1 k ≡ take_of g ways σ k
      unfolding take_input
      take-memory s = sym (ap take_at e ∙ rw (take_input, d, eq-eqb (word_of g k 1) 3 s))

      pub take-wide : (word_of g k 1 ≡ 3 → ⊥) → fits (word_of g k 1) x ≡ false → refuse 10 1 k ≡ take_of g ways σ k
      unfolding take_input
      take-wide s l = sym (ap take_at e ∙ rw (take_input, d, ne_eqb (word_of g k 1) 3 s, l))

      pub take-made : (word_of g k 1 ≡ 3 → ⊥) → fits (word_of g k 1) x ≡ true
          → settle (table_of g) ways k (add_held (set_inputs σ xs) k (new_number (table_of g) ways σ)) (make (word_of g k 1) x) ≡ take_of g ways σ k
      unfolding take_input
      take-made s l = sym (ap take_at e ∙ rw (take_input, d, ne_eqb (word_of g k 1) 3 s, l))

module _ (h : List Held) (g inputs replies R S : List ℕ) (w : Walk) where
  inputs_are : (view h g inputs replies R S w).inputs ≡ drop w.taken inputs
  unfolding view
  inputs_are = refl

  pub inputs-none : length inputs ≤ w.taken → (view h g inputs replies R S w).inputs ≡ []
  inputs-none l = inputs_are ∙ drop_of_length-le inputs l

  pub inputs-some : (x : ℕ) → w.taken < length inputs → x ≡ get_or inputs w.taken x → (view h g inputs replies R S w).inputs ≡ x ∷ drop (suc w.taken) inputs
  inputs-some x l e = inputs_are ∙ drop-cons inputs w.taken x l ∙ ap (λ y. y ∷ drop (suc w.taken) inputs) (sym e)

  -- the state that took the input is held by the new constant
  pub took : (k r : ℕ)
      → view (h ++ (record { state = k; by = r } ∷ [])) g inputs replies R S (record w { taken = w.taken + 1 })
      ≡ add_held (set_inputs (view h g inputs replies R S w) (drop (suc w.taken) inputs)) k r
  unfolding view
  took k r = rw (add-one w.taken)

-- ---- the questions of an Ite
module _ (g : List ℕ) (ways : Ways) (k : ℕ) (σ : St) (x y z : ℕ) (m : ways.minimise ≡ true) where
  ite-asks : (o : Out (St × Fold)) → o ≡ ask_ite ways.reply_count (count_of g) (word_of g k 1) k x y z σ → settle_then g ways k o ≡ after_ite g ways σ k x y z
  unfolding finish finish_stay
  ite-asks o e = ap (settle_then g ways k) e ∙ finish-asks g ways k σ stays (ask_ite ways.reply_count (count_of g) (word_of g k 1) k x y z) refl m

  pub ite-bit : word_of g k 1 ≡ 1 → settle_then g ways k (then_ask ways.reply_count 3 k x (swap x) (ask_bit ways.reply_count (count_of g) k quiet σ)) ≡ after_ite g ways σ k x y z
  ite-bit s = ite-asks _ (chain_bit-more ways.reply_count (count_of g) k 3 k x x σ ∙ rw (eq-eqb (word_of g k 1) 1 s))

  pub ite-word : (word_of g k 1 ≡ 1 → ⊥) → word_of g k 1 ≡ 2
      → settle_then g ways k (then_ask ways.reply_count 3 k z (swap z) (ask_or ways.reply_count 3 k y (swap y) quiet σ)) ≡ after_ite g ways σ k x y z
  ite-word d s = ite-asks _ (chain_two ways.reply_count 3 k z y 3 k y z σ ∙ rw (ne_eqb (word_of g k 1) 1 d, eq-eqb (word_of g k 1) 2 s))

  pub ite-other : (word_of g k 1 ≡ 1 → ⊥) → (word_of g k 1 ≡ 2 → ⊥) → settle (table_of g) ways k σ stays ≡ after_ite g ways σ k x y z
  ite-other d s = ite-asks (done (σ, stays)) (rw (ne_eqb (word_of g k 1) 1 d, ne_eqb (word_of g k 1) 2 s))
