-- A result's words read back: what stands in them, section by section, is what the rules' fold left.
-- By the sizes of the sections: each is as many words as its count says.
--     read-back       what the sections hold
-- Assumes nothing.
use Prim.Native.Nat.{ℕ, zero, suc, ◌+◌, ◌*◌, ◌<◌, ◌≤◌}
use mathlib.Core.Path.{◌≡◌, refl, sym, ap, ◌∙◌, subst}
use mathlib.Core.List.{List, [], ◌∷◌, ◌++◌, append_assoc, append-nil, flatten}
use native.Mathlib.Omega.{arith}
use native.Mathlib.Nat.{zero-add, mul-le-mul_right}
use lib.ListN.{length, get_or, drop, get_or-append}
use lib.Seq.{take_at, drop_at, get_or-append-add}
use Rattle.rules.specs.Lists.{sum}
use Rattle.rules.specs.Table.{Kind, Node, kind_of, row_width}
use Rattle.rules.specs.Model.{Model}
use Rattle.rules.specs.Walk.{St, Mark, fresh, kept, replaced}
use Rattle.rules.specs.Whole.{Folded}
use Rattle.rules.specs.Result.{node_words, const_words, mark_words, is_replaced, gather, question_words, listed, tally_of, result_words}
use Rattle.rules.proofs.Base.{inside-or-past, kind-of-code}
use Rattle.rules.proofs.Flat.{gather-size, gather-at, marks_snoc, marks-size}
use Rattle.optimize.specs.Bounds.{count_of}
use Rattle.rules.specs.Sections.{word_of}
use Rattle.optimize.specs.View.{node_of}
use Rattle.optimize.specs.Demand.{after, constants_on, replacements_on, initial_on, later_on, list_in}

-- ---- one section
-- the words of a section and those after it
after_is : (width c : ℕ) (xs ws : List ℕ) → length xs ≡ width * c → after width (c ∷ xs ++ ws) ≡ ws
after_is width c xs ws h =
    let e : 1 + width * c ≡ suc (width * c) = omega arith in
    ap (λ i. drop i (c ∷ xs ++ ws)) e ∙ drop_at xs ws (width * c) h

list_is : (xs ws : List ℕ) → list_in (listed xs ++ ws) ≡ xs
list_is xs ws = take_at xs ws (length xs) refl

-- word i of entry j
word_in : (p c k : ℕ) (f : ℕ → List ℕ) (ws : List ℕ) → ((i : ℕ) → length (f i) ≡ p) → (j i : ℕ) → j < c → i < p
    → get_or (c ∷ gather c k f ++ ws) (suc (j * p + i)) 0 ≡ get_or (f (k + j)) i 0
word_in p c k f ws h j i lj li =
    let inside : j * p + i < length (gather c k f) = rw (gather-size p c k f h) (within lj) in
    get_or-append (gather c k f) ws 0 (j * p + i) inside ∙ gather-at p c k f h j i 0 lj li
  where
    within : j < c → j * p + i < c * p
    within l =
        let s : suc j ≤ c = omega arith in
        omega (arith, mul-le-mul_right p s)

-- ---- the replacements
abbrev pairs : ℕ → (ℕ → Mark) → List ℕ
pairs n mark = gather n 0 (λ k. mark_words k (mark k))

abbrev pair_count : ℕ → (ℕ → Mark) → ℕ
pair_count n mark = sum n (λ k. is_replaced (mark k))

-- pair i is a replaced node and what replaces it
pub record Pair (n : ℕ) (mark : ℕ → Mark) (ws : List ℕ) (i : ℕ) : Type 0 where
  pub node : ℕ
  pub by : ℕ
  pub inside : node < n
  pub marked : mark node ≡ replaced by
  pub first : get_or ws (2 * i) 0 ≡ node
  pub second : get_or ws (2 * i + 1) 0 ≡ by

-- a pair stays where more words follow
pair_on : (n c : ℕ) (mark : ℕ → Mark) (xs ws : List ℕ) (i : ℕ) → n ≤ c → 2 * i + 1 < length xs → Pair n mark xs i → Pair c mark (xs ++ ws) i
pair_on n c mark xs ws i h l p =
    record {
      node = p.node;
      by = p.by;
      inside = omega (arith, p.inside);
      marked = p.marked;
      first = get_or-append xs ws 0 (2 * i) (omega arith) ∙ p.first;
      second = get_or-append xs ws 0 (2 * i + 1) l ∙ p.second;
    }

pair_last : (n : ℕ) (mark : ℕ → Mark) (r i : ℕ) → mark n ≡ replaced r → i ≡ pair_count n mark → Pair (suc n) mark (pairs n mark ++ (n ∷ r ∷ [])) i
pair_last n mark r i m e =
    let e₀ : 2 * i ≡ length (pairs n mark) + 0 = omega (arith, marks-size n mark) in
    let e₁ : 2 * i + 1 ≡ length (pairs n mark) + 1 = omega (arith, marks-size n mark) in
    record {
      node = n;
      by = r;
      inside = omega arith;
      marked = m;
      first = ap (λ j. get_or (pairs n mark ++ (n ∷ r ∷ [])) j 0) e₀ ∙ get_or-append-add (pairs n mark) (n ∷ r ∷ []) 0 0;
      second = ap (λ j. get_or (pairs n mark ++ (n ∷ r ∷ [])) j 0) e₁ ∙ get_or-append-add (pairs n mark) (n ∷ r ∷ []) 1 0;
    }

pair_at : (n : ℕ) (mark : ℕ → Mark) (i : ℕ) → i < pair_count n mark → Pair n mark (pairs n mark) i
unfolding sum
pair_at zero mark i l = absurd (omega arith)
pair_at (suc n) mark i l =
    subst (λ ws. Pair (suc n) mark ws i) (sym (marks_snoc n mark))
    (inside-or-past (Pair (suc n) mark (pairs n mark ++ mark_words n (mark n)) i) i (pair_count n mark)
    (λ h. pair_on n (suc n) mark (pairs n mark) (mark_words n (mark n)) i (omega arith) (omega (arith, marks-size n mark)) (pair_at n mark i h))
    (λ h. last l h (mark n) refl))
  where
    last : i < is_replaced (mark n) + pair_count n mark → pair_count n mark ≤ i → (m : Mark) → mark n ≡ m → Pair (suc n) mark (pairs n mark ++ mark_words n (mark n)) i
    last l h fresh e = let z = ap is_replaced e in absurd (omega (arith, z))
    last l h kept e = let z = ap is_replaced e in absurd (omega (arith, z))
    last l h (replaced r) e =
        let z = ap is_replaced e in
        subst (λ m. Pair (suc n) mark (pairs n mark ++ mark_words n m) i) (sym e) (pair_last n mark r i e (omega (arith, z)))

-- ---- the sections
same-node : (nd : Node) (K : Kind) (s a b c n : ℕ) → K ≡ nd.kind → s ≡ nd.sort → a ≡ nd.a → b ≡ nd.b → c ≡ nd.c → n ≡ nd.name
    → ◌≡◌ {A = Node} (record { kind = K; sort = s; a = a; b = b; c = c; name = n }) (record { kind = nd.kind; sort = nd.sort; a = nd.a; b = nd.b; c = nd.c; name = nd.name })
same-node nd K s a b c n e₁ e₂ e₃ e₄ e₅ e₆ = cc

-- what a result's words hold
pub record ReadBack (m : Model) (f : Folded) (Q : List ℕ) : Type 0 where
  pub nodes : count_of Q ≡ length m.table
  pub rows : (k : ℕ) → k < length m.table → node_of Q k ≡ f.state.rows k
  pub sorts : (j : ℕ) → j < 2 + f.state.made → get_or (constants_on Q) (1 + 2 * j) 0 ≡ (f.state.rows (length m.table + j)).sort
  pub constants : (j : ℕ) → j < 2 + f.state.made → get_or (constants_on Q) (2 + 2 * j) 0 ≡ (f.state.rows (length m.table + j)).a
  pub replacements : (i : ℕ) → i < count_of (replacements_on Q) → Pair (length m.table) f.state.mark (drop 1 (replacements_on Q)) i
  pub initial : list_in (initial_on Q) ≡ f.initial
  pub later : list_in (later_on Q) ≡ f.later

nine_on : (a b c d e f g h i rest : List ℕ) → flatten (a ∷ b ∷ c ∷ d ∷ e ∷ f ∷ g ∷ h ∷ i ∷ []) ++ rest ≡ a ++ (b ++ (c ++ (d ++ (e ++ (f ++ (g ++ (h ++ (i ++ rest))))))))
unfolding flatten
nine_on a b c d e f g h i rest = simp (append_assoc, append-nil)

module _ (m : Model) (f : Folded) (rest : List ℕ) where
  abbrev n : ℕ
  n = length m.table

  abbrev σ : St
  σ = f.state

  abbrev row_words : List ℕ
  row_words = gather n 0 (λ k. node_words (σ.rows k))

  abbrev made_words : List ℕ
  made_words = gather (2 + σ.made) n (λ k. const_words (σ.rows k))

  -- the words from a section on, last section first
  abbrev from_7 : List ℕ
  from_7 = listed σ.inputs ++ ((length σ.asked ∷ question_words σ.asked) ++ (listed (tally_of m f) ++ rest))

  abbrev from_6 : List ℕ
  from_6 = listed f.later ++ from_7

  abbrev from_5 : List ℕ
  from_5 = listed f.initial ++ from_6

  abbrev from_4 : List ℕ
  from_4 = listed f.sequentials ++ from_5

  abbrev from_3 : List ℕ
  from_3 = pair_count n σ.mark ∷ pairs n σ.mark ++ from_4

  abbrev from_2 : List ℕ
  from_2 = (2 + σ.made) ∷ made_words ++ from_3

  result-on : flatten (result_words m f) ++ rest ≡ n ∷ row_words ++ from_2
  unfolding result_words
  result-on = nine_on (n ∷ row_words) _ _ _ _ _ _ _ _ rest

  on_2 : after 6 (n ∷ row_words ++ from_2) ≡ from_2
  on_2 = after_is 6 n row_words from_2 (omega (arith, gather-size 6 n 0 (λ k. node_words (σ.rows k)) (λ i. refl)))

  on_3 : after 2 from_2 ≡ from_3
  on_3 = after_is 2 (2 + σ.made) made_words from_3 (omega (arith, gather-size 2 (2 + σ.made) n (λ k. const_words (σ.rows k)) (λ i. refl)))

  on_4 : after 2 from_3 ≡ from_4
  on_4 = after_is 2 (pair_count n σ.mark) (pairs n σ.mark) from_4 (marks-size n σ.mark)

  on_5 : after 1 from_4 ≡ from_5
  on_5 = after_is 1 (length f.sequentials) f.sequentials from_5 (omega arith)

  on_6 : after 1 from_5 ≡ from_6
  on_6 = after_is 1 (length f.initial) f.initial from_6 (omega arith)

  row_word : (k i : ℕ) → k < n → i < 6 → word_of (n ∷ row_words ++ from_2) k i ≡ get_or (node_words (σ.rows k)) i 0
  row_word k i l h =
      let e : 1 + row_width * k + i ≡ suc (k * 6 + i) = omega arith in
      ap (λ j. get_or (n ∷ row_words ++ from_2) j 0) e ∙ word_in 6 n 0 (λ k. node_words (σ.rows k)) from_2 (λ i. refl) k i l h
      ∙ ap (λ j. get_or (node_words (σ.rows j)) i 0) (zero-add k)

  row_is : (k : ℕ) → k < n → node_of (n ∷ row_words ++ from_2) k ≡ σ.rows k
  row_is k l =
      same-node (σ.rows k) _ _ _ _ _ _
      (ap kind_of (row_word k 0 l (omega arith)) ∙ kind-of-code (σ.rows k).kind)
      (row_word k 1 l (omega arith)) (row_word k 2 l (omega arith)) (row_word k 3 l (omega arith)) (row_word k 4 l (omega arith)) (row_word k 5 l (omega arith))

  -- the sort and the number of a constant
  constant-is : (j i : ℕ) → j < 2 + σ.made → i < 2 → get_or from_2 (1 + i + 2 * j) 0 ≡ get_or (const_words (σ.rows (n + j))) i 0
  constant-is j i l h =
      let e : 1 + i + 2 * j ≡ suc (j * 2 + i) = omega arith in
      ap (λ i. get_or from_2 i 0) e ∙ word_in 2 (2 + σ.made) n (λ k. const_words (σ.rows k)) from_3 (λ i. refl) j i l h

  pair_is : (i : ℕ) → i < pair_count n σ.mark → Pair n σ.mark (pairs n σ.mark ++ from_4) i
  pair_is i l = pair_on n n σ.mark (pairs n σ.mark) from_4 i (omega arith) (omega (arith, marks-size n σ.mark)) (pair_at n σ.mark i l)

  pub read_back : ReadBack m f (flatten (result_words m f) ++ rest)
  read_back =
      let three : after 2 (after 6 (n ∷ row_words ++ from_2)) ≡ from_3 = ap (after 2) on_2 ∙ on_3 in
      let five : initial_on (n ∷ row_words ++ from_2) ≡ from_5 = ap (λ ws. after 1 (after 2 ws)) three ∙ ap (after 1) on_4 ∙ on_5 in
      subst (ReadBack m f) (sym result-on) (record {
        nodes = refl;
        rows = row_is;
        sorts = λ j l. ap (λ ws. get_or ws (1 + 2 * j) 0) on_2 ∙ constant-is j 0 l (omega arith);
        constants = λ j l. ap (λ ws. get_or ws (2 + 2 * j) 0) on_2 ∙ constant-is j 1 l (omega arith);
        replacements = λ i l.
            subst (λ ws. Pair n σ.mark (drop 1 ws) i) (sym three)
            (pair_is i (subst (λ ws. i < count_of ws) three l));
        initial = ap list_in five ∙ list_is f.initial from_6;
        later = ap (λ ws. list_in (after 1 ws)) five ∙ ap list_in on_6 ∙ list_is f.later from_7;
      })
