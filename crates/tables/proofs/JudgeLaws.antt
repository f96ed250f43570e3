-- Laws for the proofs of nodes.rt and lists.rt: rows at their places in cut words, and judging one node or entry after the other.
-- Assumes nothing.
use Prim.Native.Nat.{ℕ, ◌+◌, ◌*◌, ◌<◌, ◌≤◌}
use mathlib.Core.Path.{◌≡◌, refl, sym, ap, ◌∙◌}
use mathlib.Core.Bool.{Bool, true, false, ◌&&◌}
use mathlib.Core.Option.{Option, none, some}
use mathlib.Core.List.{List, [], ◌∷◌}
use native.Mathlib.Omega.{arith}
use native.Mathlib.Numerals.{add-one}
use lib.ListN.{length, get_or, take, drop, get_or-map, get_or-eq_default, drop_of_length-le}
use lib.Seq.{get_or-drop, get_or-take, drop-cons}
use Rattle.rules.specs.Refusal.{Refusal, unless, first_of}
use Rattle.rules.specs.Lists.{all_true, every}
use Rattle.rules.specs.Table.{Row, Node, row_width, decode, unknown, node_at, operands}
use Rattle.rules.specs.Check.{known_kind, may_serve, sorted, rule4, check_node, check_nodes}
use Rattle.rules.specs.Sections.{row_of, word_of}
use Rattle.rules.proofs.Sections.{row-of, rows-length}
use Rattle.tables.specs.NodeAnswers.{row_unknown, row_at}
use Rattle.tables.specs.SectionAnswers.{words_in, Inside}
use Rattle.tables.specs.FormAnswers.{formed, operands_judged, first_broken}
use Rattle.tables.specs.Judging.{rows_in, table_in}
use Rattle.tables.specs.declared.sections.Sections.{Sections}

-- ---- rows in cut words
pub row_words : (ws : List ℕ) (k : ℕ)
    → row_of (drop k ws) ≡ record { code = get_or ws k 0; sort = get_or ws (k + 1) 0; a = get_or ws (k + 2) 0; b = get_or ws (k + 3) 0; c = get_or ws (k + 4) 0; name = get_or ws (k + 5) 0 }
row_words ws k = let e : k + 0 ≡ k = omega arith in rw (get_or-drop k ws 0 0, get_or-drop k ws 1 0, get_or-drop k ws 2 0, get_or-drop k ws 3 0, get_or-drop k ws 4 0, get_or-drop k ws 5 0, e)

word_cut : (ws : List ℕ) (n k j : ℕ) → k < n → j < row_width → get_or (drop (row_width * k) (take (row_width * n) (drop 1 ws))) j 0 ≡ word_of ws k j
word_cut ws n k j h l =
    let e : 1 + (row_width * k + j) ≡ 1 + row_width * k + j = omega arith in
    get_or-drop (row_width * k) _ j 0 ∙ get_or-take (row_width * n) (drop 1 ws) (row_width * k + j) 0 (omega arith) ∙ get_or-drop 1 ws (row_width * k + j) 0
    ∙ ap (λ (i : ℕ). get_or ws i 0) e

row_cut : (ws : List ℕ) (start n k : ℕ) → start ≡ 1 → k < n → row_of (drop (row_width * k) (take (row_width * n) (drop start ws))) ≡ row_at ws k
row_cut ws start n k e h =
    let at : (j : ℕ) → j < row_width → get_or (drop (row_width * k) (take (row_width * n) (drop 1 ws))) j 0 ≡ word_of ws k j = λ j l. word_cut ws n k j h l in
    rw (e, at 0 (omega arith), at 1 (omega arith), at 2 (omega arith), at 3 (omega arith), at 4 (omega arith), at 5 (omega arith))

pub rows-count : (ws : List ℕ) (s : Sections) → length (rows_in ws s) ≡ s.nodes.count
rows-count ws s = rows-length s.nodes.count _

module _ (ws : List ℕ) (s : Sections) (h : Inside ws s) where
  pub row_in : (k : ℕ) → k < s.nodes.count → get_or (rows_in ws s) k row_unknown ≡ row_at ws k
  row_in k l =
      row-of s.nodes.count (words_in ws row_width s.nodes) k row_unknown l ∙ row_cut ws s.nodes.start s.nodes.count k h.nodes.starts l

  pub node_in : (k : ℕ) → k < s.nodes.count → node_at (table_in ws s) k ≡ decode (row_at ws k)
  node_in k l = get_or-map decode (rows_in ws s) k row_unknown ∙ ap decode (row_in k l)

  pub node_past : (k : ℕ) → s.nodes.count ≤ k → node_at (table_in ws s) k ≡ unknown
  node_past k l =
      get_or-map decode (rows_in ws s) k row_unknown
      ∙ ap decode (get_or-eq_default (rows_in ws s) row_unknown (omega (arith, rows-count ws s)))

-- ---- one node, whose kind is unknown or known
pub kind_unknown : (names : ℕ) (t : List Node) (k : ℕ) (r : Row) → known_kind r.code ≡ false → some (record { reason = 3; section = 1; position = k }) ≡ check_node names t k r
kind_unknown names t k r h = rw h

module _ (names : ℕ) (t : List Node) (k : ℕ) (r : Row) (nd : Node) (h : (known_kind r.code ≡ true) × (nd ≡ decode r)) where
  pub broken_is : first_broken names t k nd ≡ check_node names t k r
  broken_is = rw (h.0, h.1)

-- an operand breaks rule 4 or 5 where rule 3 holds
module _ (names : ℕ) (t : List Node) (k : ℕ) (nd : Node) where
  pub operands_stop : (r : Refusal) → formed names nd ≡ true → operands_judged t k (operands nd) ≡ some r → some r ≡ first_broken names t k nd
  operands_stop r f e = rw f (go (rule4 k nd) (every (λ x. may_serve (node_at t x)) (operands nd)) e)
    where
      go : (before serve : Bool) → first_of (unless before 4 1 k ∷ unless serve 5 1 k ∷ []) ≡ some r
          → some r ≡ first_of (none ∷ unless before 4 1 k ∷ unless (serve && all_true (sorted t nd)) 5 1 k ∷ [])
      go false serve e = sym e
      go true false e = sym e
      go true true e = let z : ◌≡◌ {A = ℕ} 0 1 = cc in absurd (omega arith)

-- the first of a list of one
pub alone : (o : Option Refusal) → first_of (none ∷ o ∷ []) ≡ o
alone none = refl
alone (some r) = refl

-- ---- node after node
module _ (names : ℕ) (t : List Node) (rs : List Row) where
  pub nodes-step : (k : ℕ) → k < length rs
      → check_nodes names t k (drop k rs) ≡ first_of (check_node names t k (get_or rs k row_unknown) ∷ check_nodes names t (k + 1) (drop (k + 1) rs) ∷ [])
  unfolding check_nodes
  nodes-step k h =
      ap (check_nodes names t k) (drop-cons rs k row_unknown h)
      ∙ ap (λ (m : ℕ). first_of (check_node names t k (get_or rs k row_unknown) ∷ check_nodes names t m (drop m rs) ∷ [])) (sym (add-one k))

  -- a node that passes, and one that does not
  pub nodes-pass : (k : ℕ) → k < length rs → check_node names t k (get_or rs k row_unknown) ≡ none
      → check_nodes names t (k + 1) (drop (k + 1) rs) ≡ check_nodes names t k (drop k rs)
  nodes-pass k h e = sym (nodes-step k h ∙ ap (λ (o : Option Refusal). first_of (o ∷ check_nodes names t (k + 1) (drop (k + 1) rs) ∷ [])) e ∙ alone _)

  pub nodes-stop : (k : ℕ) (r : Refusal) → k < length rs → check_node names t k (get_or rs k row_unknown) ≡ some r → some r ≡ check_nodes names t k (drop k rs)
  nodes-stop k r h e = sym (nodes-step k h ∙ ap (λ (o : Option Refusal). first_of (o ∷ check_nodes names t (k + 1) (drop (k + 1) rs) ∷ [])) e)

  pub nodes_end : (k : ℕ) → length rs ≤ k → check_nodes names t k (drop k rs) ≡ none
  unfolding check_nodes
  nodes_end k h = ap (check_nodes names t k) (drop_of_length-le rs h)
