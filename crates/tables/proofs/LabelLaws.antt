-- Laws of labels, between the code's answers and the rules' definitions.
-- By the place of the node's name.
--     nodes-.., word-..    section 1 alone, and the name word of a node
--     label_is             a label by the place of the node's name
-- Assumes nothing.
use Prim.Native.Nat.{ℕ, suc, ◌+◌, ◌*◌, ◌<◌, ◌≤◌}
use mathlib.Core.Path.{◌≡◌, refl, sym, ap, ◌∙◌}
use mathlib.Core.Option.{Option, none, some}
use mathlib.Core.List.{List, []}
use native.Mathlib.Omega.{arith}
use lib.ListN.{length, get_or, length-append, get_or-append}
use lib.Seq.{get_or-drop}
use Rattle.rules.specs.Refusal.{Out, refused, done, ◌>>=◌}
use Rattle.rules.specs.Table.{Row, row_width}
use Rattle.rules.specs.Limits.{Limits}
use Rattle.rules.specs.Sections.{Part, cut_section, word_of, row_of, rows_of}
use Rattle.rules.specs.Names.{names_of}
use Rattle.rules.specs.Label.{at, named, name_of_row, name_of_node, or_substitute, label_of}
use Rattle.rules.proofs.Sections.{Parted, section-done, rows-length, row-of}
use Rattle.rules.proofs.Label.{at_in, at-past}
use Rattle.tables.specs.NodeAnswers.{HasRow}
use Rattle.tables.specs.NameAnswers.{place_of, nodes_cut, nodes_in, name_word, name_word_among, name_word_of}
use Rattle.tables.proofs.NameLaws.{part, place-by, place_none}

-- ---- labels
unfoldable pub text_or : List ℕ → List ℕ → Option (ℕ × ℕ) → List ℕ
text_or substitute bs none = substitute
text_or substitute bs (some q) = part bs q.0 q.1

module _ (limits : Limits) where
  -- ---- section 1 alone
  -- the name word of a node that section 1 holds is the sixth of its row
  name-of-row : (ws : List ℕ) (p : Part) (node : ℕ) → Parted limits.nodes row_width ws p → node < p.count
      → HasRow ws node × (name_word (at (rows_of p.count p.content) node) ≡ word_of ws node 5)
  name-of-row ws p node h l =
      let d : Row = row_of [] in
      let c : List ℕ = p.content in
      let s : suc (row_width * node + 5) ≡ 1 + row_width * node + 5 = omega arith in
      let i : row_width * node + 5 < length c = omega (arith, h.size) in (
        omega (arith, ap length h.words, length-append c p.rest, h.size),
        ap name_word (at_in (rows_of p.count c) node d (omega (arith, rows-length p.count c)))
            ∙ ap (λ (r : Row). r.name) (row-of p.count c node d l)
            ∙ get_or-drop (row_width * node) c 5 0
            ∙ sym (get_or-append c p.rest 0 (row_width * node + 5) i)
            ∙ ap (λ l. get_or l (suc (row_width * node + 5)) 0) (sym h.words)
            ∙ ap (λ i. get_or ws i 0) s,
      )

  module _ (ws : List ℕ) (node : ℕ) where
    pub word-past : nodes_in limits ws ≤ node → name_word_of limits ws node ≡ 0
    unfolding nodes_cut name_word_among
    word-past h = go (cut_section 1 limits.nodes row_width ws) h
      where
        go : (o : Out Part) → nodes_cut o ≤ node → name_word_among node o ≡ 0
        go (refused r) h = refl
        go (done p) h = ap name_word (at-past (rows_of p.count p.content) node (omega (arith, rows-length p.count p.content)))

    pub word-inside : node < nodes_in limits ws → HasRow ws node × (name_word_of limits ws node ≡ word_of ws node 5)
    unfolding nodes_cut name_word_among
    word-inside h = go (cut_section 1 limits.nodes row_width ws) refl h
      where
        go : (o : Out Part) → cut_section 1 limits.nodes row_width ws ≡ o → node < nodes_cut o
            → HasRow ws node × (name_word_among node o ≡ word_of ws node 5)
        go (refused r) e h = let o : ⊥ = omega arith in absurd o
        go (done p) e h = name-of-row ws p node (section-done 1 limits.nodes row_width ws p e) h

  pub label_is : (ws bs substitute : List ℕ) (node : ℕ) → label_of limits node ws bs substitute ≡ text_or substitute bs (place_of limits bs (name_word_of limits ws node))
  unfolding text_or name_of_node name_word_among
  label_is ws bs substitute node = section (cut_section 1 limits.nodes row_width ws)
    where
      row : (r : Option Row)
          → or_substitute substitute (names_of limits bs >>= λ known. done (name_of_row known r)) ≡ text_or substitute bs (place_of limits bs (name_word r))
      row none = nowhere (names_of limits bs) ∙ sym (ap (λ p. text_or substitute bs p) (place_none limits bs))
        where
          nowhere : (o : Out (List (List ℕ))) → or_substitute substitute (o >>= λ known. done (name_of_row known none)) ≡ substitute
          nowhere (refused r) = refl
          nowhere (done names) = refl
      row (some r) =
          place-by limits (λ p. or_substitute substitute (names_of limits bs >>= λ known. done (named known r.name)) ≡ text_or substitute bs p) bs r.name
          (λ q e. ap (λ o. or_substitute substitute (o >>= λ known. done (named known r.name))) e)
          (λ names e n. ap (λ o. or_substitute substitute (o >>= λ known. done (named known r.name))) e ∙ ap (λ t. or_substitute substitute (done t)) n)
          (λ names e l n. ap (λ o. or_substitute substitute (o >>= λ known. done (named known r.name))) e ∙ ap (λ t. or_substitute substitute (done t)) n)

      section : (o : Out Part)
          → or_substitute substitute (o >>= λ nodes. names_of limits bs >>= λ known. done (name_of_row known (at (rows_of nodes.count nodes.content) node)))
          ≡ text_or substitute bs (place_of limits bs (name_word_among node o))
      section (refused r) = sym (ap (λ p. text_or substitute bs p) (place_none limits bs))
      section (done nodes) = row (at (rows_of nodes.count nodes.content) node)
