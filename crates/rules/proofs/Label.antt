-- Labels, path by path: the substitute for each fault, and else so many of the names bytes from the name's place on.
-- By cases on whether a place is in a list; where a name stands is proofs/Names.
--     label_short, label_nameless   section 1 or section 7 is refused
--     label_past, label_none        the node is past the table; its name is 0 or past the last
--     label_found                   a part of the names bytes
-- Assumes nothing.
use Prim.Native.Nat.{ℕ, zero, suc, ◌*◌, ◌<◌, ◌≤◌}
use mathlib.Core.Path.{◌≡◌, refl, ap, ◌∙◌}
use mathlib.Core.Option.{none, some}
use mathlib.Core.List.{List, [], ◌∷◌}
use native.Mathlib.Omega.{arith}
use lib.ListN.{length, get_or, take, drop}
use Rattle.rules.specs.Refusal.{Refusal, refused, done, ◌>>=◌}
use Rattle.rules.specs.Table.{Row, row_width}
use Rattle.rules.specs.Limits.{Limits}
use Rattle.rules.specs.Sections.{Part, cut_section, row_of, rows_of}
use Rattle.rules.specs.Names.{names_of, name_of, name_size, name_start}
use Rattle.rules.specs.Label.{at, named, name_of_row, name_of_node, or_substitute, label_of}
use Rattle.rules.proofs.Sections.{bind_done, rows-length, row-of}
use Rattle.rules.proofs.Names.{name-at}

-- ---- a place in a list, or past it
pub at_in : {A : Type 0} (xs : List A) (k : ℕ) (d : A) → k < length xs → at xs k ≡ some (get_or xs k d)
unfolding at
at_in [] k d h = absurd (omega arith)
at_in (x ∷ xs) zero d h = refl
at_in (x ∷ xs) (suc k) d h = at_in xs k d (omega arith)

pub at-past : {A : Type 0} (xs : List A) (k : ℕ) → length xs ≤ k → at xs k ≡ none
unfolding at
at-past [] k h = refl
at-past (x ∷ xs) zero h = absurd (omega arith)
at-past (x ∷ xs) (suc k) h = at-past xs k (omega arith)

pub named_in : (names : List (List ℕ)) (k : ℕ) → 0 < k → k ≤ length names → named names k ≡ some (name_of names k)
named_in names zero p h = absurd (omega arith)
named_in names (suc k) p h = at_in names k [] (omega arith)

pub named_past : (names : List (List ℕ)) (k : ℕ) → length names < k → named names k ≡ none
named_past names zero h = refl
named_past names (suc k) h = at-past names k (omega arith)

module _ (limits : Limits) (node : ℕ) (words names substitute : List ℕ) where
  pub label_short : (r : Refusal) → cut_section 1 limits.nodes row_width words ≡ refused r → label_of limits node words names substitute ≡ substitute
  unfolding name_of_node
  label_short r e = ap (λ o. or_substitute substitute (o >>= λ nodes. names_of limits names >>= λ known. done (name_of_row known (at (rows_of nodes.count nodes.content) node)))) e

  module _ (p : Part) (cut : cut_section 1 limits.nodes row_width words ≡ done p) where
    pub label_nameless : (r : Refusal) → names_of limits names ≡ refused r → label_of limits node words names substitute ≡ substitute
    unfolding name_of_node
    label_nameless r e =
        ap (or_substitute substitute) (bind_done (cut_section 1 limits.nodes row_width words) _ p cut)
        ∙ ap (λ o. or_substitute substitute (o >>= λ known. done (name_of_row known (at (rows_of p.count p.content) node)))) e

    module _ (known : List (List ℕ)) (read : names_of limits names ≡ done known) where
      label_row : label_of limits node words names substitute ≡ or_substitute substitute (done (name_of_row known (at (rows_of p.count p.content) node)))
      unfolding name_of_node
      label_row =
          ap (or_substitute substitute) (bind_done (cut_section 1 limits.nodes row_width words) _ p cut ∙ bind_done (names_of limits names) _ known read)

      pub label_past : p.count ≤ node → label_of limits node words names substitute ≡ substitute
      label_past h =
          label_row ∙ ap (λ o. or_substitute substitute (done (name_of_row known o))) (at-past (rows_of p.count p.content) node (omega (arith, rows-length p.count p.content)))

      -- the sixth word of the node's row
      abbrev pub name_word : ℕ
      name_word = (row_of (drop (row_width * node) p.content)).name

      label_named : node < p.count → label_of limits node words names substitute ≡ or_substitute substitute (done (named known name_word))
      label_named h =
          let rows : List Row = rows_of p.count p.content in
          let row : Row = row_of (drop (row_width * node) p.content) in
          label_row
          ∙ ap (λ o. or_substitute substitute (done (name_of_row known o)))
          (at_in rows node row (omega (arith, rows-length p.count p.content)) ∙ ap some (row-of p.count p.content node row h))

      pub label_none : node < p.count → name_word ≡ 0 → label_of limits node words names substitute ≡ substitute
      label_none h e = label_named h ∙ ap (λ k. or_substitute substitute (done (named known k))) e

      pub label_last : node < p.count → length known < name_word → label_of limits node words names substitute ≡ substitute
      label_last h l = label_named h ∙ ap (λ o. or_substitute substitute (done o)) (named_past known name_word l)

      pub label_found : node < p.count → 0 < name_word → name_word ≤ length known
          → label_of limits node words names substitute ≡ take (name_size names name_word) (drop (name_start names name_word) names)
      label_found h l m =
          label_named h ∙ ap (λ o. or_substitute substitute (done o)) (named_in known name_word l m) ∙ name-at limits names known read name_word l m
