-- The given words of a judged call as the walk reads them: the nodes at their places are the table that was cut, and the parts of the words its lists.
-- By the places of the sections (tables' `IsCut`) and equality by index.
-- Assumes nothing.
use Prim.Native.Nat.{ℕ, ◌-◌, ◌*◌, ◌<◌}
use mathlib.Core.Path.{◌≡◌, sym, ap, ◌∙◌}
use mathlib.Core.List.{List}
use native.Mathlib.Omega.{arith}
use lib.ListN.{get_or, take, drop}
use lib.Seq.{ext_get_or}
use Rattle.rules.specs.Table.{unknown, node_at}
use Rattle.rules.specs.Limits.{house}
use Rattle.rules.specs.Sections.{encode}
use Rattle.tables.specs.SectionAnswers.{sections_in, words_in, Lies}
use Rattle.tables.specs.Judging.{table_in, IsCut}
use Rattle.tables.specs.declared.sections.Part.{Part}
use Rattle.tables.specs.declared.sections.Sections.{Sections}
use Rattle.tables.proofs.JudgeLaws.{rows-count, node_in}
use Rattle.tables.proofs.ListLaws.{table_count}
use Rattle.rules.proofs.Sections.{encode-cut}
use Rattle.optimize.specs.Bounds.{count_of}
use Rattle.optimize.specs.View.{node_of, firsts, table_of}
use Rattle.optimize.proofs.Views.{firsts-length, firsts_at}

module _ (ws : List ℕ) (s : Sections) (h : IsCut house ws s) where
  -- the first word is the count of nodes
  pub count-is : count_of ws ≡ s.nodes.count
  unfolding encode
  count-is = ap (λ (l : List ℕ). get_or l 0 0) (sym (encode-cut house ws (sections_in ws s) h.whole).0) ∙ rows-count ws s

  pub node-is : (k : ℕ) → k < s.nodes.count → node_of ws k ≡ node_at (table_in ws s) k
  node-is k l = sym (node_in ws s h.inside k l)

  pub table_is : table_of ws ≡ table_in ws s
  unfolding table_of
  table_is =
      ext_get_or unknown (firsts (count_of ws) (node_of ws)) (table_in ws s)
      (firsts-length (count_of ws) (node_of ws) ∙ count-is ∙ sym (table_count ws s))
      (λ k l.
      let below : k < count_of ws = omega (arith, firsts-length (count_of ws) (node_of ws)) in
      firsts_at (count_of ws) (node_of ws) unknown k below ∙ node-is k (omega (arith, count-is)))

-- a part of the words, from its start to its end, is the section's list
pub part-is : (ws : List ℕ) (at : ℕ) (p : Part) → Lies ws at 1 p → take (p.end - p.start) (drop p.start ws) ≡ words_in ws 1 p
part-is ws at p l =
    let e : p.end - p.start ≡ 1 * p.count = omega (arith, l.ends) in
    ap (λ (n : ℕ). take n (drop p.start ws)) e
