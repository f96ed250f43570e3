-- The laws of what a fold leaves, each read off the structural invariant at its end.
-- Assumes nothing.
use Prim.Native.Nat.{ℕ, ◌<◌}
use mathlib.Core.Path.{◌≡◌, subst}
use mathlib.Core.Logic.{◌⊎◌, inl, inr}
use mathlib.Core.List.{List, [], ◌∷◌}
use lib.ListN.{length}
use Rattle.rules.specs.Lists.{All}
use Rattle.rules.specs.Refusal.{done}
use Rattle.rules.specs.Table.{Const, Ext, State, Next, Node, node_at, operands}
use Rattle.rules.specs.Model.{Model, Mode}
use Rattle.rules.specs.Legal.{WellFormed}
use Rattle.rules.specs.Walk.{replaced}
use Rattle.rules.specs.Whole.{Folded, fold}
use Rattle.rules.specs.Laws.{IsNew, ReplacementBefore, ReplacementServes, ReplacementSort, MadeReplaces, ReplacementFits, MadeFits, RowKeeps, OperandsBelow}
use Rattle.rules.specs.Fine.{Below, Stands, Refs, kept_as, MarkStands, Shape}
use Rattle.rules.proofs.Base.{inside-or-past, is-kind}
use Rattle.rules.proofs.Standing.{ConstFits}
use Rattle.rules.proofs.Shape.{first_word, stands_sort, operand_fits}
use Rattle.rules.proofs.Walked.{folded}

module _ (m : Model) (how : Mode) (f : Folded) (wf : WellFormed m) (e : fold m how ≡ done f) where
  pub the_shape : Shape m.table f.state.rows f.state.made f.state.mark
  the_shape = (folded m how wf f e).fine.shape

  -- what is recorded for a replaced node
  standing : (k r : ℕ) → k < length m.table → f.state.mark k ≡ replaced r
      → Below m.table k r × Stands m.table f.state.rows f.state.made r (node_at m.table k).sort
  standing k r l q = subst (MarkStands m.table f.state.rows f.state.made k) q (the_shape.marks k l)

  -- what stands for a node is before it or a constant in use
  before-or-new : (k x s : ℕ) → Below m.table k x → Stands m.table f.state.rows f.state.made x s → (x < k) ⊎ IsNew m.table f.state x
  before-or-new k x s b h = inside-or-past _ x (length m.table) (λ l. inl (b l)) (λ l. inr (l, (h.new l).inside))

pub replacement_before : ReplacementBefore
unfolding ReplacementBefore
replacement_before m how f wf e k r l q = let h = standing m how f wf e k r l q in before-or-new m how f wf e k r (node_at m.table k).sort h.0 h.1

pub replacement_serves : ReplacementServes
unfolding ReplacementServes
replacement_serves m how f wf e k r l q i = (standing m how f wf e k r l q).1.serve i

-- what is recorded for a node has its sort
sort-kept : (m : Model) (how : Mode) (f : Folded) → WellFormed m → fold m how ≡ done f → (k r : ℕ) → k < length m.table → f.state.mark k ≡ replaced r → (f.state.rows r).sort ≡ (node_at m.table k).sort
sort-kept m how f wf e k r l q =
    stands_sort m.table f.state.rows f.state.made f.state.mark (the_shape m how f wf e) r (node_at m.table k).sort (standing m how f wf e k r l q).1

pub replacement_sort : ReplacementSort
unfolding ReplacementSort
replacement_sort = sort-kept

pub made-replaces : MadeReplaces
unfolding MadeReplaces
made-replaces m how f wf e r l u = let w = (folded m how wf f e).fine.used r l u in (w.0, w.1, w.2, sort-kept m how f wf e w.0 r w.1 w.2)

pub replacement_fits : ReplacementFits
unfolding ReplacementFits
replacement_fits m how f wf e k r x l q c =
    subst (λ o. ConstFits m.table f.state.rows f.state.made o (node_at m.table k).sort) c
    (operand_fits m.table f.state.rows f.state.made f.state.mark (the_shape m how f wf e) wf.nodes r (node_at m.table k).sort (standing m how f wf e k r l q).1)

pub made-fits : MadeFits
unfolding MadeFits
made-fits m how f wf e r h = (the_shape m how f wf e).news r h.0 h.1

pub row_keeps : RowKeeps
unfolding RowKeeps
row_keeps m how f wf e k l =
    let a = (the_shape m how f wf e).alike k l in
    let nd : Node = f.state.rows k in
    let g : Node = node_at m.table k in
    record {
      kind = a.kind;
      sort = a.sort;
      name = a.name;
      number = λ q. first_word nd.a g.a (subst (λ K. kept_as K nd ≡ kept_as K g) (is-kind Const g q) a.kept);
      from = λ q. first_word nd.b g.b (subst (λ K. kept_as K nd ≡ kept_as K g) (is-kind Ext g q) a.kept);
      init = λ q. first_word nd.b g.b (subst (λ K. kept_as K nd ≡ kept_as K g) (is-kind State g q) a.kept);
      state = λ q. first_word nd.a g.a (subst (λ K. kept_as K nd ≡ kept_as K g) (is-kind Next g q) a.kept);
      unused = a.unused;
    }

pub operands-below : OperandsBelow
unfolding OperandsBelow
operands-below m how f wf e k l = each (operands (f.state.rows k)) (operands (node_at m.table k)) ((the_shape m how f wf e).refs k l)
  where
    each : (xs os : List ℕ) → Refs m.table f.state.rows f.state.made k xs os → All (λ x. (x < k) ⊎ IsNew m.table f.state x) xs
    each [] os h = tt
    each (x ∷ xs) [] h = absurd h
    each (x ∷ xs) (o ∷ os) h = (before-or-new m how f wf e k x (node_at m.table o).sort h.0.0 h.0.1, each xs os h.1)
