-- What rules 3, 4 and 5 ask of a node whose kind is known.
--     formed   rule 3, which asks for a known sort and, by the kind, for the rest
--     operands_judged, first_broken   the first rule that its operands break, and that it breaks
-- Assumes nothing.
use Rattle.std.specs.Prelude.{ℕ, Bool, ◌&&◌, ◌||◌, not, eqb, ltb, List, [], ◌∷◌}
use Rattle.std.proofs.Math.Option.{Option}
use Rattle.rules.specs.Refusal.{Refusal, unless, first_of}
use Rattle.rules.specs.Lists.{all_true, every}
use Rattle.rules.specs.Table.{Node, Ext, is, node_at}
use Rattle.rules.specs.Check.{known_sort, unused_as, named, may_serve, rule4, rule5}

abbrev pub formed_by_kind : ℕ → Node → Bool
formed_by_kind names nd =
    all_true ((not (is Ext nd) || known_sort nd.b) ∷ every (λ x. eqb x 0) (unused_as nd.kind nd) ∷ named names nd)

abbrev pub formed : ℕ → Node → Bool
formed names nd = known_sort nd.sort && formed_by_kind names nd

-- rules 4 and 5 of the operands alone
abbrev pub operands_judged : List Node → ℕ → List ℕ → Option Refusal
operands_judged t k l = first_of (unless (every (λ x. ltb x k) l) 4 1 k ∷ unless (every (λ x. may_serve (node_at t x)) l) 5 1 k ∷ [])

abbrev pub first_broken : ℕ → List Node → ℕ → Node → Option Refusal
first_broken names t k nd = first_of (unless (formed names nd) 3 1 k ∷ unless (rule4 k nd) 4 1 k ∷ unless (rule5 t nd) 5 1 k ∷ [])
