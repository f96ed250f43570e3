-- A legal node by its kind, and what a legal table says of a listed sequential's state and init.
-- Assumes nothing.
use Prim.Native.Nat.{ℕ, ◌<◌}
use mathlib.Core.Path.{◌≡◌, ap, ◌∙◌, subst}
use mathlib.Core.Bool.{Bool, true, cond}
use mathlib.Core.List.{List, [], ◌∷◌}
use native.Mathlib.Omega.{arith}
use lib.ListN.{length}
use lib.Dec.{eqb}
use borrow.Author.Tests.{eqb-true, eq-eqb}
use Rattle.rules.specs.Lists.{All}
use Rattle.rules.specs.Table.{Kind, State, Next, Node, node_at, operands_as, operands}
use Rattle.rules.specs.Check.{may_serve, sorted_as}
use Rattle.rules.specs.Legal.{Legal, AllLegal, Sequential}
use Rattle.rules.proofs.Base.{is-kind}

-- rules 4 and 5 of a node whose kind is K
pub record LegalAs (t : List Node) (k : ℕ) (K : Kind) (nd : Node) : Type 0 where
  pub before : All (λ x. x < k) (operands_as K nd)
  pub serve : All (λ x. may_serve (node_at t x) ≡ true) (operands_as K nd)
  pub sorts : All (λ b. b ≡ true) (sorted_as (node_at t) K nd)

pub legal_as : (t : List Node) (k : ℕ) (K : Kind) (nd : Node) → nd.kind ≡ K → Legal t k nd → LegalAs t k K nd
legal_as t k K nd e g = subst (λ J. LegalAs t k J nd) e (assumption g)

-- a State with an init: the init stands before it, may serve as an operand, and has its sort
pub record InitOk (t : List Node) (k : ℕ) (nd : Node) : Type 0 where
  pub before : nd.a < k
  pub serve : may_serve (node_at t nd.a) ≡ true
  pub sort : (node_at t nd.a).sort ≡ nd.sort

-- its init is its only operand
pub init-operand : (nd : Node) → nd.kind ≡ State → nd.b ≡ 1 → operands nd ≡ nd.a ∷ []
init-operand nd e q = ap (λ K. operands_as K nd) e ∙ ap (λ b. cond b (nd.a ∷ []) []) (eq-eqb nd.b 1 q)

pub init_ok : (t : List Node) (k : ℕ) (nd : Node) → nd.kind ≡ State → nd.b ≡ 1 → Legal t k nd → InitOk t k nd
init_ok t k nd e q g =
    let h = legal_as t k State nd e g in
    let one : eqb nd.b 1 ≡ true = eq-eqb nd.b 1 q in
    record {
      before = (subst (λ b. All (λ x. x < k) (cond b (nd.a ∷ []) [])) one h.before).0;
      serve = (subst (λ b. All (λ x. may_serve (node_at t x) ≡ true) (cond b (nd.a ∷ []) [])) one h.serve).0;
      sort = eqb-true _ _ (subst (λ b. All (λ (z : Bool). z ≡ true) (cond b (eqb (node_at t nd.a).sort nd.sort ∷ []) [])) one h.sorts).0;
    }

-- the state of a listed sequential
pub record StateOk (t : List Node) (s : ℕ) : Type 0 where
  pub inside : (node_at t s).a < length t
  pub state : (node_at t (node_at t s).a).kind ≡ State
  pub init : InitOk t (node_at t s).a (node_at t (node_at t s).a)

pub state_ok : (t : List Node) (s : ℕ) → AllLegal t → Sequential t s → StateOk t s
state_ok t s legal q =
    let g = legal_as t s Next (node_at t s) q.next (legal s q.inside) in
    let l : (node_at t s).a < length t = omega (arith, g.before.0, q.inside) in
    let e = is-kind State (node_at t (node_at t s).a) g.sorts.0 in
    record { inside = l; state = e; init = init_ok t (node_at t s).a (node_at t (node_at t s).a) e q.init (legal (node_at t s).a l) }
