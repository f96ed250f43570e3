-- What a table and its lists must be: refusals 3 to 7 (docs/FORMAT.md, "Nodes", "Names", "Lists, inputs and replies", "Refusals").
--     rule3, rule4, rule5             words and names, operands before, sorts
--     check_form, check_node            3 and 4 of a row by itself, and all three of a node in a table
--     check_sequentials, check_bads     the lists, each entry 6 then 7
--     check                           all of them in order: nodes rising, then lists in order
-- Assumes nothing.
use Rattle.std.specs.Prelude.{ℕ, suc, Bool, true, false, cond, ◌&&◌, ◌||◌, not, List, [], ◌∷◌, ◌++◌, length, ltb, leb, eqb, Result, Ok, Err}
use Rattle.std.proofs.Math.Option.{Option, none}
use Rattle.btor.specs.Sorts.{sort_of, bit_code, word_code, memory_code}
use Rattle.btor.specs.declared.node_type.NodeType.{NodeType}
use Rattle.btor.specs.declared.node_type.UnknownSort.{UnknownSort}
use Rattle.rules.specs.Lists.{all_true, every, member}
use Rattle.rules.specs.Refusal.{Refusal, unless, first_of}
use Rattle.rules.specs.Table.{Kind, Const, Read, Write, Word, Ult, Ext, Ite, Eq, And, Or, Not, State, Next, Input, Bad, kinds, Row, Node, decode, is, node_at, operands, fits}
use Rattle.rules.specs.Model.{Model}

-- ---- 3: "kind or sort code, or an Ext's b, is unknown; a word that must be 0 is not; a State's b is above 1; a name is past the last, missing or not allowed"
abbrev pub known_kind : ℕ → Bool
known_kind k = ltb 0 k && leb k (length kinds)

abbrev pub is_known : Result NodeType UnknownSort → Bool
is_known (Ok s) = true
is_known (Err e) = false

abbrev pub known_sort : ℕ → Bool
known_sort s = is_known (sort_of s)

-- "a word that a kind does not use is 0"; a State's a is "its init, of that sort, if b is 1; else 0", and its b "1 with an init, else 0"
abbrev pub unused_as : Kind → Node → List ℕ
unused_as Const nd = nd.b ∷ nd.c ∷ []
unused_as Read nd = nd.c ∷ []
unused_as Write nd = []
unused_as (Word op) nd = nd.c ∷ []
unused_as Ult nd = nd.c ∷ []
unused_as Ext nd = nd.c ∷ []
unused_as Ite nd = []
unused_as Eq nd = nd.c ∷ []
unused_as And nd = nd.c ∷ []
unused_as Or nd = nd.c ∷ []
unused_as Not nd = nd.b ∷ nd.c ∷ []
unused_as State nd = cond (eqb nd.b 1) (nd.c ∷ []) (nd.a ∷ nd.b ∷ nd.c ∷ [])
unused_as Next nd = nd.c ∷ []
unused_as Input nd = nd.a ∷ nd.b ∷ nd.c ∷ []
unused_as Bad nd = nd.b ∷ nd.c ∷ []

-- "a name is past the last, missing or not allowed": "A State and a Bad may have a name, an Input must have one, other nodes must not."
abbrev pub named : ℕ → Node → List Bool
named names nd =
    leb nd.name names
    ∷ (eqb nd.name 0 || is State nd || is Bad nd || is Input nd)
    ∷ (not (eqb nd.name 0) || not (is Input nd))
    ∷ []

abbrev pub rule3 : ℕ → Row → Bool
rule3 names r =
    let nd : Node = decode r in
    all_true (known_kind r.code
    ∷ known_sort r.sort
    ∷ (not (is Ext nd) || known_sort nd.b)
    ∷ every (λ x. eqb x 0) (unused_as nd.kind nd)
    ∷ named names nd)

-- ---- 4: "an operand is not before its node": each is below the bound, which is the node itself
abbrev pub rule4 : ℕ → Node → Bool
rule4 bound nd = every (λ x. ltb x bound) (operands nd)

-- ---- 5: sorts
-- "A Next or a Bad is never an operand."
abbrev pub may_serve : Node → Bool
may_serve nd = not (is Next nd || is Bad nd)

-- the table of kinds; at x is node x
abbrev pub sorted_as : (ℕ → Node) → Kind → Node → List Bool
sorted_as at Const nd = not (eqb nd.sort memory_code) ∷ fits nd.sort nd.a ∷ []
sorted_as at Read nd = eqb nd.sort word_code ∷ eqb (at nd.a).sort memory_code ∷ eqb (at nd.b).sort word_code ∷ []
sorted_as at Write nd = eqb nd.sort memory_code ∷ eqb (at nd.a).sort memory_code ∷ eqb (at nd.b).sort word_code ∷ eqb (at nd.c).sort word_code ∷ []
sorted_as at (Word op) nd = eqb nd.sort word_code ∷ eqb (at nd.a).sort word_code ∷ eqb (at nd.b).sort word_code ∷ []
sorted_as at Ult nd = eqb nd.sort bit_code ∷ eqb (at nd.a).sort (at nd.b).sort ∷ not (eqb (at nd.a).sort memory_code) ∷ []
sorted_as at Ext nd = eqb nd.sort word_code ∷ eqb (at nd.a).sort nd.b ∷ not (eqb (at nd.a).sort memory_code) ∷ []
sorted_as at Ite nd = eqb (at nd.a).sort bit_code ∷ eqb (at nd.b).sort nd.sort ∷ eqb (at nd.c).sort nd.sort ∷ []
sorted_as at Eq nd = eqb nd.sort bit_code ∷ eqb (at nd.a).sort (at nd.b).sort ∷ not (eqb (at nd.a).sort memory_code) ∷ []
sorted_as at And nd = not (eqb nd.sort memory_code) ∷ eqb (at nd.a).sort nd.sort ∷ eqb (at nd.b).sort nd.sort ∷ []
sorted_as at Or nd = not (eqb nd.sort memory_code) ∷ eqb (at nd.a).sort nd.sort ∷ eqb (at nd.b).sort nd.sort ∷ []
sorted_as at Not nd = not (eqb nd.sort memory_code) ∷ eqb (at nd.a).sort nd.sort ∷ []
sorted_as at State nd = cond (eqb nd.b 1) (eqb (at nd.a).sort nd.sort ∷ []) []
sorted_as at Next nd = is State (at nd.a) ∷ eqb (at nd.a).sort nd.sort ∷ eqb (at nd.b).sort nd.sort ∷ []
sorted_as at Input nd = []
sorted_as at Bad nd = eqb nd.sort bit_code ∷ eqb (at nd.a).sort bit_code ∷ []

-- among any nodes, and in a table
abbrev pub rule5_at : (ℕ → Node) → Node → Bool
rule5_at at nd = every (λ x. may_serve (at x)) (operands nd) && all_true (sorted_as at nd.kind nd)

abbrev pub sorted : List Node → Node → List Bool
sorted t nd = sorted_as (node_at t) nd.kind nd

abbrev pub rule5 : List Node → Node → Bool
rule5 t nd = rule5_at (node_at t) nd

-- ---- "the nodes, rising, for each 3, then 4, then 5": they name the node (section 1)
-- 3, then 4, of a row by itself: each operand is below the bound
abbrev pub form_tests : ℕ → ℕ → ℕ → Row → List (Option Refusal)
form_tests names bound k r = unless (rule3 names r) 3 1 k ∷ unless (rule4 bound (decode r)) 4 1 k ∷ []

abbrev pub check_form : ℕ → ℕ → ℕ → Row → Option Refusal
check_form names bound k r = first_of (form_tests names bound k r)

-- and 5, where the bound is the node
abbrev pub check_node : ℕ → List Node → ℕ → Row → Option Refusal
check_node names t k r = first_of (form_tests names k k r ++ (unless (rule5 t (decode r)) 5 1 k ∷ []))

unfoldable pub check_nodes : ℕ → List Node → ℕ → List Row → Option Refusal
check_nodes names t k [] = none
check_nodes names t k (r ∷ rs) = first_of (check_node names t k r ∷ check_nodes names t (suc k) rs ∷ [])

-- ---- the lists: 6 and 7 name the list's section and place as given
-- 6: "a list entry is past the table, of the wrong kind, or a Next whose state has no init"
abbrev pub sequential_entry : List Node → ℕ → List Bool
sequential_entry t s = ltb s (length t) ∷ is Next (node_at t s) ∷ eqb (node_at t (node_at t s).a).b 1 ∷ []

abbrev pub bad_entry : List Node → ℕ → List Bool
bad_entry t b = ltb b (length t) ∷ is Bad (node_at t b) ∷ []

-- 7: "a second sequential for one state"; seen holds the states of the sequentials before
unfoldable pub check_sequentials : List Node → ℕ → List ℕ → List ℕ → Option Refusal
check_sequentials t place seen [] = none
check_sequentials t place seen (s ∷ ss) =
    first_of (unless (all_true (sequential_entry t s)) 6 2 place
    ∷ unless (not (member (node_at t s).a seen)) 7 2 place
    ∷ check_sequentials t (suc place) ((node_at t s).a ∷ seen) ss
    ∷ [])

unfoldable pub check_bads : List Node → ℕ → ℕ → List ℕ → Option Refusal
check_bads t section place [] = none
check_bads t section place (b ∷ bs) = first_of (unless (all_true (bad_entry t b)) 6 section place ∷ check_bads t section (suc place) bs ∷ [])

-- "the nodes, rising, for each 3, then 4, then 5; the lists in order, for each entry 6, then 7": m's table is the rows decoded
unfoldable pub check : ℕ → List Row → Model → Option Refusal
check names rs m =
    first_of (check_nodes names m.table 0 rs
    ∷ check_sequentials m.table 0 [] m.sequentials
    ∷ check_bads m.table 3 0 m.initial
    ∷ check_bads m.table 4 0 m.later
    ∷ [])
