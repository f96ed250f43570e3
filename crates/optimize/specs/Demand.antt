-- Demand 3 of the three entry points themselves (docs/FORMAT.md, "What you may rely on"): of the words that an accepted call leaves in the result buffer.
--     Contract          what the contracts in optimize.rt say of a call and of what it left
--     after, list_in, worth_in     a result's words read back, section by section     Dropped    a bad state that a kept list lacks
--     KeepsIn           what is concluded of the words        Demand3OfResult    the demand, with no premise but its own
--     SortsIn           the sorts in the words, of every accepted call        SortsCanFail    words of which it holds, and two with another sort of which it fails
-- What is visited, replaced, asked or dropped follows from the rules on what a call is given, never from a result: the premises are of the rules' fold.
-- Assumes nothing.
use Rattle.std.specs.Prelude.{ℕ, ◌+◌, ◌-◌, ◌*◌, ◌<◌, ◌≡◌, ◌⊎◌, cond, List, [], ◌∷◌, ◌++◌, length, get_or, drop, replicate, ltb, eqb, Result, Ok}
use Rattle.btor.specs.Operators.{Reading, bit}
use Rattle.rules.specs.Refusal.{done}
use Rattle.rules.specs.Limits.{house}
use Rattle.rules.specs.Table.{And, Node, constant, node_at, row_width}
use Rattle.rules.specs.Model.{Model}
use Rattle.rules.specs.Value.{Value, number, worth, value}
use Rattle.rules.specs.Call.{Entry, Call, Accepted, outcome, words_of, left, FaithfulTo, Premises}
use Rattle.tables.specs.declared.refusal.Refusal.{Refusal}
use Rattle.optimize.specs.Bounds.{count_of}
use Rattle.optimize.specs.View.{node_of}
use Rattle.optimize.specs.Lists.{entries_of}
use Rattle.optimize.specs.Entries.{answered}

-- what the contract of an entry point says: r is answered, and Q and S stand in result and scratch
pub record Contract (entry : Entry) (call : Call) (r : Result ℕ Refusal) (Q S : List ℕ) : Type 0 where
  pub answer : answered r ≡ (left house entry call).answer
  pub result : Q ≡ (left house entry call).result
  pub scratch : S ≡ (left house entry call).scratch

-- ---- a result's words: nodes, constants, replacements, the three kept lists, "each after its count"
-- the words after a section whose entries have so many words
abbrev pub after : ℕ → List ℕ → List ℕ
after width ws = drop (1 + width * count_of ws) ws

abbrev pub constants_on : List ℕ → List ℕ
constants_on Q = after row_width Q

abbrev pub replacements_on : List ℕ → List ℕ
replacements_on Q = after 2 (constants_on Q)

abbrev pub initial_on : List ℕ → List ℕ
initial_on Q = after 1 (after 2 (replacements_on Q))

abbrev pub later_on : List ℕ → List ℕ
later_on Q = after 1 (initial_on Q)

-- the list that stands first in the words
abbrev pub list_in : List ℕ → List ℕ
list_in ws = entries_of ws 1 (count_of ws)

-- how often b is listed
unfoldable pub times : ℕ → List ℕ → ℕ
times b [] = 0
times b (x ∷ xs) = bit (eqb b x) + times b xs

-- a bad state that a kept list has fewer times than the given one
abbrev pub Dropped : Model → List ℕ → ℕ → Type 0
Dropped m Q b = (times b (list_in (initial_on Q)) < times b m.initial) ⊎ (times b (list_in (later_on Q)) < times b m.later)

-- ---- what a number in the result stands for: a node's value in the given table, or "a constant its number"
unfoldable pub worth_in : Reading → List Node → (ℕ → Value) → List ℕ → ℕ → Value
worth_in how t α Q r = cond (ltb r (length t)) (value how (node_at t) α r) (number (get_or (constants_on Q) (2 + 2 * (r - length t)) 0))

-- "every rewritten row, .. is worth what the node is worth in the given table", "every replacement is worth what its node is worth",
-- "the condition of every dropped bad state is 0"
pub record KeepsIn (how : Reading) (m : Model) (Q : List ℕ) (α : ℕ → Value) : Type 0 where
  pub nodes : count_of Q ≡ length m.table
  pub rows : (k : ℕ) → k < length m.table → worth how (worth_in how m.table α Q) (α k) (node_of Q k) ≡ value how (node_at m.table) α k
  pub replacements : (i : ℕ) → i < count_of (replacements_on Q)
      → worth_in how m.table α Q (get_or (replacements_on Q) (2 + 2 * i) 0) ≡ value how (node_at m.table) α (get_or (replacements_on Q) (1 + 2 * i) 0)
  pub dropped : (b : ℕ) → Dropped m Q b → value how (node_at m.table) α (node_at m.table b).a ≡ number 0

-- ---- the sort of a number in the result: a node's, or "constants: sort, number"
unfoldable pub sort_in : ℕ → List ℕ → ℕ → ℕ
sort_in n Q r = cond (ltb r n) (node_of Q r).sort (get_or (constants_on Q) (1 + 2 * (r - n)) 0)

-- a row keeps its sort, and "every replacement, a node or a constant, has its node's own sort"
pub record SortsIn (t : List Node) (Q : List ℕ) : Type 0 where
  pub rows : (k : ℕ) → k < length t → (node_of Q k).sort ≡ (node_at t k).sort
  pub replacements : (i : ℕ) → i < count_of (replacements_on Q)
      → sort_in (length t) Q (get_or (replacements_on Q) (2 + 2 * i) 0) ≡ (node_at t (get_or (replacements_on Q) (1 + 2 * i) 0)).sort

-- the byte 3, its And with itself, and the words of a result for them, with the sorts of row 0 and of the constant made for the And
abbrev pub byte_table : List Node
byte_table = constant 11 3 ∷ record { kind = And; sort = 11; a = 0; b = 0; c = 0; name = 0 } ∷ []

abbrev pub words_with : ℕ → ℕ → List ℕ
words_with row made = 2 ∷ 1 ∷ row ∷ 3 ∷ 0 ∷ 0 ∷ 0 ∷ 16 ∷ 11 ∷ 0 ∷ 0 ∷ 0 ∷ 0 ∷ 3 ∷ 1 ∷ 0 ∷ 1 ∷ 1 ∷ made ∷ 3 ∷ 1 ∷ 1 ∷ 4 ∷ []

unfoldable pub SortsCanFail : Type 0
SortsCanFail = SortsIn byte_table (words_with 11 11) × (SortsIn byte_table (words_with 11 2) → ⊥) × (SortsIn byte_table (words_with 12 11) → ⊥)

-- a call that answered `Ok count` is one that the rules accept, the result holds the rules' words and zeros after them, and they keep sorts and values
pub record Kept (entry : Entry) (call : Call) (count : ℕ) (Q : List ℕ) : Type 0 where
  pub accepted : Accepted
  pub follows : outcome house entry call ≡ done accepted
  pub counted : count ≡ length (words_of accepted)
  pub words : Q ≡ words_of accepted ++ replicate (call.result_room - length (words_of accepted)) 0
  pub sorts : SortsIn accepted.model.table Q
  pub keeps : Premises accepted → (α : ℕ → Value) → FaithfulTo accepted α
      → KeepsIn accepted.how.reading accepted.model Q α

unfoldable pub Demand3OfResult : Type 0
Demand3OfResult = (entry : Entry) (call : Call) (count : ℕ) (Q S : List ℕ) → Contract entry call (Ok count) Q S → Kept entry call count Q
