-- A constant has its node's own sort, and what a call leaves passes the rules of sorts again (docs/FORMAT.md, "Folding", "What you may rely on").
--     OwnSorts, OwnSortsOfCall    replacements, made constants and rows of every accepted call, by any entry point and in any mode
--     EachSort, ByteWorked        And and Or of each sort; a call with a byte that stays a byte
--     CanFail                     what is left with little changed, as the Rust's 64-bit word for that byte, fails each of them
--     FiveNeeded, ThreeNeeded, SixNeeded    rules 5, 3 and 6 are needed: a model that is refused by that one alone, of which they fail
-- Assumes nothing.
use Rattle.std.specs.Prelude.{ℕ, ◌≡◌, false, List, [], ◌∷◌, length}
use Rattle.std.proofs.Math.Option.{some}
use Rattle.btor.specs.Sorts.{bit_code, word_code}
use Rattle.rules.specs.Lists.{All}
use Rattle.rules.specs.Refusal.{done, OfDone}
use Rattle.rules.specs.Table.{Const, Ext, Eq, And, Or, Input, Bad, Row, Node, constant}
use Rattle.rules.specs.Model.{Model, model_of}
use Rattle.rules.specs.Check.{check}
use Rattle.rules.specs.Legal.{AllLegal, WellFormed}
use Rattle.rules.specs.Walk.{St, fresh, replaced, set_row, set_mark, add_const}
use Rattle.rules.specs.Whole.{fold}
use Rattle.rules.specs.Laws.{SortsKept, MadeFor, AllMade, AllKept, AllPass, GivenPass}
use Rattle.rules.specs.Names.{names_of}
use Rattle.rules.specs.Limits.{Limits, house}
use Rattle.rules.specs.Call.{Entry, impl, with_solver, with_input, Call, Accepted, outcome}
use Rattle.rules.specs.Cases.{row, node, mode0, call_of, Tells, one_made, only, on_two}

-- ---- the theorem
pub record OwnSorts (names : ℕ) (t : List Node) (σ : St) : Type 0 where
  pub replacements : SortsKept t σ
  pub made : MadeFor t σ
  pub constants : AllMade t σ
  pub kept : AllKept t σ
  pub rows : AllPass names t σ

unfoldable pub OwnSortsOfCall : Type 0
OwnSortsOfCall =
    (limits : Limits) (entry : Entry) (call : Call) (a : Accepted) (names : List (List ℕ)) → outcome limits entry call ≡ done a → names_of limits call.names ≡ done names
    → OwnSorts (length names) a.model.table a.folded.state

-- ---- And and Or of 3 and 5 in each sort in which they make a constant
abbrev pub Stays : ℕ → Type 0
Stays s = Tells (on_two And s 3 5) (one_made s 1) (only 2 8) 0 0 × Tells (on_two Or s 3 5) (one_made s 7) (only 2 8) 0 0

unfoldable pub EachSort : Type 0
EachSort = All Stays (word_code ∷ 11 ∷ 12 ∷ 13 ∷ 14 ∷ 15 ∷ 16 ∷ 17 ∷ [])

-- ---- 0 and 1 the bytes 3 and 5, 2 their And, 3 an Input, 4 whether 2 is 3, 5 a Bad on that: 8 is the byte 1, made for 2
abbrev pub byte_call : ℕ → Call
byte_call mode = call_of mode (record { rows = on_two And 11 3 5; sequentials = []; initial = 5 ∷ []; later = []; inputs = []; replies = [] })

pub record ByteStays (a : Accepted) : Type 0 where
  pub count : a.folded.state.made ≡ 1
  pub byte : a.folded.state.rows 8 ≡ constant 11 1
  pub mark : a.folded.state.mark 2 ≡ replaced 8
  pub row : a.folded.state.rows 4 ≡ node Eq bit_code 8 3 0

-- what the theorem says of it, each part by its own name
pub record Said (a : Accepted) : Type 0 where
  pub replacements : SortsKept a.model.table a.folded.state
  pub made : MadeFor a.model.table a.folded.state
  pub constants : AllMade a.model.table a.folded.state
  pub kept : AllKept a.model.table a.folded.state
  pub rows : AllPass 1 a.model.table a.folded.state

-- limits that the call just meets
abbrev pub tight : Limits
tight = record { nodes = 6; entries = 1; inputs = 0; replies = 0; names = 1; name_length = 0 }

abbrev pub WorkedBy : Limits → Entry → ℕ → Type 0
WorkedBy limits entry mode = OfDone ByteStays (outcome limits entry (byte_call mode)) × OfDone Said (outcome limits entry (byte_call mode))

-- by each entry point, with the house's limits and others, in the first mode, the last and another
unfoldable pub ByteWorked : Type 0
ByteWorked = WorkedBy house impl 0 × WorkedBy house with_solver 7 × WorkedBy tight with_input 5

-- ---- each part can fail: of what that call leaves with little changed
abbrev pub input : ℕ → ℕ → ℕ → Node
input s x nm = record { kind = Input; sort = s; a = x; b = 0; c = 0; name = nm }

module _ (t : List Node) (σ : St) where
  pub record CanFail : Type 0 where
    -- 8 is the Rust's word of 64 bits
    pub replacements : SortsKept t (set_row σ 8 (constant word_code 1)) → ⊥
    pub five : AllPass 1 t (set_row σ 8 (constant word_code 1)) → ⊥
    -- 9 is made for no node
    pub made : MadeFor t (add_const σ 9 11 1) → ⊥
    -- 8 is too wide for a byte, or no Const
    pub wide : AllPass 1 t (set_row σ 8 (constant 11 256)) → ⊥
    pub constants : AllMade t (set_row σ 8 (node Input 11 1 0 0)) → ⊥
    -- 4 has an unused word, 3 an unknown sort; the name of 3 is past the last
    pub three : AllPass 1 t (set_row σ 4 (node Eq bit_code 8 3 1)) → ⊥
    pub known : AllPass 1 t (set_row (set_row σ 3 (input 9 0 1)) 4 (node Eq bit_code 3 3 0)) → ⊥
    pub named : AllPass 0 t σ → ⊥
    -- 2 names itself, 4 a constant that is not in use, and a Bad
    pub before : AllPass 1 t (set_row σ 2 (node And 11 0 2 0)) → ⊥
    pub used : AllPass 1 t (set_row (set_row σ 9 (constant 11 1)) 4 (node Eq bit_code 9 3 0)) → ⊥
    pub serves : AllPass 1 t (set_row (set_row σ 3 (node Bad bit_code 6 0 0)) 4 (node Eq bit_code 6 3 0)) → ⊥
    -- 4, not visited, compares a byte with a bit, or names itself
    pub unvisited_five : AllPass 1 t (set_row (set_mark σ 4 fresh) 4 (node Eq bit_code 8 6 0)) → ⊥
    pub unvisited_before : AllPass 1 t (set_row (set_mark σ 4 fresh) 4 (node Eq bit_code 4 4 0)) → ⊥
    -- 3 has another unused word or name than was given
    pub words : AllKept t (set_row σ 3 (input 11 7 1)) → ⊥
    pub names : AllKept t (set_row σ 3 (input 11 0 0)) → ⊥

unfoldable pub ByteCanFail : Type 0
ByteCanFail = OfDone (λ a. CanFail a.model.table a.folded.state) (outcome house impl (byte_call 0))

-- ---- rules 5, 3 and 6 are needed
abbrev pub model_at : List Row → List ℕ → List ℕ → Model
model_at rs ss initial = model_of rs (λ k. false) ss initial [] [] []

-- 5: the And of sort 11 has a 0 of sort 12 on its left, which takes its place
abbrev pub mixed_rows : List Row
mixed_rows = row Const 12 0 0 0 0 ∷ row Const 11 5 0 0 0 ∷ row And 11 0 1 0 0 ∷ row Input 11 0 0 0 1 ∷ row Eq bit_code 2 3 0 0 ∷ row Bad bit_code 4 0 0 0 ∷ []

abbrev pub mixed : Model
mixed = model_at mixed_rows [] (5 ∷ [])

unfoldable pub FiveNeeded : Type 0
FiveNeeded =
    (check 1 mixed_rows mixed ≡ some (record { reason = 5; section = 1; position = 2 })) × GivenPass 1 mixed.table
    × OfDone (λ f. (SortsKept mixed.table f.state → ⊥) × (AllPass 1 mixed.table f.state → ⊥)) (fold mixed mode0)

-- 3: an Input with an unused word
abbrev pub unread_rows : List Row
unread_rows = row Input word_code 7 0 0 1 ∷ []

abbrev pub unread : Model
unread = model_at unread_rows [] []

unfoldable pub ThreeNeeded : Type 0
ThreeNeeded =
    (check 1 unread_rows unread ≡ some (record { reason = 3; section = 1; position = 0 })) × WellFormed unread
    × OfDone (λ f. AllPass 1 unread.table f.state → ⊥) (fold unread mode0)

-- 6: 2, an And of 1 and 1, is listed as a Next; 1, an Ext of the byte 0, is taken for its state and replaced by that
abbrev pub listed_rows : List Row
listed_rows = row Const 11 3 0 0 0 ∷ row Ext word_code 0 11 0 0 ∷ row And word_code 1 1 0 0 ∷ []

abbrev pub listed : Model
listed = model_at listed_rows (2 ∷ []) []

unfoldable pub SixNeeded : Type 0
SixNeeded =
    (check 1 listed_rows listed ≡ some (record { reason = 6; section = 2; position = 0 })) × AllLegal listed.table × GivenPass 1 listed.table
    × OfDone (λ f. SortsKept listed.table f.state → ⊥) (fold listed mode0)
