-- Worked cases of the rules (docs/FORMAT.md, "Operators", "Reads", "Noon, by hand").
--     NoonCases     operators and a Read past an unsettled Write, of accepted calls: the constants made, what is replaced, and the two counts of writes
--     NoonExample   the example's nine result sections
--     OneBranch and after, UltAtEquality, PastUnsettled    what looks right and is wrong, each on a small table
-- Assumes nothing.
use Rattle.std.specs.Prelude.{ℕ, ◌-◌, ◌^◌, ◌≡◌, false, List, [], ◌∷◌, length, get_or}
use Rattle.btor.specs.Sorts.{bit_code, word_code, memory_code}
use Rattle.btor.specs.Operators.{Op, rust, Add, Sub, Mul, Div, Rem, Sll}
use Rattle.rules.specs.Refusal.{Out, done, refused}
use Rattle.rules.specs.Table.{Kind, Const, Read, Write, Word, Ult, Ite, Eq, And, Not, State, Input, Bad, Row, Node, constant, kind_code}
use Rattle.rules.specs.Model.{Model, Mode, model_of}
use Rattle.rules.specs.Walk.{St, start}
use Rattle.rules.specs.Visit.{Ways, visit_top}
use Rattle.rules.specs.Whole.{Folded, run}
use Rattle.rules.specs.Result.{result_words}
use Rattle.rules.specs.Limits.{house}
use Rattle.rules.specs.Sections.{Sections, encode}
use Rattle.rules.specs.Call.{Call, need_of, impl, Accepted, outcome, sections_of}

-- ---- calls
abbrev pub row : Kind → ℕ → ℕ → ℕ → ℕ → ℕ → Row
row K s x y z nm = record { code = kind_code K; sort = s; a = x; b = y; c = z; name = nm }

-- a call with the words of some sections, one name, and the room that they need
abbrev pub call_of : ℕ → Sections → Call
call_of mode s = record { mode = mode; words = encode s; names = 1 ∷ 0 ∷ 0 ∷ []; result_room = need_of s; scratch_room = need_of s }

-- one bad, the table's last row, and no input or reply
abbrev pub call_on : List Row → Call
call_on rs = call_of 0 (record { rows = rs; sequentials = []; initial = (length rs - 1) ∷ []; later = []; inputs = []; replies = [] })

-- the sections of made constants, of replacements and of the tally, of a call that is accepted
abbrev pub told : Out Accepted → List (List ℕ)
told (refused r) = []
told (done a) = let r : List (List ℕ) = sections_of a in get_or r 1 [] ∷ get_or r 2 [] ∷ get_or r 8 [] ∷ []

-- the constants made after the shared two (each a sort and a number), what replaces which node, and the counts of writes looked at and passed
abbrev pub Tells : List Row → List ℕ → List ℕ → ℕ → ℕ → Type 0
Tells rs made replacements l p = told (outcome house impl (call_on rs)) ≡ made ∷ replacements ∷ (5 ∷ 0 ∷ 0 ∷ l ∷ p ∷ 0 ∷ []) ∷ []

-- no constant is made, or one of sort s
abbrev pub none_made : List ℕ
none_made = 2 ∷ bit_code ∷ 0 ∷ bit_code ∷ 1 ∷ []

abbrev pub one_made : ℕ → ℕ → List ℕ
one_made s x = 3 ∷ bit_code ∷ 0 ∷ bit_code ∷ 1 ∷ s ∷ x ∷ []

-- node k is replaced by r, and no other node is
abbrev pub only : ℕ → ℕ → List ℕ
only k r = 1 ∷ k ∷ r ∷ []

-- an operator on two Consts of sort s, and whether the outcome is an Input
abbrev pub on_two : Kind → ℕ → ℕ → ℕ → List Row
on_two K s x y = row Const s x 0 0 0 ∷ row Const s y 0 0 0 ∷ row K s 0 1 0 0 ∷ row Input s 0 0 0 1 ∷ row Eq bit_code 2 3 0 0 ∷ row Bad bit_code 4 0 0 0 ∷ []

abbrev pub Gives : Op → ℕ → ℕ → ℕ → Type 0
Gives op x y r = Tells (on_two (Word op) word_code x y) (one_made word_code r) (only 2 8) 0 0

-- Ult of 12 and 12: it is the shared false
unfoldable pub UltAtEquality : Type 0
UltAtEquality = Tells (row Const word_code 12 0 0 0 ∷ row Const word_code 12 0 0 0 ∷ row Ult bit_code 0 1 0 0 ∷ row Bad bit_code 2 0 0 0 ∷ []) none_made (only 2 4) 0 0

-- 7 written at 5, then 9 at an Input, and 5 read: the read is node 1, the 7 below the unsettled write
unfoldable pub PastUnsettled : Type 0
PastUnsettled =
    Tells (row Const word_code 5 0 0 0 ∷ row Const word_code 7 0 0 0 ∷ row Input word_code 0 0 0 1 ∷ row Const word_code 9 0 0 0
    ∷ row State memory_code 0 0 0 0 ∷ row Write memory_code 4 0 1 0 ∷ row Write memory_code 5 2 3 0
    ∷ row Read word_code 6 0 0 0 ∷ row Eq bit_code 7 2 0 0 ∷ row Bad bit_code 8 0 0 0 ∷ []) none_made (only 7 1) 2 1

unfoldable pub NoonCases : Type 0
NoonCases =
    Gives Add (2 ^ 64 - 1) 1 0
    × Gives Sub 0 1 (2 ^ 64 - 1)
    × Gives Mul (2 ^ 32) (2 ^ 32) 0
    × Gives Div (2 ^ 64 - 7) 2 (2 ^ 64 - 3)
    × Gives Div 5 0 (2 ^ 63 - 1)
    × Gives Div (2 ^ 63) (2 ^ 64 - 1) (2 ^ 63 - 1)
    × Gives Rem 5 0 (2 ^ 64 - 1)
    × Gives Sll 1 63 (2 ^ 63)
    × Gives Sll 1 64 0
    × UltAtEquality
    × Tells (row Const 11 0 0 0 0 ∷ row Not 11 0 0 0 0 ∷ row Input 11 0 0 0 1 ∷ row Eq bit_code 1 2 0 0 ∷ row Bad bit_code 3 0 0 0 ∷ []) (one_made 11 255) (only 1 7) 0 0
    × Tells (on_two And 11 3 5) (one_made 11 1) (only 2 8) 0 0
    × PastUnsettled

-- ---- the example
abbrev pub mode0 : Mode
mode0 = record { minimise = false; terminate = false; one_query = false; reading = rust }

abbrev pub noon : List Row
noon = row State word_code 0 0 0 1 ∷ row Const word_code 12 0 0 0 ∷ row Ult bit_code 0 1 0 0 ∷ row Bad bit_code 2 0 0 0 ∷ []

abbrev pub noon_model : Model
noon_model = model_of noon (λ k. false) [] (3 ∷ []) [] (12 ∷ []) []

abbrev pub words_of : Model → Out Folded → List (List ℕ)
words_of m (refused r) = []
words_of m (done f) = result_words m f

unfoldable pub NoonExample : Type 0
NoonExample =
    words_of noon_model (run 1 noon noon_model mode0)
    ≡ (4 ∷ 19 ∷ 2 ∷ 0 ∷ 0 ∷ 0 ∷ 1 ∷ 1 ∷ 2 ∷ 12 ∷ 0 ∷ 0 ∷ 0 ∷ 12 ∷ 1 ∷ 6 ∷ 1 ∷ 0 ∷ 0 ∷ 22 ∷ 1 ∷ 4 ∷ 0 ∷ 0 ∷ 0 ∷ [])
    ∷ (3 ∷ 1 ∷ 0 ∷ 1 ∷ 1 ∷ 2 ∷ 12 ∷ [])
    ∷ (2 ∷ 0 ∷ 6 ∷ 2 ∷ 4 ∷ [])
    ∷ (0 ∷ []) ∷ (0 ∷ []) ∷ (0 ∷ []) ∷ (0 ∷ []) ∷ (0 ∷ [])
    ∷ (5 ∷ 1 ∷ 0 ∷ 0 ∷ 0 ∷ 0 ∷ []) ∷ []

-- ---- what looks right and is wrong, each on a small table; Ult true at equality, and a walk that stops at an unsettled write, are above
abbrev pub node : Kind → ℕ → ℕ → ℕ → ℕ → Node
node k s x y z = record { kind = k; sort = s; a = x; b = y; c = z; name = 0 }

-- mode 0, no reply
abbrev pub plain : Ways
plain = record { dump = λ k. false; minimise = false; reply_count = 0; reading = rust }

abbrev pub inputs_after : Out (St × ℕ) → List (List ℕ)
inputs_after (refused r) = []
inputs_after (done p) = p.0.inputs ∷ []

abbrev pub number_after : Out (St × ℕ) → List ℕ
number_after (refused r) = []
number_after (done p) = p.1 ∷ []

abbrev pub initial_after : Out Folded → List (List ℕ)
initial_after (refused r) = []
initial_after (done f) = f.initial ∷ []

-- "only the chosen branch is visited": the State that is not chosen takes no input
unfoldable pub OneBranch : Type 0
OneBranch =
    let t : List Node = constant bit_code 1 ∷ constant word_code 5 ∷ node State word_code 0 0 0 ∷ node Ite word_code 0 1 2 ∷ [] in
    inputs_after (visit_top t plain (start t (7 ∷ []) []) 3) ≡ (7 ∷ []) ∷ []

-- "A made constant is never shared": a bit State that takes 1 is replaced by a constant of its own, number n + 2
unfoldable pub OwnConstant : Type 0
OwnConstant =
    let t : List Node = node State bit_code 0 0 0 ∷ [] in
    number_after (visit_top t plain (start t (1 ∷ []) []) 0) ≡ 3 ∷ []

-- "the constant 1: it is kept"
unfoldable pub TrueBadStays : Type 0
TrueBadStays =
    let rs : List Row = row Const bit_code 1 0 0 0 ∷ row Bad bit_code 0 0 0 0 ∷ [] in
    initial_after (run 0 rs (model_of rs (λ k. false) [] (1 ∷ []) [] [] []) mode0) ≡ (1 ∷ []) ∷ []

-- "A reply that no question takes is not looked at."
unfoldable pub UnaskedUnjudged : Type 0
UnaskedUnjudged =
    let rs : List Row = row Const bit_code 1 0 0 0 ∷ row Bad bit_code 0 0 0 0 ∷ [] in
    initial_after (run 0 rs (model_of rs (λ k. false) [] (1 ∷ []) [] [] (9 ∷ [])) mode0) ≡ (1 ∷ []) ∷ []
