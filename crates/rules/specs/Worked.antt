-- Demand 3 at work: three calls that meet its premises, what each of them replaced, asked and dropped, and what follows.
--     Follows               demand 3's conclusion, of some assignment and of every faithful one, and what operands are worth in each
--     ReplacedWorked        a dropped Next, a state that took an input, and replies of yes to every kind of question that a node or a bad draws
--     SeveralWorked         one-query with two bads left, and the reply that neither can be
--     SteppedWorked         a kept Next, a memory, a Read past a settled Write to its value, and a bad that is found satisfiable
-- Assumes nothing.
use Rattle.std.specs.Prelude.{ℕ, ◌<◌, ◌^◌, ◌≡◌, List, [], ◌∷◌}
use Rattle.btor.specs.Operators.{Add}
use Rattle.btor.specs.Sorts.{bit_code, word_code, memory_code}
use Rattle.rules.specs.Refusal.{OfDone}
use Rattle.rules.specs.Table.{Const, Read, Write, Word, Ult, Ite, Eq, And, Or, Not, State, Next, Input, Bad, Row}
use Rattle.rules.specs.Value.{Value, number}
use Rattle.rules.specs.Walk.{Question, Held}
use Rattle.rules.specs.Questions.{always_true, always_false, equal, satisfiable, several, question}
use Rattle.rules.specs.Demand.{Keeps}
use Rattle.rules.specs.Laws.{OperandsWorth}
use Rattle.rules.specs.Limits.{house}
use Rattle.rules.specs.Call.{Call, impl, Accepted, outcome, FaithfulTo, HoldIn, value_in, Premises}
use Rattle.rules.specs.Cases.{row, call_of}

-- some assignment is faithful, with any value that fits for the Input 0
pub record Follows (a : Accepted) : Type 0 where
  pub some : (x : ℕ) → x < 2 ^ 64 → (α : ℕ → Value) × FaithfulTo a α × (α 0 ≡ number x)
  pub every : (α : ℕ → Value) → FaithfulTo a α → Keeps a.how.reading a.model.table a.folded α
  pub operands : (α : ℕ → Value) → FaithfulTo a α → OperandsWorth a.how.reading a.model.table a.folded.state α

-- ---- 0 an Input, 1 a State with init 0, 2 its Next, which is the State itself, 3 a State that takes the input 0, 4 whether 1 is below 0, 5 whether not,
-- 6 that twice, 7 if 4 then 0 else 1, 8 whether 7 is below 0, 9 whether 0 is below 3, 10 whether 8 or 9; Bads on 4, 6 and 10. Under minimise.
-- Where 1 has 0's value and 3 the input's: 4, 8, 9 and 10 are never 1, 6 always is, and 7 is 0's value.
abbrev pub replaced_rows : List Row
replaced_rows =
    row Input word_code 0 0 0 1 ∷ row State word_code 0 1 0 0 ∷ row Next word_code 1 1 0 0 ∷ row State word_code 0 0 0 0
    ∷ row Ult bit_code 1 0 0 0 ∷ row Not bit_code 4 0 0 0 ∷ row And bit_code 5 5 0 0 ∷ row Ite word_code 4 0 1 0
    ∷ row Ult bit_code 7 0 0 0 ∷ row Ult bit_code 0 3 0 0 ∷ row Or bit_code 8 9 0 0
    ∷ row Bad bit_code 4 0 0 0 ∷ row Bad bit_code 6 0 0 0 ∷ row Bad bit_code 10 0 0 0 ∷ []

abbrev pub replaced_call : Call
replaced_call =
    call_of 1 (record {
      rows = replaced_rows;
      sequentials = 2 ∷ [];
      initial = 11 ∷ 12 ∷ 13 ∷ [];
      later = [];
      inputs = 0 ∷ [];
      replies = 0 ∷ 0 ∷ 1 ∷ 1 ∷ 1 ∷ 0 ∷ 1 ∷ 0 ∷ 1 ∷ [];
    })

-- what takes which constant, and what is asked, with its reply
abbrev pub replaced_held : List Held
replaced_held = record { state = 3; by = 16 } ∷ []

abbrev pub replaced_asked : List Question
replaced_asked =
    question always_true 4 0 [] 0 ∷ question always_false 4 0 [] 0 ∷ question satisfiable 4 0 [] 1 ∷ question always_true 6 0 [] 1 ∷ question equal 7 0 [] 1
    ∷ question always_true 8 0 [] 0 ∷ question always_false 8 0 [] 1 ∷ question always_true 9 0 [] 0 ∷ question always_false 9 0 [] 1 ∷ []

pub record Replaced (a : Accepted) : Type 0 where
  pub sequentials : a.folded.sequentials ≡ []
  pub held : a.folded.state.held ≡ replaced_held
  pub asked : a.folded.state.asked ≡ replaced_asked
  pub initial : a.folded.initial ≡ 12 ∷ []
  pub dropped : a.folded.dropped ≡ 11 ∷ 13 ∷ []
  pub premises : Premises a
  pub follows : Follows a
  pub states : (α : ℕ → Value) → FaithfulTo a α → (value_in a α 1 ≡ value_in a α 0) × (value_in a α 3 ≡ number 0)
  pub others : (α : ℕ → Value) → FaithfulTo a α → (value_in a α 6 ≡ number 1) × (value_in a α 7 ≡ value_in a α 0)
  pub conditions : (α : ℕ → Value) → FaithfulTo a α → (value_in a α 4 ≡ number 0) × (value_in a α 10 ≡ number 0)

unfoldable pub ReplacedWorked : Type 0
ReplacedWorked = OfDone Replaced (outcome house impl replaced_call)

-- ---- 0 an Input, 1 a zero, 2 its sum with itself, 3 whether 0 is below 2, 4 whether 0 is below itself, 5 and 6 Bads: neither can be 1
abbrev pub several_rows : List Row
several_rows =
    row Input word_code 0 0 0 1 ∷ row Const word_code 0 0 0 0 ∷ row (Word Add) word_code 1 1 0 0
    ∷ row Ult bit_code 0 2 0 0 ∷ row Ult bit_code 0 0 0 0 ∷ row Bad bit_code 3 0 0 0 ∷ row Bad bit_code 4 0 0 0 ∷ []

abbrev pub several_call : Call
several_call = call_of 4 (record { rows = several_rows; sequentials = []; initial = 5 ∷ 6 ∷ []; later = []; inputs = []; replies = 1 ∷ [] })

abbrev pub several_asked : List Question
several_asked = question several 2 0 (5 ∷ 6 ∷ []) 1 ∷ []

-- the reply says of each bad that it is 0
pub record Several (a : Accepted) : Type 0 where
  pub initial : a.folded.initial ≡ 5 ∷ 6 ∷ []
  pub asked : a.folded.state.asked ≡ several_asked
  pub verdict : a.folded.verdict ≡ 2
  pub says : (α : ℕ → Value) → HoldIn a α → (value_in a α 5 ≡ number 0) × (value_in a α 6 ≡ number 0)
  pub premises : Premises a
  pub follows : Follows a
  pub values : (α : ℕ → Value) → FaithfulTo a α → value_in a α 2 ≡ number 0

unfoldable pub SeveralWorked : Type 0
SeveralWorked = OfDone Several (outcome house impl several_call)

-- ---- 0 an Input, 1 a memory State, 2 and 3 the numbers 5 and 7, 4 the memory with 0 written at 5, 5 that with 7 written at 7, 6 what is read at 5,
-- 7 a State with init 5, 8 its Next, which is 6, 9 whether 7 is 0, 10 a Bad: the Read is the Input, so the State's next value is
abbrev pub stepped_rows : List Row
stepped_rows =
    row Input word_code 0 0 0 1 ∷ row State memory_code 0 0 0 0 ∷ row Const word_code 5 0 0 0 ∷ row Const word_code 7 0 0 0
    ∷ row Write memory_code 1 2 0 0 ∷ row Write memory_code 4 3 3 0 ∷ row Read word_code 5 2 0 0
    ∷ row State word_code 2 1 0 0 ∷ row Next word_code 7 6 0 0 ∷ row Eq bit_code 7 0 0 0 ∷ row Bad bit_code 9 0 0 0 ∷ []

abbrev pub stepped_call : Call
stepped_call = call_of 0 (record { rows = stepped_rows; sequentials = 8 ∷ []; initial = []; later = 10 ∷ []; inputs = []; replies = 2 ∷ [] })

pub record Stepped (a : Accepted) : Type 0 where
  pub sequentials : a.folded.sequentials ≡ 8 ∷ []
  pub later : a.folded.later ≡ 10 ∷ []
  pub asked : a.folded.state.asked ≡ question satisfiable 9 0 [] 2 ∷ []
  pub looked : a.folded.state.looked ≡ 2
  pub premises : Premises a
  pub follows : Follows a
  pub values : (α : ℕ → Value) → FaithfulTo a α → (value_in a α 6 ≡ value_in a α 0) × (value_in a α 8 ≡ value_in a α 0)

unfoldable pub SteppedWorked : Type 0
SteppedWorked = OfDone Stepped (outcome house impl stepped_call)
