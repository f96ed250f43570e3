-- The structural invariant of a walk: what rows, marks and constants look like at each moment, and what inputs, replies and visited nodes paid for.
--     Stands, Refs   what stands for a node, and for the operands of a row
--     Shape, Books   rows, marks and constants; inputs and replies taken
--     Fine           both, with every made constant in use and the passed writes paid for by replaced Reads
-- Assumes nothing.
use Rattle.std.specs.Prelude.{ℕ, zero, suc, ◌+◌, ◌*◌, ◌<◌, ◌≤◌, ◌≡◌, true, false, List, [], ◌∷◌, length, get_or, drop}
use Rattle.btor.specs.Operators.{Reading, rust, standard, bit}
use Rattle.btor.specs.Sorts.{bit_code}
use Rattle.rules.specs.Lists.{All}
use Rattle.rules.specs.Table.{Kind, Const, Read, Write, Word, Ult, Ext, Ite, Eq, And, Or, Not, State, Next, Input, Bad, Node, constant, node_at, is, operands}
use Rattle.rules.specs.Check.{unused_as, may_serve}
use Rattle.rules.specs.Walk.{St, Mark, fresh, kept, replaced, Question, Held}
use Rattle.rules.specs.Visit.{Ways}
use Rattle.rules.specs.Tally.{writes, if_replaced, reply_at, Apart}
use Rattle.rules.specs.Laws.{MadeRow}

-- ---- what stands for a node: a node before it with its sort that may serve as an operand, or a constant of its sort
module _ (t : List Node) where
  -- x is a constant, or a node before k (up to k)
  abbrev pub Below : ℕ → ℕ → Type 0
  Below k x = x < length t → x < k

  abbrev pub UpTo : ℕ → ℕ → Type 0
  UpTo k x = x < length t → x ≤ k

  module _ (rows : ℕ → Node) (made : ℕ) where
    -- a constant in use, of sort s
    pub record NewFor (x s : ℕ) : Type 0 where
      pub inside : x < length t + 2 + made
      pub sort : (rows x).sort ≡ s

    pub record Stands (x s : ℕ) : Type 0 where
      pub serve : x < length t → may_serve (node_at t x) ≡ true
      pub sort : x < length t → (node_at t x).sort ≡ s
      pub new : length t ≤ x → NewFor x s

    abbrev pub Ref : ℕ → ℕ → ℕ → Type 0
    Ref k x o = Below k x × Stands x (node_at t o).sort

    -- the operands of a row, each in place of the given one
    abbrev pub Refs : ℕ → List ℕ → List ℕ → Type 0
    Refs k [] [] = Unit
    Refs k [] (o ∷ os) = ⊥
    Refs k (x ∷ xs) [] = ⊥
    Refs k (x ∷ xs) (o ∷ os) = Ref k x o × Refs k xs os

    -- the shared false and true
    pub record Shares : Type 0 where
      pub false! : rows (length t) ≡ constant bit_code 0
      pub true! : rows (length t + 1) ≡ constant bit_code 1

-- ---- rows, marks and constants
-- the word of a row that is no operand, or that is one and is not rewritten
abbrev pub kept_as : Kind → Node → List ℕ
kept_as Const nd = nd.a ∷ []
kept_as Read nd = []
kept_as Write nd = []
kept_as (Word op) nd = []
kept_as Ult nd = []
kept_as Ext nd = nd.b ∷ []
kept_as Ite nd = []
kept_as Eq nd = []
kept_as And nd = []
kept_as Or nd = []
kept_as Not nd = []
kept_as State nd = nd.b ∷ []
kept_as Next nd = nd.a ∷ []
kept_as Input nd = []
kept_as Bad nd = []

-- nd is the row g, as given or rewritten
pub record Alike (nd g : Node) : Type 0 where
  pub kind : nd.kind ≡ g.kind
  pub sort : nd.sort ≡ g.sort
  pub name : nd.name ≡ g.name
  pub kept : kept_as g.kind nd ≡ kept_as g.kind g
  pub unused : unused_as g.kind nd ≡ unused_as g.kind g

module _ (t : List Node) where
  abbrev pub MarkStands : (ℕ → Node) → ℕ → ℕ → Mark → Type 0
  MarkStands rows made k fresh = Unit
  MarkStands rows made k kept = Unit
  MarkStands rows made k (replaced r) = Below t k r × Stands t rows made r (node_at t k).sort

  pub record Shape (rows : ℕ → Node) (made : ℕ) (mark : ℕ → Mark) : Type 0 where
    pub shares : Shares t rows made
    pub news : (r : ℕ) → length t ≤ r → r < length t + 2 + made → MadeRow (rows r)
    pub past : (r : ℕ) → length t ≤ r → is Write (rows r) ≡ false
    pub alike : (k : ℕ) → k < length t → Alike (rows k) (node_at t k)
    pub refs : (k : ℕ) → k < length t → Refs t rows made k (operands (rows k)) (operands (node_at t k))
    pub marks : (k : ℕ) → k < length t → MarkStands rows made k (mark k)

  -- every made constant stands for a node
  abbrev pub Used : (ℕ → Mark) → ℕ → Type 0
  Used mark made = (r : ℕ) → length t + 2 ≤ r → r < length t + 2 + made → (k : ℕ) × (k < length t) × (mark k ≡ replaced r)

-- ---- inputs and replies
-- what the reading says of the unsettled writes passed
abbrev pub Strict : Reading → ℕ → Type 0
Strict rust n = Unit
Strict standard n = n ≡ 0

module _ (t : List Node) where
  -- a state that took an input, and the constant made for it
  pub record Took (h : Held) : Type 0 where
    pub inside : h.state < length t
    pub state : (node_at t h.state).kind ≡ State
    pub by : length t + 1 < h.by
    pub bare : operands (node_at t h.state) ≡ []

  -- what was taken from the inputs ins and the replies reps
  pub record Books (how : Reading) (ins reps : List ℕ) (passed : ℕ) (inputs replies : List ℕ) (asked : List Question) (held : List Held) : Type 0 where
    pub clean : Strict how passed
    pub fewer : length held ≤ length ins
    pub left : inputs ≡ drop (length held) ins
    pub unasked : replies ≡ drop (length asked) reps
    pub answers : (i : ℕ) → i < length asked → reply_at asked i ≡ get_or reps i 0
    pub took : All Took held
    pub apart : Apart held

  -- the states that took an input are replaced by the constants made for them
  abbrev pub Marked : (ℕ → Mark) → List Held → Type 0
  Marked mark held = All (λ h. mark h.state ≡ replaced h.by) held

-- ---- what was spent
-- what the replaced ones of the first c nodes are worth, where node k is worth w k
unfoldable pub credit : (ℕ → ℕ) → ℕ → (ℕ → Mark) → ℕ
credit w zero f = 0
credit w (suc c) f = if_replaced (w c) (f c) + credit w c f

-- a Read pays for one walk
abbrev pub fee : List Node → ℕ → ℕ
fee t k = bit (is Read (node_at t k)) * writes t

-- what holds of the state at each moment of a walk that began with the inputs ins and the replies reps
pub record Fine (t : List Node) (ways : Ways) (ins reps : List ℕ) (σ : St) : Type 0 where
  pub shape : Shape t σ.rows σ.made σ.mark
  pub books : Books t ways.reading ins reps σ.passed σ.inputs σ.replies σ.asked σ.held
  pub used : Used t σ.mark σ.made
  pub marked : Marked t σ.mark σ.held
  pub fair : σ.passed ≤ σ.looked
  pub gained : σ.passed ≤ credit (fee t) (length t) σ.mark
