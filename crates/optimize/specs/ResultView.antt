-- What the two lent buffers hold before the walk and after it, and what the end of a call makes of them.
--     Ready       a table that fits the buffers               untouched    the counters before the walk
--     Finished    what the walk leaves in the buffers         folded_in     the rules' fold that lies there
--     Wrote       words put behind those before a place       Handed       the words handed back, and zeros after them
-- Assumes nothing.
use Rattle.std.specs.Prelude.{ℕ, Bool, eqb, ◌+◌, ◌-◌, ◌*◌, ◌<◌, ◌≤◌, ◌≡◌, List, [], ◌∷◌, ◌++◌, length, take, drop, replicate}
use Rattle.rules.specs.Model.{Model}
use Rattle.rules.specs.Walk.{Held}
use Rattle.rules.specs.Whole.{Folded}
use Rattle.rules.specs.Lists.{sum}
use Rattle.rules.specs.Table.{row_width}
use Rattle.rules.specs.Result.{is_replaced, mark_words, gather, listed}
use Rattle.optimize.specs.Bounds.{count_of, constants_at, most_nodes, room_of}
use Rattle.rules.specs.Sections.{word_of}
use Rattle.optimize.specs.View.{Coded, mark_by, mark_of, view}
use Rattle.optimize.specs.Lists.{entries_of}
use Rattle.optimize.specs.declared.lists.Lists.{Lists}
use Rattle.optimize.specs.declared.walk.Walk.{Walk}

-- ---- before the walk
-- each given code is that of a kind
abbrev pub KindsKnown : List ℕ → Type 0
KindsKnown g = (v : ℕ) → v < count_of g → Coded (word_of g v 0)

-- the kinds of the table are known; the result (of length r) has room for one without lists, scratch (of length s) for its marks
pub record Ready (g : List ℕ) (r s : ℕ) : Type 0 where
  pub known : KindsKnown g
  pub room : room_of (count_of g) ≤ r
  pub scratch : 2 * count_of g ≤ s

abbrev pub untouched : Walk
untouched = record { made = 0; taken = 0; used = 0; asked = 0; looked = 0; passed = 0 }

-- ---- after the walk
-- where the kept lists start in scratch: after the marks, the replacements and the room for questions of n nodes and b bad entries
abbrev pub lists_at : ℕ → ℕ → ℕ
lists_at n b = 2 * n + 4 * (3 * n + b + 1)

-- how many words a result can have: n nodes and as many replaced, the constants made, the entries of the three lists, the inputs left, the questions
abbrev pub result_room : ℕ → ℕ → ℕ → ℕ → ℕ → ℕ
result_room n made entries inputs asked = constants_at n + 2 * (2 + made) + (1 + 2 * n) + (3 + entries) + (1 + inputs) + (1 + 4 * asked) + 6

-- how many entries three lists have
abbrev pub entries_in : Lists → ℕ
entries_in l = length l.sequentials.now + length l.initial.now + length l.later.now

-- room, counters and kinds as the walk leaves them, for the inputs given and the lists kept
pub record Finished (g inputs R S : List ℕ) (w : Walk) (kept : Lists) : Type 0 where
  pub counted : 0 < length g
  pub few : count_of g ≤ most_nodes
  pub least : room_of (count_of g) ≤ length R
  pub room : result_room (count_of g) w.made (entries_in kept) (length inputs) w.asked ≤ length R
  pub scratch : 2 * count_of g + 4 * w.asked ≤ length S
  pub made : w.made ≤ count_of g
  pub taken : w.taken ≤ length inputs
  pub known : (v : ℕ) → v < count_of g → Coded (word_of R v 0)

-- the fold that lies in the buffers, with the lists kept; the states that took an input (h) and the bads dropped (d) lie in none
unfoldable pub folded_in : List Held → List ℕ → List ℕ → List ℕ → List ℕ → List ℕ → List ℕ → Walk → List ℕ → List ℕ → List ℕ → ℕ → Folded
folded_in h d g inputs replies R S w ss initial later verdict =
    record {
      state = view h g inputs replies R S w;
      sequentials = ss;
      initial = initial;
      later = later;
      dropped = d;
      verdict = verdict;
    }

-- the model of a call, as far as the result speaks of it
pub record ModelOf (g ins reps : List ℕ) (m : Model) : Type 0 where
  pub nodes : length m.table ≡ count_of g
  pub inputs : m.inputs ≡ ins
  pub replies : m.replies ≡ reps

-- ---- what is written
-- the words before the place `at` stay, then stand ws, up to the place r
pub record Wrote (R Q : List ℕ) (at r : ℕ) (ws : List ℕ) : Type 0 where
  pub front : take r Q ≡ take at R ++ ws
  pub fits : r ≤ length Q

-- rows and constants, each after its count
abbrev pub front_words : ℕ → ℕ → List ℕ → List ℕ
front_words n made R = (n ∷ entries_of R 1 (row_width * n)) ++ ((2 + made) ∷ entries_of R (constants_at n) (2 * (2 + made)))

-- whether the words of a mark say that another node stands for its own
abbrev pub replaces : ℕ → ℕ → Bool
replaces word by = eqb (is_replaced (mark_by word by)) 1

-- replacements after their count
abbrev pub pair_words : ℕ → List ℕ → List ℕ
pair_words n S = sum n (λ k. is_replaced (mark_of n S k)) ∷ gather n 0 (λ k. mark_words k (mark_of n S k))

-- the three kept lists, each after its count
abbrev pub kept_words : Lists → List ℕ
kept_words l = listed l.sequentials.now ++ (listed l.initial.now ++ listed l.later.now)

-- the inputs left, the questions and the tally, each after its count
abbrev pub rest_words : List ℕ → List ℕ → Walk → ℕ → List ℕ
rest_words inputs questions w verdict = listed (drop w.taken inputs) ++ ((w.asked ∷ questions) ++ listed (w.taken ∷ w.used ∷ w.looked ∷ w.passed ∷ verdict ∷ []))

-- ws, zeros in the rest of the room, and how many words ws are
pub record Handed (ws : List ℕ) (room : ℕ) (Q : List ℕ) (r : ℕ) : Type 0 where
  pub words : Q ≡ ws ++ replicate (room - length ws) 0
  pub count : r ≡ length ws
