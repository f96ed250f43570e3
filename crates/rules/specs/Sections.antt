-- Sections 1 to 6 of the words, each after its count, and the words of given sections (docs/FORMAT.md, "A call").
--     Sections           what stands in the six sections
--     cut_section         one section off the words: refusal 2, then refusal 1
--     word_of             a word of a row
--     cut_six, cut        the six in order, with what follows them, and with nothing after them
--     encode             the words of sections
-- Assumes nothing.
use Rattle.std.specs.Prelude.{ℕ, zero, suc, ◌+◌, ◌*◌, ◌≤◌, true, false, List, [], ◌∷◌, ◌++◌, length, get_or, take, drop, ltb}
use Rattle.rules.specs.Refusal.{Out, done, refuse, ◌>>=◌}
use Rattle.rules.specs.Table.{Row, row_width}
use Rattle.rules.specs.Result.{listed}
use Rattle.rules.specs.Limits.{Limits}

-- "six sections in this order, each after its count": nodes, sequentials, initial bads, sequential bads, inputs, replies
pub record Sections : Type 0 where
  pub rows : List Row
  pub sequentials : List ℕ
  pub initial : List ℕ
  pub later : List ℕ
  pub inputs : List ℕ
  pub replies : List ℕ

-- a section's count, its words, and the words after it
pub record Part : Type 0 where
  pub count : ℕ
  pub content : List ℕ
  pub rest : List ℕ

-- 1: "a section is short"; 2: "a count .. is over its limit"; "in each 2 before 1"; width words for each that is counted
unfoldable pub cut_section : ℕ → ℕ → ℕ → List ℕ → Out Part
cut_section section limit width [] = refuse 1 section 0
cut_section section limit width (count ∷ ws) =
    elim (ltb limit count) [
      | true ↦ refuse 2 section 0
      | false ↦ elim (ltb (length ws) (width * count)) [
        | true ↦ refuse 1 section 0
        | false ↦ done (record { count = count; content = take (width * count) ws; rest = drop (width * count) ws })
      ]
    ]

-- "A node is six words: kind, sort, a, b, c, name."
abbrev pub row_of : List ℕ → Row
row_of ws = record { code = get_or ws 0 0; sort = get_or ws 1 0; a = get_or ws 2 0; b = get_or ws 3 0; c = get_or ws 4 0; name = get_or ws 5 0 }

-- word w of row k, each from 0, in words that start with section 1
abbrev pub word_of : List ℕ → ℕ → ℕ → ℕ
word_of ws k w = get_or ws (1 + row_width * k + w) 0

-- so many rows, one after the other
unfoldable pub rows_of : ℕ → List ℕ → List Row
rows_of zero ws = []
rows_of (suc n) ws = row_of ws ∷ rows_of n (drop row_width ws)

-- sections 1 to 6, and the words after them
unfoldable pub cut_six : Limits → List ℕ → Out (Sections × List ℕ)
cut_six limits ws = do
  nodes ← cut_section 1 limits.nodes row_width ws
  sequentials ← cut_section 2 limits.entries 1 nodes.rest
  initial ← cut_section 3 limits.entries 1 sequentials.rest
  later ← cut_section 4 limits.entries 1 initial.rest
  inputs ← cut_section 5 limits.inputs 1 later.rest
  replies ← cut_section 6 limits.replies 1 inputs.rest
  done (record { rows = rows_of nodes.count nodes.content; sequentials = sequentials.content; initial = initial.content; later = later.content; inputs = inputs.content; replies = replies.content }, replies.rest)

-- 1: "something is left over after the last (section 6 for words, 7 for names)", position 0
abbrev pub none_left : {A : Type 0} → ℕ → A → List ℕ → Out A
none_left section x [] = done x
none_left section x (w ∷ ws) = refuse 1 section 0

-- sections 1 to 6 and nothing after them, as a call has them
unfoldable pub cut : Limits → List ℕ → Out Sections
cut limits ws = do
  (sections, rest) ← cut_six limits ws
  none_left 6 sections rest

-- ---- the words of sections
-- "kind, sort, a, b, c, name"
abbrev pub row_words : Row → List ℕ
row_words r = r.code ∷ r.sort ∷ r.a ∷ r.b ∷ r.c ∷ r.name ∷ []

-- the words of rows, one after the other
unfoldable pub rows_words : List Row → List ℕ
rows_words [] = []
rows_words (r ∷ rs) = row_words r ++ rows_words rs

-- each section after its count, in the fixed order
unfoldable pub encode : Sections → List ℕ
encode s =
    (length s.rows ∷ rows_words s.rows)
    ++ (listed s.sequentials ++ (listed s.initial ++ (listed s.later ++ (listed s.inputs ++ listed s.replies))))

-- every count is at most its limit
pub record Within (limits : Limits) (s : Sections) : Type 0 where
  pub nodes : length s.rows ≤ limits.nodes
  pub sequentials : length s.sequentials ≤ limits.entries
  pub initial : length s.initial ≤ limits.entries
  pub later : length s.later ≤ limits.entries
  pub inputs : length s.inputs ≤ limits.inputs
  pub replies : length s.replies ≤ limits.replies
