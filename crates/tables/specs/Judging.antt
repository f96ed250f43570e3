-- What the answers of nodes.rt, lists.rt and judge.rt say in the rules' terms.
--     rows_in, table_in   the rows and the nodes that cut words hold        judged_of   a judgement
--     states_of, Marks   the states that are listed, and marks of them
--     sequentials_in, table_judged, judged_count   what the rules say of a list, of a table and of a call
-- Assumes nothing.
use Rattle.std.specs.Prelude.{ℕ, ◌+◌, ◌^◌, ◌<◌, ◌≡◌, Bool, false, List, [], ◌∷◌, map, fold, length, get_or, Result, Ok, Err}
use Rattle.std.proofs.Math.Option.{Option, none, some}
use Rattle.rules.specs.Refusal.{Refusal, Out, refused, done, ◌>>=◌, unless_refused}
use Rattle.rules.specs.Lists.{member}
use Rattle.rules.specs.Model.{Model, model_of}
use Rattle.rules.specs.Table.{Row, Node, decode, node_at}
use Rattle.rules.specs.Check.{check_sequentials, check}
use Rattle.rules.specs.Limits.{Limits, need}
use Rattle.rules.specs.Sections as rules
use Rattle.rules.specs.Sections.{cut}
use Rattle.rules.specs.Call.{Call, model_from, judged}
use Rattle.tables.specs.Refusals.{refusal_of}
use Rattle.tables.specs.SectionAnswers.{words_in, sections_in, Inside}
use Rattle.tables.specs.declared.sections.Sections.{Sections}
use Rattle.tables.specs.declared.refusal.Refusal as why
use Rattle.tables.specs.declared.judge.Accepted.{Accepted}
use Rattle.tables.specs.declared.table.Table.{Table}

abbrev pub rows_in : List ℕ → Sections → List Row
rows_in ws s = (sections_in ws s).rows

abbrev pub table_in : List ℕ → Sections → List Node
table_in ws s = map decode (rows_in ws s)

-- the same of a table of table.rt
abbrev pub rows_of : Table → List Row
rows_of t = rows_in t.words.now t.sections

abbrev pub nodes_of : Table → List Node
nodes_of t = table_in t.words.now t.sections

-- words that were cut into these sections
pub record IsCut (limits : Limits) (ws : List ℕ) (s : Sections) : Type 0 where
  pub whole : cut limits ws ≡ done (sections_in ws s)
  pub inside : Inside ws s

abbrev pub judged_of : Result (Unit {0}) why.Refusal → Option Refusal
judged_of (Ok _) = none
judged_of (Err r) = some (refusal_of r)

-- ---- the lists
-- the states of some sequentials, the last first
unfoldable pub states_of : List Node → List ℕ → List ℕ
states_of t ss = fold (λ states entry. (node_at t entry).a ∷ states) [] ss

-- marks tell which states are listed, as far as they reach
abbrev pub Marks : List ℕ → List Bool → Type 0
Marks states marks = (x : ℕ) → x < length marks → get_or marks x false ≡ member x states

-- what rules 6 and 7 say of section 2
abbrev pub sequentials_in : List ℕ → Sections → Option Refusal
sequentials_in ws s = check_sequentials (table_in ws s) 0 [] (words_in ws 1 s.sequentials)

-- ---- a call
-- the refusal of an outcome, if it is one
abbrev pub refusal_in : {A : Type 0} → Out A → Option Refusal
refusal_in (refused r) = some r
refusal_in (done x) = none

-- the room of a table by its counts, each of which has 32 bits
abbrev pub Counted : Sections → Type 0
Counted s =
    (s.nodes.count < 2 ^ 32) × (s.sequentials.count < 2 ^ 32) × (s.initial.count < 2 ^ 32) × (s.later.count < 2 ^ 32) × (s.inputs.count < 2 ^ 32)

abbrev pub room_of : Sections → ℕ
room_of s = need s.nodes.count s.sequentials.count (s.initial.count + s.later.count) s.inputs.count

-- a table alone: its sections, unless cutting them is refused, or a node or an entry
abbrev pub table_judged : Limits → ℕ → List ℕ → Out rules.Sections
table_judged limits names ws = cut limits ws >>= λ s. unless_refused (check names s.rows (model_from [] s)) (done s)

-- the model in cut words, without names: refusals 3 to 7 read none
abbrev pub model_in : List ℕ → Sections → Model
model_in ws s =
    let r = sections_in ws s in
    model_of r.rows (λ k. false) r.sequentials r.initial r.later r.inputs r.replies

abbrev pub call_with : ℕ → List ℕ → List ℕ → ℕ → ℕ → Call
call_with mode words names result_room scratch_room =
    record { mode = mode; words = words; names = names; result_room = result_room; scratch_room = scratch_room }

-- what judging a call leaves: its sections, and how many names there are
abbrev pub judged_count : Limits → ℕ → List ℕ → List ℕ → ℕ → ℕ → Out (rules.Sections × ℕ)
judged_count limits mode words names result_room scratch_room =
    judged limits (call_with mode words names result_room scratch_room) >>= λ j. done (j.sections, length j.names)

abbrev pub verdict_of : List ℕ → Result Accepted why.Refusal → Out (rules.Sections × ℕ)
verdict_of ws (Ok a) = done (sections_in ws a.sections, a.names)
verdict_of ws (Err r) = refused (refusal_of r)
