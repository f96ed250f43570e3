-- What the answers of sections.rt say of the words, in the rules' terms.
--     found_of    a section: its content and the words after it       six_of, cut_of    the six sections
--     Inside     where the sections stand
-- Assumes nothing.
use Rattle.std.specs.Prelude.{ℕ, ◌+◌, ◌*◌, ◌^◌, ◌<◌, ◌≤◌, ◌≡◌, List, length, take, drop, Result, Ok, Err}
use Rattle.rules.specs.Refusal.{Out, refused, done}
use Rattle.rules.specs.Table.{row_width}
use Rattle.rules.specs.Sections as rules
use Rattle.rules.specs.Sections.{rows_of}
use Rattle.tables.specs.Refusals.{refusal_of}
use Rattle.tables.specs.declared.sections.Part.{Part}
use Rattle.tables.specs.declared.sections.Sections.{Sections}
use Rattle.tables.specs.declared.refusal.Refusal.{Refusal}

-- the words of a section
abbrev pub words_in : List ℕ → ℕ → Part → List ℕ
words_in ws width p = take (width * p.count) (drop p.start ws)

abbrev pub found_of : List ℕ → ℕ → Result Part Refusal → Out rules.Part
found_of ws width (Ok p) = done (record { count = p.count; content = words_in ws width p; rest = drop p.end ws })
found_of ws width (Err r) = refused (refusal_of r)

abbrev pub sections_in : List ℕ → Sections → rules.Sections
sections_in ws s =
    record {
      rows = rows_of s.nodes.count (words_in ws row_width s.nodes);
      sequentials = words_in ws 1 s.sequentials;
      initial = words_in ws 1 s.initial;
      later = words_in ws 1 s.later;
      inputs = words_in ws 1 s.inputs;
      replies = words_in ws 1 s.replies;
    }

abbrev pub cut_of : List ℕ → Result Sections Refusal → Out rules.Sections
cut_of ws (Ok s) = done (sections_in ws s)
cut_of ws (Err r) = refused (refusal_of r)

-- the six sections, and the words after them
abbrev pub six_of : List ℕ → Result Sections Refusal → Out (rules.Sections × List ℕ)
six_of ws (Ok s) = done (sections_in ws s, drop s.replies.end ws)
six_of ws (Err r) = refused (refusal_of r)

-- where a section stands whose count is at a place: its words follow the count, and end in the words; a limit, and so a count, has 32 bits
pub record Lies (ws : List ℕ) (at width : ℕ) (p : Part) : Type 0 where
  pub starts : p.start ≡ at + 1
  pub ends : p.end ≡ p.start + width * p.count
  pub within : p.end ≤ length ws
  pub few : p.count < 2 ^ 32

pub record Inside (ws : List ℕ) (s : Sections) : Type 0 where
  pub nodes : Lies ws 0 row_width s.nodes
  pub sequentials : Lies ws s.nodes.end 1 s.sequentials
  pub initial : Lies ws s.sequentials.end 1 s.initial
  pub later : Lies ws s.initial.end 1 s.later
  pub inputs : Lies ws s.later.end 1 s.inputs
  pub replies : Lies ws s.inputs.end 1 s.replies
