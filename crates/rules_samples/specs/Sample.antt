-- A sample: a call and what the published Rust answered to it but for the departures (oracle/README.md), and whether the rules agree.
--     Sample    mode, words, names bytes and the answer       agrees    the rules give that answer, word for word
-- Assumes nothing.
use Rattle.std.specs.Prelude.{ℕ, Bool, true, false, ◌&&◌, List, [], ◌∷◌, eqb}
use Rattle.rules.specs.Refusal.{Out, refused, done}
use Rattle.rules.specs.Limits.{house}
use Rattle.rules.specs.Call.{Call, Accepted, impl, outcome, words_of}

pub record Sample : Type 0 where
  pub mode : ℕ
  pub words : List ℕ
  pub names : List ℕ
  pub answer : List ℕ

abbrev pub sample : ℕ → List ℕ → List ℕ → List ℕ → Sample
sample mode words names answer = record { mode = mode; words = words; names = names; answer = answer }

-- more room than any sample needs
abbrev pub call_of : Sample → Call
call_of s = record { mode = s.mode; words = s.words; names = s.names; result_room = 4096; scratch_room = 4096 }

-- 0 and the result's words, or the refusal's number, section and position
abbrev pub numbers_of : Out Accepted → List ℕ
numbers_of (refused r) = r.reason ∷ r.section ∷ r.position ∷ []
numbers_of (done a) = 0 ∷ words_of a

unfoldable pub same : List ℕ → List ℕ → Bool
same [] [] = true
same [] (y ∷ ys) = false
same (x ∷ xs) [] = false
same (x ∷ xs) (y ∷ ys) = eqb x y && same xs ys

abbrev pub agrees : Sample → Bool
agrees s = same (numbers_of (outcome house impl (call_of s))) s.answer

unfoldable pub all_agree : List Sample → Bool
all_agree [] = true
all_agree (s ∷ ss) = agrees s && all_agree ss
