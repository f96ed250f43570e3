-- The result does not show which bads a question of kind 5 is about, and the buffers do not hold them.
-- So a fold and the same fold without them are handed back alike: each question gives the same four words.
--     bare-same    a fold without the bads of its questions has the same result
-- Assumes nothing.
use mathlib.Core.Path.{◌≡◌, refl, ap}
use mathlib.Core.List.{List, [], ◌∷◌, map}
use lib.ListN.{length-map}
use Rattle.rules.specs.Model.{Model}
use Rattle.rules.specs.Walk.{Question}
use Rattle.rules.specs.Whole.{Folded}
use Rattle.rules.specs.Result.{question_words, result_words}
use Rattle.optimize.specs.LastQuestion.{unnamed, bare_folded}

bare-words : (qs : List Question) → question_words (map unnamed qs) ≡ question_words qs
unfolding question_words
bare-words [] = refl
bare-words (q ∷ qs) = ap (λ l. q.kind ∷ q.first ∷ q.second ∷ q.reply ∷ l) (bare-words qs)

pub bare-same : (m : Model) (f : Folded) → result_words m (bare_folded f) ≡ result_words m f
unfolding result_words
bare-same m f = rw (length-map f.state.asked unnamed, bare-words f.state.asked)
