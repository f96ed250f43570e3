-- What a caller learns of an answer that is printed: it stands at the buffer's front, byte for byte, and every other byte is as it was.
--     Answered     what the contracts in answer.rt say, of any answer      Chunked     bytes that are fed in parts are answered as one text
-- Assumes nothing.
use Rattle.std.specs.Prelude.{ℕ, ◌≡◌, length, take, drop}
use mathlib.Core.List.{List, [], ◌∷◌, flatten}
use Rattle.rules.specs.Reader.{Reader, fresh, feed, read_out}
use Rattle.rules.specs.Text.{printed, program}
use Rattle.text_answer.specs.Answering.{answer_after}

pub record Answered (answer entry exit : List ℕ) (size : ℕ) : Type 0 where
  pub sized : size ≡ length answer
  pub front : take size exit ≡ answer
  pub rest : drop size exit ≡ drop size entry

-- chunk after chunk
unfoldable pub feed_all : Reader → List (List ℕ) → Reader
feed_all r [] = r
feed_all r (chunk ∷ chunks) = feed_all (feed r chunk) chunks

-- the program feeds its input as it comes, then prints the answer
unfoldable pub Chunked : Type 0
Chunked = (chunks : List (List ℕ)) → printed (answer_after (read_out (feed_all fresh chunks))) ≡ program (flatten chunks)
