-- The same text read byte by byte, by a state that is handed on: what a streaming reader keeps (proofs/Reader: it reads what Text says).
--     Reader, fresh      the numbers read so far, or the first refusal, and the token that is being read
--     step, feed         one byte more, and a chunk of bytes more
--     read_out            what was read, at the end of the bytes
-- Assumes nothing.
use Rattle.std.specs.Prelude.{ℕ, ◌+◌, ◌-◌, ◌*◌, ◌^◌, true, false, List, [], ◌∷◌, ◌++◌, length, ltb}
use Rattle.std.proofs.Math.Option.{Option, none, some}
use Rattle.rules.specs.Refusal.{Out, done, ◌>>=◌}
use Rattle.rules.specs.Text.{separates, is_digit, judge_token, with_mode}

-- between two tokens, in a number below 2^64 so far, or in a token that is none
pub data Token : Type 0 where
  between : Token
  within : ℕ → Token
  junk : Token

-- what is handed on from byte to byte
pub record Reader : Type 0 where
  pub read : Out (List ℕ)
  pub token : Token

-- before the first byte
abbrev pub fresh : Reader
fresh = record { read = done []; token = between }

-- a byte after the digits of x
unfoldable pub digit_after : ℕ → ℕ → Token
digit_after x b =
    elim (is_digit b) [
      | true ↦ elim (ltb (x * 10 + (b - 48)) (2 ^ 64)) [ true ↦ within (x * 10 + (b - 48)) | false ↦ junk ]
      | false ↦ junk
    ]

-- a byte that separates nothing
abbrev pub grown : Token → ℕ → Token
grown between b = digit_after 0 b
grown (within x) b = digit_after x b
grown junk b = junk

-- the token at the next place is judged and put behind the numbers
abbrev pub put : Option ℕ → List ℕ → Out (List ℕ)
put x xs = judge_token (length xs) x >>= λ y. done (xs ++ (y ∷ []))

-- a token that ends
abbrev pub closed : Token → Out (List ℕ) → Out (List ℕ)
closed between read = read
closed (within x) read = read >>= put (some x)
closed junk read = read >>= put none

-- one byte more
unfoldable pub step : Reader → ℕ → Reader
step r b =
    elim (separates b) [
      | true ↦ record { read = closed r.token r.read; token = between }
      | false ↦ record { read = r.read; token = grown r.token b }
    ]

-- a chunk of bytes more
unfoldable pub feed : Reader → List ℕ → Reader
feed r [] = r
feed r (b ∷ bs) = feed (step r b) bs

-- at the end of the bytes: the mode and the numbers after it, or the first refusal
abbrev pub read_out : Reader → Out (ℕ × List ℕ)
read_out r = closed r.token r.read >>= with_mode
