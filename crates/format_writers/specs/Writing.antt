-- A text written into a lent buffer: what stands in the buffer then, and the place past the text. What would stand past the buffer's end is lost.
use Rattle.std.specs.Prelude.{ℕ, ◌+◌, List, cond, ltb, length}
use Rattle.hex_text.specs.Storing.{placed}

-- a place in a buffer of that length, its end at most
unfoldable pub within : ℕ → ℕ → ℕ
within room at = cond (ltb at room) at room

pub record Written : Type 0 where
  pub end : ℕ
  pub buffer : List ℕ

abbrev pub wrote : ℕ → List ℕ → Written
wrote end buffer = record { end = end; buffer = buffer }

unfoldable pub written : List ℕ → ℕ → List ℕ → Written
written buffer at t = record { end = within (length buffer) (at + length t); buffer = placed buffer at t }
