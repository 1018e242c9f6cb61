-- The words in which results are told: a place of a buffer that keeps its byte and its mark, or has these.
use Rattle.std.specs.Prelude.{ℕ, ◌+◌, ◌≤◌, ◌<◌, ◌≡◌, ◌⊎◌, get_or}
use Rattle.cells.specs.Buffer.{Buffer}

pub record Kept (b c : Buffer) (j : ℕ) : Type 0 where
  pub byte : get_or c.bytes j 0 ≡ get_or b.bytes j 0
  pub mark : get_or c.taint j 0 ≡ get_or b.taint j 0

-- a place has this byte and this mark
pub record Holds (b : Buffer) (j value taint : ℕ) : Type 0 where
  pub byte : get_or b.bytes j 0 ≡ value
  pub mark : get_or b.taint j 0 ≡ taint

-- a place before or past the n places from a position on
abbrev pub Outside : ℕ → ℕ → ℕ → Type 0
Outside at n j = (j < at) ⊎ (at + n ≤ j)
