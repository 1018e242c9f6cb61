-- A text that a function writes to a buffer's start: what does not fit is lost, and a buffer of 32,813 bytes has room for all of it.
use Rattle.std.specs.Prelude.{◌≡◌, List, ℕ, ◌≤◌, length}
use Rattle.output.specs.Mirror.Page.{page, written}

-- the buffer at entry and at exit, and how much of it is used
pub record Puts (text out after : List ℕ) (used : ℕ) : Type 0 where
  pub same : page after used ≡ written text (page out 0)
  pub small : length text ≤ 32813
