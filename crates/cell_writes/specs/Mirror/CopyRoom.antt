-- Whether a copy lies in both buffers, bytes and taint: then no byte of it has to be tested.
use Rattle.std.specs.Prelude.{ℕ, ◌+◌, ◌≤◌, Bool, ◌&&◌, leb, length}
use Rattle.cells.specs.Buffer.{Buffer}

unfoldable pub copy_room : Buffer → ℕ → Buffer → ℕ → ℕ → Bool
copy_room b from c to n =
    (leb (from + n) (length b.bytes) && leb (from + n) (length b.taint))
    && (leb (to + n) (length c.bytes) && leb (to + n) (length c.taint))

pub record CopyRoom (b : Buffer) (from : ℕ) (c : Buffer) (to n : ℕ) : Type 0 where
  pub from_bytes : from + n ≤ length b.bytes
  pub from-taint : from + n ≤ length b.taint
  pub to-bytes : to + n ≤ length c.bytes
  pub to-taint : to + n ≤ length c.taint
