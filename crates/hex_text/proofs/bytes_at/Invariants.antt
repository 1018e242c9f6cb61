use Rattle.std.proofs.Common.{◌≡◌, ◌+◌, ◌<◌, length, get_or, ℕ}
use Rattle.hex_text.specs.Bytes.{hex_bytes}
use Rattle.hex_text.proofs.bytes_at.Given as goal

abbrev pub invariant-loop-k : goal.invariant-loop-k
invariant-loop-k g l = record {
  size : length l.bytes ≡ g.row.N;
  read : (j : ℕ) → j < l.k → get_or l.bytes j 0 ≡ get_or (hex_bytes l.line) (l.at + j) 0;
}
