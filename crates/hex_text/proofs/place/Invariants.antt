use Rattle.std.proofs.Common.{◌≡◌, ◌+◌, ◌-◌, drop}
use Rattle.hex_text.specs.Bytes.{hex_bytes}
use Rattle.hex_text.specs.Storing.{placed}
use Rattle.hex_text.proofs.place.Given as goal

-- placing what is left of the bytes comes to what placing all of them comes to
abbrev pub invariant-loop-i : goal.invariant-loop-i
invariant-loop-i l = placed l.buffer (l.at + (l.i - l.from)) (drop l.i (hex_bytes l.line)) ≡ placed l.fn.buffer l.at (drop l.from (hex_bytes l.line))
