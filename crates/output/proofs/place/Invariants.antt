use Rattle.std.proofs.Common.{◌≡◌, ◌+◌, ◌*◌, drop}
use Rattle.hex_text.specs.Bytes.{hex_of}
use Rattle.hex_text.specs.Storing.{placed}
use Rattle.output.proofs.place.Given as goal

-- placing what is left of the digits comes to what placing all of them comes to
abbrev pub invariant-loop-i : goal.invariant-loop-i
invariant-loop-i l = placed l.out (l.at + 2 * l.i) (hex_of (drop l.i l.bytes)) ≡ placed l.fn.out l.at (hex_of l.bytes)
