-- The bytes so far are written.
use Rattle.std.proofs.Common.{take}
use Rattle.hex_text.specs.Bytes.{hex_of}
use Rattle.format_writers.specs.Pages.{Writes}
use Rattle.assembler.proofs.write_bytes.Given as goal

abbrev pub invariant-loop-byte : goal.invariant-loop-byte
invariant-loop-byte l = Writes l.fn.page l.page (hex_of (take l.byte-index l.bytes))
