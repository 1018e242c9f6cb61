use Rattle.std.proofs.Common.{◌≡◌, take}
use Rattle.hex_text.specs.Bytes.{hex_of}
use Rattle.output.specs.Mirror.Page.{page, written}
use Rattle.output.proofs.put_each.Given as goal

abbrev pub invariant-loop-byte : goal.invariant-loop-byte
invariant-loop-byte l = page l.out l.at ≡ written (hex_of (take l.byte-index l.bytes)) (page l.fn.out l.fn.at)
