-- The line's parts are written one after the other.
use Rattle.std.proofs.Common.{◌∙◌, arith}
use Rattle.output.proofs.LineLaws.{memory-written}
use Rattle.output.proofs.NumberLaws.{bytes_as, eight_bytes}
use Rattle.output.proofs.put_memory.Goals as goal

pub returns : goal.returns
returns c =
    memory-written _ _ _ _ _ _ _ c.put_byte-first.ensures
    (bytes_as _ _ _ _ (c.to_le_bytes.ensures ∙ eight_bytes c.args.base (omega arith)) c.put_bytes-second.ensures)
    c.put_bytes-last.ensures c.put.ensures
