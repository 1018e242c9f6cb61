-- The line's parts are written one after the other.
use Rattle.std.proofs.Common.{◌∙◌, arith}
use Rattle.output.proofs.LineLaws.{answer-written}
use Rattle.output.proofs.NumberLaws.{bytes_as, two_bytes, four_bytes}
use Rattle.output.proofs.put_answer.Goals as goal

pub returns : goal.returns
returns c =
    answer-written _ _ _ _ _ _ _ _ c.put_bytes-first.ensures
    (bytes_as _ _ _ _ (c.to_le_bytes.ensures ∙ two_bytes c.args.completed (omega arith)) c.put_bytes-second.ensures)
    (bytes_as _ _ _ _ (c.to_le_bytes-2.ensures ∙ four_bytes c.args.position (omega arith)) c.put_bytes-last.ensures)
    c.put.ensures
