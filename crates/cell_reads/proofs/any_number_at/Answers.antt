-- `cell_reads::any_number_at` meets its contract: at most eight bytes are read, of more the answer is 0.
use Rattle.std.proofs.Common.{sym, ◌∙◌}
use Rattle.cells.proofs.NumberLaws.{element-is, element-over}
use Rattle.cell_reads.proofs.any_number_at.Goals as goal

pub returns-then-size-le8 : goal.returns-then-size-le8
returns-then-size-le8 c = c.small_number_at.ensures ∙ sym (element-is _ _ _ c.if-size-le8.true)

pub returns-else-size-le8 : goal.returns-else-size-le8
returns-else-size-le8 c = sym (element-over _ _ _ c.if-size-le8.false)
