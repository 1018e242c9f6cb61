-- The lines of the bytes so far are written.
use Rattle.format_writers.specs.Pages.{Writes}
use Rattle.exec_table.specs.ExecLines.{lines_below}
use Rattle.exec_table.proofs.put_lines.Given as goal

abbrev pub invariant-loop-byte : goal.invariant-loop-byte
invariant-loop-byte l = Writes l.fn.page l.page (lines_below l.byte)
