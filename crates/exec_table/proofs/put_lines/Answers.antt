-- One line more, the last one too.
use Rattle.std.proofs.Common.{◌≡◌, ◌+◌, refl, arith, ap, sym}
use Rattle.format_writers.proofs.PageLaws.{writes_as}
use Rattle.exec_table.specs.ExecLines.{lines_below}
use Rattle.exec_table.proofs.LineLaws.{no_lines, one_more_line}
use Rattle.exec_table.proofs.put_lines.Goals as goal

pub loop-byte-init : goal.loop-byte-init
loop-byte-init c = record { out = refl; content = rw c.requires (no_lines _) }

pub loop-byte-preserved : goal.loop-byte-preserved
loop-byte-preserved c = one_more_line c.loop-byte.byte c.loop-byte.invariant c.put_entry.ensures

pub returns-2 : goal.returns-2
returns-2 c =
    let last : c.loop-byte.byte + 1 ≡ 256 = omega arith in
    writes_as (one_more_line c.loop-byte.byte c.loop-byte.invariant c.put_entry.ensures) (ap lines_below (sym last))
