-- The buffer has room for all lines.
use Rattle.std.proofs.Common.{sym, length-take-le}
use Rattle.format_writers.proofs.WritingLaws.{wrote-inside}
use Rattle.exec_table.proofs.LineLaws.{table-written}
use Rattle.exec_table.proofs.output_bytes.Goals as goal

pub slice_bounds-result-end : goal.slice_bounds-result-end
slice_bounds-result-end c = sym (length-take-le _ _ (wrote-inside _ _ _ _ _ c.put_table-used.ensures))

pub returns : goal.returns
returns c = (table-written _ _ _ c.requires c.put_table-used.ensures).1
