-- The opening, and the body behind it.
use Rattle.format_writers.proofs.PageLaws.{writes_two}
use Rattle.line_writers.proofs.TextLaws.{shl-line, gather-line, scatter-line, raw-send-line}
use Rattle.line_writers.proofs.put_line.Goals as goal

pub returns-in-Shl : goal.returns-in-Shl
returns-in-Shl c = writes_two c.put_opening.ensures c.put_shl.ensures (shl-line _ _ c.in-Shl.is)

pub returns-in-Gather : goal.returns-in-Gather
returns-in-Gather c = writes_two c.put_opening-in-Gather.ensures c.put_gather.ensures (gather-line _ _ c.in-Gather.is)

pub returns-in-Scatter : goal.returns-in-Scatter
returns-in-Scatter c = writes_two c.put_opening-in-Scatter.ensures c.put_scatter.ensures (scatter-line _ _ c.in-Scatter.is)

pub returns-in-RawSend : goal.returns-in-RawSend
returns-in-RawSend c = writes_two c.put_opening-in-RawSend.ensures c.put_raw_send.ensures (raw-send-line _ _ c.in-RawSend.is)
