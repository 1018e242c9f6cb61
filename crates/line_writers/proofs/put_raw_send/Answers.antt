-- Its parts are written one after another.
use Rattle.format_writers.proofs.PageLaws.{writes_four}
use Rattle.line_writers.proofs.TextLaws.{raw-send-text}
use Rattle.line_writers.proofs.put_raw_send.Goals as goal

pub returns : goal.returns
returns c =
    writes_four c.word.ensures c.put_exec.ensures c.put_message.ensures c.put_scalar_and_raws.ensures
    (rw c.from.ensures (raw-send-text _ c.args.x))
