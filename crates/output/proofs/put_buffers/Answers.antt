-- `output::put_buffers` meets its contract: its parts are written one after the other.
use Rattle.output.proofs.LineLaws.{buffers-written}
use Rattle.output.proofs.put_buffers.Goals as goal

pub returns : goal.returns
returns c =
    buffers-written _ _ _ _ _ _ _ _ _ _ c.put_content-first.ensures c.put_memory-second.ensures c.put_content-third.ensures c.put_content.ensures
