-- `output::put_content` meets its contract: its parts are written one after the other.
use Rattle.output.proofs.LineLaws.{content-written}
use Rattle.output.proofs.put_content.Goals as goal

pub returns : goal.returns
returns c =
    content-written _ _ _ _ _ _ c.put_byte-first.ensures c.put_bytes-last.ensures c.put.ensures
