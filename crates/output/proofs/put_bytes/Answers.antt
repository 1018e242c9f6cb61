-- There is room for all the digits.
use Rattle.output.proofs.PlaceLaws.{bytes_placed}
use Rattle.output.proofs.put_bytes.Goals as goal

pub returns : goal.returns
returns c = bytes_placed _ _ _ _ c.if-at-out.false c.if-bytes-out.false c.place.ensures
