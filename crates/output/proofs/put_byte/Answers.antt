-- `output::put_byte` meets its contract: its parts are written one after the other.
use Rattle.output.proofs.NumberLaws.{byte-written}
use Rattle.output.proofs.put_byte.Goals as goal

pub returns : goal.returns
returns c =
    byte-written _ _ _ _ _ _ c.character.ensures c.character-2.ensures c.put-middle.ensures c.put.ensures
