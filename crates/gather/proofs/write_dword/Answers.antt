-- `gather::write_dword` meets its contract: one number where the address is doubtful, else the bytes read and zeros.
use Rattle.std.proofs.Common.{refl}
use Rattle.gather.proofs.DwordLaws.{doubtful-written, read-written}
use Rattle.gather.proofs.write_dword.Goals as goal

pub returns-then-doubtful : goal.returns-then-doubtful
returns-then-doubtful c =
    doubtful-written _ _ _ _ _ _ _ _ c.set_number.ensures c.if-doubtful.true c.number_at-value.ensures

pub returns-else-doubtful : goal.returns-else-doubtful
returns-else-doubtful c =
    read-written _ _ _ _ _ _ _ _ _ (rw c.from-length.ensures at c.set_number-else-doubtful.ensures) refl (rw c.from-length.ensures at c.copy.ensures) c.if-doubtful.false
