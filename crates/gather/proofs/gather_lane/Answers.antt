-- `gather::gather_lane` meets its contract: at most 4 bytes of the dword are read.
use Rattle.std.proofs.Common.{arith}
use Rattle.gather.proofs.CountLaws.{count_small}
use Rattle.gather.proofs.gather_lane.Goals as goal

pub write_dword-requires : goal.write_dword-requires
write_dword-requires c =
    let a = c.args in
    omega (arith, c.bytes_read-count.ensures, count_small a.shape c.address_of-address.result)
