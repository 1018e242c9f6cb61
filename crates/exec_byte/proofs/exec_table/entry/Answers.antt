-- `exec_byte::exec_table::entry` meets its contract: the whole table is tested, and the test computed.
use Rattle.std.proofs.Common.{refl, arith}
use Rattle.bits.specs.Bits.{bit, bit_field}
use Rattle.bits.specs.Below.{every_below}
use Rattle.exec_byte.specs.Exec.{exec_reserved, exec_size, mask_control, mask_number, exec_offset, no_mask}
use Rattle.exec_byte.specs.ExecTable.{exec_code}
use Rattle.exec_byte.proofs.ExecTable.{entry-told}
use Rattle.exec_byte.proofs.exec_table.entry.Goals as goal

pub returns : goal.returns
unfolding every_below bit bit_field exec_reserved exec_size mask_control mask_number exec_offset no_mask exec_code
returns c = entry-told _ _ _ c.looked_up.ensures refl (omega arith)
