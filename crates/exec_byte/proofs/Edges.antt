-- Entries of the table of exec bytes, computed.
use mathlib.Core.Path.{◌≡◌, refl}
use Rattle.bits.specs.Bits.{bit, bit_field}
use Rattle.exec_byte.specs.Exec.{exec_reserved, exec_size, mask_control, mask_number, exec_offset, no_mask}
use Rattle.exec_byte.specs.ExecTable.{exec_code}

-- masks M1, M3, M2, M8 with and without NM, sizes from 1 to 32; then size codes 6 and 7, and bit 3
codes-at-edges : (exec_code 0x00 ≡ 1) × (exec_code 0x80 ≡ 4097) × (exec_code 0x94 ≡ 4368) × (exec_code 0x23 ≡ 520) × (exec_code 0x15 ≡ 288) × (exec_code 0x75 ≡ 1824) × (exec_code 0xf4 ≡ 5904)
    × (exec_code 0x06 ≡ 0) × (exec_code 0x08 ≡ 0) × (exec_code 0x0c ≡ 0) × (exec_code 0x8e ≡ 0) × (exec_code 0xff ≡ 0)
unfolding bit bit_field exec_reserved exec_size mask_control mask_number exec_offset no_mask exec_code
codes-at-edges = (refl, refl, refl, refl, refl, refl, refl, refl, refl, refl, refl, refl)
