-- The parts of an exec byte by its bits alone, of a reserved byte too: those of before the table of document 02's request 4, which gives a reserved
-- byte none.
use Rattle.std.specs.Prelude.{ℕ, ◌-◌, ◌*◌, ◌^◌, leb}
use Rattle.bits.specs.Bits.{bit_field}
use Rattle.exec_byte.specs.Exec.{exec_reserved, mask_control, mask_number}
use Rattle.exec_byte.specs.declared.Exec.{Exec}

unfoldable pub exec_by_bits : ℕ → Exec
exec_by_bits exec =
    record {
      reserved = exec_reserved exec;
      size = 2 ^ bit_field exec 0 2;
      offset = 4 * (mask_number exec - 1);
      unmasked = leb 8 (mask_control exec);
    }
