-- The exec byte: decoder, encoder and channels go by this definition. Document 01, "Bytes of an instruction": "Exec byte: bits 0-2 sizes 1, 2,
-- 4, 8, 16, 32 (codes 6, 7 reserved ..); bits 4-7 M1..M8, then M1_NM..M8_NM. Mk and Mk_NM have offset 4(k-1)." Decoding refuses a reserved byte;
-- here it has size 0, offset 0 and no NM, so that it switches no lane on.
use Rattle.std.specs.Prelude.{ℕ, ◌+◌, ◌-◌, ◌*◌, ◌%◌, ◌^◌, Bool, cond, not, ◌&&◌, ◌||◌, leb}
use Rattle.bits.specs.Bits.{bit, bit_field}
use Rattle.exec_byte.specs.declared.Exec.{Exec}

-- "codes 6, 7 reserved", and bit 3 is not named: "Bits not named are zero"
unfoldable pub exec_reserved : ℕ → Bool
exec_reserved exec = bit exec 3 || leb 6 (bit_field exec 0 2)

-- "bits 0-2 sizes 1, 2, 4, 8, 16, 32"
unfoldable pub exec_size : ℕ → ℕ
exec_size exec = cond (exec_reserved exec) 0 (2 ^ bit_field exec 0 2)

-- "bits 4-7 M1..M8, then M1_NM..M8_NM", counted from 0
unfoldable pub mask_control : ℕ → ℕ
mask_control exec = bit_field exec 4 7

-- k of Mk and Mk_NM
unfoldable pub mask_number : ℕ → ℕ
mask_number exec = mask_control exec % 8 + 1

-- "Mk and Mk_NM have offset 4(k-1)"
unfoldable pub exec_offset : ℕ → ℕ
exec_offset exec = cond (exec_reserved exec) 0 (4 * (mask_number exec - 1))

-- one of M1_NM..M8_NM is chosen
unfoldable pub no_mask : ℕ → Bool
no_mask exec = not (exec_reserved exec) && leb 8 (mask_control exec)

abbrev pub exec_of : ℕ → Exec
exec_of exec = record { reserved = exec_reserved exec; size = exec_size exec; offset = exec_offset exec; unmasked = no_mask exec }
