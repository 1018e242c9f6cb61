-- Lines of each form, computed.
use mathlib.Core.Path.{◌≡◌, refl}
use mathlib.Core.List.{[], ◌∷◌, ◌++◌}
use Rattle.hex_text.specs.Digits.{character_of}
use Rattle.hex_text.specs.Bytes.{hex_of}
use Rattle.formats.specs.Text.{text}
use Rattle.formats.specs.Numerals.{digits}
use Rattle.bits.specs.Bits.{bit, bit_field}
use Rattle.exec_byte.specs.Exec.{exec_reserved, exec_size, mask_control, mask_number, exec_offset, no_mask}
use Rattle.exec_table.specs.ExecLines.{meaning_text, entry_line}

lines-at-edges :
    (entry_line 0x94 ≡ text "94 16 4 NM" ++ (0x0a ∷ []))
    × (entry_line 0x23 ≡ text "23 8 8" ++ (0x0a ∷ []))
    × (entry_line 0x06 ≡ text "06 reserved" ++ (0x0a ∷ []))
    × (entry_line 0x75 ≡ text "75 32 28" ++ (0x0a ∷ []))
    × (entry_line 0xff ≡ text "ff reserved" ++ (0x0a ∷ []))
unfolding entry_line meaning_text hex_of character_of digits bit bit_field exec_reserved exec_size mask_control mask_number exec_offset no_mask
lines-at-edges = (refl, refl, refl, refl, refl)
