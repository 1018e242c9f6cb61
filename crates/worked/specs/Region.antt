-- How far a region of UW elements reaches from byte 0 on.
use Rattle.std.specs.Prelude.{ℕ, ◌+◌, ◌*◌, ◌-◌, ◌/◌}
use Rattle.operand_fields.specs.declared.General.{General}
use Rattle.region_rules.specs.declared.Role.TheVariants as role
use Rattle.regions.specs.Regions.{element_of}
use Rattle.regions.specs.Reach.{lowest, highest}

-- <V;W,H> by codes, from row and column 0
abbrev pub word_region : ℕ → ℕ → ℕ → General
word_region vertical width horizontal = record { index = 0; row = 0; column = 0; region = vertical + 16 * width + 256 * horizontal }

-- by registers of this size, over so many lanes: the last byte of the highest element, and how many registers lie from the lowest byte to it
unfoldable pub last_byte : ℕ → General → ℕ → ℕ
last_byte register_size g lanes = highest (element_of register_size role.Source g 2) lanes * 2 + 2 - 1

unfoldable pub registers_touched : ℕ → General → ℕ → ℕ
registers_touched register_size g lanes = last_byte register_size g lanes / register_size - lowest (element_of register_size role.Source g 2) lanes * 2 / register_size + 1
