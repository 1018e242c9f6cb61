-- Where the elements of an accepted operand are, and what stands for a refused one.
use Rattle.std.specs.Prelude.{ℕ, ◌%◌, ◌^◌, true, false, replicate, Result, Ok, Err}
use Rattle.element_types.specs.Types.{size_of, is_signed}
use Rattle.regions.specs.Positions.{lane_positions}
use Rattle.refusal.specs.declared.OperandRefusal.{OperandRefusal}
use Rattle.refusal.specs.Numbers.{operand_number}
use Rattle.operands.specs.declared.Elements.{Elements}
use Rattle.operands.specs.Located.{Located}

-- elements of this type in the register file, each at its byte
unfoldable pub register_elements : ℕ → (ℕ → ℕ) → Located
register_elements code byte =
    record {
      number = 0;
      elements = record { size = size_of code; signed = is_signed code; immediate = false; value = 0; at = lane_positions byte };
    }

-- "the lowest bytes that the type needs are used"
unfoldable pub low_bytes : ℕ → ℕ → ℕ
low_bytes value size = value % 256 ^ size

unfoldable pub immediate_element : ℕ → ℕ → Located
immediate_element code value =
    record {
      number = 0;
      elements = record { size = size_of code; signed = is_signed code; immediate = true; value = low_bytes value (size_of code); at = replicate 32 0 };
    }

-- a refusal's number, and no elements
unfoldable pub refused_operand : ℕ → Located
refused_operand n =
    record {
      number = n;
      elements = record { size = 0; signed = false; immediate = false; value = 0; at = replicate 32 0 };
    }

-- what the code gives back, as the definitions have it
abbrev pub located_as : Result Elements OperandRefusal → Located
located_as (Ok e) = record { number = 0; elements = e }
located_as (Err r) = refused_operand (operand_number r)
