-- Which element types an operand may have. Document 01, "Which channels, which results", names them for each instruction; a type that is
-- not listed is allowed nowhere.
use Rattle.std.specs.Prelude.{ℕ, Bool, ◌||◌, eqb}
use Rattle.element_types.specs.Types.{UD, D, UW, W, UB, B, F, UQ, is_listed}
use Rattle.operands.specs.declared.TypeRule.{TypeRule}
use Rattle.operands.specs.declared.TypeRule.TheVariants as rule

-- "SHL: integer types of at most 4 bytes, freely mixed"
unfoldable pub shift_type : ℕ → Bool
shift_type code = eqb code UD || eqb code D || eqb code UW || eqb code W || eqb code UB || eqb code B

-- "Dst is UD, D or F", "Src is UD, D or F"
unfoldable pub dword_type : ℕ → Bool
dword_type code = eqb code UD || eqb code D || eqb code F

-- "Offset and Element_offset are UD", and so is a descriptor; "Address and Element_offset are UQ"; RAW_SEND's Src and Dst may have any type
unfoldable pub type_allowed : TypeRule → ℕ → Bool
type_allowed rule.Shift code = shift_type code
type_allowed rule.Offset code = eqb code UD
type_allowed rule.Dword code = dword_type code
type_allowed rule.Address code = eqb code UQ
type_allowed rule.Any code = is_listed code
