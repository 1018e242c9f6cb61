-- An operand's element in a lane: the number that it is, and whether one of its bytes is tainted.
use Rattle.std.specs.Prelude.{ℕ, ◌%◌, ◌^◌, Bool, false, cond, ◌||◌, List, get_or}
use Rattle.little_endian.specs.LittleEndian.{number_at}
use Rattle.cells.specs.Buffer.{any_tainted}
use Rattle.operands.specs.declared.Elements.{Elements}

-- of an immediate "the lowest bytes that the type needs are used"
unfoldable pub element_value : List ℕ → Elements → ℕ → ℕ
element_value bytes e lane = cond e.immediate (e.value % 256 ^ e.size) (number_at e.size bytes (get_or e.at lane 0))

-- "Immediates are unmarked."
unfoldable pub element_tainted : List ℕ → Elements → ℕ → Bool
element_tainted taint e lane = cond e.immediate false (any_tainted taint (get_or e.at lane 0) e.size)

-- "any byte of either source element"
unfoldable pub either_tainted : List ℕ → Elements → Elements → ℕ → Bool
either_tainted taint a b lane = element_tainted taint a lane || element_tainted taint b lane
