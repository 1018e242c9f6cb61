-- Regions: which element of its variable each lane takes. Document 01, "Regions"; document 02, request 5: "Row offsets .. follow the chosen size".
use Rattle.std.specs.Prelude.{ℕ, ◌+◌, ◌*◌, ◌/◌, ◌%◌}
use Rattle.operand_fields.specs.declared.General.{General}
use Rattle.region_rules.specs.declared.Role.{Role}
use Rattle.region_rules.specs.declared.Role.TheVariants as role
use Rattle.region_rules.specs.RegionWord.{vertical_code, width_code, horizontal_code, stride_of}

-- "32/size", 32 or the size chosen: the elements of a row
unfoldable pub row_elements : ℕ → ℕ → ℕ
row_elements register_size size = register_size / size

-- "R·(32/size)+C"
unfoldable pub first_element : ℕ → General → ℕ → ℕ
first_element register_size g size = g.row * row_elements register_size size + g.column

-- "General source element (i, j): R·(32/size)+C+i·V+j·H"
unfoldable pub source_element : ℕ → General → ℕ → ℕ → ℕ → ℕ
source_element register_size g size i j =
    first_element register_size g size + i * stride_of (vertical_code g.region) + j * stride_of (horizontal_code g.region)

-- The element of lane k. A source's lanes stand in "ExecSize/Width rows of Width", a scalar's all have the element of <0;1,0>,
-- a destination's follow one another at the distance H.
unfoldable pub element_of : ℕ → Role → General → ℕ → ℕ → ℕ
element_of register_size role.Source g size k =
    source_element register_size g size (k / stride_of (width_code g.region)) (k % stride_of (width_code g.region))
element_of register_size role.Scalar g size k = first_element register_size g size
element_of register_size role.Destination g size k = first_element register_size g size + k * stride_of (horizontal_code g.region)
