-- What is worked out once for an operand in registers: its first element and its strides. `proofs/GridLaws.antt` shows that a grid's
-- elements are those of `Regions`.
use Rattle.std.specs.Prelude.{ℕ, ◌+◌, ◌*◌, ◌/◌, ◌%◌}
use Rattle.operand_fields.specs.declared.General.{General}
use Rattle.region_rules.specs.declared.Role.{Role}
use Rattle.region_rules.specs.declared.Role.TheVariants as role
use Rattle.regions.specs.declared.Grid.{Grid}
use Rattle.region_rules.specs.RegionWord.{vertical_code, width_code, horizontal_code, stride_of}
use Rattle.regions.specs.Regions.{first_element}

-- lane k in rows of width
unfoldable pub grid_element : Grid → ℕ → ℕ
grid_element g k = g.first + k / g.width * g.vertical + k % g.width * g.horizontal

-- A scalar's region, <0;1,0>, has one lane a row and no stride. A destination <H> is <H;1,0>.
unfoldable pub grid_of : ℕ → Role → General → ℕ → Grid
grid_of register_size role.Source g size =
    record {
      first = first_element register_size g size;
      vertical = stride_of (vertical_code g.region);
      width = stride_of (width_code g.region);
      horizontal = stride_of (horizontal_code g.region);
    }
grid_of register_size role.Scalar g size = record { first = first_element register_size g size; vertical = 0; width = 1; horizontal = 0 }
grid_of register_size role.Destination g size =
    record { first = first_element register_size g size; vertical = stride_of (horizontal_code g.region); width = 1; horizontal = 0 }
