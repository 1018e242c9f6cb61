-- The format of a General operand's region, by the role that the code is given.
use Rattle.std.specs.Prelude.{ℕ}
use Rattle.formats.specs.Format.{Format}
use Rattle.operand_texts.specs.Mirror.Region.{source_region, destination_region}
use Rattle.operand_texts.specs.declared.Role.{Role}
use Rattle.operand_texts.specs.declared.Role.TheVariants as role

abbrev pub region_of : Role → Format ℕ
region_of role.Source = source_region
region_of role.Destination = destination_region
