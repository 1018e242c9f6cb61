-- The edges of a region's tests, computed.
use mathlib.Core.Path.{◌≡◌}
use mathlib.Core.Bool.{cond, not, ◌&&◌, ◌||◌}
use Prim.Native.Nat.{ℕ, ◌+◌, ◌*◌}
use lib.Dec.{ltb, eqb}
use Rattle.element_types.specs.Types.{UW, size_of}
use Rattle.element_types.proofs.Sizes.{sizes}
use Rattle.operand_fields.specs.declared.General.{General}
use Rattle.region_rules.specs.declared.Role.{Role}
use Rattle.region_rules.specs.declared.Role.TheVariants as role
use Rattle.regions.specs.declared.Variable.{Variable}
use Rattle.region_rules.specs.RegionWord.{vertical_code, width_code, horizontal_code, stride_of, between, scalar_region_good}
use Rattle.regions.specs.Regions.{row_elements, first_element, source_element, element_of}
use Rattle.region_rules.specs.RegionRules.{is_number, stands_for, width_zero_or_32, stride_over_four, width_over_exec_size, destination_stride_zero, null_out_of_place, scalar_region_wrong, first_broken, region_refusal}
use Rattle.regions.specs.Reach.{lowest, highest, two_registers, reach_good, elements_good}
use Rattle.regions.proofs.ReachLaws.{inside-highest}

-- 20 to 25, 7 or 0, by the tests of a region
abbrev pub region_number : ℕ → Role → ℕ → General → Variable → ℕ
region_number register_size o lanes g v = cond (ltb 0 (region_refusal o g.region lanes)) (region_refusal o g.region lanes) (cond (not (elements_good register_size v (element_of register_size o g (size_of v.code)) lanes)) 7 0)

-- <V;W,H> by codes, from row and column 0
abbrev pub region : ℕ → ℕ → ℕ → General
region vertical width horizontal = record { index = 0; row = 0; column = 0; region = vertical + 16 * width + 256 * horizontal }

-- a variable of so many UW
abbrev pub words : ℕ → Variable
words count = record { code = UW; start = 0; count = count }

-- the number for a role, its lanes, a region and so many UW; <16;8,2> with 16 lanes ends in element 30, and of two rules the earlier stands
abbrev pub Edges : (Role → ℕ → General → ℕ → ℕ) → Type 0
Edges number =
    (number role.Source 16 (region 6 5 3) 31 ≡ 0)
    × (number role.Source 16 (region 6 5 3) 30 ≡ 7)
    × (number role.Source 4 (region 6 5 3) 64 ≡ 22)
    × (number role.Source 32 (region 6 7 3) 128 ≡ 20)
    × (number role.Source 8 (region 5 7 5) 64 ≡ 20)
    × (number role.Source 8 (region 0 1 2) 64 ≡ 20)
    × (number role.Source 16 (region 6 5 5) 64 ≡ 21)
    × (number role.Source 8 (region 5 6 5) 64 ≡ 21)
    × (number role.Source 8 (region 5 0 5) 64 ≡ 21)
    × (number role.Source 8 (region 0 6 2) 64 ≡ 22)
    × (number role.Source 16 (region 6 0 3) 64 ≡ 24)
    × (number role.Source 16 (region 0 5 3) 64 ≡ 24)
    × (number role.Source 8 (region 5 5 0) 64 ≡ 24)
    × (number role.Source 2 (region 7 2 1) 64 ≡ 7)
    × (number role.Scalar 16 (region 1 2 1) 1 ≡ 0)
    × (number role.Scalar 16 (region 1 2 2) 64 ≡ 25)
    × (number role.Scalar 1 (region 5 7 5) 64 ≡ 25)
    × (number role.Destination 8 (region 0 0 2) 8 ≡ 0)
    × (number role.Destination 8 (region 0 0 2) 7 ≡ 7)
    × (number role.Destination 8 (region 5 0 7) 64 ≡ 21)
    × (number role.Destination 8 (region 0 5 1) 8 ≡ 23)
    × (number role.Destination 8 (region 1 0 2) 8 ≡ 24)
    × (number role.Destination 8 (region 0 7 2) 8 ≡ 24)
    × (number role.Destination 8 (region 0 6 2) 8 ≡ 24)
    × (number role.Destination 8 (region 0 0 0) 8 ≡ 24)

-- the number by what is computed
computed : ℕ → Role → ℕ → General → ℕ → ℕ
computed register_size o lanes g count =
    let f = element_of register_size o g 2 in
    cond (ltb 0 (region_refusal o g.region lanes)) (region_refusal o g.region lanes) (cond (not ((eqb lanes 0 || ltb (highest f lanes) count) && reach_good register_size f lanes 0 2)) 7 0)

number_is : (register_size : ℕ) (o : Role) (lanes : ℕ) (g : General) (count : ℕ) → region_number register_size o lanes g (words count) ≡ computed register_size o lanes g count
unfolding computed elements_good
number_is register_size o lanes g count = rw (sizes.uw, ← inside-highest (element_of register_size o g 2) count lanes)

pub regions-at-edges : Edges (λ o lanes g count. region_number 32 o lanes g (words count))
unfolding computed vertical_code width_code horizontal_code stride_of between scalar_region_good is_number stands_for width_zero_or_32 stride_over_four width_over_exec_size destination_stride_zero null_out_of_place scalar_region_wrong first_broken region_refusal row_elements first_element source_element element_of lowest highest two_registers reach_good
regions-at-edges = (
  number_is 32 role.Source 16 (region 6 5 3) 31,
  number_is 32 role.Source 16 (region 6 5 3) 30,
  number_is 32 role.Source 4 (region 6 5 3) 64,
  number_is 32 role.Source 32 (region 6 7 3) 128,
  number_is 32 role.Source 8 (region 5 7 5) 64,
  number_is 32 role.Source 8 (region 0 1 2) 64,
  number_is 32 role.Source 16 (region 6 5 5) 64,
  number_is 32 role.Source 8 (region 5 6 5) 64,
  number_is 32 role.Source 8 (region 5 0 5) 64,
  number_is 32 role.Source 8 (region 0 6 2) 64,
  number_is 32 role.Source 16 (region 6 0 3) 64,
  number_is 32 role.Source 16 (region 0 5 3) 64,
  number_is 32 role.Source 8 (region 5 5 0) 64,
  number_is 32 role.Source 2 (region 7 2 1) 64,
  number_is 32 role.Scalar 16 (region 1 2 1) 1,
  number_is 32 role.Scalar 16 (region 1 2 2) 64,
  number_is 32 role.Scalar 1 (region 5 7 5) 64,
  number_is 32 role.Destination 8 (region 0 0 2) 8,
  number_is 32 role.Destination 8 (region 0 0 2) 7,
  number_is 32 role.Destination 8 (region 5 0 7) 64,
  number_is 32 role.Destination 8 (region 0 5 1) 8,
  number_is 32 role.Destination 8 (region 1 0 2) 8,
  number_is 32 role.Destination 8 (region 0 7 2) 8,
  number_is 32 role.Destination 8 (region 0 6 2) 8,
  number_is 32 role.Destination 8 (region 0 0 0) 8,
)

-- the first element of a row
abbrev pub row_start : ℕ → General
row_start row = record { index = 0; row = row; column = 0; region = 1 + 16 * 2 + 256 * 1 }

-- document 02, request 5: two registers of 64 bytes hold the elements 0 to 46 of <32;8,2>, and row 2 begins with element 64 of a UW variable
pub regions-at-either-size : (region_number 32 role.Source 16 (region 7 5 3) (words 64) ≡ 7)
    × (region_number 64 role.Source 16 (region 7 5 3) (words 64) ≡ 0)
    × (region_number 64 role.Source 16 (region 7 5 3) (words 46) ≡ 7)
    × (region_number 64 role.Source 32 (region 7 5 3) (words 128) ≡ 7)
    × (region_number 32 role.Scalar 1 (row_start 2) (words 33) ≡ 0)
    × (region_number 64 role.Scalar 1 (row_start 2) (words 64) ≡ 7)
    × (region_number 64 role.Scalar 1 (row_start 2) (words 65) ≡ 0)
unfolding computed vertical_code width_code horizontal_code stride_of between scalar_region_good is_number stands_for width_zero_or_32 stride_over_four width_over_exec_size destination_stride_zero null_out_of_place scalar_region_wrong first_broken region_refusal row_elements first_element source_element element_of lowest highest two_registers reach_good
regions-at-either-size = (
  number_is 32 role.Source 16 (region 7 5 3) 64,
  number_is 64 role.Source 16 (region 7 5 3) 64,
  number_is 64 role.Source 16 (region 7 5 3) 46,
  number_is 64 role.Source 32 (region 7 5 3) 128,
  number_is 32 role.Scalar 1 (row_start 2) 33,
  number_is 64 role.Scalar 1 (row_start 2) 64,
  number_is 64 role.Scalar 1 (row_start 2) 65,
)
