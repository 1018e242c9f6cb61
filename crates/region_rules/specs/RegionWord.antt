-- The region word: its parts, and document 01's rule of it. Document 01, "Bytes of an instruction" and "Regions".
use Rattle.std.specs.Prelude.{ℕ, ◌+◌, ◌*◌, ◌/◌, ◌%◌, Bool, cond, ◌&&◌, leb, eqb}
use Rattle.region_rules.specs.declared.Role.{Role}
use Rattle.region_rules.specs.declared.Role.TheVariants as role

-- "region uw (bits 0-3 vertical, 4-7 width, 8-11 horizontal stride; ..)"
unfoldable pub vertical_code : ℕ → ℕ
vertical_code region = region % 16

unfoldable pub width_code : ℕ → ℕ
width_code region = region / 16 % 16

unfoldable pub horizontal_code : ℕ → ℕ
horizontal_code region = region / 256 % 16

-- "codes 0 Null, 1..7 for 0, 1, 2, 4, 8, 16, 32"; Null counts as 0 here, and the rules tell it from a stride of 0
unfoldable pub stride_of : ℕ → ℕ
stride_of code =
    cond (eqb code 2) 1
    (cond (eqb code 3) 2
    (cond (eqb code 4) 4
    (cond (eqb code 5) 8
    (cond (eqb code 6) 16
    (cond (eqb code 7) 32 0)))))

-- a code from one to another, both included
unfoldable pub between : ℕ → ℕ → ℕ → Bool
between low high code = leb low code && leb code high

-- "Width 1, 2, 4, 8 or 16 and at most ExecSize; V 0, 1, 2, 4, 8, 16 or 32; H 0, 1, 2 or 4; no Null"
unfoldable pub source_region_good : ℕ → ℕ → Bool
source_region_good region lanes =
    between 2 6 (width_code region)
    && leb (stride_of (width_code region)) lanes
    && between 1 7 (vertical_code region)
    && between 1 4 (horizontal_code region)

-- "General with region <0;1,0>": the word with vertical code 1, width code 2, horizontal code 1
unfoldable pub scalar_region_good : ℕ → Bool
scalar_region_good region = eqb region (1 + 16 * 2 + 256 * 1)

-- "Destination: H 1, 2 or 4, the other two Null"
unfoldable pub destination_region_good : ℕ → Bool
destination_region_good region = between 2 4 (horizontal_code region) && eqb (vertical_code region) 0 && eqb (width_code region) 0

-- document 01's one rule for each role, by which 6 was given; `RegionRules` has it split, and `split-refuses` compares them
unfoldable pub region_allowed : Role → ℕ → ℕ → Bool
region_allowed role.Source region lanes = source_region_good region lanes
region_allowed role.Scalar region lanes = scalar_region_good region
region_allowed role.Destination region lanes = destination_region_good region
