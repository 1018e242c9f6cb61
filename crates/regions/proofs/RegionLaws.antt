-- A source's lanes are rows of Width, and a destination's elements are apart.
use mathlib.Core.Path.{◌≡◌, ap, ◌∙◌}
use mathlib.Core.Bool.{true, ◌&&◌}
use Prim.Native.Nat.{ℕ, ◌+◌, ◌*◌, ◌/◌, ◌%◌, ◌≤◌, ◌<◌}
use native.Mathlib.Omega.{arith}
use native.Mathlib.Nat.{mul-le-mul_right, mul-add-div_right, mul-add-mod_self_right, div-eq_of_lt, mod-eq_of_lt}
use lib.Dec.{leb}
use borrow.Author.Tests.{leb-true}
use Rattle.element_types.specs.Types.{size_of, is_listed}
use Rattle.element_types.proofs.Sizes.{register-whole}
use Rattle.bits.proofs.All.{left, right, all3, all4}
use Rattle.operand_fields.specs.declared.General.{General}
use Rattle.region_rules.specs.declared.Role.TheVariants as role
use Rattle.region_rules.specs.RegionWord.{width_code, horizontal_code, stride_of, between, source_region_good, destination_region_good, region_allowed}
use Rattle.regions.specs.Regions.{row_elements, first_element, source_element, element_of}
use Rattle.regions.specs.Positions.{element_byte}
use Rattle.regions.proofs.GridLaws.{stride-some}

-- element (i, j) is that of lane i * Width + j
pub lane-is : (register_size : ℕ) (g : General) (size i j : ℕ) → j < stride_of (width_code g.region) → element_of register_size role.Source g size (i * stride_of (width_code g.region) + j) ≡ source_element register_size g size i j
unfolding element_of
lane-is register_size g size i j h =
    let width = stride_of (width_code g.region) in
    let some : 0 < width = omega arith in
    let row : (i * width + j) / width ≡ i = mul-add-div_right some i j ∙ ap (λ n. i + n) (div-eq_of_lt h) ∙ omega arith in
    let place : (i * width + j) % width ≡ j = mul-add-mod_self_right i width j ∙ mod-eq_of_lt h in
    rw (row, place)

-- a good source region has a width
pub width_some : (region lanes : ℕ) → source_region_good region lanes ≡ true → 0 < stride_of (width_code region)
unfolding source_region_good between
width_some region lanes h =
    let code = width_code region in
    let a = (all4 (leb 2 code && leb code 6) (leb (stride_of code) lanes) _ _ h).first in
    stride-some code (leb-true 2 code (left (leb 2 code) (leb code 6) a)) (leb-true code 6 (right (leb 2 code) (leb code 6) a))

-- "32/size" is exact, of 32, 64 and every multiple of 8: a row of elements is a register
pub row-whole : (register_size : ℕ) → register_size % 8 ≡ 0 → (code : ℕ) → is_listed code ≡ true → row_elements register_size (size_of code) * size_of code ≡ register_size
unfolding row_elements
row-whole = register-whole

destination-stride : (region : ℕ) → destination_region_good region ≡ true → 0 < stride_of (horizontal_code region)
unfolding destination_region_good between
destination-stride region h =
    let code = horizontal_code region in
    let a = (all3 (leb 2 code && leb code 4) _ _ h).first in
    let b = leb-true code 4 (right (leb 2 code) (leb code 4) a) in
    stride-some code (leb-true 2 code (left (leb 2 code) (leb code 4) a)) (omega arith)

apart-plain : (start first stride size j k : ℕ) → 0 < stride → j < k → start + (first + j * stride) * size + size ≤ start + (first + k * stride) * size
apart-plain start first stride size j k s h =
    let a : j + 1 ≤ k = omega arith in
    let b : first + j * stride + 1 ≤ first + k * stride = omega (arith, mul-le-mul_right stride a) in
    omega (arith, mul-le-mul_right size b)

-- no element of a good destination touches another's bytes
pub destination-apart : (register_size : ℕ) (g : General) (lanes start size j k : ℕ) → region_allowed role.Destination g.region lanes ≡ true → j < k
    → element_byte start size (element_of register_size role.Destination g size) j + size ≤ element_byte start size (element_of register_size role.Destination g size) k
unfolding region_allowed element_byte element_of
destination-apart register_size g lanes start size j k good l =
    apart-plain start (first_element register_size g size) (stride_of (horizontal_code g.region)) size j k (destination-stride g.region good) l
