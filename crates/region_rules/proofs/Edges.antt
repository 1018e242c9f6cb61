-- The edges of a region's rules, computed: of two rules that a word breaks the earlier stands.
use mathlib.Core.Path.{◌≡◌, refl}
use Prim.Native.Nat.{ℕ, ◌+◌, ◌*◌}
use Rattle.region_rules.specs.declared.Role.{Role}
use Rattle.region_rules.specs.declared.Role.TheVariants as role
use Rattle.region_rules.specs.RegionWord.{vertical_code, width_code, horizontal_code, stride_of, between, scalar_region_good}
use Rattle.region_rules.specs.RegionRules.{is_number, stands_for, width_zero_or_32, stride_over_four, width_over_exec_size, destination_stride_zero, null_out_of_place, scalar_region_wrong, first_broken, region_refusal}

-- <V;W,H> by codes, of an operand of eight lanes
refusal : Role → ℕ → ℕ → ℕ → ℕ
refusal o vertical width horizontal = region_refusal o (vertical + 16 * width + 256 * horizontal) 8

rules-at-edges : (refusal role.Source 5 5 4 ≡ 0)
    × (refusal role.Source 5 7 5 ≡ 20)
    × (refusal role.Source 0 1 2 ≡ 20)
    × (refusal role.Source 5 6 5 ≡ 21)
    × (refusal role.Source 5 0 5 ≡ 21)
    × (refusal role.Source 0 6 2 ≡ 22)
    × (refusal role.Source 5 0 4 ≡ 24)
    × (refusal role.Scalar 1 2 1 ≡ 0)
    × (refusal role.Scalar 5 7 5 ≡ 25)
    × (refusal role.Destination 0 0 4 ≡ 0)
    × (refusal role.Destination 5 0 7 ≡ 21)
    × (refusal role.Destination 0 5 1 ≡ 23)
    × (refusal role.Destination 0 7 2 ≡ 24)
unfolding refusal vertical_code width_code horizontal_code stride_of between scalar_region_good is_number stands_for width_zero_or_32 stride_over_four width_over_exec_size destination_stride_zero null_out_of_place scalar_region_wrong first_broken region_refusal
rules-at-edges = (refl, refl, refl, refl, refl, refl, refl, refl, refl, refl, refl, refl, refl)
