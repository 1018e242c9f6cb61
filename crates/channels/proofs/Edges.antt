-- Which lanes are on where mask, predicate and inverse meet, computed.
use Prim.Native.Nat.{ℕ, zero, suc}
use mathlib.Core.Path.{◌≡◌, refl}
use mathlib.Core.List.{List, [], ◌∷◌}
use mathlib.Core.Bool.{Bool, cond}
use Rattle.bits.specs.Bits.{bit, bit_field}
use Rattle.bits.specs.Below.{some_below, every_below}
use Rattle.exec_byte.specs.Exec.{exec_reserved, exec_size, mask_control, mask_number, exec_offset, no_mask}
use Rattle.predicate_field.specs.Predicate.{has_predicate, predicate_combine, predicate_inverse}
use Rattle.channels.specs.Lanes.{any_bit, all_bits, combined, inverted, predicate_agrees, mask_allows, lane_on}

-- the numbers below n that pass a test, the highest first
unfoldable passing : (ℕ → Bool) → ℕ → List ℕ
passing test zero = []
passing test (suc n) = cond (test n) (n ∷ passing test n) (passing test n)

-- those of the 32 lanes that are on: of an exec byte, a pred word, EM and the predicate's bits
abbrev lanes : ℕ → ℕ → ℕ → ℕ → List ℕ
lanes exec pred mask bits = passing (lane_on exec pred mask bits) 32

-- any inverted, predicate 0 inverted, M2_NM with EM 0, and no predicate
lanes-at-edges : (lanes 0x03 0xa000 0xff 0x80 ≡ [])
    × (lanes 0x02 0x8000 0x0e 0x02 ≡ 3 ∷ 2 ∷ [])
    × (lanes 0x92 0x0001 0x00 0x51 ≡ 2 ∷ 0 ∷ [])
    × (lanes 0x02 0x0000 0xf5 0x00 ≡ 2 ∷ 0 ∷ [])
unfolding passing bit bit_field some_below every_below exec_reserved exec_size mask_control mask_number exec_offset no_mask has_predicate predicate_combine predicate_inverse any_bit all_bits combined inverted predicate_agrees mask_allows lane_on
lanes-at-edges = (refl, refl, refl, refl)
