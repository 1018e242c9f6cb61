-- The bytes that a scatter of 16 and of 8 lanes needs: with all four channels, which is the most there are, and with one. At 16 lanes both sizes of
-- registers give the same.
use mathlib.Core.Path.{◌≡◌, refl}
use Prim.Native.Nat.{ℕ, ◌*◌}
use Rattle.element_types.proofs.Sizes.{sizes}
use Rattle.bits.specs.Bits.{bit, bit_field}
use Rattle.exec_byte.specs.Exec.{exec_reserved, exec_size}
use Rattle.payloads.specs.Needed.{enabled_below, channel_stride, scatter_needed}

sixteen-lanes : exec_size 4 ≡ 16
unfolding exec_size exec_reserved bit bit_field
sixteen-lanes = refl

eight-lanes : exec_size 3 ≡ 8
unfolding exec_size exec_reserved bit bit_field
eight-lanes = refl

-- by registers of this size
needed : ℕ → ℕ → ℕ → ℕ
needed register_size exec channels = scatter_needed (channel_stride register_size exec) exec channels

scatter-at-edges : (needed 32 4 15 ≡ 64 * 4)
    × (needed 32 4 8 ≡ 16 * 4)
    × (needed 32 3 15 ≡ 32 * 4)
    × (needed 64 4 15 ≡ 64 * 4)
    × (needed 64 4 8 ≡ 16 * 4)
    × (needed 64 3 15 ≡ 56 * 4)
    × (needed 64 3 2 ≡ 8 * 4)
unfolding needed scatter_needed channel_stride enabled_below
scatter-at-edges =
    simp (sixteen-lanes, eight-lanes, sizes.ud) (refl, refl, refl, refl, refl, refl, refl)
