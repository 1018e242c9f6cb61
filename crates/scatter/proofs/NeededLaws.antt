-- The dwords of Src that the enabled channels need: those of an enabled channel are among them, and they have room.
use Rattle.std.proofs.Common.{◌≡◌, ℕ, zero, suc, ◌+◌, ◌-◌, ◌*◌, ◌/◌, ◌%◌, ◌^◌, ◌<◌, ◌≤◌, true, mul-le-mul_right, arith, eqb-true}
use Rattle.element_types.specs.Types.{size_of}
use Rattle.bits.specs.Bits.{bit}
use Rattle.exec_byte.specs.Exec.{exec_size}
use Rattle.payloads.specs.Needed.{enabled_below, scatter_needed}
use Rattle.payloads.proofs.ChannelLaws.{enabled-next, enabled-at-most}

module _ (channels : ℕ) where
  enabled-more : (c d : ℕ) → enabled_below channels c ≤ enabled_below channels (c + d)
  enabled-more c zero = let e : c + 0 ≡ c = omega arith in rw e (omega arith)
  enabled-more c (suc d) =
      let e : c + suc d ≡ c + d + 1 = omega arith in
      rw (e, enabled-next channels (c + d)) (omega (arith, enabled-more c d))

  is_one : (c : ℕ) → bit channels c ≡ true → channels / 2 ^ c % 2 ≡ 1
  unfolding bit
  is_one c on = eqb-true (channels / 2 ^ c % 2) 1 on

  -- an enabled channel is counted
  enabled-counted : (c n : ℕ) → c < n → bit channels c ≡ true → enabled_below channels c + 1 ≤ enabled_below channels n
  enabled-counted c n h on =
      let e : n ≡ c + 1 + (n - (c + 1)) = omega arith in
      rw e (omega (arith, enabled-next channels c, is_one c on, enabled-more (c + 1) (n - (c + 1))))

  pub dword-needed : (stride exec c lane k : ℕ) → c < 4 → bit channels c ≡ true → lane < exec_size exec → k < 4 → 4 * (enabled_below channels c * stride) + 4 * lane + k < scatter_needed stride exec channels
  unfolding scatter_needed size_of
  dword-needed stride exec c lane k h on g l =
      let e : enabled_below channels c ≤ enabled_below channels 4 - 1 = omega (arith, enabled-counted c 4 h on) in
      omega (arith, mul-le-mul_right stride e)

  pub needed-at-most : (stride exec : ℕ) → stride ≤ 16 → exec_size exec ≤ 16 → scatter_needed stride exec channels ≤ 256
  unfolding scatter_needed size_of
  needed-at-most stride exec near few =
      let e : enabled_below channels 4 - 1 ≤ 3 = omega (arith, enabled-at-most channels 4) in
      omega (arith, mul-le-mul_right stride e)
