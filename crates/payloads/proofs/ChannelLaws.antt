-- The enabled channels of a scatter, counted one after the other, and the stride between their data.
use Prim.Native.Nat.{ℕ, zero, suc, ◌+◌, ◌/◌, ◌%◌, ◌^◌, ◌≤◌}
use mathlib.Core.Path.{◌≡◌, refl, sym, ap, ◌∙◌}
use native.Mathlib.Numerals.{add-one}
use native.Mathlib.Omega.{arith}
use Rattle.exec_byte.specs.Exec.{exec_size}
use Rattle.payloads.specs.Needed.{enabled_below, channel_stride}

pub enabled-none : (channels : ℕ) → enabled_below channels 0 ≡ 0
unfolding enabled_below
enabled-none channels = refl

pub enabled-next : (channels c : ℕ) → enabled_below channels (c + 1) ≡ enabled_below channels c + channels / 2 ^ c % 2
unfolding enabled_below
enabled-next channels c = rw (add-one c)

pub enabled_turn : (channels k count : ℕ) → count ≡ enabled_below channels k → count + channels / 2 ^ k % 2 ≡ enabled_below channels (k + 1)
enabled_turn channels k count e = ap (λ (n : ℕ). n + channels / 2 ^ k % 2) e ∙ sym (enabled-next channels k)

pub enabled-at-most : (channels n : ℕ) → enabled_below channels n ≤ n
unfolding enabled_below
enabled-at-most channels zero = omega arith
enabled-at-most channels (suc n) = omega (arith, enabled-at-most channels n)

pub stride-at-most : (register_size exec n : ℕ) → register_size / 4 ≤ n → exec_size exec ≤ n → channel_stride register_size exec ≤ n
unfolding channel_stride
stride-at-most register_size exec n h g = omega (arith, h, g)
