-- A product of two bytes is small.
use Prim.Native.Nat.{ℕ, ◌*◌, ◌≤◌}
use native.Mathlib.Nat.{mul-le-mul_right}
use native.Mathlib.Omega.{arith}

pub product_small : (a b : ℕ) → a ≤ 255 → b ≤ 255 → a * b ≤ 65025
product_small a b h g = omega (arith, mul-le-mul_right b h)
