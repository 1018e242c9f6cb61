-- The bits past the end of a word.
use Prim.Native.Nat.{ℕ, ◌^◌, ◌≤◌, ◌<◌}
use mathlib.Core.Path.{◌≡◌}
use mathlib.Core.Bool.{false}
use native.Mathlib.Nat.{pow-le-pow_right, div-eq_of_lt}
use native.Mathlib.Omega.{arith}
use lib.Dec.{lit<}
use Rattle.bits.specs.Bits.{bit}

pub bit_past : (word n : ℕ) → word < 2 ^ 32 → 32 ≤ n → bit word n ≡ false
unfolding bit
bit_past word n h p =
    let q : 2 ^ 32 ≤ 2 ^ n = pow-le-pow_right {n = 2} (lit< tt) p in
    rw (div-eq_of_lt {n = word} {m = 2 ^ n} (omega arith))
