-- Powers of 256: what the numbers of an immediate need to fit.
use mathlib.Core.Path.{◌≡◌, refl}
use Prim.Native.Nat.{ℕ, ◌*◌, ◌%◌, ◌^◌, ◌≤◌, ◌<◌}
use native.Mathlib.Omega.{arith}
use native.Mathlib.Nat.{mod-eq_of_lt, pow-le-pow_right}
use lib.Dec.{lit<}
use borrow.Author.Count.{below_none, below_more}
use Rattle.operands.specs.Elements.{low_bytes}

-- a one shifted by whole bytes
pub shifted_one : (size : ℕ) → size < 8 → 1 * 2 ^ (8 * size) % 18446744073709551616 ≡ 256 ^ size
shifted_one =
    let P : ℕ → Type 0 = λ size. 1 * 2 ^ (8 * size) % 18446744073709551616 ≡ 256 ^ size in
    below_more P 7 (below_more P 6 (below_more P 5 (below_more P 4 (below_more P 3 (below_more P 2 (below_more P 1 (below_more P 0 (below_none P) refl) refl) refl) refl) refl) refl) refl) refl

pub whole_value : (value size : ℕ) → value < 18446744073709551616 → 8 ≤ size → value ≡ low_bytes value size
unfolding low_bytes
whole_value value size h k =
    let p : 18446744073709551616 ≤ 256 ^ size = pow-le-pow_right {n = 256} (lit< tt) k in
    rw (mod-eq_of_lt {n = value} {m = 256 ^ size} (omega arith))
