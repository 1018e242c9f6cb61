-- The size, the offset and the mask kind of an exec byte that is not reserved: short forms and bounds.
use Prim.Native.Nat.{ℕ, ◌*◌, ◌/◌, ◌%◌, ◌^◌, ◌≤◌, ◌<◌}
use mathlib.Core.Path.{◌≡◌}
use mathlib.Core.Bool.{Bool, true, false, ◌||◌, true≢false}
use native.Mathlib.Nat.{pow-le-pow_right, div-one}
use native.Mathlib.Omega.{arith}
use lib.Dec.{leb, eqb, lit<}
use borrow.Author.Tests.{leb-false}
use Rattle.bits.specs.Bits.{bit, bit_field}
use Rattle.exec_byte.specs.Exec.{exec_reserved, exec_size, mask_control, mask_number, exec_offset, no_mask}

two_to : (k n : ℕ) → k ≤ n → 2 ^ k ≤ 2 ^ n
two_to k n h = pow-le-pow_right {n = 2} (lit< tt) h

or_right : (a b : Bool) → (a || b) ≡ false → b ≡ false
or_right true b e = absurd (true≢false e)
or_right false b e = e

pub exec-reserved : (exec : ℕ) → exec_reserved exec ≡ (eqb (exec / 8 % 2) 1 || leb 6 (exec % 8))
unfolding exec_reserved bit bit_field
exec-reserved exec = rw (div-one exec)

module _ (exec : ℕ) (good : exec_reserved exec ≡ false) where
  pub exec-size : exec_size exec ≡ 2 ^ (exec % 8)
  unfolding exec_size bit_field
  exec-size = rw (good, div-one exec)

  pub exec-offset : exec_offset exec ≡ 4 * (exec / 16 % 8)
  unfolding exec_offset mask_number mask_control bit_field
  exec-offset = rw good (omega arith)

  pub no-mask : exec < 256 → no_mask exec ≡ leb 8 (exec / 16)
  unfolding no_mask mask_control bit_field
  no-mask h =
      let e : exec / 16 % 16 ≡ exec / 16 = omega arith in
      rw (good, e)

  code-under : exec % 8 ≤ 5
  code-under =
      let e = leb-false 6 (exec % 8) (or_right (eqb (exec / 8 % 2) 1) (leb 6 (exec % 8)) (rw (exec-reserved exec) at good)) in
      omega (arith, e)

  pub size-some : 1 ≤ exec_size exec
  size-some = rw exec-size (two_to 0 (exec % 8) (omega arith))

  pub size-at-most : exec_size exec ≤ 32
  size-at-most = rw exec-size (two_to (exec % 8) 5 code-under)

  pub offset-at-most : exec_offset exec ≤ 28
  offset-at-most = rw exec-offset (omega arith)
