-- What the test of fitting elements says: how many lanes there are, how large their elements, and that both sources have room; and which
-- elements pass it.
use Prim.Native.Nat.{ℕ, ◌*◌, ◌≤◌}
use mathlib.Core.Path.{◌≡◌, refl}
use mathlib.Core.Bool.{Bool, true, false, ◌&&◌, false≢true}
use lib.Dec.{leb}
use native.Mathlib.Nat.{mul-le-mul_right, mul-le-mul_left}
use native.Mathlib.Omega.{arith}
use borrow.Author.Tests.{leb-true, le-leb}
use Rattle.operands.specs.declared.Elements.{Elements}
use Rattle.staging.specs.Mirror.Room.{elements_fit}
use Rattle.cells.proofs.BoolLaws.{both_true}

pub all_three : (a b c : Bool) → (a && b && c) ≡ true → (a ≡ true) × (b ≡ true) × (c ≡ true)
all_three true true true e = (refl, refl, refl)
all_three true true false e = absurd (false≢true e)
all_three true false c e = absurd (false≢true e)
all_three false b c e = absurd (false≢true e)

module _ (size : ℕ) (e : Elements) (lanes : ℕ) (fit : elements_fit size e lanes ≡ true) where
  parts : (leb lanes 32 ≡ true) × (leb e.size size ≡ true)
  unfolding elements_fit
  parts = both_true (leb lanes 32) (leb e.size size) fit

  pub fit-lanes : lanes ≤ 32
  fit-lanes = leb-true lanes 32 parts.0

  pub fit-size : e.size ≤ size
  fit-size = leb-true e.size size parts.1

-- the bytes of so many lanes
pub fit-bytes : (e : Elements) (size lanes most : ℕ) → lanes ≤ most → e.size ≤ size → lanes * e.size ≤ most * size
fit-bytes e size lanes most few small = omega (arith, mul-le-mul_right e.size few, mul-le-mul_left most small)

-- elements of at most this size, in at most 32 lanes
pub elements-fit : (size : ℕ) (e : Elements) (lanes : ℕ) → lanes ≤ 32 → e.size ≤ size → elements_fit size e lanes ≡ true
unfolding elements_fit
elements-fit size e lanes few small = rw (le-leb lanes 32 few, le-leb e.size size small)
