-- The taint of two sources is that of either.
use Prim.Native.Nat.{ℕ}
use mathlib.Core.Path.{◌≡◌, refl}
use mathlib.Core.Bool.{◌||◌}
use mathlib.Core.List.{List}
use Rattle.operands.specs.declared.Elements.{Elements}
use Rattle.staging.specs.Sources.{element_tainted, either_tainted}

pub either_is : (taint : List ℕ) (a b : Elements) (lane : ℕ) → either_tainted taint a b lane ≡ (element_tainted taint a lane || element_tainted taint b lane)
unfolding either_tainted
either_is taint a b lane = refl
