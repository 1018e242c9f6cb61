-- What is read of a lane in the room, at the places that were worked out.
use Prim.Native.Nat.{ℕ}
use mathlib.Core.Path.{◌≡◌}
use mathlib.Core.Bool.{Bool, ◌||◌}
use mathlib.Core.List.{List}
use Rattle.cells.specs.Buffer.{any_tainted}
use Rattle.cells.specs.Element.{element}
use Rattle.staging.specs.declared.Layout.{Layout}
use Rattle.staging.specs.Mirror.Room.{first_place, second_place, first_number, second_number, either_staged}

module _ (l : List ℕ) (s : Layout) (lane : ℕ) where
  pub first_read : (at r : ℕ) → at ≡ first_place s lane → r ≡ element s.first l at → r ≡ first_number l s lane
  unfolding first_number
  first_read at r there read = rw (← there) read

  pub second-read : (at r : ℕ) → at ≡ second_place s lane → r ≡ element s.second l at → r ≡ second_number l s lane
  unfolding second_number
  second-read at r there read = rw (← there) read

  pub either-read : (one two : ℕ) (p q : Bool) → one ≡ first_place s lane → two ≡ second_place s lane → p ≡ any_tainted l one s.first → q ≡ any_tainted l two s.second → (p || q) ≡ either_staged l s lane
  unfolding either_staged
  either-read one two p q first second asked more = rw (← first, ← second, ← asked, ← more)
