-- A content that fits ends inside its buffer.
use mathlib.Core.Path.{◌≡◌, sym, ◌∙◌}
use mathlib.Core.Bool.{Bool, true}
use mathlib.Core.List.{List}
use Prim.Native.Nat.{ℕ, ◌+◌, ◌≤◌}
use native.Mathlib.Omega.{arith}
use lib.ListN.{length}
use Rattle.hex_text.specs.Storing.{fits}
use Rattle.hex_text.proofs.StoringLaws.{fits-room}

pub room_for : (bytes buffer : List ℕ) (at n : ℕ) (f : Bool) → f ≡ fits bytes at buffer → f ≡ true → n ≡ length bytes → at + n ≤ length buffer
room_for bytes buffer at n f e t k = omega (arith, fits-room bytes buffer at (sym e ∙ t))
