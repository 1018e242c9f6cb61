-- A part within a buffer, tested without a sum.
use mathlib.Core.Path.{◌≡◌, refl}
use mathlib.Core.Bool.{Bool, true, false}
use mathlib.Core.List.{List}
use Prim.Native.Nat.{ℕ, ◌+◌, ◌-◌, ◌≤◌, ◌<◌}
use native.Mathlib.Omega.{arith}
use lib.Dec.{leb}
use lib.ListN.{length}
use borrow.Author.Tests.{leb-true, leb-false, le-leb, lt-leb}
use Rattle.show.specs.Show.{is_inside}

pub room-inside : (bytes : List ℕ) (start count : ℕ) → start ≤ length bytes → leb count (length bytes - start) ≡ is_inside bytes start count
unfolding is_inside
room-inside bytes start count h = told (leb (start + count) (length bytes)) refl
  where
    told : (b : Bool) → leb (start + count) (length bytes) ≡ b → leb count (length bytes - start) ≡ b
    told true e = le-leb count (length bytes - start) (omega (arith, leb-true (start + count) (length bytes) e))
    told false e = lt-leb count (length bytes - start) (omega (arith, leb-false (start + count) (length bytes) e))

pub past-inside : (bytes : List ℕ) (start count : ℕ) → length bytes < start → is_inside bytes start count ≡ false
unfolding is_inside
past-inside bytes start count h = lt-leb (start + count) (length bytes) (omega arith)

pub inside-room : (bytes : List ℕ) (start count : ℕ) → is_inside bytes start count ≡ true → start + count ≤ length bytes
unfolding is_inside
inside-room bytes start count e = leb-true (start + count) (length bytes) e
