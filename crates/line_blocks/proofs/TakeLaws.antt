-- The first elements of a buffer are all of them for a count past the end.
use mathlib.Core.Path.{◌≡◌}
use mathlib.Core.List.{List}
use Prim.Native.Nat.{ℕ, ◌<◌}
use native.Mathlib.Omega.{arith}
use lib.ListN.{length, take}
use lib.Seq.{take_all}

pub take_past : (n : ℕ) (l : List ℕ) → length l < n → take n l ≡ l
take_past n l h = take_all n l (omega arith)
