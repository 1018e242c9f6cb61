-- Values that a table or a range has.
use mathlib.Core.Path.{◌≡◌, ◌∙◌}
use mathlib.Core.List.{List}
use mathlib.Core.Bool.{true}
use Prim.Native.Nat.{ℕ, ◌≤◌, ◌<◌}
use lib.Dec.{leb}
use borrow.Author.Tests.{lt-ltb, le-leb}
use Rattle.formats.specs.Words.{words, one_of}
use Rattle.formats.specs.Numbers.{number}
use Rattle.formats.proofs.Tests.{both}
use Rattle.formats.proofs.TableTests.{size, table-good}

pub in_table : (p : List ℕ) (i : ℕ) → i < size p → (one_of (words p)).good i ≡ true
in_table p i h = table-good p i ∙ lt-ltb i (size p) h

pub in-range : (b low high n : ℕ) → low ≤ n → n ≤ high → (number b low high).good n ≡ true
unfolding number
in-range b low high n h k = both (leb low n) (leb n high) (le-leb low n h) (le-leb n high k)
