-- Characters that join the line begun, one by one and all at once.
use mathlib.Core.Path.{◌≡◌, refl}
use mathlib.Core.Bool.{Bool}
use mathlib.Core.List.{List, [], ◌∷◌, ◌++◌}
use Prim.Native.Nat.{ℕ, suc, ◌+◌, ◌-◌, ◌≤◌, ◌<◌}
use native.Mathlib.Omega.{arith}
use native.Mathlib.Numerals.{add-one}
use lib.ListN.{length, get_or, set, take, drop, length-set, drop_of_length-le}
use lib.Seq.{drop-cons}
use borrow.Author.Tests.{lt-ltb}
use Rattle.hex_text.specs.Storing.{placed}
use Rattle.hex_text.proofs.StoringLaws.{copied, placed-none, placed-more}
use Rattle.std.proofs.lemmas.List.{take_more}
use borrow.Rule.Slice.PartMut.{put_mid}
use Rattle.line_blocks.specs.Mirror.Rows.{Row, row, pushed, all_pushed}

-- one character more of those from i on
pub each_turn : (characters : List ℕ) (i : ℕ) (w v : Row) → i < length characters → v ≡ pushed (get_or characters i 0) w → all_pushed (drop (i + 1) characters) v ≡ all_pushed (drop i characters) w
unfolding all_pushed
each_turn characters i w v h e = rw (add-one i, drop-cons characters i 0 h, e)

pub each_over : (characters : List ℕ) (i : ℕ) (w : Row) → length characters ≤ i → all_pushed (drop i characters) w ≡ w
unfolding all_pushed
each_over characters i w h = rw (drop_of_length-le characters h)

-- one character more of those before i
pub each_none : (w : Row) → all_pushed [] w ≡ w
unfolding all_pushed
each_none w = refl

pushed_behind : (characters : List ℕ) (b : ℕ) (w : Row) → all_pushed (characters ++ b ∷ []) w ≡ pushed b (all_pushed characters w)
unfolding all_pushed
pushed_behind [] b w = refl
pushed_behind (c ∷ characters) b w = pushed_behind characters b (pushed c w)

pub each_more : (characters : List ℕ) (i : ℕ) (w : Row) → i < length characters → all_pushed (take (i + 1) characters) w ≡ pushed (get_or characters i 0) (all_pushed (take i characters) w)
each_more characters i w h = rw (take_more characters i 0 h) (pushed_behind (take i characters) (get_or characters i 0) w)

-- where there is room for all of them
pub all-pushed : (characters line : List ℕ) (used : ℕ) (long : Bool) → used + length characters ≤ length line →
    row (placed line used characters) (used + length characters) long ≡ all_pushed characters (row line used long)
unfolding all_pushed pushed
all-pushed [] line used long h = let e : used + 0 ≡ used = omega arith in rw (placed-none line used, e)
all-pushed (b ∷ bs) line used long h =
    let n : used + suc (length bs) ≡ used + 1 + length bs = omega arith in
    let k : suc used ≡ used + 1 = omega arith in
    rw (lt-ltb used (length line) (omega arith), placed-more line used b bs, n, k) (all-pushed bs (set line used b) (used + 1) long (rw (length-set line used b) (omega arith)))

pub copied_pushed : (characters line : List ℕ) (used k : ℕ) (long : Bool) → used ≤ length line → length characters ≤ length line - used → k ≡ length characters →
    row (put_mid used k line characters) (used + length characters) long ≡ all_pushed characters (row line used long)
copied_pushed characters line used k long h r e =
    let inside : used + length characters ≤ length line = omega (arith, h, r) in
    rw (copied line characters used k e inside) (all-pushed characters line used long inside)
