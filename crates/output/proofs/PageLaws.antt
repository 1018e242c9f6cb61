-- Writing one text after another, and a buffer that has room for all of it.
use mathlib.Core.Path.{◌≡◌, refl, sym, ap, ◌∙◌}
use mathlib.Core.List.{List, [], ◌∷◌, ◌++◌}
use Prim.Native.Nat.{ℕ, suc, ◌+◌, ◌≤◌, ◌<◌}
use native.Mathlib.Omega.{arith}
use native.Mathlib.Numerals.{add-one}
use lib.ListN.{length, set, take, drop, length-set}
use lib.Seq.{take-append_seam}
use borrow.Author.Tests.{lt-ltb}
use Rattle.hex_text.specs.Storing.{placed}
use Rattle.hex_text.proofs.StoringLaws.{placed-none, placed-more, placed-is}
use Rattle.output.specs.Mirror.Page.{Page, page, pushed, written}

pub written-append : (a b : List ℕ) (p : Page) → written (a ++ b) p ≡ written b (written a p)
unfolding written
written-append [] b p = refl
written-append (c ∷ a) b p = written-append a b (pushed c p)

pub written_then : (a b c : List ℕ) (p q r : Page) → a ++ b ≡ c → q ≡ written a p → r ≡ written b q → r ≡ written c p
written_then a b c p q r e f g = g ∙ (ap (written b) f ∙ (sym (written-append a b p) ∙ ap (λ (l : List ℕ). written l p) e))

pushed_room : (c : ℕ) (buffer : List ℕ) (used : ℕ) → used < length buffer → pushed c (page buffer used) ≡ page (set buffer used c) (suc used)
unfolding pushed
pushed_room c buffer used h = rw (lt-ltb used (length buffer) h, add-one used)

-- where there is room for all of it, the text stands behind what was written before, and nothing else changes
pub written-room : (cs buffer : List ℕ) (used : ℕ) → used + length cs ≤ length buffer → written cs (page buffer used) ≡ page (placed buffer used cs) (used + length cs)
unfolding written
written-room [] buffer used h =
    let e : used + 0 ≡ used = omega arith in
    rw (placed-none buffer used, e)
written-room (c ∷ cs) buffer used h =
    let e : used + suc (length cs) ≡ suc used + length cs = omega arith in
    let k : suc used + length cs ≤ length (set buffer used c) = rw (length-set buffer used c) (omega arith) in
    rw (pushed_room c buffer used (omega arith), placed-more buffer used c cs, e) (written-room cs (set buffer used c) (suc used) k)

-- a whole text in a buffer that has room for it
pub written-whole : (cs buffer : List ℕ) → length cs ≤ length buffer → take (written cs (page buffer 0)).used (written cs (page buffer 0)).buffer ≡ cs
written-whole cs buffer h =
    let e : 0 + length cs ≡ length cs = omega arith in
    let k : 0 + length cs ≤ length buffer = rw e h in
    rw (written-room cs buffer 0 k, placed-is buffer 0 cs k, e) (take-append_seam cs (drop (length cs) buffer))
