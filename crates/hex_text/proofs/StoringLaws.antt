-- What stands in a buffer after bytes were placed.
use mathlib.Core.Path.{◌≡◌, refl, sym, ◌∙◌}
use mathlib.Core.Bool.{true, false}
use mathlib.Core.List.{List, [], ◌∷◌, ◌++◌}
use Prim.Native.Nat.{ℕ, suc, ◌+◌, ◌-◌, ◌<◌, ◌≤◌}
use native.Mathlib.Omega.{arith}
use native.Mathlib.Numerals.{add-one}
use lib.ListN.{length, get_or, set, take, drop, length-set, length-drop, drop_of_length-le}
use lib.Seq.{sets, sets-eq, drop-cons, drop-drop}
use borrow.Rule.Slice.PartMut.{put_mid}
use Rattle.std.proofs.Common.{append_assoc}
use borrow.Author.Tests.{le-leb, lt-leb, leb-true}
use Rattle.hex_text.specs.Storing.{placed, fits, stored}

pub length-placed : (buffer : List ℕ) (at : ℕ) (bs : List ℕ) → length (placed buffer at bs) ≡ length buffer
unfolding placed
length-placed buffer at [] = refl
length-placed buffer at (b ∷ bs) = length-placed (set buffer at b) (suc at) bs ∙ length-set buffer at b

placed-sets : (buffer : List ℕ) (at : ℕ) (bs : List ℕ) → placed buffer at bs ≡ sets buffer at bs
unfolding placed
placed-sets buffer at [] = refl
placed-sets buffer at (b ∷ bs) = placed-sets (set buffer at b) (suc at) bs

-- where there is room, the bytes stand at their place, and nothing else changes
pub placed-is : (buffer : List ℕ) (at : ℕ) (bs : List ℕ) → at + length bs ≤ length buffer → placed buffer at bs ≡ take at buffer ++ bs ++ drop (at + length bs) buffer
placed-is buffer at bs h = placed-sets buffer at bs ∙ sets-eq bs buffer at h

-- the same of a copy to a part of the buffer
pub copied : (buffer bs : List ℕ) (at k : ℕ) → k ≡ length bs → at + length bs ≤ length buffer → put_mid at k buffer bs ≡ placed buffer at bs
copied buffer bs at k e h = rw (placed-is buffer at bs h, drop-drop k at buffer, e) (sym (append_assoc (take at buffer) bs (drop (at + length bs) buffer)))

-- one byte more of those from i on
pub placed-turn : (bs buffer : List ℕ) (i at v : ℕ) → i < length bs → v ≡ get_or bs i 0 → placed (set buffer at v) (at + 1) (drop (i + 1) bs) ≡ placed buffer at (drop i bs)
unfolding placed
placed-turn bs buffer i at v h e = rw (add-one i, add-one at, drop-cons bs i 0 h, e)

pub placed-over : (bs buffer : List ℕ) (i at : ℕ) → length bs ≤ i → placed buffer at (drop i bs) ≡ buffer
unfolding placed
placed-over bs buffer i at h = rw (drop_of_length-le bs h)

-- the test of `fits` in two steps, neither of which adds
pub fits-yes : (bs buffer : List ℕ) (at n : ℕ) → n ≡ length bs → at ≤ length buffer → n ≤ length buffer - at → fits bs at buffer ≡ true
unfolding fits
fits-yes bs buffer at n e h k = le-leb (at + length bs) (length buffer) (omega arith)

pub fits-no : (bs buffer : List ℕ) (at n : ℕ) → n ≡ length bs → at ≤ length buffer → length buffer - at < n → fits bs at buffer ≡ false
unfolding fits
fits-no bs buffer at n e h k = lt-leb (at + length bs) (length buffer) (omega arith)

pub fits-never : (bs buffer : List ℕ) (at : ℕ) → length buffer < at → fits bs at buffer ≡ false
unfolding fits
fits-never bs buffer at h = lt-leb (at + length bs) (length buffer) (omega arith)

pub fits-room : (bs buffer : List ℕ) (at : ℕ) → fits bs at buffer ≡ true → at + length bs ≤ length buffer
unfolding fits
fits-room bs buffer at e = leb-true (at + length bs) (length buffer) e

pub stored-none : (bs buffer : List ℕ) (at : ℕ) → fits bs at buffer ≡ false → stored bs at buffer ≡ buffer
unfolding stored
stored-none bs buffer at e = rw e

pub stored-all : (bs buffer after : List ℕ) (at n : ℕ) → n ≡ length bs → at ≤ length buffer → n ≤ length buffer - at → after ≡ placed buffer at bs → (true ≡ fits bs at buffer) × (after ≡ stored bs at buffer)
unfolding stored
stored-all bs buffer after at n e h k p = rw (fits-yes bs buffer at n e h k) (refl, p)

pub stored-not : (bs buffer : List ℕ) (at : ℕ) → fits bs at buffer ≡ false → (false ≡ fits bs at buffer) × (buffer ≡ stored bs at buffer)
stored-not bs buffer at e = (sym e, sym (stored-none bs buffer at e))

pub place-room : (bs : List ℕ) (from at n room : ℕ) → n ≡ length (drop from bs) → at ≤ room → n ≤ room - at → at + (length bs - from) ≤ room
place-room bs from at n room e h k = omega (arith, length-drop from bs)

pub placed-none : (buffer : List ℕ) (at : ℕ) → placed buffer at [] ≡ buffer
unfolding placed
placed-none buffer at = refl

pub placed-more : (buffer : List ℕ) (at b : ℕ) (bs : List ℕ) → placed buffer at (b ∷ bs) ≡ placed (set buffer at b) (suc at) bs
unfolding placed
placed-more buffer at b bs = refl
