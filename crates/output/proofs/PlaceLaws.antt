-- The digits of bytes in a buffer that has room for them.
use mathlib.Core.Path.{◌≡◌}
use mathlib.Core.List.{List, ◌∷◌}
use Prim.Native.Nat.{ℕ, suc, ◌+◌, ◌*◌, ◌-◌, ◌/◌, ◌%◌, ◌≤◌, ◌<◌}
use native.Mathlib.Omega.{arith}
use native.Mathlib.Numerals.{add-one}
use lib.ListN.{length, get_or, set, drop, drop_of_length-le}
use lib.Seq.{drop-cons}
use Rattle.hex_text.specs.Digits.{character_of}
use Rattle.hex_text.specs.Bytes.{hex_of}
use Rattle.hex_text.specs.Storing.{placed}
use Rattle.hex_text.proofs.ByteLaws.{hex-none, hex-more, length-written}
use Rattle.hex_text.proofs.StoringLaws.{placed-none, placed-more}
use Rattle.output.specs.Mirror.Page.{page, written}
use Rattle.output.proofs.PageLaws.{written-room}

pub place_none : (bytes out : List ℕ) (at : ℕ) → placed out (at + 2 * 0) (hex_of bytes) ≡ placed out at (hex_of bytes)
place_none bytes out at = let e : at + 2 * 0 ≡ at = omega arith in rw e

-- one byte more of those from i on
pub place_turn : (bytes out : List ℕ) (i at high low : ℕ) → i < length bytes → high ≡ character_of (get_or bytes i 0 / 16) → low ≡ character_of (get_or bytes i 0 % 16) →
    placed (set (set out (at + 2 * i) high) (at + 2 * i + 1) low) (at + 2 * (i + 1)) (hex_of (drop (i + 1) bytes)) ≡ placed out (at + 2 * i) (hex_of (drop i bytes))
place_turn bytes out i at high low h e f =
    let n : at + 2 * (i + 1) ≡ suc (suc (at + 2 * i)) = omega arith in
    let k : at + 2 * i + 1 ≡ suc (at + 2 * i) = omega arith in
    rw (n, k, add-one i, drop-cons bytes i 0 h, hex-more (get_or bytes i 0) (drop (suc i) bytes), placed-more out (at + 2 * i) (character_of (get_or bytes i 0 / 16)) (character_of (get_or bytes i 0 % 16) ∷ hex_of (drop (suc i) bytes)), placed-more (set out (at + 2 * i) (character_of (get_or bytes i 0 / 16))) (suc (at + 2 * i)) (character_of (get_or bytes i 0 % 16)) (hex_of (drop (suc i) bytes)), e, f)

pub place_over : (bytes out : List ℕ) (i at : ℕ) → length bytes ≤ i → placed out at (hex_of (drop i bytes)) ≡ out
place_over bytes out i at h = rw (drop_of_length-le bytes h, hex-none, placed-none out at)

pub bytes_placed : (bytes out after : List ℕ) (at : ℕ) → at ≤ length out → length bytes ≤ (length out - at) / 2 → after ≡ placed out at (hex_of bytes) →
    page after (at + 2 * length bytes) ≡ written (hex_of bytes) (page out at)
bytes_placed bytes out after at h k e =
    let n : length (hex_of bytes) ≡ 2 * length bytes = length-written bytes in
    let room : at + length (hex_of bytes) ≤ length out = omega (arith, n, h, k) in
    rw (written-room (hex_of bytes) out at room, n, e)
