-- Numbers, written byte by byte.
use mathlib.Core.Path.{◌≡◌, sym}
use mathlib.Core.List.{List, [], ◌∷◌, ◌++◌}
use Prim.Native.Nat.{ℕ, ◌/◌, ◌%◌, ◌^◌, ◌<◌}
use native.Mathlib.Omega.{arith}
use Rattle.little_endian.specs.LittleEndian.{bytes_of}
use Rattle.little_endian.proofs.Laws.{bytes_one, bytes-more}
use Rattle.hex_text.specs.Digits.{character_of}
use Rattle.hex_text.specs.Bytes.{hex_of}
use Rattle.hex_text.proofs.ByteLaws.{hex-none, hex-more, hex-append}
use Rattle.output.specs.Mirror.Page.{Page, written}
use Rattle.std.specs.Int.{w16, w32, w64, to_le_bytes}
use Rattle.output.proofs.PageLaws.{written_then}

pub hex-then : (a b : List ℕ) (p q r : Page) → q ≡ written (hex_of a) p → r ≡ written (hex_of b) q → r ≡ written (hex_of (a ++ b)) p
hex-then a b p q r = written_then (hex_of a) (hex_of b) (hex_of (a ++ b)) p q r (sym (hex-append a b))

pub byte-written : (b x y : ℕ) (p q r : Page) → x ≡ character_of (b / 16) → y ≡ character_of (b % 16) → q ≡ written (x ∷ []) p → r ≡ written (y ∷ []) q → r ≡ written (hex_of (b ∷ [])) p
byte-written b x y p q r e f = written_then (x ∷ []) (y ∷ []) (hex_of (b ∷ [])) p q r (rw (hex-more b [], hex-none, e, f))

-- a number's bytes, as the library takes them
pub bytes_as : (a b : List ℕ) (p q : Page) → a ≡ b → q ≡ written (hex_of a) p → q ≡ written (hex_of b) p
bytes_as a b p q e h = rw (← e) h

pub two_bytes : (v : ℕ) → v < 2 ^ 16 → to_le_bytes w16 v ≡ bytes_of 2 v
unfolding bytes_of
two_bytes v h = let b : v / 256 % 256 ≡ v / 256 = omega arith in rw b

pub four_bytes : (v : ℕ) → v < 2 ^ 32 → to_le_bytes w32 v ≡ bytes_of 4 v
unfolding bytes_of
four_bytes v h =
    let b : v / 65536 % 256 ≡ v / 256 / 256 % 256 = omega arith in
    let c : v / 16777216 % 256 ≡ v / 256 / 256 / 256 = omega arith in
    rw (b, c)

pub eight_bytes : (v : ℕ) → v < 2 ^ 64 → to_le_bytes w64 v ≡ bytes_of 8 v
unfolding bytes_of
eight_bytes v h =
    let b : v / 65536 % 256 ≡ v / 256 / 256 % 256 = omega arith in
    let c : v / 16777216 % 256 ≡ v / 256 / 256 / 256 % 256 = omega arith in
    let d : v / 4294967296 % 256 ≡ v / 256 / 256 / 256 / 256 % 256 = omega arith in
    let e : v / 1099511627776 % 256 ≡ v / 256 / 256 / 256 / 256 / 256 % 256 = omega arith in
    let f : v / 281474976710656 % 256 ≡ v / 256 / 256 / 256 / 256 / 256 / 256 % 256 = omega arith in
    let g : v / 72057594037927936 % 256 ≡ v / 256 / 256 / 256 / 256 / 256 / 256 / 256 = omega arith in
    rw (b, c, d, e, f, g)

-- the same of the bytes, one by one
pub four_bytes_lem : (v : ℕ) → v < 4294967296 → v % 256 ∷ v / 256 % 256 ∷ v / 65536 % 256 ∷ v / 16777216 % 256 ∷ [] ≡ bytes_of 4 v
four_bytes_lem v h =
    let e : v / 65536 % 256 ≡ v / 256 / 256 % 256 = omega arith in
    let f : v / 16777216 % 256 ≡ v / 256 / 256 / 256 = omega arith in
    rw (bytes-more 2 v, bytes-more 1 (v / 256), bytes-more 0 (v / 256 / 256), bytes_one (v / 256 / 256 / 256), e, f)
