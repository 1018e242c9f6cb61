-- The kernel that a line is, in its buffer.
use mathlib.Core.Path.{◌≡◌, refl, sym, ap, ◌∙◌}
use mathlib.Core.Bool.{Bool, true, false, true≢false, not}
use mathlib.Core.List.{List, [], ◌∷◌}
use Prim.Native.Nat.{ℕ, zero, suc, ◌+◌, ◌*◌, ◌≤◌}
use native.Mathlib.Omega.{arith}
use lib.Dec.{ltb}
use lib.ListN.{length, take, drop}
use lib.Seq.{take-append_seam}
use borrow.Author.Tests.{eq-eqb, ne_eqb}
use Rattle.little_endian.specs.LittleEndian.{Bytes}
use Rattle.hex_text.specs.Bytes.{is_hex, hex_bytes}
use Rattle.hex_text.specs.Storing.{stored}
use Rattle.hex_text.proofs.ByteLaws.{length-hex}
use Rattle.hex_text.proofs.StoringLaws.{fits-yes, placed-is}
use Rattle.listing.specs.Mirror.Parts.{is_kernel_in, kernel_in}

-- what a line is, and what stands in the buffer's start
abbrev pub Loads : Bool → List ℕ → Bool → ℕ → List ℕ → Type 0
Loads long characters good size kernel = (good ≡ is_kernel_in long characters) × (take size kernel ≡ kernel_in long characters)

pub load-long : (long : Bool) (characters : List ℕ) → long ≡ true → Loads long characters false 0 []
unfolding is_kernel_in kernel_in
load-long long characters h = rw h (refl, refl)

nothing : (characters : List ℕ) → length characters ≡ 0 → hex_bytes characters ≡ []
unfolding hex_bytes
nothing [] h = refl
nothing (c ∷ characters) h = absurd (omega (arith, h))

pub load-empty : (long : Bool) (characters : List ℕ) → long ≡ false → length characters ≡ 0 → Loads long characters true 0 []
unfolding is_kernel_in kernel_in
load-empty long characters h e = rw (h, eq-eqb (length characters) 0 e) (refl, sym (nothing characters e))

-- the test as the function asks it
pub not_so : (a b : Bool) → a ≡ b → not a ≡ true → b ≡ false
not_so true b e n = absurd (true≢false (sym n))
not_so false b e n = sym e

pub is-so : (a b : Bool) → a ≡ b → not a ≡ false → b ≡ true
is-so true b e n = sym e
is-so false b e n = absurd (true≢false n)

pub load-bad : (long : Bool) (characters : List ℕ) → long ≡ false → (length characters ≡ 0 → ⊥) → is_hex characters ≡ false → Loads long characters false 0 []
unfolding is_kernel_in kernel_in
load-bad long characters h e b = rw (h, ne_eqb (length characters) 0 e, b) (refl, refl)

stored-start : (bytes kernel : List ℕ) → length bytes ≤ length kernel → take (length bytes) (stored bytes 0 kernel) ≡ bytes
unfolding stored
stored-start bytes kernel h =
    rw (fits-yes bytes kernel 0 (length bytes) refl (omega arith) (omega (arith, h)))
    (ap (take (length bytes)) (placed-is kernel 0 bytes (omega (arith, h))) ∙ take-append_seam bytes (drop (0 + length bytes) kernel))

pub load-good : (long : Bool) (characters kernel after : List ℕ) (size : ℕ) → long ≡ false → (length characters ≡ 0 → ⊥) → is_hex characters ≡ true → length characters ≤ 2 * length kernel →
    after ≡ stored (hex_bytes characters) 0 kernel → size ≡ length (hex_bytes characters) → Loads long characters true size after
unfolding is_kernel_in kernel_in
load-good long characters kernel after size h e b r s n =
    let k : length (hex_bytes characters) ≤ length kernel = omega (arith, length-hex characters, r) in
    rw (h, ne_eqb (length characters) 0 e, b, s, n) (refl, stored-start (hex_bytes characters) kernel k)

-- ---- parts of buffers

pub take-inside : (n : ℕ) (l : List ℕ) → length (take n l) ≤ length l
take-inside zero l = omega arith
take-inside (suc n) [] = omega arith
take-inside (suc n) (c ∷ l) = omega (arith, take-inside n l)

pub take-bytes : (n : ℕ) (l : List ℕ) → Bytes l → Bytes (take n l)
take-bytes zero l b k = omega arith
take-bytes (suc n) [] b k = omega arith
take-bytes (suc n) (c ∷ l) b zero = b zero
take-bytes (suc n) (c ∷ l) b (suc k) = take-bytes n l (λ j. b (suc j)) k

pub part_room : (part line kernel : List ℕ) (n : ℕ) → part ≡ take n line → length line ≤ 2 * length kernel → length part ≤ 2 * length kernel
part_room part line kernel n e h = rw e (omega (arith, take-inside n line, h))

pub part-test : (at n : ℕ) (part l : List ℕ) → part ≡ take n l → ltb at (length part) ≡ ltb at (length (take n l))
part-test at n part l e = ap (λ (x : List ℕ). ltb at (length x)) e
