-- Lines, written part by part.
use mathlib.Core.Path.{◌≡◌, refl}
use mathlib.Core.List.{List, [], ◌∷◌, ◌++◌}
use Prim.Native.Nat.{ℕ, ◌+◌, ◌<◌}
use lib.ListN.{length, get_or, take}
use Rattle.little_endian.specs.LittleEndian.{bytes_of}
use Rattle.little_endian.proofs.Laws.{bytes_one}
use Rattle.hex_text.specs.Bytes.{hex_of}
use Rattle.hex_text.proofs.ByteLaws.{hex-none, hex-append}
use Rattle.output.specs.Mirror.Page.{Page, written}
use Rattle.output.specs.Output.{line_of, answer_line, content_line, memory_line, buffer_lines}
use Rattle.output.proofs.PageLaws.{written-append, written_then}
use Rattle.std.proofs.lemmas.List.{take_more}
use Rattle.output.proofs.NumberLaws.{hex-then}

pub line-written : (bytes : List ℕ) (p q r : Page) → q ≡ written (hex_of bytes) p → r ≡ written (10 ∷ []) q → r ≡ written (line_of bytes) p
unfolding line_of
line-written bytes p q r = written_then (hex_of bytes) (10 ∷ []) (hex_of bytes ++ (10 ∷ [])) p q r refl

pub answer-written : (number completed position : ℕ) (p q r s t : Page) →
    q ≡ written (hex_of (64 ∷ number ∷ [])) p → r ≡ written (hex_of (bytes_of 2 completed)) q → s ≡ written (hex_of (bytes_of 4 position)) r → t ≡ written (10 ∷ []) s →
    t ≡ written (answer_line number completed position) p
unfolding answer_line
answer-written number completed position p q r s t a b c d =
    rw (bytes_one number)
    (line-written (64 ∷ number ∷ bytes_of 2 completed ++ bytes_of 4 position) p s t
    (hex-then (64 ∷ number ∷ []) (bytes_of 2 completed ++ bytes_of 4 position) p q s a
    (hex-then (bytes_of 2 completed) (bytes_of 4 position) q r s b c)) d)

pub content-written : (kind : ℕ) (bytes : List ℕ) (p q r s : Page) →
    q ≡ written (hex_of (kind ∷ [])) p → r ≡ written (hex_of bytes) q → s ≡ written (10 ∷ []) r → s ≡ written (content_line kind bytes) p
unfolding content_line
content-written kind bytes p q r s a b c = line-written (kind ∷ bytes) p r s (hex-then (kind ∷ []) bytes p q r a b) c

pub memory-written : (base : ℕ) (memory : List ℕ) (p q r s t : Page) →
    q ≡ written (hex_of (5 ∷ [])) p → r ≡ written (hex_of (bytes_of 8 base)) q → s ≡ written (hex_of memory) r → t ≡ written (10 ∷ []) s → t ≡ written (memory_line base memory) p
unfolding memory_line
memory-written base memory p q r s t a b c d =
    line-written (5 ∷ bytes_of 8 base ++ memory) p s t
    (hex-then (5 ∷ []) (bytes_of 8 base ++ memory) p q s a (hex-then (bytes_of 8 base) memory q r s b c)) d

pub buffers-written : (base : ℕ) (registers memory register_taint memory_taint : List ℕ) (p q r s t : Page) →
    q ≡ written (content_line 1 registers) p → r ≡ written (memory_line base memory) q → s ≡ written (content_line 8 register_taint) r → t ≡ written (content_line 10 memory_taint) s →
    t ≡ written (buffer_lines base registers memory register_taint memory_taint) p
unfolding buffer_lines
buffers-written base registers memory register_taint memory_taint p q r s t a b c d =
    let x = content_line 1 registers in
    let y = memory_line base memory in
    let z = content_line 8 register_taint in
    let w = content_line 10 memory_taint in
    written_then (x ++ y ++ z) w (x ++ y ++ z ++ w) p s t refl
    (written_then (x ++ y) z (x ++ y ++ z) p r s refl (written_then x y (x ++ y) p q r refl a b) c) d

-- bytes, one after the other
pub bytes_none : (p : Page) → written (hex_of []) p ≡ p
unfolding written
bytes_none p = rw hex-none

pub bytes_more : (bytes : List ℕ) (i : ℕ) (p : Page) → i < length bytes → written (hex_of (take (i + 1) bytes)) p ≡ written (hex_of (get_or bytes i 0 ∷ [])) (written (hex_of (take i bytes)) p)
bytes_more bytes i p h = rw (take_more bytes i 0 h, hex-append (take i bytes) (get_or bytes i 0 ∷ [])) (written-append (hex_of (take i bytes)) (hex_of (get_or bytes i 0 ∷ [])) p)
