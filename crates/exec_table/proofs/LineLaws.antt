-- The lines of the exec bytes: written piece by piece, and how long they are.
use mathlib.Core.Path.{◌≡◌, refl, ap, ◌∙◌}
use mathlib.Core.List.{List, [], ◌∷◌, ◌++◌}
use mathlib.Core.Bool.{true, false}
use Prim.Native.Nat.{ℕ, zero, suc, ◌+◌, ◌*◌, ◌≤◌, ◌<◌}
use native.Mathlib.Omega.{arith}
use native.Mathlib.Numerals.{add-one}
use lib.Dec.{leb}
use lib.ListN.{length, take, length-append}
use borrow.Author.Tests.{leb-true}
use Rattle.hex_text.specs.Digits.{character_of}
use Rattle.hex_text.specs.Bytes.{hex_of}
use Rattle.formats.specs.Text.{text}
use Rattle.formats.specs.Words.{words, word_at}
use Rattle.formats.specs.Numerals.{digits, digits_of}
use Rattle.format_writers.specs.Writing.{wrote, written}
use Rattle.format_writers.specs.declared.Page.{Page}
use Rattle.format_writers.specs.Pages.{Writes}
use Rattle.format_writers.proofs.WritingLaws.{wrote_none, wrote-text}
use Rattle.format_writers.proofs.PageLaws.{writes_then}
use Rattle.exec_byte.specs.declared.Exec.{Exec}
use Rattle.bits.specs.Bits.{bit, bit_field}
use Rattle.bits.specs.Below.{every_below}
use Rattle.exec_byte.specs.Exec.{exec_reserved, exec_size, mask_control, mask_number, exec_offset, no_mask, exec_of}
use Rattle.bits.proofs.Every.{every-each}
use Rattle.exec_table.specs.ExecLines.{meaning_text, entry_line, lines_below, exec_lines}

-- ---- written

-- how a line ends in a table of words
abbrev feed : List ℕ
feed = 0x0a ∷ 0x7c ∷ []

pub reserved-text : (e : Exec) → e.reserved ≡ true → meaning_text e ≡ word_at (words (text "reserved" ++ feed)) 0
unfolding meaning_text words word_at
reserved-text e h = rw h

-- how a line ends, with NM and without
pub unmasked-text : (e : Exec) → e.reserved ≡ false → e.unmasked ≡ true
    → meaning_text e ≡ digits_of 10 e.size ++ (word_at (words (text " |")) 0 ++ (digits_of 10 e.offset ++ word_at (words (text " NM" ++ feed)) 0))
unfolding meaning_text words word_at
unmasked-text e h u = rw (h, u)

pub masked-text : (e : Exec) → e.reserved ≡ false → e.unmasked ≡ false
    → meaning_text e ≡ digits_of 10 e.size ++ (word_at (words (text " |")) 0 ++ (digits_of 10 e.offset ++ word_at (words feed) 0))
unfolding meaning_text words word_at
masked-text e h u = rw (h, u)

pub entry-text : (byte : ℕ) (e : Exec) → e ≡ exec_of byte → entry_line byte ≡ hex_of (byte ∷ []) ++ (word_at (words (text " |")) 0 ++ meaning_text e)
unfolding entry_line words word_at
entry-text byte e h = rw h

pub no_lines : (l : List ℕ) → wrote 0 l ≡ written l 0 (lines_below 0)
unfolding lines_below
no_lines l = wrote_none l [] 0 (omega arith) refl

pub one_more_line : {a b c : Page} (byte : ℕ) → Writes a b (lines_below byte) → Writes b c (entry_line byte) → Writes a c (lines_below (byte + 1))
unfolding lines_below
one_more_line byte p q = rw (add-one byte) (writes_then p q)

pub all_lines : (l m : List ℕ) (to byte : ℕ) → byte ≤ 256 → 256 ≤ byte → wrote to m ≡ written l 0 (lines_below byte) → wrote to m ≡ written l 0 exec_lines
all_lines l m to byte h g p = let e : byte ≡ 256 = omega (arith, h, g) in p ∙ ap (λ (n : ℕ). written l 0 (lines_below n)) e

-- ---- how long

-- no line has more than 16 characters: one test of all of them, computed
all_short : every_below 256 (λ k. leb (length (entry_line k)) 16) ≡ true
unfolding every_below entry_line meaning_text hex_of character_of digits bit bit_field exec_reserved exec_size mask_control mask_number exec_offset no_mask
all_short = refl

line-short : (byte : ℕ) → byte < 256 → length (entry_line byte) ≤ 16
line-short byte h = leb-true (length (entry_line byte)) 16 (every-each (λ k. leb (length (entry_line k)) 16) 256 all_short byte h)

lines-short : (n : ℕ) → n ≤ 256 → length (lines_below n) ≤ 16 * n
unfolding lines_below
lines-short zero h = omega arith
lines-short (suc n) h = omega (arith, length-append (lines_below n) (entry_line n), lines-short n (omega (arith, h)), line-short n (omega (arith, h)))

pub table-written : (l m : List ℕ) (e : ℕ) → 4096 ≤ length l → wrote e m ≡ written l 0 exec_lines → (e ≡ length exec_lines) × (take e m ≡ exec_lines)
table-written l m e room p = wrote-text l exec_lines e m (omega (arith, lines-short 256 (omega arith), room)) p
