-- The frames that come "once at most". Document 01, "The bench table": "01 registers, .. 05 base uq and memory, 06 EM ud, 07 kernel,
-- 08, 09, 0a marks of registers, surfaces in order, memory"; document 02, request 5: "A frame 0b with one byte, 20 or 40 in hex, picks the size".
use Rattle.std.specs.Prelude.{ℕ, true, cond, List, ltb, eqb, length, get_or, drop}
use Rattle.little_endian.specs.LittleEndian.{number_at}
use Rattle.hex_text.specs.Storing.{fits, stored}
use Rattle.tally.specs.declared.Case.{Case}
use Rattle.tally.specs.Mirror.Reading.{Contents, contents}
use Rattle.tally.specs.Mirror.Lines.{bad_line, good_line, met_of, counted, sized, based, masked, registers_sized}

pub record Kept : Type 0 where
  pub case : Case
  pub buffer : List ℕ

abbrev pub kept : Case → List ℕ → Kept
kept case buffer = record { case = case; buffer = buffer }

-- the bytes go to the buffer's start; if they do not fit, the buffer stays, and the case is 13
unfoldable pub content_read : ℕ → List ℕ → Kept → Kept
content_read kind bytes k =
    kept
    (sized kind (length bytes) (counted kind 1 (good_line (fits bytes 0 k.buffer) k.case)))
    (stored bytes 0 k.buffer)

-- "05 base uq and memory": eight bytes at least
unfoldable pub memory_read : List ℕ → Kept → Kept
memory_read bytes k =
    cond (ltb (length (drop 1 bytes)) 8)
    (kept (bad_line k.case) k.buffer)
    (kept (based (number_at 8 bytes 1) (content_read 5 (drop 9 bytes) k).case) (content_read 5 (drop 9 bytes) k).buffer)

-- "06 EM ud": four bytes
unfoldable pub mask_read : List ℕ → Case → Case
mask_read bytes c =
    cond (eqb (length (drop 1 bytes)) 4)
    (masked (number_at 4 bytes 1) (counted 6 1 (good_line true c)))
    (bad_line c)

-- "A frame 0b with one byte": any byte, which is stored as it stands; a size that is neither 32 nor 64 is 13, as the run says
unfoldable pub register_size_read : List ℕ → Case → Case
register_size_read bytes c =
    cond (eqb (length (drop 1 bytes)) 1)
    (registers_sized (get_or bytes 1 0) (counted 11 1 (good_line true c)))
    (bad_line c)

pub record Once : Type 0 where
  pub case : Case
  pub contents : Contents

abbrev pub once : Case → Contents → Once
once case contents = record { case = case; contents = contents }

-- what a frame made of the buffer that is its own
abbrev pub in_registers : Contents → Kept → Once
in_registers t k = once k.case (contents k.buffer t.memory t.kernel t.register_taint t.surface_taint t.memory_taint)

abbrev pub in_memory : Contents → Kept → Once
in_memory t k = once k.case (contents t.registers k.buffer t.kernel t.register_taint t.surface_taint t.memory_taint)

abbrev pub in_kernel : Contents → Kept → Once
in_kernel t k = once k.case (contents t.registers t.memory k.buffer t.register_taint t.surface_taint t.memory_taint)

abbrev pub in_register_taint : Contents → Kept → Once
in_register_taint t k = once k.case (contents t.registers t.memory t.kernel k.buffer t.surface_taint t.memory_taint)

abbrev pub in_surface_taint : Contents → Kept → Once
in_surface_taint t k = once k.case (contents t.registers t.memory t.kernel t.register_taint k.buffer t.memory_taint)

abbrev pub in_memory_taint : Contents → Kept → Once
in_memory_taint t k = once k.case (contents t.registers t.memory t.kernel t.register_taint t.surface_taint k.buffer)

-- the second of a kind is a bad line, and so is a kind not listed
unfoldable pub once_read : ℕ → List ℕ → Once → Once
once_read kind bytes o =
    cond (ltb 0 (met_of kind o.case)) (once (bad_line o.case) o.contents)
    (cond (eqb kind 1) (in_registers o.contents (content_read 1 (drop 1 bytes) (kept o.case o.contents.registers)))
    (cond (eqb kind 5) (in_memory o.contents (memory_read bytes (kept o.case o.contents.memory)))
    (cond (eqb kind 6) (once (mask_read bytes o.case) o.contents)
    (cond (eqb kind 7) (in_kernel o.contents (content_read 7 (drop 1 bytes) (kept o.case o.contents.kernel)))
    (cond (eqb kind 8) (in_register_taint o.contents (content_read 8 (drop 1 bytes) (kept o.case o.contents.register_taint)))
    (cond (eqb kind 9) (in_surface_taint o.contents (content_read 9 (drop 1 bytes) (kept o.case o.contents.surface_taint)))
    (cond (eqb kind 10) (in_memory_taint o.contents (content_read 10 (drop 1 bytes) (kept o.case o.contents.memory_taint)))
    (cond (eqb kind 11) (once (register_size_read bytes o.case) o.contents)
    (once (bad_line o.case) o.contents)))))))))
