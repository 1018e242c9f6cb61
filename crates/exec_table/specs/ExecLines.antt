-- What the program `exec_table` writes: a line for each exec byte. Document 02, request 4: "a table of 256 entries, each giving size, offset, mask kind
-- or reserved, which we can print and hang up". The form of a line is ours.
use Rattle.std.specs.Prelude.{ℕ, zero, suc, List, [], ◌∷◌, ◌++◌, cond}
use Rattle.hex_text.specs.Bytes.{hex_of}
use Rattle.formats.specs.Text.{text}
use Rattle.formats.specs.Numerals.{digits_of}
use Rattle.exec_byte.specs.declared.Exec.{Exec}
use Rattle.exec_byte.specs.Exec.{exec_of}

-- `reserved`, or `SIZE OFFSET` and ` NM` if so, and the line's end
unfoldable pub meaning_text : Exec → List ℕ
meaning_text e =
    cond e.reserved (text "reserved" ++ (0x0a ∷ []))
    (digits_of 10 e.size ++ (text " " ++ (digits_of 10 e.offset ++ (cond e.unmasked (text " NM") [] ++ (0x0a ∷ [])))))

-- `94 16 4 NM`, `23 8 8`, `06 reserved`
unfoldable pub entry_line : ℕ → List ℕ
entry_line exec = hex_of (exec ∷ []) ++ (text " " ++ meaning_text (exec_of exec))

-- the lines of the bytes below a number, from 00 on
unfoldable pub lines_below : ℕ → List ℕ
lines_below zero = []
lines_below (suc n) = lines_below n ++ entry_line n

abbrev pub exec_lines : List ℕ
exec_lines = lines_below 256
