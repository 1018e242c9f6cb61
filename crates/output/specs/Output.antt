-- What the bench writes. Document 01, "The bench table": "It writes 40 (number ub, completed uw, position ud), then 01, 05, 08, 0a."
use Rattle.std.specs.Prelude.{ℕ, cond, ◌||◌, List, [], ◌∷◌, ◌++◌, eqb}
use Rattle.little_endian.specs.LittleEndian.{bytes_of}
use Rattle.hex_text.specs.Bytes.{hex_of}

-- "A line ends in 0x0a"
unfoldable pub line_of : List ℕ → List ℕ
line_of bytes = hex_of bytes ++ (0x0a ∷ [])

unfoldable pub answer_line : ℕ → ℕ → ℕ → List ℕ
answer_line number completed position = line_of (0x40 ∷ bytes_of 1 number ++ bytes_of 2 completed ++ bytes_of 4 position)

-- "01 registers", "08, .. 0a marks of registers, .. memory"
unfoldable pub content_line : ℕ → List ℕ → List ℕ
content_line kind bytes = line_of (kind ∷ bytes)

-- "05 base uq and memory"
unfoldable pub memory_line : ℕ → List ℕ → List ℕ
memory_line base memory = line_of (0x05 ∷ bytes_of 8 base ++ memory)

unfoldable pub buffer_lines : ℕ → List ℕ → List ℕ → List ℕ → List ℕ → List ℕ
buffer_lines base registers memory register_taint memory_taint =
    content_line 0x01 registers ++ memory_line base memory ++ content_line 0x08 register_taint ++ content_line 0x0a memory_taint

-- for 14 "only the 40 line", "13 likewise"
unfoldable pub output_bytes : ℕ → ℕ → ℕ → List ℕ → List ℕ
output_bytes number completed position buffers =
    answer_line number completed position ++ cond (eqb number 13 || eqb number 14) [] buffers
