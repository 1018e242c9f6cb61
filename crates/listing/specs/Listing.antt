-- What the program `listing` writes: for each line of its input, a kernel in lower-case hex, the lines of its instructions.
use Rattle.std.specs.Prelude.{ℕ, zero, suc, Bool, cond, ◌&&◌, ◌||◌, ltb, leb, eqb, length}
use mathlib.Core.List.{List, [], ◌++◌, map, flatten}
use Rattle.hex_text.specs.Bytes.{is_hex, hex_bytes}
use Rattle.formats.specs.Text.{text}
use Rattle.formats.specs.Numerals.{digits_of}
use Rattle.reader.specs.Reply.{on_reply}
use Rattle.decoder.specs.Decoding.{instruction_at}
use Rattle.lines.specs.LineOf.{line_of}
use Rattle.line_blocks.specs.LinesOf.{line_end, lines_of}

-- `! NUMBER POSITION`
unfoldable pub refusal_line : ℕ → ℕ → List ℕ
refusal_line number position = text "! " ++ (digits_of 10 number ++ (text " " ++ (digits_of 10 position ++ line_end)))

-- the line of the instruction at a position, or of its refusal
unfoldable pub step_text : List ℕ → ℕ → List ℕ
step_text kernel at = on_reply (instruction_at kernel at) (λ n. refusal_line n at) (λ r. line_of r.value ++ line_end)

-- where listing goes on: behind the instruction, and after a refusal at the kernel's end
unfoldable pub step_next : List ℕ → ℕ → ℕ
step_next kernel at = on_reply (instruction_at kernel at) (λ n. length kernel) (λ r. r.next)

-- the lines from a position on, a number of them at most
unfoldable pub steps : ℕ → List ℕ → ℕ → List ℕ
steps zero kernel at = []
steps (suc n) kernel at = cond (ltb at (length kernel)) (step_text kernel at ++ steps n kernel (step_next kernel at)) []

-- all of them: there are no more than the kernel has bytes
unfoldable pub listed_from : List ℕ → ℕ → List ℕ
listed_from kernel at = steps (length kernel) kernel at

-- a line that is a kernel, of 65,536 bytes at most; an empty one is the empty kernel
unfoldable pub is_kernel : List ℕ → Bool
is_kernel line = leb (length line) 131072 && (eqb (length line) 0 || is_hex line)

-- one line of input; 14 for one that is no kernel
unfoldable pub listed : List ℕ → List ℕ
listed line = cond (is_kernel line) (listed_from (hex_bytes line) 0) (refusal_line 14 0)

unfoldable pub listing_output : List ℕ → List ℕ
listing_output input = flatten (map listed (lines_of input))
