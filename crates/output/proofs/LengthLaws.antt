-- How many characters the output's lines have.
use mathlib.Core.Path.{◌≡◌, ◌∙◌}
use mathlib.Core.Bool.{Bool, true, false, cond, ◌||◌}
use mathlib.Core.List.{List, [], ◌∷◌, ◌++◌}
use Prim.Native.Nat.{ℕ, ◌+◌, ◌*◌, ◌≤◌}
use native.Mathlib.Omega.{arith}
use lib.Dec.{eqb}
use lib.ListN.{length, length-append}
use Rattle.little_endian.specs.LittleEndian.{bytes_of}
use Rattle.little_endian.proofs.Laws.{length-bytes}
use Rattle.hex_text.specs.Bytes.{hex_of}
use Rattle.hex_text.proofs.ByteLaws.{length-written}
use Rattle.output.specs.Output.{line_of, answer_line, content_line, memory_line, buffer_lines, output_bytes}

length-line : (bytes : List ℕ) (n : ℕ) → length bytes ≡ n → length (line_of bytes) ≡ 2 * n + 1
unfolding line_of
length-line bytes n e = omega (arith, length-append (hex_of bytes) (10 ∷ []), length-written bytes, e)

pub length-answer : (number completed position : ℕ) → length (answer_line number completed position) ≡ 17
unfolding answer_line
length-answer number completed position =
    length-line (64 ∷ bytes_of 1 number ++ bytes_of 2 completed ++ bytes_of 4 position) 8
    (simp (length-append, length-bytes))

length-content : (kind : ℕ) (bytes : List ℕ) → length (content_line kind bytes) ≡ 2 * length bytes + 3
unfolding content_line
length-content kind bytes = length-line (kind ∷ bytes) (length bytes + 1) (omega arith) ∙ omega arith

length-memory : (base : ℕ) (memory : List ℕ) → length (memory_line base memory) ≡ 2 * length memory + 19
unfolding memory_line
length-memory base memory =
    length-line (5 ∷ bytes_of 8 base ++ memory) (length memory + 9)
    (omega (arith, length-append (bytes_of 8 base) memory, length-bytes 8 base)) ∙ omega arith

pub length-buffers : (base : ℕ) (registers memory register_taint memory_taint : List ℕ) →
    length (buffer_lines base registers memory register_taint memory_taint) ≡ 2 * length registers + 2 * length memory + 2 * length register_taint + 2 * length memory_taint + 28
unfolding buffer_lines
length-buffers base registers memory register_taint memory_taint =
    let x = content_line 1 registers in
    let y = memory_line base memory in
    let z = content_line 8 register_taint in
    let w = content_line 10 memory_taint in
    omega (
      arith,
      length-append (x ++ y ++ z) w,
      length-append (x ++ y) z,
      length-append x y,
      length-content 1 registers,
      length-memory base memory,
      length-content 8 register_taint,
      length-content 10 memory_taint,
    )

-- the 40 line, and the buffers at most
pub length-output : (number completed position : ℕ) (buffers : List ℕ) → length (output_bytes number completed position buffers) ≤ length buffers + 17
unfolding output_bytes
length-output number completed position buffers = told (eqb number 13 || eqb number 14)
  where
    told : (q : Bool) → length (answer_line number completed position ++ cond q [] buffers) ≤ length buffers + 17
    told true = omega (arith, length-append (answer_line number completed position) [], length-answer number completed position)
    told false = omega (arith, length-append (answer_line number completed position) buffers, length-answer number completed position)

pub length-13 : (completed position : ℕ) (buffers : List ℕ) → length (output_bytes 13 completed position buffers) ≡ 17
unfolding output_bytes
length-13 completed position buffers =
    omega (arith, length-append (answer_line 13 completed position) [], length-answer 13 completed position)
