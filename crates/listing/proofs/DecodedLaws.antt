-- What decoding gives has a line, which the format prints, and that is short.
use mathlib.Core.Path.{◌≡◌}
use mathlib.Core.List.{List}
use Prim.Native.Nat.{ℕ, ◌≤◌}
use native.Mathlib.Omega.{arith}
use lib.ListN.{length}
use Rattle.little_endian.specs.LittleEndian.{Bytes}
use Rattle.reader.specs.Reply.{got}
use Rattle.decoder.specs.declared.Instruction.{Instruction}
use Rattle.decoder.specs.Decoding.{instruction_at}
use Rattle.lines.specs.Mirror.Line.{line}
use Rattle.lines.specs.LineOf.{line_of}
use Rattle.lines.proofs.EncodesLaws.{encodes-fits}
use Rattle.lines.proofs.PrintLaws.{line-prints}
use Rattle.lines.proofs.Statements.{decoded-line, line-length}

pub decoded-prints : (kernel : List ℕ) (at : ℕ) (i : Instruction) (next : ℕ) → Bytes kernel → instruction_at kernel at ≡ got i next → (line.print i ≡ line_of i) × (length (line_of i) ≤ 128)
decoded-prints kernel at i next b e =
    let f = decoded-line kernel at i next b e in
    (line-prints i (encodes-fits i f.0 f.1), omega (arith, line-length i f))
