-- A decoded scatter has 8 or 16 lanes.
use mathlib.Core.Path.{◌≡◌}
use mathlib.Core.List.{List, [], ◌∷◌}
use Prim.Native.Nat.{ℕ}
use Rattle.little_endian.specs.LittleEndian.{Bytes}
use Rattle.reader.specs.Reply.{got}
use Rattle.exec_byte.specs.Exec.{exec_size}
use Rattle.fields.specs.declared.ByteRule.TheVariants as byte
use Rattle.fields.specs.declared.Field.TheVariants.{Byte}
use Rattle.fields.specs.Layout.{layout_refusal}
use Rattle.fields.proofs.FirstRefusal.{good-append}
use Rattle.fields.proofs.ExecGood.{EightOrSixteen, scatter-exec-lanes}
use Rattle.field_groups.proofs.LayoutLaws.{control-exec}
use Rattle.decoder.specs.declared.Scatter.{Scatter}
use Rattle.decoder.specs.declared.Instruction.TheVariants as instruction
use Rattle.decoder.specs.Decoding.{instruction_at}
use Rattle.decoder.specs.Format.{scatter_fields, instruction_fields}
use Rattle.decoder.proofs.DecodeEncode.{decode-encode}

-- the exec byte stands after opcode and sub-opcode
good-exec : (x : Scatter) → layout_refusal (scatter_fields x) ≡ 0 → EightOrSixteen (exec_size x.control.exec)
unfolding scatter_fields
good-exec x g =
    let opcodes = Byte byte.Free 0x4e ∷ Byte byte.Free 0x07 ∷ [] in
    scatter-exec-lanes x.control.exec (control-exec byte.ScatterExec x.control _ (good-append opcodes _ g).1)

pub decoded-scatter : (s : List ℕ) (at : ℕ) (x : Scatter) (next : ℕ) → Bytes s → instruction_at s at ≡ got (instruction.Scatter x) next → EightOrSixteen (exec_size x.control.exec)
unfolding instruction_fields
decoded-scatter s at x next b e = good-exec x (decode-encode s at (instruction.Scatter x) next b e).good
