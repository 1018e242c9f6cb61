-- No decoded instruction has a reserved exec byte, and of every other byte the parts are those of before the table.
use Prim.Native.Nat.{ℕ}
use mathlib.Core.Path.{◌≡◌}
use mathlib.Core.Bool.{false}
use mathlib.Core.List.{List, [], ◌∷◌}
use Rattle.little_endian.specs.LittleEndian.{Bytes}
use Rattle.reader.specs.Reply.{got}
use Rattle.exec_byte.specs.Exec.{exec_reserved, exec_size, exec_offset, no_mask, exec_of}
use Rattle.fields.specs.declared.ByteRule.TheVariants as byte
use Rattle.fields.specs.declared.Field.TheVariants.{Byte}
use Rattle.fields.specs.Layout.{layout_refusal}
use Rattle.fields.proofs.FirstRefusal.{good-append}
use Rattle.fields.proofs.ExecGood.{exec-unreserved, scatter-exec-unreserved}
use Rattle.field_groups.proofs.LayoutLaws.{control-exec}
use Rattle.decoder.specs.declared.Instruction.{Instruction}
use Rattle.decoder.specs.declared.Instruction.TheVariants as instruction
use Rattle.decoder.specs.Decoding.{instruction_at}
use Rattle.decoder.specs.Format.{shl_fields, gather_fields, scatter_fields, raw_send_fields, instruction_fields}
use Rattle.decoder.proofs.DecodeEncode.{decode-encode}
use Rattle.plan.specs.Control.{control_of}
use Rattle.earlier.specs.ExecBits.{exec_by_bits}

pub unreserved-parts : (exec : ℕ) → exec_reserved exec ≡ false → exec_of exec ≡ exec_by_bits exec
unfolding exec_by_bits exec_size exec_offset no_mask
unreserved-parts exec good = rw good

-- ---- what encodes, and what decoding accepts

pub encoded-exec : (i : Instruction) → layout_refusal (instruction_fields i) ≡ 0 → exec_reserved (control_of i).exec ≡ false
unfolding instruction_fields shl_fields gather_fields scatter_fields raw_send_fields control_of
encoded-exec (instruction.Shl x) g = exec-unreserved x.control.exec (control-exec byte.Exec x.control _ (good-append (Byte byte.Free 0x24 ∷ []) _ g).1)
encoded-exec (instruction.Gather x) g = exec-unreserved x.control.exec (control-exec byte.Exec x.control _ (good-append (Byte byte.Free 0x78 ∷ []) _ g).1)
encoded-exec (instruction.Scatter x) g =
    scatter-exec-unreserved x.control.exec (control-exec byte.ScatterExec x.control _ (good-append (Byte byte.Free 0x07 ∷ []) _ (good-append (Byte byte.Free 0x4e ∷ []) _ g).1).1)
encoded-exec (instruction.RawSend x) g =
    exec-unreserved x.control.exec (control-exec byte.Exec x.control _ (good-append (Byte byte.Modifiers x.modifiers ∷ []) _ (good-append (Byte byte.Free 0x5d ∷ []) _ g).1).1)

module _ (s : List ℕ) (at : ℕ) (i : Instruction) (next : ℕ) (b : Bytes s) (e : instruction_at s at ≡ got i next) where
  pub decoded-exec : exec_reserved (control_of i).exec ≡ false
  decoded-exec = encoded-exec i (decode-encode s at i next b e).good

  pub decoded-parts : exec_of (control_of i).exec ≡ exec_by_bits (control_of i).exec
  decoded-parts = unreserved-parts (control_of i).exec decoded-exec
