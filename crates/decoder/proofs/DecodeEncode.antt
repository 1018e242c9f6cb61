-- Decoding, then encoding: what decoding accepts is laid out in exactly the bytes that it was decoded from, and is good.
use mathlib.Core.Path.{◌≡◌, subst}
use mathlib.Core.Logic.{◌≢◌}
use mathlib.Core.List.{List, [], ◌∷◌}
use mathlib.Core.Bool.{true}
use Prim.Native.Nat.{ℕ}
use native.Mathlib.Omega.{arith}
use lib.Dec.{eqb}
use borrow.Author.Tests.{eqb-true}
use Rattle.little_endian.specs.LittleEndian.{Bytes}
use Rattle.reader.specs.Reply.{Reply, refused, Read, got}
use Rattle.reader.proofs.Laws.{cond-then}
use Rattle.fields.specs.declared.TagRule.TheVariants as tag
use Rattle.fields.specs.declared.ByteRule.TheVariants as byte
use Rattle.fields.specs.declared.WordRule.TheVariants as word
use Rattle.fields.specs.declared.Field.TheVariants.{Byte}
use Rattle.fields.proofs.Laws.{Parsed, parsed-then, ParsedAs, Given, given-then, byte-given, word-given}
use Rattle.field_groups.proofs.Parsed.{control-given, access-given, message-given}
use Rattle.operand_fields.proofs.Parsed.{read_as, operand-given, scalar-and-raws-given}
use Rattle.decoder.specs.declared.Instruction.{Instruction}
use Rattle.decoder.specs.Decoding.{shl_at, gather_at, scatter_at, svm_at, raw_send_at, instruction_at}
use Rattle.decoder.specs.Format.{shl_fields, gather_fields, scatter_fields, raw_send_fields, instruction_fields}

two-refuses : ◌≢◌ {A = ℕ} 2 0
two-refuses = λ (z : ◌≡◌ {A = ℕ} 2 0). omega arith

module _ (s : List ℕ) (b : Bytes s) where
  -- each instruction, with its opcode in front

  shl-given : (at next : ℕ) → Parsed s at next (Byte byte.Free 0x24 ∷ []) → Given instruction_fields s at (shl_at s next)
  unfolding shl_at instruction_fields shl_fields
  shl-given at next p =
      given-then (control-given s b byte.Exec next) (λ control p₁.
      given-then (operand-given s b tag.Destination control.next) (λ destination p₂.
      given-then (operand-given s b tag.Source destination.next) (λ source p₃.
      given-then (operand-given s b tag.Source source.next) (λ count p₄.
      record { is = parsed-then p (parsed-then p₁ (parsed-then p₂ (parsed-then p₃ p₄))) }))))

  gather-given : (at next : ℕ) → Parsed s at next (Byte byte.Free 0x78 ∷ []) → Given instruction_fields s at (gather_at s next)
  unfolding gather_at instruction_fields gather_fields
  gather-given at next p =
      given-then (control-given s b byte.Exec next) (λ control p₁.
      given-then (access-given s b control.next) (λ access p₂.
      given-then (scalar-and-raws-given s b access.next) (λ last p₃.
      record { is = parsed-then p (parsed-then p₁ (parsed-then p₂ p₃)) })))

  scatter-given : (at middle next : ℕ) → Parsed s at middle (Byte byte.Free 0x4e ∷ []) → Parsed s middle next (Byte byte.Free 0x07 ∷ []) → Given instruction_fields s at (scatter_at s next)
  unfolding scatter_at instruction_fields scatter_fields
  scatter-given at middle next p q =
      given-then (control-given s b byte.ScatterExec next) (λ control p₁.
      given-then (byte-given s b byte.Channels control.next) (λ channels p₂.
      given-then (word-given s b word.Free channels.next) (λ scale p₃.
      given-then (scalar-and-raws-given s b scale.next) (λ last p₄.
      record { is = parsed-then p (parsed-then q (parsed-then p₁ (parsed-then p₂ (parsed-then p₃ p₄)))) }))))

  svm-given : (at next : ℕ) → Parsed s at next (Byte byte.Free 0x4e ∷ []) → Given instruction_fields s at (svm_at s next)
  unfolding svm_at
  svm-given at next p =
      let P = Given instruction_fields s at in
      given-then (byte-given s b byte.Free next) (λ opcode q.
      cond-then P (eqb opcode.value 0x07)
      (λ e. scatter-given at next opcode.next p (read_as s byte.Free next opcode.value 0x07 opcode.next (eqb-true opcode.value 0x07 e) q))
      (λ _. record { is = two-refuses }))

  raw-send-given : (at next : ℕ) → Parsed s at next (Byte byte.Free 0x5d ∷ []) → Given instruction_fields s at (raw_send_at s next)
  unfolding raw_send_at instruction_fields raw_send_fields
  raw-send-given at next p =
      given-then (byte-given s b byte.Modifiers next) (λ modifiers p₁.
      given-then (control-given s b byte.Exec modifiers.next) (λ control p₂.
      given-then (message-given s b control.next) (λ message p₃.
      given-then (scalar-and-raws-given s b message.next) (λ last p₄.
      record { is = parsed-then p (parsed-then p₁ (parsed-then p₂ (parsed-then p₃ p₄))) }))))

  instruction-given : (at : ℕ) → Given instruction_fields s at (instruction_at s at)
  unfolding instruction_at
  instruction-given at =
      let P = Given instruction_fields s at in
      given-then (byte-given s b byte.Free at) (λ opcode p.
      let is : (t : ℕ) → eqb opcode.value t ≡ true → Parsed s at opcode.next (Byte byte.Free t ∷ []) = λ t e. read_as s byte.Free at opcode.value t opcode.next (eqb-true opcode.value t e) p in
      cond-then P (eqb opcode.value 0x24) (λ e. shl-given at opcode.next (is 0x24 e)) (λ _.
      cond-then P (eqb opcode.value 0x78) (λ e. gather-given at opcode.next (is 0x78 e)) (λ _.
      cond-then P (eqb opcode.value 0x4e) (λ e. svm-given at opcode.next (is 0x4e e)) (λ _.
      cond-then P (eqb opcode.value 0x5d) (λ e. raw-send-given at opcode.next (is 0x5d e)) (λ _.
      record { is = two-refuses })))))

-- from the start to the end stand exactly the instruction's bytes, and none of its fields is refused
pub decode-encode : (s : List ℕ) (at : ℕ) (i : Instruction) (next : ℕ) → Bytes s → instruction_at s at ≡ got i next → Parsed s at next (instruction_fields i)
decode-encode s at i next b e = subst (λ (a : Reply (Read Instruction)). ParsedAs instruction_fields s at a) e (instruction-given s b at).is

pub refusal-not-zero : (s : List ℕ) (at n : ℕ) → Bytes s → instruction_at s at ≡ refused n → n ≢ 0
refusal-not-zero s at n b e = subst (λ (a : Reply (Read Instruction)). ParsedAs instruction_fields s at a) e (instruction-given s b at).is
