-- Decoding refuses by 1, 2, 3 or 4 only. Document 01, "The numbers given back": "Decoding .. goes by field: 1 for a field not whole, then 2 or 3, then
-- 4 for class and modifier."
use Prim.Native.Nat.{ℕ, ◌≤◌}
use mathlib.Core.Path.{◌≡◌, subst}
use mathlib.Core.Bool.{Bool, true, false, cond}
use mathlib.Core.List.{List}
use native.Mathlib.Omega.{arith}
use lib.Dec.{eqb}
use Rattle.element_types.specs.Types.{has_high_word}
use Rattle.reader.specs.Reply.{Reply, refused, done, Read, and_then}
use Rattle.reader.specs.Reading.{whole_at, read_at}
use Rattle.fields.specs.declared.ByteRule.{ByteRule}
use Rattle.fields.specs.declared.ByteRule.TheVariants as byte
use Rattle.fields.specs.declared.WordRule.{WordRule}
use Rattle.fields.specs.declared.WordRule.TheVariants as word
use Rattle.fields.specs.declared.TagRule.{TagRule}
use Rattle.fields.specs.declared.TagRule.TheVariants as tag
use Rattle.fields.specs.Tags.{tag_of, GENERAL, IMMEDIATE}
use Rattle.fields.specs.Rules.{judged, tag_good, tag_refusal, byte_refusal, word_refusal}
use Rattle.fields.specs.Reading.{judged_read, byte_field_at, word_field_at, dword_field_at}
use Rattle.field_groups.specs.Reading.{control_at, access_at, message_at}
use Rattle.operand_fields.specs.Reading.{general_at, high_word_at, immediate_at, operand_at, raw_at, scalar_and_raws_at}
use Rattle.decoder.specs.declared.Instruction.{Instruction}
use Rattle.decoder.specs.Decoding.{shl_at, gather_at, scatter_at, svm_at, raw_send_at, instruction_at}

-- where it refuses, by 4 at most
abbrev Small : {A : Type 0} → Reply A → Type 0
Small (refused n) = n ≤ 4
Small (done v) = Unit {0}

small-then : {A B : Type 0} (a : Reply A) (f : A → Reply B) → Small a → ((v : A) → Small (f v)) → Small (and_then a f)
small-then (refused n) f h k = h
small-then (done v) f h k = k v

small-cond : {A : Type 0} (q : Bool) (a b : Reply A) → Small a → Small b → Small (cond q a b)
small-cond true a b h k = h
small-cond false a b h k = k

-- ---- the rules of stored numbers

judged-small : (good : Bool) (n : ℕ) → n ≤ 4 → judged good n ≤ 4
unfolding judged
judged-small true n h = omega arith
judged-small false n h = h

tag_small : (rule : TagRule) (v : ℕ) → tag_refusal rule v ≤ 4
unfolding tag_refusal
tag_small rule v = told (eqb (tag_of v).unnamed 0)
  where
    told : (q : Bool) → cond q (judged (tag_good rule v) 4) 3 ≤ 4
    told true = judged-small (tag_good rule v) 4 (omega arith)
    told false = omega arith

byte_small : (rule : ByteRule) (v : ℕ) → byte_refusal rule v ≤ 4
unfolding byte_refusal
byte_small byte.Free v = omega arith
byte_small byte.Exec v = judged-small _ 3 (omega arith)
byte_small byte.ScatterExec v = judged-small _ 3 (omega arith)
byte_small byte.NumBlocks v = judged-small _ 3 (omega arith)
byte_small byte.Channels v = judged-small _ 3 (omega arith)
byte_small byte.Modifiers v = judged-small _ 3 (omega arith)
byte_small byte.NumSrc v = judged-small _ 3 (omega arith)
byte_small byte.NumDst v = judged-small _ 3 (omega arith)
byte_small (byte.Tag rule) v = tag_small rule v
byte_small byte.ImmediateType v = judged-small _ 3 (omega arith)

word_small : (rule : WordRule) (v : ℕ) → word_refusal rule v ≤ 4
unfolding word_refusal
word_small word.Free v = omega arith
word_small word.Predicate v = judged-small _ 3 (omega arith)
word_small word.Region v = judged-small _ 3 (omega arith)

-- ---- fields

read_small : (n : ℕ) (s : List ℕ) (at : ℕ) → Small (read_at n s at)
unfolding read_at
read_small n s at = small-cond (whole_at n s at) _ _ tt (omega arith)

judged-read-small : (refusal : ℕ → ℕ) → ((v : ℕ) → refusal v ≤ 4) → (r : Read ℕ) → Small (judged_read refusal r)
unfolding judged_read
judged-read-small refusal h r = small-cond (eqb (refusal r.value) 0) _ _ tt (h r.value)

byte-field-small : (rule : ByteRule) (s : List ℕ) (at : ℕ) → Small (byte_field_at rule s at)
unfolding byte_field_at
byte-field-small rule s at = small-then (read_at 1 s at) (judged_read (byte_refusal rule)) (read_small 1 s at) (judged-read-small (byte_refusal rule) (byte_small rule))

word-field-small : (rule : WordRule) (s : List ℕ) (at : ℕ) → Small (word_field_at rule s at)
unfolding word_field_at
word-field-small rule s at = small-then (read_at 2 s at) (judged_read (word_refusal rule)) (read_small 2 s at) (judged-read-small (word_refusal rule) (word_small rule))

dword-field-small : (s : List ℕ) (at : ℕ) → Small (dword_field_at s at)
unfolding dword_field_at
dword-field-small s at = read_small 4 s at

-- ---- groups of fields

module _ (s : List ℕ) where
  control-small : (rule : ByteRule) (at : ℕ) → Small (control_at rule s at)
  unfolding control_at
  control-small rule at =
      small-then (byte_field_at rule s at) _ (byte-field-small rule s at) (λ exec.
      small-then (word_field_at word.Predicate s exec.next) _ (word-field-small word.Predicate s exec.next) (λ pred. tt))

  general-small : (at : ℕ) → Small (general_at s at)
  unfolding general_at
  general-small at =
      small-then (word_field_at word.Free s at) _ (word-field-small word.Free s at) (λ index.
      small-then (byte_field_at byte.Free s index.next) _ (byte-field-small byte.Free s index.next) (λ row.
      small-then (byte_field_at byte.Free s row.next) _ (byte-field-small byte.Free s row.next) (λ column.
      small-then (word_field_at word.Region s column.next) _ (word-field-small word.Region s column.next) (λ region. tt))))

  high_small : (wide : Bool) (at : ℕ) → Small (high_word_at wide s at)
  unfolding high_word_at
  high_small wide at = small-cond wide _ _ (dword-field-small s at) tt

  immediate-small : (at : ℕ) → Small (immediate_at s at)
  unfolding immediate_at
  immediate-small at =
      small-then (byte_field_at byte.ImmediateType s at) _ (byte-field-small byte.ImmediateType s at) (λ code.
      small-then (dword_field_at s code.next) _ (dword-field-small s code.next) (λ low.
      small-then (high_word_at (has_high_word code.value) s low.next) _ (high_small (has_high_word code.value) low.next) (λ high. tt)))

  operand_small : (rule : TagRule) (at : ℕ) → Small (operand_at rule s at)
  unfolding operand_at
  operand_small rule at =
      small-then (byte_field_at (byte.Tag rule) s at) _ (byte-field-small (byte.Tag rule) s at) (λ tag.
      small-cond (eqb (tag_of tag.value).class GENERAL) _ _ (general-small tag.next)
      (small-cond (eqb (tag_of tag.value).class IMMEDIATE) _ _ (immediate-small tag.next) (omega arith)))

  raw-small : (at : ℕ) → Small (raw_at s at)
  unfolding raw_at
  raw-small at =
      small-then (word_field_at word.Free s at) _ (word-field-small word.Free s at) (λ index.
      small-then (word_field_at word.Free s index.next) _ (word-field-small word.Free s index.next) (λ offset. tt))

  last-small : (at : ℕ) → Small (scalar_and_raws_at s at)
  unfolding scalar_and_raws_at
  last-small at =
      small-then (operand_at tag.Scalar s at) _ (operand_small tag.Scalar at) (λ scalar.
      small-then (raw_at s scalar.next) _ (raw-small scalar.next) (λ first.
      small-then (raw_at s first.next) _ (raw-small first.next) (λ second. tt)))

  access-small : (at : ℕ) → Small (access_at s at)
  unfolding access_at
  access-small at =
      small-then (byte_field_at byte.Free s at) _ (byte-field-small byte.Free s at) (λ size.
      small-then (byte_field_at byte.NumBlocks s size.next) _ (byte-field-small byte.NumBlocks s size.next) (λ blocks.
      small-then (word_field_at word.Free s blocks.next) _ (word-field-small word.Free s blocks.next) (λ scale.
      small-then (byte_field_at byte.Free s scale.next) _ (byte-field-small byte.Free s scale.next) (λ surface. tt))))

  message-small : (at : ℕ) → Small (message_at s at)
  unfolding message_at
  message-small at =
      small-then (dword_field_at s at) _ (dword-field-small s at) (λ extended.
      small-then (byte_field_at byte.NumSrc s extended.next) _ (byte-field-small byte.NumSrc s extended.next) (λ sources.
      small-then (byte_field_at byte.NumDst s sources.next) _ (byte-field-small byte.NumDst s sources.next) (λ destinations. tt)))

  -- ---- instructions

  shl_small : (at : ℕ) → Small (shl_at s at)
  unfolding shl_at
  shl_small at =
      small-then (control_at byte.Exec s at) _ (control-small byte.Exec at) (λ control.
      small-then (operand_at tag.Destination s control.next) _ (operand_small tag.Destination control.next) (λ destination.
      small-then (operand_at tag.Source s destination.next) _ (operand_small tag.Source destination.next) (λ source.
      small-then (operand_at tag.Source s source.next) _ (operand_small tag.Source source.next) (λ count. tt))))

  gather-small : (at : ℕ) → Small (gather_at s at)
  unfolding gather_at
  gather-small at =
      small-then (control_at byte.Exec s at) _ (control-small byte.Exec at) (λ control.
      small-then (access_at s control.next) _ (access-small control.next) (λ access.
      small-then (scalar_and_raws_at s access.next) _ (last-small access.next) (λ last. tt)))

  scatter-small : (at : ℕ) → Small (scatter_at s at)
  unfolding scatter_at
  scatter-small at =
      small-then (control_at byte.ScatterExec s at) _ (control-small byte.ScatterExec at) (λ control.
      small-then (byte_field_at byte.Channels s control.next) _ (byte-field-small byte.Channels s control.next) (λ channels.
      small-then (word_field_at word.Free s channels.next) _ (word-field-small word.Free s channels.next) (λ scale.
      small-then (scalar_and_raws_at s scale.next) _ (last-small scale.next) (λ last. tt))))

  svm-small : (at : ℕ) → Small (svm_at s at)
  unfolding svm_at
  svm-small at =
      small-then (byte_field_at byte.Free s at) _ (byte-field-small byte.Free s at) (λ opcode.
      small-cond (eqb opcode.value 0x07) _ _ (scatter-small opcode.next) (omega arith))

  send-small : (at : ℕ) → Small (raw_send_at s at)
  unfolding raw_send_at
  send-small at =
      small-then (byte_field_at byte.Modifiers s at) _ (byte-field-small byte.Modifiers s at) (λ modifiers.
      small-then (control_at byte.Exec s modifiers.next) _ (control-small byte.Exec modifiers.next) (λ control.
      small-then (message_at s control.next) _ (message-small control.next) (λ message.
      small-then (scalar_and_raws_at s message.next) _ (last-small message.next) (λ last. tt))))

  instruction-small : (at : ℕ) → Small (instruction_at s at)
  unfolding instruction_at
  instruction-small at =
      small-then (byte_field_at byte.Free s at) _ (byte-field-small byte.Free s at) (λ opcode.
      small-cond (eqb opcode.value 0x24) _ _ (shl_small opcode.next)
      (small-cond (eqb opcode.value 0x78) _ _ (gather-small opcode.next)
      (small-cond (eqb opcode.value 0x4e) _ _ (svm-small opcode.next)
      (small-cond (eqb opcode.value 0x5d) _ _ (send-small opcode.next) (omega arith)))))

pub refusal-at-most-four : (s : List ℕ) (at n : ℕ) → instruction_at s at ≡ refused n → n ≤ 4
refusal-at-most-four s at n e = subst (λ (a : Reply (Read Instruction)). Small a) e (instruction-small s at)
