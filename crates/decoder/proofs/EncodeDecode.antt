-- Encoding, then decoding: where the bytes of an instruction stand, decoding accepts it if no field is refused, else refuses it by the first that is.
use mathlib.Core.Path.{◌≡◌}
use mathlib.Core.Logic.{◌≢◌}
use mathlib.Core.List.{List, ◌++◌}
use Prim.Native.Nat.{ℕ, ◌+◌}
use lib.ListN.{length, drop}
use Rattle.reader.specs.Reply.{refused, got}
use Rattle.fields.specs.declared.TagRule.TheVariants as tag
use Rattle.fields.specs.declared.ByteRule.TheVariants as byte
use Rattle.fields.specs.declared.WordRule.TheVariants as word
use Rattle.fields.specs.Told.{LayoutTold}
use Rattle.fields.proofs.Told.{good-told}
use Rattle.fields.proofs.ReadBack.{Stands, There, there-good, there-refused, there-then, there-last, byte-there, word-there}
use Rattle.field_groups.proofs.There.{control-there, access-there, message-there}
use Rattle.operand_fields.proofs.There.{operand-there, scalar-and-raws-there}
use Rattle.decoder.specs.declared.Instruction.{Instruction}
use Rattle.decoder.specs.declared.Instruction.TheVariants as instruction
use Rattle.decoder.specs.Decoding.{shl_at, gather_at, scatter_at, svm_at, raw_send_at, instruction_at}
use Rattle.decoder.specs.Format.{shl_fields, gather_fields, scatter_fields, raw_send_fields, instruction_fields, instruction_bytes, instruction_refusal}

instruction-there : {s : List ℕ} {at : ℕ} {t : List ℕ} (i : Instruction) → Stands s at (instruction_fields i) t → There (instruction_at s at) i at (instruction_fields i)
unfolding instruction_at shl_at gather_at svm_at scatter_at raw_send_at instruction_fields shl_fields gather_fields scatter_fields raw_send_fields
instruction-there (instruction.Shl x) h =
    there-then _ (byte-there byte.Free 0x24) h (λ n₁ h₁.
    there-then _ (control-there byte.Exec x.control) h₁ (λ n₂ h₂.
    there-then _ (operand-there tag.Destination x.destination) h₂ (λ n₃ h₃.
    there-then _ (operand-there tag.Source x.source) h₃ (λ n₄ h₄.
    there-last _ (operand-there tag.Source x.count h₄)))))
instruction-there (instruction.Gather x) h =
    there-then _ (byte-there byte.Free 0x78) h (λ n₁ h₁.
    there-then _ (control-there byte.Exec x.control) h₁ (λ n₂ h₂.
    there-then _ (access-there x.access) h₂ (λ n₃ h₃.
    there-last _ (scalar-and-raws-there (record { scalar = x.offset; first = x.element_offset; second = x.destination }) h₃))))
instruction-there (instruction.Scatter x) h =
    there-then _ (byte-there byte.Free 0x4e) h (λ n₁ h₁.
    there-then _ (byte-there byte.Free 0x07) h₁ (λ n₂ h₂.
    there-then _ (control-there byte.ScatterExec x.control) h₂ (λ n₃ h₃.
    there-then _ (byte-there byte.Channels x.channels) h₃ (λ n₄ h₄.
    there-then _ (word-there word.Free x.scale) h₄ (λ n₅ h₅.
    there-last _ (scalar-and-raws-there (record { scalar = x.address; first = x.element_offset; second = x.source }) h₅))))))
instruction-there (instruction.RawSend x) h =
    there-then _ (byte-there byte.Free 0x5d) h (λ n₁ h₁.
    there-then _ (byte-there byte.Modifiers x.modifiers) h₁ (λ n₂ h₂.
    there-then _ (control-there byte.Exec x.control) h₂ (λ n₃ h₃.
    there-then _ (message-there x.message) h₃ (λ n₄ h₄.
    there-last _ (scalar-and-raws-there (record { scalar = x.descriptor; first = x.source; second = x.destination }) h₄)))))

pub encode-decode : (s : List ℕ) (at : ℕ) (i : Instruction) (t : List ℕ) → instruction_refusal i ≡ 0 → drop at s ≡ instruction_bytes i ++ t → instruction_at s at ≡ got i (at + length (instruction_bytes i))
unfolding instruction_bytes instruction_refusal
encode-decode s at i t g e = there-good (instruction-there i (record { told = good-told (instruction_fields i) g; bytes = e })) g

pub refuse-decode : (s : List ℕ) (at : ℕ) (i : Instruction) (t : List ℕ) → LayoutTold (instruction_fields i) → instruction_refusal i ≢ 0 → drop at s ≡ instruction_bytes i ++ t → instruction_at s at ≡ refused (instruction_refusal i)
unfolding instruction_bytes instruction_refusal
refuse-decode s at i t told b e = there-refused (instruction-there i (record { told = told; bytes = e })) b
