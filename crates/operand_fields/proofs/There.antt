-- Backward: where the bytes of an operand stand it is read, or refused by the number of its first field that is refused.
use mathlib.Core.List.{List, [], ◌∷◌}
use mathlib.Core.Bool.{Bool, true, false, cond}
use Prim.Native.Nat.{ℕ}
use Rattle.element_types.specs.Types.{has_high_word}
use Rattle.fields.specs.declared.TagRule.{TagRule}
use Rattle.fields.specs.declared.TagRule.TheVariants as tag
use Rattle.fields.specs.declared.ByteRule.TheVariants as byte
use Rattle.fields.specs.declared.WordRule.TheVariants as word
use Rattle.fields.specs.declared.Field.TheVariants.{Dword, Lacking}
use Rattle.fields.proofs.ReadBack.{Stands, There, there-then, there-last, lacking-there, byte-there, word-there, dword-there}
use Rattle.operand_fields.specs.declared.Operand.{Operand}
use Rattle.operand_fields.specs.declared.Operand.TheVariants.{General, Immediate}
use Rattle.operand_fields.specs.declared.Raw.{Raw}
use Rattle.operand_fields.specs.declared.ScalarAndRaws.{ScalarAndRaws}
use Rattle.operand_fields.specs.Reading.{general_at, high_word_at, immediate_at, operand_at, raw_at, scalar_and_raws_at}
use Rattle.operand_fields.specs.Layout.{high_field, operand_fields, raw_fields}
use Rattle.operand_fields.proofs.Parsed.{scalar_and_raws_fields}

-- the high word of an immediate, where its type has one and where it lacks it
high-word-there : {s : List ℕ} {at : ℕ} {t : List ℕ} (wide : Bool) (high : ℕ) → Stands s at (cond wide (Dword high) (Lacking high) ∷ []) t → There (high_word_at wide s at) high at (cond wide (Dword high) (Lacking high) ∷ [])
unfolding high_word_at
high-word-there true high h = dword-there high h
high-word-there {at = at} false high h = rw h.told.0 (lacking-there at)

module _ {s : List ℕ} {at : ℕ} {t : List ℕ} where
  pub operand-there : (rule : TagRule) (x : Operand) → Stands s at (operand_fields rule x) t → There (operand_at rule s at) x at (operand_fields rule x)
  unfolding operand_at general_at immediate_at operand_fields high_field
  operand-there rule (General x) h =
      there-then _ (byte-there (byte.Tag rule) 0) h (λ n₁ h₁.
      there-then _ (word-there word.Free x.index) h₁ (λ n₂ h₂.
      there-then _ (byte-there byte.Free x.row) h₂ (λ n₃ h₃.
      there-then _ (byte-there byte.Free x.column) h₃ (λ n₄ h₄.
      there-last _ (word-there word.Region x.region h₄)))))
  operand-there rule (Immediate x) h =
      there-then _ (byte-there (byte.Tag rule) 5) h (λ n₁ h₁.
      there-then _ (byte-there byte.ImmediateType x.code) h₁ (λ n₂ h₂.
      there-then _ (dword-there x.low) h₂ (λ n₃ h₃.
      there-last _ (high-word-there (has_high_word x.code) x.high h₃))))

  pub raw-there : (x : Raw) → Stands s at (raw_fields x) t → There (raw_at s at) x at (raw_fields x)
  unfolding raw_at raw_fields
  raw-there x h =
      there-then _ (word-there word.Free x.index) h (λ n₁ h₁.
      there-last _ (word-there word.Free x.offset h₁))

module _ {s : List ℕ} {at : ℕ} {t : List ℕ} where
  pub scalar-and-raws-there : (x : ScalarAndRaws) → Stands s at (scalar_and_raws_fields x) t → There (scalar_and_raws_at s at) x at (scalar_and_raws_fields x)
  unfolding scalar_and_raws_at
  scalar-and-raws-there x h =
      there-then _ (operand-there tag.Scalar x.scalar) h (λ n₁ h₁.
      there-then _ (raw-there x.first) h₁ (λ n₂ h₂.
      there-last _ (raw-there x.second h₂)))
