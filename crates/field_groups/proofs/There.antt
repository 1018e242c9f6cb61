-- Backward: where the bytes of a group stand it is read, or refused by the number of its first field that is refused.
use mathlib.Core.List.{List}
use Prim.Native.Nat.{ℕ}
use Rattle.fields.specs.declared.ByteRule.{ByteRule}
use Rattle.fields.specs.declared.ByteRule.TheVariants as byte
use Rattle.fields.specs.declared.WordRule.TheVariants as word
use Rattle.fields.proofs.ReadBack.{Stands, There, there-then, there-last, byte-there, word-there, dword-there}
use Rattle.field_groups.specs.declared.Control.{Control}
use Rattle.field_groups.specs.declared.Access.{Access}
use Rattle.field_groups.specs.declared.Message.{Message}
use Rattle.field_groups.specs.Reading.{control_at, access_at, message_at}
use Rattle.field_groups.specs.Layout.{control_fields, access_fields, message_fields}

module _ {s : List ℕ} {at : ℕ} {t : List ℕ} where
  pub control-there : (rule : ByteRule) (x : Control) → Stands s at (control_fields rule x) t → There (control_at rule s at) x at (control_fields rule x)
  unfolding control_at control_fields
  control-there rule x h =
      there-then _ (byte-there rule x.exec) h (λ n₁ h₁.
      there-last _ (word-there word.Predicate x.pred h₁))

  pub access-there : (x : Access) → Stands s at (access_fields x) t → There (access_at s at) x at (access_fields x)
  unfolding access_at access_fields
  access-there x h =
      there-then _ (byte-there byte.Free x.block_size) h (λ n₁ h₁.
      there-then _ (byte-there byte.NumBlocks x.num_blocks) h₁ (λ n₂ h₂.
      there-then _ (word-there word.Free x.scale) h₂ (λ n₃ h₃.
      there-last _ (byte-there byte.Free x.surface h₃))))

  pub message-there : (x : Message) → Stands s at (message_fields x) t → There (message_at s at) x at (message_fields x)
  unfolding message_at message_fields
  message-there x h =
      there-then _ (dword-there x.extended) h (λ n₁ h₁.
      there-then _ (byte-there byte.NumSrc x.num_src) h₁ (λ n₂ h₂.
      there-last _ (byte-there byte.NumDst x.num_dst h₂)))
