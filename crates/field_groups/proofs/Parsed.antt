-- Forward: what reading a group gave stands there, laid out as fields that are all good.
use mathlib.Core.List.{List}
use Prim.Native.Nat.{ℕ}
use Rattle.little_endian.specs.LittleEndian.{Bytes}
use Rattle.fields.specs.declared.ByteRule.{ByteRule}
use Rattle.fields.specs.declared.ByteRule.TheVariants as byte
use Rattle.fields.specs.declared.WordRule.TheVariants as word
use Rattle.fields.proofs.Laws.{parsed-then, Given, given-then, byte-given, word-given, dword-given}
use Rattle.field_groups.specs.Reading.{control_at, access_at, message_at}
use Rattle.field_groups.specs.Layout.{control_fields, access_fields, message_fields}

module _ (s : List ℕ) (b : Bytes s) where
  pub control-given : (rule : ByteRule) (at : ℕ) → Given (control_fields rule) s at (control_at rule s at)
  unfolding control_at control_fields
  control-given rule at =
      given-then (byte-given s b rule at) (λ exec p₁.
      given-then (word-given s b word.Predicate exec.next) (λ pred p₂.
      record { is = parsed-then p₁ p₂ }))

  pub access-given : (at : ℕ) → Given access_fields s at (access_at s at)
  unfolding access_at access_fields
  access-given at =
      given-then (byte-given s b byte.Free at) (λ size p₁.
      given-then (byte-given s b byte.NumBlocks size.next) (λ blocks p₂.
      given-then (word-given s b word.Free blocks.next) (λ scale p₃.
      given-then (byte-given s b byte.Free scale.next) (λ surface p₄.
      record { is = parsed-then p₁ (parsed-then p₂ (parsed-then p₃ p₄)) }))))

  pub message-given : (at : ℕ) → Given message_fields s at (message_at s at)
  unfolding message_at message_fields
  message-given at =
      given-then (dword-given s b at) (λ extended p₁.
      given-then (byte-given s b byte.NumSrc extended.next) (λ sources p₂.
      given-then (byte-given s b byte.NumDst sources.next) (λ destinations p₃.
      record { is = parsed-then p₁ (parsed-then p₂ p₃) })))
