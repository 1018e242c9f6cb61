-- Forward: what reading an operand gave stands there, laid out as fields that are all good.
use mathlib.Core.Path.{◌≡◌, subst}
use mathlib.Core.Logic.{◌≢◌}
use mathlib.Core.List.{List, [], ◌∷◌, ◌++◌}
use mathlib.Core.Bool.{Bool, true, false, cond}
use Prim.Native.Nat.{ℕ}
use native.Mathlib.Omega.{arith}
use lib.Dec.{eqb}
use Rattle.element_types.specs.Types.{has_high_word}
use Rattle.little_endian.specs.LittleEndian.{Bytes}
use Rattle.reader.proofs.Laws.{cond-then}
use Rattle.fields.specs.declared.TagRule.{TagRule}
use Rattle.fields.specs.declared.TagRule.TheVariants as tag
use Rattle.fields.specs.declared.ByteRule.{ByteRule}
use Rattle.fields.specs.declared.ByteRule.TheVariants as byte
use Rattle.fields.specs.declared.WordRule.TheVariants as word
use Rattle.fields.specs.declared.Field.{Field}
use Rattle.fields.specs.declared.Field.TheVariants.{Byte, Dword, Lacking}
use Rattle.fields.specs.Tags.{tag_of, GENERAL, IMMEDIATE}
use Rattle.fields.proofs.TagLaws.{tag_is}
use Rattle.fields.proofs.Laws.{Parsed, parsed-then, parsed-lacking, Given, given-then, byte-given, word-given, dword-given}
use Rattle.operand_fields.specs.declared.ScalarAndRaws.{ScalarAndRaws}
use Rattle.operand_fields.specs.Reading.{general_at, high_word_at, immediate_at, operand_at, raw_at, scalar_and_raws_at}
use Rattle.operand_fields.specs.Layout.{high_field, operand_fields, raw_fields}

abbrev pub scalar_and_raws_fields : ScalarAndRaws → List Field
scalar_and_raws_fields x = operand_fields tag.Scalar x.scalar ++ (raw_fields x.first ++ raw_fields x.second)

four-refuses : ◌≢◌ {A = ℕ} 4 0
four-refuses = λ (z : ◌≡◌ {A = ℕ} 4 0). omega arith

-- what was read as a number that is `v`
pub read_as : (s : List ℕ) (rule : ByteRule) (at read v next : ℕ) → read ≡ v → Parsed s at next (Byte rule read ∷ []) → Parsed s at next (Byte rule v ∷ [])
read_as s rule at read v next e p = subst (λ (n : ℕ). Parsed s at next (Byte rule n ∷ [])) e p

module _ (s : List ℕ) (b : Bytes s) where
  general-given : (rule : TagRule) (at next : ℕ) → Parsed s at next (Byte (byte.Tag rule) GENERAL ∷ []) → Given (operand_fields rule) s at (general_at s next)
  unfolding general_at operand_fields
  general-given rule at next p =
      given-then (word-given s b word.Free next) (λ index p₁.
      given-then (byte-given s b byte.Free index.next) (λ row p₂.
      given-then (byte-given s b byte.Free row.next) (λ column p₃.
      given-then (word-given s b word.Region column.next) (λ region p₄.
      record { is = parsed-then p (parsed-then p₁ (parsed-then p₂ (parsed-then p₃ p₄))) }))))

  -- where the type has one and where it lacks it, behind what was parsed
  high-word-given : (wide : Bool) (at next : ℕ) (fs : List Field) → Parsed s at next fs → Given (λ (high : ℕ). cond wide (Dword high) (Lacking high) ∷ []) s next (high_word_at wide s next)
  unfolding high_word_at
  high-word-given true at next fs p = dword-given s b next
  high-word-given false at next fs p = record { is = parsed-lacking p }

  immediate-given : (rule : TagRule) (at next : ℕ) → Parsed s at next (Byte (byte.Tag rule) IMMEDIATE ∷ []) → Given (operand_fields rule) s at (immediate_at s next)
  unfolding immediate_at operand_fields high_field
  immediate-given rule at next p =
      given-then (byte-given s b byte.ImmediateType next) (λ code p₁.
      given-then (dword-given s b code.next) (λ low p₂.
      given-then (high-word-given (has_high_word code.value) code.next low.next (Dword low.value ∷ []) p₂) (λ high p₃.
      record { is = parsed-then p (parsed-then p₁ (parsed-then p₂ p₃)) })))

  pub operand-given : (rule : TagRule) (at : ℕ) → Given (operand_fields rule) s at (operand_at rule s at)
  unfolding operand_at
  operand-given rule at =
      let P = Given (operand_fields rule) s at in
      given-then (byte-given s b (byte.Tag rule) at) (λ tag p.
      let is : (class : ℕ) → eqb (tag_of tag.value).class class ≡ true → Parsed s at tag.next (Byte (byte.Tag rule) class ∷ []) = λ class e. read_as s (byte.Tag rule) at tag.value class tag.next (tag_is rule tag.value class p.good e) p in
      cond-then P (eqb (tag_of tag.value).class GENERAL) (λ e. general-given rule at tag.next (is GENERAL e)) (λ _.
      cond-then P (eqb (tag_of tag.value).class IMMEDIATE) (λ e. immediate-given rule at tag.next (is IMMEDIATE e)) (λ _.
      record { is = four-refuses })))

  raw-given : (at : ℕ) → Given raw_fields s at (raw_at s at)
  unfolding raw_at raw_fields
  raw-given at =
      given-then (word-given s b word.Free at) (λ index p₁.
      given-then (word-given s b word.Free index.next) (λ offset p₂.
      record { is = parsed-then p₁ p₂ }))

  pub scalar-and-raws-given : (at : ℕ) → Given scalar_and_raws_fields s at (scalar_and_raws_at s at)
  unfolding scalar_and_raws_at
  scalar-and-raws-given at =
      given-then (operand-given tag.Scalar at) (λ scalar p₁.
      given-then (raw-given scalar.next) (λ first p₂.
      given-then (raw-given first.next) (λ second p₃.
      record { is = parsed-then p₁ (parsed-then p₂ p₃) })))
