-- A tag that is not refused is its class: it has no modifier, and no bit that is not named.
use mathlib.Core.Path.{◌≡◌, refl, ◌∙◌}
use mathlib.Core.List.{[], ◌∷◌}
use mathlib.Core.Bool.{Bool, true, false, cond, ◌&&◌}
use Prim.Native.Nat.{ℕ, ◌/◌, ◌%◌}
use native.Mathlib.Omega.{arith}
use lib.Dec.{eqb}
use borrow.Author.Tests.{eqb-true}
use Rattle.fields.specs.declared.TagRule.{TagRule}
use Rattle.fields.specs.declared.ByteRule.TheVariants as byte
use Rattle.fields.specs.declared.Field.TheVariants.{Byte}
use Rattle.fields.specs.Tags.{tag_of}
use Rattle.fields.specs.Rules.{judged, class_good, tag_good, tag_refusal, byte_refusal}
use Rattle.fields.specs.Layout.{field_refusal, layout_refusal}
use Rattle.fields.proofs.FirstRefusal.{good-one}

parts : (v : ℕ) (named plain classed : Bool) → eqb (v / 64) 0 ≡ named → eqb (v / 8 % 8) 0 ≡ plain → cond named (judged (plain && classed) 4) 3 ≡ 0 → v ≡ v % 8
unfolding judged
parts v true true classed a b h = omega (arith, eqb-true (v / 64) 0 a, eqb-true (v / 8 % 8) 0 b)
parts v true false classed a b h = absurd (omega arith)
parts v false plain classed a b h = absurd (omega arith)

pub tag_is : (rule : TagRule) (v class : ℕ) → layout_refusal (Byte (byte.Tag rule) v ∷ []) ≡ 0 → eqb (tag_of v).class class ≡ true → v ≡ class
unfolding field_refusal byte_refusal tag_refusal tag_good
tag_is rule v class g e =
    parts v (eqb (v / 64) 0) (eqb (v / 8 % 8) 0) (class_good rule (v % 8)) refl refl (good-one (Byte (byte.Tag rule) v) g)
    ∙ eqb-true (v % 8) class e
