-- Each group of fields, field by field, and the number of bytes that it has at most.
use mathlib.Core.Path.{◌≡◌, refl, subst}
use mathlib.Core.List.{List, [], ◌∷◌, ◌++◌}
use Prim.Native.Nat.{ℕ}
use Rattle.fields.specs.declared.ByteRule.{ByteRule}
use Rattle.fields.specs.declared.WordRule.TheVariants as word
use Rattle.fields.specs.declared.Field.{Field}
use Rattle.fields.specs.declared.Field.TheVariants.{Byte, Word}
use Rattle.fields.specs.Rules.{byte_refusal}
use Rattle.fields.specs.Layout.{field_refusal, layout_refusal}
use Rattle.fields.proofs.FirstRefusal.{good-append, good-one}
use Rattle.fields.proofs.FieldLaws.{AtMost, at-most-nil, at-most-byte, at-most-word, at-most-dword}
use Rattle.field_groups.specs.declared.Control.{Control}
use Rattle.field_groups.specs.declared.Access.{Access}
use Rattle.field_groups.specs.declared.Message.{Message}
use Rattle.field_groups.specs.Layout.{control_fields, access_fields, message_fields}

-- ---- field by field

pub control-fields : (rule : ByteRule) (x : Control) → control_fields rule x ≡ Byte rule x.exec ∷ Word word.Predicate x.pred ∷ []
unfolding control_fields
control-fields rule x = refl

-- no field is refused, so the exec byte is not, whatever stands behind
pub control-exec : (rule : ByteRule) (x : Control) (fs : List Field) → layout_refusal (control_fields rule x ++ fs) ≡ 0 → byte_refusal rule x.exec ≡ 0
unfolding field_refusal
control-exec rule x fs g =
    let exec = Byte rule x.exec in
    let control = subst (λ (gs : List Field). layout_refusal gs ≡ 0) (control-fields rule x) (good-append (control_fields rule x) fs g).0 in
    good-one exec (good-append (exec ∷ []) (Word word.Predicate x.pred ∷ []) control).0

-- ---- the number of bytes

pub one_at_most : (rule : ByteRule) (v : ℕ) → AtMost 1 (Byte rule v ∷ [])
one_at_most rule v = at-most-byte rule v [] 0 at-most-nil

pub control-at-most : (rule : ByteRule) (x : Control) → AtMost 3 (control_fields rule x)
unfolding control_fields
control-at-most rule x = at-most-byte _ _ _ 2 (at-most-word _ _ _ 0 at-most-nil)

pub access-at-most : (x : Access) → AtMost 5 (access_fields x)
unfolding access_fields
access-at-most x = at-most-byte _ _ _ 4 (at-most-byte _ _ _ 3 (at-most-word _ _ _ 1 (one_at_most _ _)))

pub message-at-most : (x : Message) → AtMost 6 (message_fields x)
unfolding message_fields
message-at-most x = at-most-dword _ _ 2 (at-most-byte _ _ _ 1 (one_at_most _ _))
