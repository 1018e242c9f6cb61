-- Each group laid out as fields, in the order of its page's Format table.
use Rattle.std.specs.Prelude.{List, [], ◌∷◌}
use Rattle.fields.specs.declared.ByteRule.{ByteRule}
use Rattle.fields.specs.declared.ByteRule.TheVariants as byte
use Rattle.fields.specs.declared.WordRule.TheVariants as word
use Rattle.fields.specs.declared.Field.{Field}
use Rattle.fields.specs.declared.Field.TheVariants.{Byte, Word, Dword}
use Rattle.field_groups.specs.declared.Control.{Control}
use Rattle.field_groups.specs.declared.Access.{Access}
use Rattle.field_groups.specs.declared.Message.{Message}

unfoldable pub control_fields : ByteRule → Control → List Field
control_fields rule x = Byte rule x.exec ∷ Word word.Predicate x.pred ∷ []

unfoldable pub access_fields : Access → List Field
access_fields x =
    Byte byte.Free x.block_size ∷ Byte byte.NumBlocks x.num_blocks ∷ Word word.Free x.scale ∷ Byte byte.Free x.surface ∷ []

unfoldable pub message_fields : Message → List Field
message_fields x = Dword x.extended ∷ Byte byte.NumSrc x.num_src ∷ Byte byte.NumDst x.num_dst ∷ []
