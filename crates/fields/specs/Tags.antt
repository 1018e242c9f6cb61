-- The tag of an operand, taken apart: the rules of tags and the reading of operands go by this definition.
-- Document 01, "Bytes of an instruction": "Vector operand: tag (bits 0-2 class, 3-5 modifier). General, class 0: .. Immediate, class 5: ..".
use Rattle.std.specs.Prelude.{ℕ, ◌/◌, ◌%◌}
use Rattle.fields.specs.declared.Tag.{Tag}

-- bits 6 and 7 are not named
abbrev pub tag_of : ℕ → Tag
tag_of v = record { class = v % 8; modifier = v / 8 % 8; unnamed = v / 64 }

abbrev pub GENERAL : ℕ
GENERAL = 0

abbrev pub IMMEDIATE : ℕ
IMMEDIATE = 5
