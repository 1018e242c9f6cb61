-- Printing and reading into rooms of several lengths, and the order of refusals: the line of document 01's kernel has 43 characters, its encoding 24 bytes.
use Prim.Native.Nat.{ℕ}
use mathlib.Core.Path.{◌≡◌, refl, sym, ap, ◌∙◌}
use mathlib.Core.List.{List, ◌++◌}
use lib.ListN.{replicate}
use Rattle.little_endian.specs.LittleEndian.{bytes_of}
use Rattle.element_types.specs.Types.{size_of, is_listed, has_high_word}
use Rattle.hex_text.specs.Digits.{character_of}
use Rattle.reader.specs.Reply.{Reply, refused, done, on_reply}
use Rattle.bits.specs.Bits.{bit, bit_field}
use Rattle.exec_byte.specs.Exec.{exec_reserved, exec_size, mask_control, mask_number, no_mask}
use Rattle.predicate_field.specs.Predicate.{has_predicate, predicate_combine, predicate_reserved}
use Rattle.fields.specs.Rules.{judged, exec_good, predicate_good, region_good, class_good, tag_good, tag_refusal, byte_refusal, word_refusal}
use Rattle.fields.specs.Layout.{field_bytes, field_refusal, layout_bytes, layout_refusal}
use Rattle.field_groups.specs.Layout.{control_fields}
use Rattle.operand_fields.specs.Layout.{high_field, operand_fields}
use Rattle.operand_fields.specs.declared.Operand.{Operand}
use Rattle.operand_fields.specs.declared.Operand.TheVariants as operand
use Rattle.decoder.specs.declared.Instruction.{Instruction}
use Rattle.decoder.specs.declared.Instruction.TheVariants as instruction
use Rattle.decoder.specs.Format.{shl_fields, instruction_fields, instruction_bytes, instruction_refusal}
use Rattle.formats.specs.Text.{text}
use Rattle.formats.specs.Numerals.{digits}
use Rattle.control_texts.specs.Texts.{predicate_text, exec_text}
use Rattle.text_parts.specs.Texts.{type_text, immediate_text}
use Rattle.operand_texts.specs.Texts.{code_text, region_text, destination_region_text, general_text, operand_text, destination_text}
use Rattle.lines.specs.LineOf.{shl_line, line_of}
use Rattle.lines.specs.Reading.{Reading, is_line, no_line, on_reading}
use Rattle.lines.proofs.Worked.{reading, reading-is}
use Rattle.encoder.specs.Encoding.{encoded_in}
use Rattle.text.specs.Printing.{printed_in, printed_into}
use Rattle.text.specs.Assembling.{Assembly, wrote, refused as not-read, assembled_in}

abbrev variable : ℕ → ℕ → Operand
variable index region = operand.General (record { index = index; row = 0; column = 0; region = region })

-- the SHL of document 01 with some of its fields open: exec, pred, Dst, the type of Src1 and its high word
abbrev shift : ℕ → ℕ → Operand → ℕ → ℕ → Instruction
shift exec pred destination code high =
    instruction.Shl (record {
      control = record { exec = exec; pred = pred };
      destination = destination;
      source = variable 0 0x0255;
      count = operand.Immediate (record { code = code; low = 1; high = high });
    })

abbrev first : Instruction
first = shift 3 0 (variable 1 0x0200) 2 0

abbrev line : List ℕ
line = text "SHL (M1,8) v1(0,0)<1> v0(0,0)<8;8,1> 0x1:uw"

-- every byte 0xaa
abbrev blank : ℕ → List ℕ
blank n = replicate n 170

first-line : line_of first ≡ line
unfolding line_of shl_line predicate_text has_predicate exec_text mask_number mask_control no_mask exec_reserved exec_size bit bit_field digits character_of code_text region_text destination_region_text general_text operand_text destination_text immediate_text type_text
first-line = refl

-- one character short; an exact fit; room to spare, of which the last seven bytes stay
rooms : (printed_into (blank 42) first ≡ blank 42) × (printed_into (blank 43) first ≡ line) × (printed_into (blank 50) first ≡ line ++ blank 7)
unfolding printed_into printed_in instruction_refusal instruction_fields shl_fields control_fields operand_fields high_field layout_refusal field_refusal byte_refusal word_refusal judged exec_good predicate_good region_good class_good tag_good tag_refusal exec_reserved predicate_reserved predicate_combine is_listed has_high_word size_of line_of shl_line predicate_text has_predicate exec_text mask_number mask_control no_mask exec_size bit bit_field digits character_of code_text region_text destination_region_text general_text operand_text destination_text immediate_text type_text
rooms = (refl, refl, refl)

unfoldable printed : Instruction → ℕ → Reply ℕ
unfolding printed_in instruction_refusal instruction_fields shl_fields control_fields operand_fields high_field layout_refusal field_refusal byte_refusal word_refusal judged exec_good predicate_good region_good class_good tag_good tag_refusal exec_reserved predicate_reserved predicate_combine is_listed has_high_word size_of line_of shl_line predicate_text has_predicate exec_text mask_number mask_control no_mask exec_size bit bit_field digits character_of code_text region_text destination_region_text general_text operand_text destination_text immediate_text type_text
printed i room = printed_in room i

room-answers : (printed first 42 ≡ refused 15) × (printed first 43 ≡ done 43) × (printed first 50 ≡ done 43)
unfolding printed
room-answers = (refl, refl, refl)

-- into no room with one field changed: the field's number comes first; with none changed 15
fields-first : (printed (shift 6 0 (variable 1 0x0200) 2 0) 0 ≡ refused 3) × (printed (shift 3 0x1000 (variable 1 0x0200) 2 0) 0 ≡ refused 3) × (printed (shift 3 0 (operand.Immediate (record { code = 2; low = 1; high = 0 })) 2 0) 0 ≡ refused 4) × (printed (shift 3 0 (variable 1 0x8000) 2 0) 0 ≡ refused 3) × (printed (shift 3 0 (variable 1 0x0200) 6 0) 0 ≡ refused 3) × (printed (shift 3 0 (variable 1 0x0200) 2 1) 0 ≡ refused 3) × (printed first 0 ≡ refused 15)
unfolding printed
fields-first = (refl, refl, refl, refl, refl, refl, refl)

-- what a reading comes to in a room
unfoldable into : ℕ → Reading → Assembly
unfolding encoded_in instruction_bytes instruction_refusal instruction_fields shl_fields control_fields operand_fields high_field layout_bytes layout_refusal field_bytes field_refusal bytes_of byte_refusal word_refusal judged exec_good predicate_good region_good class_good tag_good tag_refusal exec_reserved predicate_reserved predicate_combine bit bit_field is_listed has_high_word size_of
into room r = on_reading r (λ i. on_reply (encoded_in room i) (λ n. not-read n 0) wrote) not-read

assembled-is : (room : ℕ) (t : List ℕ) (r : Reading) → reading t ≡ r → assembled_in room t ≡ into room r
unfolding assembled_in into
assembled-is room t r e = ap (λ (x : Reading). on_reading x (λ i. on_reply (encoded_in room i) (λ n. not-read n 0) wrote) not-read) (sym (reading-is t) ∙ e)

-- one byte short; an exact fit; no room for a text that is no line
read-rooms : (assembled_in 23 line ≡ not-read 15 0) × (assembled_in 24 line ≡ wrote 24) × (assembled_in 0 (text "SHL") ≡ not-read 16 4)
unfolding into reading
read-rooms = (assembled-is 23 line (is_line first) refl, assembled-is 24 line (is_line first) refl, assembled-is 0 (text "SHL") (no_line 4) refl)
