-- The text of each operand, as document 02 and the pages write it. Nothing of reading is used here; proofs/PrintLaws.antt says that the formats print these texts.
use Rattle.std.specs.Prelude.{ℕ, ◌-◌, ◌/◌, ◌%◌, ◌^◌, List, [], ◌++◌, cond, ◌&&◌, not, eqb}
use Rattle.formats.specs.Text.{text}
use Rattle.formats.specs.Numerals.{digits_of}
use Rattle.operand_fields.specs.declared.General.{General}
use Rattle.operand_fields.specs.declared.Operand.{Operand}
use Rattle.operand_fields.specs.declared.Operand.TheVariants as operand
use Rattle.text_parts.specs.Texts.{immediate_text}

-- "codes 0 Null, 1..7": n, 0, 1, 2, 4, 8, 16, 32
unfoldable pub code_text : ℕ → List ℕ
code_text code = cond (eqb code 0) (text "n") (cond (eqb code 1) (text "0") (digits_of 10 (2 ^ (code - 2))))

-- "bits 0-3 vertical, 4-7 width, 8-11 horizontal stride"
abbrev pub vertical_code : ℕ → ℕ
vertical_code region = region % 16

abbrev pub width_code : ℕ → ℕ
width_code region = region / 16 % 16

abbrev pub horizontal_code : ℕ → ℕ
horizontal_code region = region / 256 % 16

-- `<8;8,1>`
unfoldable pub region_text : ℕ → List ℕ
region_text region =
    text "<" ++ (code_text (vertical_code region) ++ (text ";" ++ (code_text (width_code region) ++ (text "," ++ (code_text (horizontal_code region) ++ text ">")))))

-- `<1>` where V and W are Null and H is not, as a run asks of a destination; "a region with Nulls out of place shows all three fields, n for Null"
unfoldable pub destination_region_text : ℕ → List ℕ
destination_region_text region =
    cond (eqb (vertical_code region) 0 && (eqb (width_code region) 0 && not (eqb (horizontal_code region) 0)))
    (text "<" ++ (code_text (horizontal_code region) ++ text ">"))
    (region_text region)

-- `v300(1,2)`
unfoldable pub general_text : General → List ℕ
general_text g = text "v" ++ (digits_of 10 g.index ++ (text "(" ++ (digits_of 10 g.row ++ (text "," ++ (digits_of 10 g.column ++ text ")")))))

-- a source or a scalar
unfoldable pub operand_text : Operand → List ℕ
operand_text (operand.General g) = general_text g ++ region_text g.region
operand_text (operand.Immediate i) = immediate_text i

-- no immediate is a destination
unfoldable pub destination_text : Operand → List ℕ
destination_text (operand.General g) = general_text g ++ destination_region_text g.region
destination_text (operand.Immediate i) = []
