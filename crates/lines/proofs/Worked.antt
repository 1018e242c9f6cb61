-- Lines that are read, and the columns at which other texts go wrong.
use mathlib.Core.Path.{◌≡◌, refl, sym, ◌∙◌}
use mathlib.Core.List.{List, [], ◌∷◌, ◌++◌}
use Prim.Native.Nat.{ℕ}
use Prim.Native.String.{String}
use Rattle.hex_text.specs.Digits.{is_decimal, is_letter}
use Rattle.formats.specs.Text.{text}
use Rattle.formats.specs.Format.{pair, through, blank}
use Rattle.formats.specs.Words.{words, one_of, before, after}
use Rattle.formats.specs.Numbers.{number}
use Rattle.formats.specs.Whole.{whole}
use Rattle.formats.specs.Mirror.Scan.{common, better, scan, chosen, word_in}
use Rattle.formats.specs.Mirror.Digits.{value_of, goes_on, more_digits, begins, number_in}
use Rattle.operand_fields.specs.declared.Raw.{Raw}
use Rattle.field_groups.specs.declared.Access.{Access}
use Rattle.field_groups.specs.declared.Message.{Message}
use Rattle.operand_fields.specs.declared.Operand.{Operand}
use Rattle.operand_fields.specs.declared.Operand.TheVariants as operand
use Rattle.decoder.specs.declared.Instruction.{Instruction}
use Rattle.decoder.specs.declared.Instruction.TheVariants as instruction
use Rattle.control_texts.specs.Mirror.Predicate.{ending, id_and_ending, predicate}
use Rattle.control_texts.specs.Mirror.Exec.{mask_parts, mask, exec_from, exec, scatter_exec}
use Rattle.text_parts.specs.Mirror.Fields.{decimal, hexadecimal}
use Rattle.text_parts.specs.Mirror.Raw.{raw_parts, raw}
use Rattle.text_parts.specs.Mirror.Immediate.{type_behind, code_at, immediate_parts, immediate}
use Rattle.operand_texts.specs.Mirror.Region.{source_region, stride_behind, width_and_stride, destination_region}
use Rattle.operand_texts.specs.Mirror.General.{general_parts, general}
use Rattle.operand_texts.specs.Mirror.Operand.{general_operand, immediate_operand, formed, source, destination}
use Rattle.line_parts.specs.Mirror.Braces.{scale_behind, size_and_scale, gather_braces, scale_alone, scatter_braces}
use Rattle.line_parts.specs.Mirror.Parts.{scalar_and_raws, surface, message}
use Rattle.lines.specs.Mirror.Bodies.{shl_parts, shl, gather_parts, gather, scatter_parts, scatter, raw_send_parts, raw_send}
use Rattle.lines.specs.Mirror.Line.{body, named, line}
use Rattle.lines.specs.LineOf.{line_of}
use Rattle.lines.specs.Reading.{Reading, is_line, no_line, reading_of}
use Rattle.lines.proofs.Statements.{read-line}

unfoldable pub reading : List ℕ → Reading
unfolding whole pair through blank before after words one_of word_in scan better chosen common number number_in begins goes_on more_digits value_of is_decimal is_letter ending id_and_ending predicate mask_parts mask exec_from exec scatter_exec decimal hexadecimal raw_parts raw type_behind code_at immediate_parts immediate source_region stride_behind width_and_stride destination_region general_parts general general_operand immediate_operand formed source destination scale_behind size_and_scale gather_braces scale_alone scatter_braces shl_parts shl scalar_and_raws surface gather_parts gather scatter_parts scatter message raw_send_parts raw_send body named line reading_of
reading t = reading_of t

pub reading-is : (t : List ℕ) → reading t ≡ reading_of t
unfolding reading
reading-is t = refl

-- ---- instructions and their lines

abbrev variable : ℕ → ℕ → ℕ → ℕ → Operand
variable index row column region = operand.General (record { index = index; row = row; column = column; region = region })

abbrev constant : ℕ → ℕ → ℕ → Operand
constant code low high = operand.Immediate (record { code = code; low = low; high = high })

abbrev bytes : ℕ → ℕ → Raw
bytes index offset = record { index = index; offset = offset }

abbrev shift : ℕ → ℕ → Operand → Operand → Operand → Instruction
shift exec pred d s n = instruction.Shl (record { control = record { exec = exec; pred = pred }; destination = d; source = s; count = n })

abbrev gathering : ℕ → ℕ → Access → Operand → Raw → Raw → Instruction
gathering exec pred a o e d = instruction.Gather (record { control = record { exec = exec; pred = pred }; access = a; offset = o; element_offset = e; destination = d })

abbrev scattering : ℕ → ℕ → ℕ → ℕ → Operand → Raw → Raw → Instruction
scattering exec pred channels scale a e s =
    instruction.Scatter (record { control = record { exec = exec; pred = pred }; channels = channels; scale = scale; address = a; element_offset = e; source = s })

abbrev sending : ℕ → ℕ → ℕ → Message → Operand → Raw → Raw → Instruction
sending modifiers exec pred m d s r =
    instruction.RawSend (record { modifiers = modifiers; control = record { exec = exec; pred = pred }; message = m; descriptor = d; source = s; destination = r })

-- the text is read as the instruction, so it is its line
record IsLineOf (i : Instruction) (t : String) : Type 0 where
  read : reading_of (text t) ≡ is_line i
  line : line_of i ≡ text t

line-of : {i : Instruction} {t : String} → reading (text t) ≡ is_line i → IsLineOf i t
line-of {i} {t} e = let r : reading_of (text t) ≡ is_line i = sym (reading-is (text t)) ∙ e in record { read = r; line = sym (read-line (text t) i r).1 }

shift-1 : IsLineOf (shift 3 0 (variable 1 0 0 0x200) (variable 0 0 0 0x255) (constant 2 1 0)) "SHL (M1,8) v1(0,0)<1> v0(0,0)<8;8,1> 0x1:uw"
unfolding reading
shift-1 = line-of refl

shift-2 : IsLineOf (shift 148 40963 (variable 300 1 2 0x300) (variable 7 0 0 0x250) (constant 2 131073 0)) "(!P3.any) SHL (M2_NM,16) v300(1,2)<2> v7(0,0)<n;8,1> 0x20001:uw"
unfolding reading
shift-2 = line-of refl

shift-3 : IsLineOf (shift 3 0 (variable 1 0 0 0x205) (variable 0 0 0 0x255) (constant 2 1 0)) "SHL (M1,8) v1(0,0)<8;n,1> v0(0,0)<8;8,1> 0x1:uw"
unfolding reading
shift-3 = line-of refl

shift-4 : IsLineOf (shift 3 0 (variable 1 0 0 0x255) (variable 0 0 0 0x255) (constant 2 1 0)) "SHL (M1,8) v1(0,0)<8;8,1> v0(0,0)<8;8,1> 0x1:uw"
unfolding reading
shift-4 = line-of refl

shift-5 : IsLineOf (shift 3 0 (variable 1 0 0 0x0) (variable 0 0 0 0x255) (constant 2 1 0)) "SHL (M1,8) v1(0,0)<n;n,n> v0(0,0)<8;8,1> 0x1:uw"
unfolding reading
shift-5 = line-of refl

shift-6 : IsLineOf (shift 3 0 (variable 1 0 0 0x100) (variable 0 0 0 0x0) (constant 4 3735928559 0)) "SHL (M1,8) v1(0,0)<0> v0(0,0)<n;n,n> 0xdeadbeef:ub"
unfolding reading
shift-6 = line-of refl

shift-7 : IsLineOf (shift 3 0 (variable 1 0 0 0x200) (variable 0 0 0 0x255) (constant 11 1 2)) "SHL (M1,8) v1(0,0)<1> v0(0,0)<8;8,1> 0x200000001:uq"
unfolding reading
shift-7 = line-of refl

shift-8 : IsLineOf (shift 117 16384 (variable 65535 255 255 0x700) (constant 7 0 0) (constant 11 4294967295 4294967295)) "(P0.all) SHL (M8,32) v65535(255,255)<32> 0x0:f 0xffffffffffffffff:uq"
unfolding reading
shift-8 = line-of refl

gather-1 : IsLineOf (gathering 3 0 (record { block_size = 1; num_blocks = 1; scale = 0; surface = 1 }) (constant 0 16 0) (bytes 4 0) (bytes 5 32)) "GATHER_SCALED.2 (M1,8) T1 0x10:ud v4.0 v5.32 {1,0}"
unfolding reading
gather-1 = line-of refl

gather-2 : IsLineOf (gathering 3 0 (record { block_size = 0; num_blocks = 2; scale = 7; surface = 0 }) (constant 0 0 0) (bytes 1 0) (bytes 2 0)) "GATHER_SCALED.4 (M1,8) T0 0x0:ud v1.0 v2.0 {0,7}"
unfolding reading
gather-2 = line-of refl

scatter-1 : IsLineOf (scattering 35 0 10 5 (constant 11 4096 0) (bytes 1 0) (bytes 2 0)) "SVM_SCATTER4_SCALED.GA (M3,8) 0x1000:uq v1.0 v2.0 {5}"
unfolding reading
scatter-1 = line-of refl

scatter-2 : IsLineOf (scattering 244 4095 15 65535 (variable 3 1 2 0x0) (bytes 1 0) (bytes 2 0)) "(P4095) SVM_SCATTER4_SCALED.RGBA (M8_NM,16) v3(1,2)<n;n,n> v1.0 v2.0 {65535}"
unfolding reading
scatter-2 = line-of refl

send-1 : IsLineOf (sending 1 0 0 (record { extended = 26; num_src = 1; num_dst = 0 }) (variable 0 0 0 0x121) (bytes 1 8) (bytes 2 0)) "raw_sendc (M1,1) 0x1a 1 0 v0(0,0)<0;1,0> v1.8 v2.0"
unfolding reading
send-1 = line-of refl

send-2 : IsLineOf (sending 0 5 32768 (record { extended = 0; num_src = 15; num_dst = 16 }) (constant 7 1065353216 0) (bytes 1 8) (bytes 2 0)) "(!P0) raw_send (M1,32) 0x0 15 16 0x3f800000:f v1.8 v2.0"
unfolding reading
send-2 = line-of refl

-- ---- columns

-- the column of each text behind that start
abbrev columns : String → List (ℕ × String) → List Reading
columns start [] = []
columns start (e ∷ l) = reading (text start ++ text e.1) ∷ columns start l

abbrev said : List (ℕ × String) → List Reading
said [] = []
said (e ∷ l) = no_line e.0 ∷ said l

abbrev Columns : String → List (ℕ × String) → Type 0
Columns start l = columns start l ≡ said l

-- names and letters; a text that stops short has the column past its end
names : Columns ""
    ((1, "")
    ∷ (2, "S")
    ∷ (1, "shl")
    ∷ (3, "SHR (M1,8)")
    ∷ (4, "SHL(M1,8)")
    ∷ (5, "SHL  (M1,8)")
    ∷ (4, "SHL.sat (M1,8)")
    ∷ (1, "RAW_SEND (M1,8)")
    ∷ (9, "raw_sends")
    ∷ (22, "SVM_SCATTER4_SCALED.GR (M1,8)")
    ∷ (21, "SVM_SCATTER4_SCALED. (M1,8)")
    ∷ (15, "GATHER_SCALED.3")
    ∷ [])
unfolding reading
names = refl

-- predicates
predicates : Columns ""
    ((1, "!P3")
    ∷ (3, "(P) SHL")
    ∷ (2, "(p3) SHL")
    ∷ (4, "(P0) SHL")
    ∷ (4, "(P00")
    ∷ (6, "(P4096)")
    ∷ (7, "(P3.an) SHL")
    ∷ (8, "(P3.any.all) SHL")
    ∷ (8, "(!P0) S")
    ∷ (10, "(!P3.any)SHL")
    ∷ (6, "(P3) (P4) SHL")
    ∷ [])
unfolding reading
predicates = refl

-- exec bytes: 3 goes on as 32, a scatter's 1 as 16
execs : Columns ""
    ((7, "SHL (M0,8)")
    ∷ (7, "SHL (M9,8)")
    ∷ (10, "SHL (M1,3)")
    ∷ (11, "SHL (M1,16")
    ∷ (9, "SHL (M1,64)")
    ∷ (9, "SHL (M1, 8)")
    ∷ (28, "SVM_SCATTER4_SCALED.R (M1,1)")
    ∷ (28, "SVM_SCATTER4_SCALED.RG (M1,4)")
    ∷ [])
unfolding reading
execs = refl

-- operands and surfaces
operands : Columns ""
    ((17, "SHL (M1,8) v65536(0,0)<1>")
    ∷ (14, "SHL (M1,8) v01(0,0)")
    ∷ (17, "SHL (M1,8) v1(256,0)")
    ∷ (17, "SHL (M1,8) v1(0, 0)<1>")
    ∷ (12, "SHL (M1,8) 0x1:uw")
    ∷ (21, "SHL (M1,8) v1(0,0)<3>")
    ∷ (21, "SHL (M1,8) v1(0,0)<01>")
    ∷ (21, "SHL (M1,8) v1(0,0)<n>")
    ∷ (24, "SHL (M1,8) v1(0,0)<n;n,1>")
    ∷ (23, "SHL (M1,8) v1(0,0)<n;8")
    ∷ (32, "SHL (M1,8) v1(0,0)<1> v0(0,0)<1>")
    ∷ (27, "GATHER_SCALED.4 (M1,8) T256")
    ∷ (26, "GATHER_SCALED.4 (M1,8) T08")
    ∷ (41, "GATHER_SCALED.4 (M1,8) T0 0x0:ud v1.65536")
    ∷ [])
unfolding reading
operands = refl

-- behind `SHL (M1,8) v1(0,0)<1> v0(0,0)<8;8,1> `
immediates : Columns "SHL (M1,8) v1(0,0)<1> v0(0,0)<8;8,1> "
    ((38, "1:uw")
    ∷ (38, "-0x1:uw")
    ∷ (40, "0x:ud")
    ∷ (41, "0x00:ud")
    ∷ (41, "0x01:uw")
    ∷ (40, "0xA:uw")
    ∷ (41, "0x1")
    ∷ (42, "0x1:UW")
    ∷ (42, "0x1:q")
    ∷ (43, "0x1:u")
    ∷ (44, "0x1:uw ")
    ∷ (51, "0x100000000:ud")
    ∷ (51, "0x123456789:ud")
    ∷ (56, "0x10000000000000000:uq")
    ∷ [])
unfolding reading
immediates = refl

-- behind `GATHER_SCALED.4 (M1,8) T0 0x0:ud v1.0 v2.0`
gather-ends : Columns "GATHER_SCALED.4 (M1,8) T0 0x0:ud v1.0 v2.0"
    ((44, " ")
    ∷ (43, "{1,0}")
    ∷ (47, " {0,0}")
    ∷ (47, " {0,")
    ∷ (46, " {01,0}")
    ∷ (46, " {1}")
    ∷ (47, " {1, 0}")
    ∷ (47, " {256,0}")
    ∷ (51, " {1,65536}")
    ∷ (49, " {1,0}x")
    ∷ [])
unfolding reading
gather-ends = refl

-- behind `SVM_SCATTER4_SCALED.R (M1,8) 0x0:uq v1.0 v2.0`
scatter-ends : Columns "SVM_SCATTER4_SCALED.R (M1,8) 0x0:uq v1.0 v2.0"
    ((48, " {0}")
    ∷ (49, " {5,0}")
    ∷ [])
unfolding reading
scatter-ends = refl

-- messages
messages : Columns ""
    ((20, "raw_send (M1,8) 0x1A")
    ∷ (27, "raw_send (M1,8) 0x123456789")
    ∷ (22, "raw_send (M1,8) 0x1a 0 0")
    ∷ (23, "raw_send (M1,8) 0x1a 16 0")
    ∷ (25, "raw_send (M1,8) 0x1a 1 17")
    ∷ [])
unfolding reading
messages = refl

-- a character of two bytes, and a line end
others : (reading (text "SHL (M1,8) v1(0,0)<1> v0(0,0)<8;8,1> " ++ (195 ∷ 169 ∷ [])) ≡ no_line 38) × (reading (text "SHL (M1,8) v1(0,0)<1> v0(0,0)<8;8,1> 0x1:uw" ++ (10 ∷ [])) ≡ no_line 44)
unfolding reading
others = (refl, refl)
