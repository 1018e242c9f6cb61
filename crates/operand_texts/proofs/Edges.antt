-- Operands at their edges: texts that are read, and the position (from 0) at which others stop.
use mathlib.Core.Path.{◌≡◌, refl}
use Prim.Native.Nat.{ℕ}
use Prim.Native.String.{String}
use Rattle.hex_text.specs.Digits.{is_decimal, is_letter, character_of}
use Rattle.formats.specs.Text.{text}
use Rattle.formats.specs.Format.{Out, got, stop, pair, through, blank}
use Rattle.formats.specs.Words.{words, word_at, one_of, before, after}
use Rattle.formats.specs.Numerals.{digits}
use Rattle.formats.specs.Numbers.{number}
use Rattle.formats.specs.Whole.{whole}
use Rattle.formats.specs.Mirror.Scan.{common, better, scan, chosen, word_in}
use Rattle.formats.specs.Mirror.Digits.{value_of, goes_on, more_digits, begins, number_in}
use Rattle.operand_fields.specs.declared.Operand.{Operand}
use Rattle.operand_fields.specs.declared.Operand.TheVariants as operand
use Rattle.text_parts.specs.Mirror.Fields.{decimal}
use Rattle.text_parts.specs.Mirror.Immediate.{type_behind, code_at, immediate_parts, immediate}
use Rattle.operand_texts.specs.Mirror.Region.{source_region, stride_behind, width_and_stride, destination_region}
use Rattle.operand_texts.specs.Mirror.General.{general_parts, general}
use Rattle.operand_texts.specs.Mirror.Operand.{form_of, as_general, general_operand, immediate_operand, formed, source, destination}

abbrev variable : ℕ → ℕ → ℕ → ℕ → Operand
variable index row column region = operand.General (record { index = index; row = row; column = column; region = region })

abbrev constant : ℕ → ℕ → ℕ → Operand
constant code low high = operand.Immediate (record { code = code; low = low; high = high })

-- ---- destinations

unfoldable destination-at : String → Out Operand
unfolding whole pair through blank before after words one_of word_in scan better chosen common number number_in begins goes_on more_digits value_of is_decimal is_letter decimal stride_behind width_and_stride destination_region general_parts general general_operand destination
destination-at t = whole destination (text t)

-- H alone
lone-strides : (destination-at "v1(0,0)<1>" ≡ got (variable 1 0 0 0x200) 10) × (destination-at "v300(1,2)<2>" ≡ got (variable 300 1 2 0x300) 12) × (destination-at "v1(0,0)<0>" ≡ got (variable 1 0 0 0x100) 10) × (destination-at "v65535(255,255)<32>" ≡ got (variable 65535 255 255 0x700) 19)
unfolding destination-at
lone-strides = (refl, refl, refl, refl)

-- all three fields: where V or W is not Null, and where all are
three-fields : (destination-at "v1(0,0)<8;n,1>" ≡ got (variable 1 0 0 0x205) 14) × (destination-at "v1(0,0)<8;8,1>" ≡ got (variable 1 0 0 0x255) 14) × (destination-at "v1(0,0)<n;8,n>" ≡ got (variable 1 0 0 0x050) 14) × (destination-at "v1(0,0)<n;n,n>" ≡ got (variable 1 0 0 0) 14)
unfolding destination-at
three-fields = (refl, refl, refl, refl)

-- `<n>` and `<n;n,1>` are no other spellings; 3 goes on as 32
no-regions : (destination-at "v1(0,0)<n>" ≡ stop 9) × (destination-at "v1(0,0)<n;n,1>" ≡ stop 12) × (destination-at "v1(0,0)<n;n,0>" ≡ stop 12) × (destination-at "v1(0,0)<3>" ≡ stop 9) × (destination-at "v1(0,0)<01>" ≡ stop 9) × (destination-at "v1(0,0)<n;8" ≡ stop 11) × (destination-at "v1(0,0)" ≡ stop 7)
unfolding destination-at
no-regions = (refl, refl, refl, refl, refl, refl, refl)

no-destinations : (destination-at "v65536(0,0)<1>" ≡ stop 5) × (destination-at "v01(0,0)" ≡ stop 2) × (destination-at "v1(256,0)" ≡ stop 5) × (destination-at "v1(0,256)" ≡ stop 7) × (destination-at "v1(0, 0)<1>" ≡ stop 5) × (destination-at "0x1:uw" ≡ stop 0) × (destination-at "v1(0,0)<1> " ≡ stop 10) × (destination-at "" ≡ stop 0)
unfolding destination-at
no-destinations = (refl, refl, refl, refl, refl, refl, refl, refl)

-- ---- sources

unfoldable source-at : String → Out Operand
unfolding whole pair through before after words one_of word_in scan better chosen common number number_in begins goes_on more_digits value_of is_decimal is_letter decimal type_behind code_at immediate_parts immediate source_region general_parts general general_operand immediate_operand formed source
source-at t = whole source (text t)

sources : (source-at "v0(0,0)<8;8,1>" ≡ got (variable 0 0 0 0x255) 14) × (source-at "v7(1,2)<n;8,1>" ≡ got (variable 7 1 2 0x250) 14) × (source-at "v0(0,0)<0;1,0>" ≡ got (variable 0 0 0 0x121) 14) × (source-at "v3(1,2)<n;n,1>" ≡ got (variable 3 1 2 0x200) 14) × (source-at "v65535(255,255)<32;32,32>" ≡ got (variable 65535 255 255 0x777) 25)
unfolding source-at
sources = (refl, refl, refl, refl, refl)

immediates : (source-at "0x1:uw" ≡ got (constant 2 1 0) 6) × (source-at "0x20001:uw" ≡ got (constant 2 0x20001 0) 10) × (source-at "0xdeadbeef:ub" ≡ got (constant 4 0xdeadbeef 0) 13) × (source-at "0x0:f" ≡ got (constant 7 0 0) 5) × (source-at "0xffffffffffffffff:uq" ≡ got (constant 11 0xffffffff 0xffffffff) 21)
unfolding source-at
immediates = (refl, refl, refl, refl, refl)

-- a source's H never stands alone
no-sources : (source-at "v0(0,0)<1>" ≡ stop 9) × (source-at "v0(0,0)<n>" ≡ stop 9) × (source-at "v0(0,0)<8;8,3>" ≡ stop 13) × (source-at "v0(0,0)<8;8" ≡ stop 11) × (source-at "" ≡ stop 0)
unfolding source-at
no-sources = (refl, refl, refl, refl, refl)

no-immediates : (source-at "1:uw" ≡ stop 0) × (source-at "-0x1:uw" ≡ stop 0) × (source-at "0x:ud" ≡ stop 2) × (source-at "0x00:ud" ≡ stop 3) × (source-at "0x01:uw" ≡ stop 3) × (source-at "0xA:uw" ≡ stop 2) × (source-at "0x1" ≡ stop 3) × (source-at "0x1:UW" ≡ stop 4) × (source-at "0x1:q" ≡ stop 4) × (source-at "0x1:u" ≡ stop 5) × (source-at "0x1:uw " ≡ stop 6) × (source-at "0x100000000:ud" ≡ stop 13) × (source-at "0x10000000000000000:uq" ≡ stop 18)
unfolding source-at
no-immediates = (refl, refl, refl, refl, refl, refl, refl, refl, refl, refl, refl, refl, refl)

-- ---- texts

destination-texts : (destination.print (variable 300 1 2 0x300) ≡ text "v300(1,2)<2>") × (destination.print (variable 1 0 0 0) ≡ text "v1(0,0)<n;n,n>") × (destination.print (variable 1 0 0 0x205) ≡ text "v1(0,0)<8;n,1>")
unfolding destination general_operand as_general general general_parts decimal destination_region width_and_stride stride_behind pair through blank before after one_of words word_at number digits character_of
destination-texts = (refl, refl, refl)

source-texts : (source.print (variable 7 0 0 0x250) ≡ text "v7(0,0)<n;8,1>") × (source.print (variable 0 0 0 0x121) ≡ text "v0(0,0)<0;1,0>")
unfolding source formed form_of general_operand as_general general general_parts decimal source_region pair through before after one_of words word_at number digits character_of
source-texts = (refl, refl)
