-- Parts at their edges: texts that are read, and the position (from 0) at which others stop.
use mathlib.Core.Path.{◌≡◌, refl}
use Prim.Native.Nat.{ℕ}
use Prim.Native.String.{String}
use Rattle.hex_text.specs.Digits.{is_decimal, is_letter}
use Rattle.formats.specs.Text.{text}
use Rattle.formats.specs.Format.{Out, got, stop, pair, through}
use Rattle.formats.specs.Words.{words, one_of, before, after}
use Rattle.formats.specs.Numbers.{number}
use Rattle.formats.specs.Whole.{whole}
use Rattle.formats.specs.Mirror.Scan.{common, better, scan, chosen, word_in}
use Rattle.formats.specs.Mirror.Digits.{value_of, goes_on, more_digits, begins, number_in}
use Rattle.operand_fields.specs.declared.Raw.{Raw}
use Rattle.operand_fields.specs.declared.Immediate.{Immediate}
use Rattle.text_parts.specs.Mirror.Fields.{decimal, hexadecimal}
use Rattle.text_parts.specs.Mirror.Raw.{raw_parts, raw}
use Rattle.text_parts.specs.Mirror.Immediate.{type_behind, code_at, immediate_parts, immediate}

-- ---- numbers, raw operands and immediates

unfoldable descriptor-at : String → Out ℕ
unfolding whole pair through before after words one_of word_in scan better chosen common number number_in begins goes_on more_digits value_of is_decimal is_letter hexadecimal
descriptor-at t = whole (hexadecimal 4294967295 (text " |")) (text t)

descriptors : (descriptor-at "0x1a " ≡ got 26 5) × (descriptor-at "0x1A " ≡ stop 3) × (descriptor-at "0x123456789 " ≡ stop 10) × (descriptor-at "0x " ≡ stop 2)
unfolding descriptor-at
descriptors = (refl, refl, refl, refl)

unfoldable raw_at : String → Out Raw
unfolding whole pair through before after words one_of word_in scan better chosen common number number_in begins goes_on more_digits value_of is_decimal is_letter decimal raw_parts raw
raw_at t = whole raw (text t)

raws : (raw_at "v1.8" ≡ got (record { index = 1; offset = 8 }) 4) × (raw_at "v65535.65535" ≡ got (record { index = 65535; offset = 65535 }) 12) × (raw_at "v1.65536" ≡ stop 7) × (raw_at "v01.0" ≡ stop 2) × (raw_at "v1" ≡ stop 2)
unfolding raw_at
raws = (refl, refl, refl, refl, refl)

unfoldable immediate-at : String → Out Immediate
unfolding whole pair through before after words one_of word_in scan better chosen common number number_in begins goes_on more_digits value_of is_decimal is_letter type_behind code_at immediate_parts immediate
immediate-at t = whole immediate (text t)

immediates : (immediate-at "20001:uw" ≡ got (record { code = 2; low = 131073; high = 0 }) 8) × (immediate-at "200000001:uq" ≡ got (record { code = 11; low = 1; high = 2 }) 12) × (immediate-at "0:f" ≡ got (record { code = 7; low = 0; high = 0 }) 3)
unfolding immediate-at
immediates = (refl, refl, refl)

-- a number past 2 ^ 32 is of type uq alone
no-immediates : (immediate-at "100000000:ud" ≡ stop 11) × (immediate-at "10000000000000000:uq" ≡ stop 16) × (immediate-at "1:q" ≡ stop 2) × (immediate-at "1:u" ≡ stop 3) × (immediate-at "01:uw" ≡ stop 1) × (immediate-at ":ud" ≡ stop 0) × (immediate-at "1:uw " ≡ stop 4)
unfolding immediate-at
no-immediates = (refl, refl, refl, refl, refl, refl, refl)
