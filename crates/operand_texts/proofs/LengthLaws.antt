-- How long the text of an operand is at most.
use mathlib.Core.Path.{◌≡◌, refl}
use mathlib.Core.Bool.{◌&&◌}
use Prim.Native.Nat.{ℕ}
use native.Mathlib.Omega.{arith}
use lib.Dec.{eqb, ltb}
use Rattle.formats.specs.Text.{text}
use Rattle.formats.specs.Format.{Format}
use Rattle.formats.proofs.Law.{Lawful, free}
use Rattle.formats.proofs.TableTests.{single}
use Rattle.formats.proofs.ShortLaws.{Short, short-more, short-pair, short-through, short-blank, short-cond, narrow, short-table, short-number, short-before, short-after}
use Rattle.control_texts.specs.Mirror.Predicate.{zeros}
use Rattle.text_parts.specs.Mirror.Fields.{decimal}
use Rattle.text_parts.proofs.LengthLaws.{immediate-short}
use Rattle.operand_texts.specs.Mirror.Region.{verticals, widths, strides, region_fits, source_region, firsts, null_stride, stride_behind, width_and_stride, destination_region}
use Rattle.operand_texts.specs.Mirror.General.{general_parts, general}
use Rattle.operand_texts.specs.Mirror.Operand.{forms, general_operand, immediate_operand, formed, source, destination}
use Rattle.operand_texts.proofs.RegionLaws.{source-region-matches, source-region-lawful, destination-region-matches, destination-region-lawful}
use Rattle.operand_texts.proofs.GeneralLaws.{general-matches}
use Rattle.operand_texts.proofs.OperandLaws.{source-region-good, destination-region-good, general-operand-matches, immediate-operand-matches, source-matches}

-- ---- the regions: `<32;32,32>`

source-region-short : Short source_region 10
unfolding source_region narrow
source-region-short = short-through (short-pair {n = 4} {m = 6} (short-table verticals 4 refl) (λ _. short-pair {n = 3} {m = 3} (short-table widths 3 refl) (λ _. short-table strides 3 refl))) source-region-matches

stride-short : (v w : ℕ) → Short (stride_behind v w) 3
unfolding stride_behind narrow
stride-short v w = short-cond (eqb v 0 && eqb w 0) (short-table null_stride 3 refl) (short-table strides 3 refl)

width-and-stride-short : (first : ℕ) → Short (width_and_stride first) 6
unfolding width_and_stride narrow
width-and-stride-short first = short-cond (ltb first 8) (short-pair {n = 3} {m = 3} (short-table widths 3 refl) (stride-short first)) (short-blank (0, 0) zeros 6)

destination-region-short : Short destination_region 10
unfolding destination_region narrow
destination-region-short = short-through (short-pair {n = 4} {m = 6} (short-table firsts 4 refl) width-and-stride-short) destination-region-matches

-- ---- behind the `v`: `65535(255,255)` and the region

general-operand-short : (region : Format ℕ) → Lawful region free → ((r : ℕ) → region.good r ≡ region_fits r) → Short region 10 → Short (general_operand region) 24
unfolding general_operand general general_parts decimal narrow single
general-operand-short region law is short =
    short-through
    (short-through
    (short-pair {n = 6} {m = 18} (short-after (text "(|") 1 refl refl (short-number 10 0 65535 4 (omega arith) refl))
    (λ _. short-pair {n = 4} {m = 14} (short-after (text ",|") 1 refl refl (short-number 10 0 255 2 (omega arith) refl))
    (λ _. short-pair {n = 4} {m = 10} (short-after (text ")|") 1 refl refl (short-number 10 0 255 2 (omega arith) refl)) (λ _. short))))
    (general-matches region law is))
    (general-operand-matches region)

-- ---- operands: a source's longest is counted with the two characters of `0x`

formed-short : (form : ℕ) → Short (formed form) 24
unfolding formed immediate_operand
formed-short form =
    short-cond (eqb form 0) (general-operand-short source_region source-region-lawful source-region-good source-region-short)
    (short-through (short-more 19 24 refl immediate-short) immediate-operand-matches)

pub source-short : Short source 26
unfolding source narrow
source-short = short-through (short-pair {n = 2} {m = 24} (short-table forms 2 refl) formed-short) source-matches

pub destination-short : Short destination 25
unfolding destination narrow single
destination-short = short-before (text "v|") 1 refl refl (general-operand-short destination_region destination-region-lawful destination-region-good destination-region-short)
