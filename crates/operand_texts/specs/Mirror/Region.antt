-- A region's text: `<8;8,1>`, vertical stride V, width W and horizontal stride H, for a source; for a destination `<1>`, which is H, where V and W are
-- Null and H is not, otherwise all three. A field is its code: 0 is Null, printed `n`, and 1 to 7 are the numbers 0, 1, 2, 4, 8, 16, 32.
use Rattle.std.specs.Prelude.{ℕ, ◌+◌, ◌*◌, ◌-◌, ◌/◌, ◌%◌, List, Bool, cond, ◌&&◌, not, ltb, eqb}
use Rattle.formats.specs.Text.{text}
use Rattle.formats.specs.Format.{Format, pair, through}
use Rattle.formats.specs.Words.{table}
use Rattle.fields.specs.Rules.{region_good}
use Rattle.control_texts.specs.Mirror.Predicate.{nothing}

abbrev pub verticals : List ℕ
verticals = text "<n;|<0;|<1;|<2;|<4;|<8;|<16;|<32;|"

abbrev pub widths : List ℕ
widths = text "n,|0,|1,|2,|4,|8,|16,|32,|"

abbrev pub strides : List ℕ
strides = text "n>|0>|1>|2>|4>|8>|16>|32>|"

-- a region's word is V, W and H, each in four bits
abbrev pub region_to : ℕ × (ℕ × ℕ) → ℕ
region_to v = v.0 + 16 * v.1.0 + 256 * v.1.1

abbrev pub region_from : ℕ → ℕ × (ℕ × ℕ)
region_from r = (r % 16, (r / 16 % 16, r / 256 % 16))

-- a word that the encoder takes
unfoldable pub region_fits : ℕ → Bool
region_fits r = region_good r

unfoldable pub source_region : Format ℕ
source_region = through region_to region_from region_fits (pair (table verticals) (λ _. pair (table widths) (λ _. table strides)))

-- V with the word that ends it, or H alone: word 8 is `<0>`, so H alone is never Null
abbrev pub firsts : List ℕ
firsts = text "<n;|<0;|<1;|<2;|<4;|<8;|<16;|<32;|<0>|<1>|<2>|<4>|<8>|<16>|<32>|"

abbrev pub null_stride : List ℕ
null_stride = text "n>|"

-- behind `<n;n,` H is Null, since otherwise H stands alone
unfoldable pub stride_behind : ℕ → ℕ → Format ℕ
stride_behind v w = cond (eqb v 0 && eqb w 0) (table null_stride) (table strides)

unfoldable pub width_and_stride : ℕ → Format (ℕ × ℕ)
width_and_stride first = cond (ltb first 8) (pair (table widths) (λ w. stride_behind first w)) nothing

abbrev pub destination_region_to : ℕ × (ℕ × ℕ) → ℕ
destination_region_to v = cond (ltb v.0 8) (v.0 + 16 * v.1.0 + 256 * v.1.1) (256 * (v.0 - 7))

abbrev pub destination_region_from : ℕ → ℕ × (ℕ × ℕ)
destination_region_from r =
    cond (eqb (r % 256) 0 && not (eqb (r / 256) 0)) (7 + r / 256, (0, 0)) (r % 16, (r / 16 % 16, r / 256 % 16))

unfoldable pub destination_region : Format ℕ
destination_region = through destination_region_to destination_region_from region_fits (pair (table firsts) width_and_stride)
