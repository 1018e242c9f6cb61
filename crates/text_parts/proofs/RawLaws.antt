-- The text of a raw operand is a lawful format, behind which no digit may stand.
use mathlib.Core.Path.{refl}
use native.Mathlib.Omega.{arith}
use lib.Dec.{leb}
use borrow.Author.Tests.{leb-true, le-leb}
use Rattle.hex_text.specs.Digits.{is_decimal, is_letter}
use Rattle.formats.specs.Text.{text}
use Rattle.formats.specs.Format.{pair, through}
use Rattle.formats.specs.Words.{before, after}
use Rattle.formats.specs.Numbers.{number}
use Rattle.formats.specs.Mirror.Digits.{is_digit, value_of}
use Rattle.formats.proofs.Tests.{both, both_left, both_right}
use Rattle.formats.proofs.Law.{Lawful}
use Rattle.formats.proofs.Following.{Matches, follows-free}
use Rattle.formats.proofs.Combining.{pair-lawful, through-lawful}
use Rattle.formats.proofs.TableTests.{sound, opens, single}
use Rattle.formats.proofs.AroundLaws.{before-lawful}
use Rattle.formats.proofs.NumberLaws.{number-lawful, number-under}
use Rattle.text_parts.specs.Mirror.Fields.{decimal}
use Rattle.text_parts.specs.Mirror.Raw.{raw_to, raw_from, raw_parts, raw_fits, raw}
use Rattle.formats.proofs.PartLaws.{in-range}
use Rattle.text_parts.proofs.FieldLaws.{decimal-lawful}

raw-parts-lawful : Lawful raw_parts (is_digit 10)
unfolding raw_parts sound single opens is_digit value_of is_decimal is_letter
raw-parts-lawful =
    before-lawful (text "v|") refl refl
    (pair-lawful (decimal-lawful 0 65535 (text ".|") (omega arith) (omega arith) refl refl refl) (λ _. number-lawful 10 0 65535 (omega arith) (omega arith) (omega arith) (omega arith)) follows-free)

pub raw-matches : Matches raw_to raw_from raw_fits raw_parts
unfolding raw_parts before through pair raw_fits decimal after
raw-matches =
    record {
      into = λ v h.
          let l = number-under 10 0 65535 v.0 (both_left ((number 10 0 65535).good v.0) ((number 10 0 65535).good v.1) h) in
          let k = number-under 10 0 65535 v.1 (both_right ((number 10 0 65535).good v.0) ((number 10 0 65535).good v.1) h) in
          (both (leb v.0 65535) (leb v.1 65535) (le-leb v.0 65535 l.1) (le-leb v.1 65535 k.1), refl);
      out = λ r h.
          let l = leb-true r.index 65535 (both_left (leb r.index 65535) (leb r.offset 65535) h) in
          let k = leb-true r.offset 65535 (both_right (leb r.index 65535) (leb r.offset 65535) h) in
          (both ((number 10 0 65535).good r.index) ((number 10 0 65535).good r.offset) (in-range 10 0 65535 r.index (omega arith) l) (in-range 10 0 65535 r.offset (omega arith) k), refl);
    }

pub raw-lawful : Lawful raw (is_digit 10)
unfolding raw
raw-lawful = through-lawful raw-parts-lawful raw-matches
