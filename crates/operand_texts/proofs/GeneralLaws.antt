-- The text of a General operand is a lawful format, whichever lawful format its region has.
use mathlib.Core.Path.{◌≡◌, refl, sym, ◌∙◌}
use mathlib.Core.Bool.{true, ◌&&◌}
use Prim.Native.Nat.{ℕ, ◌≤◌}
use native.Mathlib.Omega.{arith}
use lib.Dec.{leb}
use borrow.Author.Tests.{leb-true, le-leb}
use Rattle.hex_text.specs.Digits.{is_decimal, is_letter}
use Rattle.formats.specs.Text.{text}
use Rattle.formats.specs.Format.{Format, pair, through}
use Rattle.formats.specs.Words.{after}
use Rattle.formats.specs.Numbers.{number}
use Rattle.formats.specs.Mirror.Digits.{is_digit, value_of}
use Rattle.formats.proofs.Tests.{both, both_left, both_right}
use Rattle.formats.proofs.Law.{Lawful, free}
use Rattle.formats.proofs.Following.{Matches, follows-free}
use Rattle.formats.proofs.Combining.{pair-lawful, through-lawful}
use Rattle.formats.proofs.TableTests.{sound, opens, single}
use Rattle.formats.proofs.NumberLaws.{number-under}
use Rattle.operand_fields.specs.declared.General.{General}
use Rattle.text_parts.specs.Mirror.Fields.{decimal}
use Rattle.formats.proofs.PartLaws.{in-range}
use Rattle.text_parts.proofs.FieldLaws.{decimal-lawful}
use Rattle.operand_texts.specs.Mirror.Region.{region_fits}
use Rattle.operand_texts.specs.Mirror.General.{general_to, general_from, general_parts, general_fits, general}

-- the fields of an operand that the encoder takes
pub record Fits (g : General) : Type 0 where
  pub index : g.index ≤ 65535
  pub row : g.row ≤ 255
  pub column : g.column ≤ 255
  pub region : region_fits g.region ≡ true

pub general-tells : (g : General) → general_fits g ≡ true → Fits g
unfolding general_fits
general-tells g h =
    let z = region_fits g.region in
    let y = leb g.column 255 && z in
    let x = leb g.row 255 && y in
    let a : x ≡ true = both_right (leb g.index 65535) x h in
    let b : y ≡ true = both_right (leb g.row 255) y a in
    record {
      index = leb-true g.index 65535 (both_left (leb g.index 65535) x h);
      row = leb-true g.row 255 (both_left (leb g.row 255) y a);
      column = leb-true g.column 255 (both_left (leb g.column 255) z b);
      region = both_right (leb g.column 255) z b;
    }

module _ (region : Format ℕ) (law : Lawful region free) (is : (r : ℕ) → region.good r ≡ region_fits r) where
  general-parts-lawful : Lawful (general_parts region) free
  unfolding general_parts sound single opens is_digit value_of is_decimal is_letter
  general-parts-lawful =
      pair-lawful (decimal-lawful 0 65535 (text "(|") (omega arith) (omega arith) refl refl refl)
      (λ _. pair-lawful (decimal-lawful 0 255 (text ",|") (omega arith) (omega arith) refl refl refl)
      (λ _. pair-lawful (decimal-lawful 0 255 (text ")|") (omega arith) (omega arith) refl refl refl) (λ _. law) follows-free) follows-free)
      follows-free

  pub general-matches : Matches general_to general_from general_fits (general_parts region)
  unfolding general_parts pair general_fits decimal after through
  general-matches =
      record {
        into = λ v h. (into v.0 v.1.0 v.1.1.0 v.1.1.1 h, refl);
        out = λ g h. (out g (general-tells g h), refl);
      }
    where
      into : (i r c k : ℕ) → ((number 10 0 65535).good i && ((number 10 0 255).good r && ((number 10 0 255).good c && region.good k))) ≡ true → (leb i 65535 && (leb r 255 && (leb c 255 && region_fits k))) ≡ true
      into i r c k h =
          let z = region.good k in
          let y = (number 10 0 255).good c && z in
          let x = (number 10 0 255).good r && y in
          let a : x ≡ true = both_right ((number 10 0 65535).good i) x h in
          let b : y ≡ true = both_right ((number 10 0 255).good r) y a in
          both (leb i 65535) (leb r 255 && (leb c 255 && region_fits k)) (le-leb i 65535 (number-under 10 0 65535 i (both_left ((number 10 0 65535).good i) x h)).1)
          (both (leb r 255) (leb c 255 && region_fits k) (le-leb r 255 (number-under 10 0 255 r (both_left ((number 10 0 255).good r) y a)).1)
          (both (leb c 255) (region_fits k) (le-leb c 255 (number-under 10 0 255 c (both_left ((number 10 0 255).good c) z b)).1) (sym (is k) ∙ both_right ((number 10 0 255).good c) z b)))

      out : (g : General) → Fits g → ((number 10 0 65535).good g.index && ((number 10 0 255).good g.row && ((number 10 0 255).good g.column && region.good g.region))) ≡ true
      out g f =
          let z = region.good g.region in
          let y = (number 10 0 255).good g.column && z in
          let x = (number 10 0 255).good g.row && y in
          both ((number 10 0 65535).good g.index) x (in-range 10 0 65535 g.index (omega arith) f.index)
          (both ((number 10 0 255).good g.row) y (in-range 10 0 255 g.row (omega arith) f.row)
          (both ((number 10 0 255).good g.column) z (in-range 10 0 255 g.column (omega arith) f.column) (is g.region ∙ f.region)))

  pub general-lawful : Lawful (general region) free
  unfolding general
  general-lawful = through-lawful general-parts-lawful general-matches
