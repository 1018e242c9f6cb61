-- The bounds of numbers that were read, by which the code's sums and casts fit.
use mathlib.Core.Path.{◌≡◌, refl}
use mathlib.Core.List.{List}
use Prim.Native.Nat.{ℕ, ◌≤◌, ◌<◌}
use native.Mathlib.Omega.{arith}
use Rattle.hex_text.specs.Digits.{is_decimal, is_letter}
use Rattle.formats.specs.Text.{text}
use Rattle.formats.specs.Words.{words, one_of}
use Rattle.std.specs.Prelude.{Result, Ok}
use Rattle.formats.specs.Told.{told}
use Rattle.formats.specs.Mirror.Digits.{is_digit, value_of}
use Rattle.formats.specs.declared.Cursor.{Cursor}
use Rattle.formats.specs.declared.Stop.{Stop}
use Rattle.formats.proofs.Law.{free}
use Rattle.formats.proofs.TableTests.{sound, size, single, opens}
use Rattle.formats.proofs.AnswerLaws.{told-good, word-under}
use Rattle.text_parts.specs.Mirror.Fields.{decimal}
use Rattle.text_parts.proofs.FieldLaws.{decimal-lawful, decimal-between}
use Rattle.operand_texts.specs.Mirror.Region.{verticals, widths, strides, firsts, stride_behind}
use Rattle.operand_texts.proofs.RegionLaws.{stride-lawful, stride-under}

module _ (s : List ℕ) (at : ℕ) (r : Result (ℕ × Cursor) Stop) (x : ℕ × Cursor) where
  pub vertical-bound : told r ≡ (one_of (words verticals)).read s at → r ≡ Ok x → x.0 < 8
  unfolding sound size
  vertical-bound = word-under verticals free refl s at r x

  pub width-bound : told r ≡ (one_of (words widths)).read s at → r ≡ Ok x → x.0 < 8
  unfolding sound size
  width-bound = word-under widths free refl s at r x

  pub stride-bound : told r ≡ (one_of (words strides)).read s at → r ≡ Ok x → x.0 < 8
  unfolding sound size
  stride-bound = word-under strides free refl s at r x

  pub first-bound : told r ≡ (one_of (words firsts)).read s at → r ≡ Ok x → x.0 < 15
  unfolding sound size
  first-bound = word-under firsts free refl s at r x

  pub behind-bound : (v w : ℕ) → told r ≡ (stride_behind v w).read s at → r ≡ Ok x → x.0 < 8
  behind-bound v w e g = (stride-under v w x.0 (told-good (stride-lawful v w) s at r x e g)).0

  pub index-bound : told r ≡ (decimal 0 65535 (text "(|")).read s at → r ≡ Ok x → x.0 ≤ 65535
  unfolding sound single opens is_digit value_of is_decimal is_letter
  index-bound e g = (decimal-between 0 65535 (text "(|") x.0 (told-good (decimal-lawful 0 65535 (text "(|") (omega arith) (omega arith) refl refl refl) s at r x e g)).1

  pub row-bound : told r ≡ (decimal 0 255 (text ",|")).read s at → r ≡ Ok x → x.0 ≤ 255
  unfolding sound single opens is_digit value_of is_decimal is_letter
  row-bound e g = (decimal-between 0 255 (text ",|") x.0 (told-good (decimal-lawful 0 255 (text ",|") (omega arith) (omega arith) refl refl refl) s at r x e g)).1

  pub column-bound : told r ≡ (decimal 0 255 (text ")|")).read s at → r ≡ Ok x → x.0 ≤ 255
  unfolding sound single opens is_digit value_of is_decimal is_letter
  column-bound e g = (decimal-between 0 255 (text ")|") x.0 (told-good (decimal-lawful 0 255 (text ")|") (omega arith) (omega arith) refl refl refl) s at r x e g)).1

pub ruleset general_bounds = (index-bound, row-bound, column-bound)
