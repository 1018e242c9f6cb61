-- The bounds of numbers that were read, by which the code's sums and casts fit.
use mathlib.Core.Path.{◌≡◌, refl}
use mathlib.Core.List.{List}
use Prim.Native.Nat.{ℕ, ◌≤◌, ◌<◌}
use native.Mathlib.Omega.{arith}
use Rattle.std.specs.Prelude.{Result, Ok}
use Rattle.hex_text.specs.Digits.{is_decimal, is_letter}
use Rattle.formats.specs.Text.{text}
use Rattle.formats.specs.Numbers.{number}
use Rattle.formats.specs.Told.{told}
use Rattle.formats.specs.Mirror.Digits.{is_digit, value_of}
use Rattle.formats.specs.declared.Cursor.{Cursor}
use Rattle.formats.specs.declared.Stop.{Stop}
use Rattle.formats.proofs.TableTests.{sound, single, opens}
use Rattle.formats.proofs.AnswerLaws.{told-good, number-between}
use Rattle.text_parts.specs.Mirror.Fields.{decimal}
use Rattle.text_parts.specs.Mirror.Immediate.{type_behind}
use Rattle.text_parts.proofs.FieldLaws.{decimal-lawful, decimal-between}
use Rattle.text_parts.proofs.ImmediateLaws.{type-lawful, type-under}

module _ (s : List ℕ) (at : ℕ) (r : Result (ℕ × Cursor) Stop) (x : ℕ × Cursor) where
  pub index-bound : told r ≡ (decimal 0 65535 (text ".|")).read s at → r ≡ Ok x → x.0 ≤ 65535
  unfolding sound single opens is_digit value_of is_decimal is_letter
  index-bound e g = (decimal-between 0 65535 (text ".|") x.0 (told-good (decimal-lawful 0 65535 (text ".|") (omega arith) (omega arith) refl refl refl) s at r x e g)).1

  pub offset-bound : told r ≡ (number 10 0 65535).read s at → r ≡ Ok x → x.0 ≤ 65535
  offset-bound e g = (number-between 10 0 65535 (omega arith) (omega arith) (omega arith) (omega arith) s at r x e g).1

  pub type_bound : (m : ℕ) → told r ≡ (type_behind m).read s at → r ≡ Ok x → x.0 < 8
  type_bound m e g = (type-under m x.0 (told-good (type-lawful m) s at r x e g)).0

pub ruleset raw_bounds = (index-bound, offset-bound)
