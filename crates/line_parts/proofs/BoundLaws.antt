-- The bounds of what was read, by which the code's casts fit.
use mathlib.Core.Path.{◌≡◌, refl}
use mathlib.Core.List.{List}
use mathlib.Core.Bool.{true}
use Prim.Native.Nat.{ℕ, ◌≤◌, ◌<◌}
use native.Mathlib.Omega.{arith}
use Rattle.hex_text.specs.Digits.{is_decimal, is_letter}
use Rattle.formats.specs.Text.{text}
use Rattle.formats.specs.Format.{through}
use Rattle.formats.specs.Words.{words, one_of, before, after}
use Rattle.std.specs.Prelude.{Result, Ok}
use Rattle.formats.specs.Told.{told}
use Rattle.formats.specs.Mirror.Digits.{is_digit, value_of}
use Rattle.formats.specs.declared.Cursor.{Cursor}
use Rattle.formats.specs.declared.Stop.{Stop}
use Rattle.formats.proofs.Law.{free}
use Rattle.formats.proofs.NumberLaws.{number-under}
use Rattle.formats.proofs.TableTests.{sound, size, single, opens}
use Rattle.formats.proofs.AnswerLaws.{told-good, word-under}
use Rattle.text_parts.specs.Mirror.Fields.{decimal, hexadecimal}
use Rattle.text_parts.proofs.FieldLaws.{decimal-lawful, hexadecimal-lawful, decimal-between}
use Rattle.line_parts.specs.Mirror.Braces.{scale_behind}
use Rattle.line_parts.specs.Mirror.Parts.{space, blocks, send_endings}
use Rattle.line_parts.proofs.BracesLaws.{scale-behind-lawful, scale-behind-under}

hexadecimal-under : (high : ℕ) (end : List ℕ) (n : ℕ) → (hexadecimal high end).good n ≡ true → n ≤ high
unfolding hexadecimal before after through
hexadecimal-under high end n h = (number-under 16 0 high n h).1

module _ (s : List ℕ) (at : ℕ) (r : Result (ℕ × Cursor) Stop) (x : ℕ × Cursor) where
  decimal-bound : (low high : ℕ) (end : List ℕ) → low ≤ 1 → low ≤ high → single end ≡ true → sound free end ≡ true → opens (is_digit 10) end ≡ true → told r ≡ (decimal low high end).read s at → r ≡ Ok x → x.0 ≤ high
  decimal-bound low high end one some a b d e g = (decimal-between low high end x.0 (told-good (decimal-lawful low high end one some a b d) s at r x e g)).1

  pub size-bound : told r ≡ (decimal 0 255 (text ",|")).read s at → r ≡ Ok x → x.0 ≤ 255
  unfolding sound single opens is_digit value_of is_decimal is_letter
  size-bound = decimal-bound 0 255 (text ",|") (omega arith) (omega arith) refl refl refl

  pub scale-bound : (k : ℕ) → told r ≡ (scale_behind k).read s at → r ≡ Ok x → x.0 ≤ 65535
  scale-bound k e g = scale-behind-under k x.0 (told-good (scale-behind-lawful k) s at r x e g)

  pub scale-alone-bound : told r ≡ (decimal 1 65535 (text "}|")).read s at → r ≡ Ok x → x.0 ≤ 65535
  unfolding sound single opens is_digit value_of is_decimal is_letter
  scale-alone-bound = decimal-bound 1 65535 (text "}|") (omega arith) (omega arith) refl refl refl

  pub surface-bound : told r ≡ (decimal 0 255 space).read s at → r ≡ Ok x → x.0 ≤ 255
  unfolding sound single opens is_digit value_of is_decimal is_letter
  surface-bound = decimal-bound 0 255 space (omega arith) (omega arith) refl refl refl

  pub sources-bound : told r ≡ (decimal 1 15 space).read s at → r ≡ Ok x → x.0 ≤ 255
  unfolding sound single opens is_digit value_of is_decimal is_letter
  sources-bound e g = let h : x.0 ≤ 15 = decimal-bound 1 15 space (omega arith) (omega arith) refl refl refl e g in omega (arith, h)

  pub destinations-bound : told r ≡ (decimal 0 16 space).read s at → r ≡ Ok x → x.0 ≤ 255
  unfolding sound single opens is_digit value_of is_decimal is_letter
  destinations-bound e g = let h : x.0 ≤ 16 = decimal-bound 0 16 space (omega arith) (omega arith) refl refl refl e g in omega (arith, h)

  pub extended-bound : told r ≡ (hexadecimal 4294967295 space).read s at → r ≡ Ok x → x.0 ≤ 4294967295
  unfolding sound single opens is_digit value_of is_decimal is_letter
  extended-bound e g = hexadecimal-under 4294967295 space x.0 (told-good (hexadecimal-lawful 4294967295 space refl refl refl) s at r x e g)

  pub blocks-bound : told r ≡ (one_of (words blocks)).read s at → r ≡ Ok x → x.0 ≤ 255
  unfolding sound size
  blocks-bound e g = let h : x.0 < 3 = word-under blocks free refl s at r x e g in omega (arith, h)

  pub sends-bound : told r ≡ (one_of (words send_endings)).read s at → r ≡ Ok x → x.0 ≤ 255
  unfolding sound size
  sends-bound e g = let h : x.0 < 2 = word-under send_endings free refl s at r x e g in omega (arith, h)

pub ruleset gather_bounds = (size-bound, scale-bound)

pub ruleset scatter_bounds = scale-alone-bound

pub ruleset word_bounds = (blocks-bound, sends-bound)

pub ruleset surface_bounds = surface-bound

pub ruleset message_bounds = (extended-bound, sources-bound, destinations-bound)
