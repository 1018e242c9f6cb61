-- Numbers that stand alone are lawful formats, and what a read one may be.
use mathlib.Core.Path.{◌≡◌, refl}
use mathlib.Core.List.{List}
use mathlib.Core.Bool.{true}
use Prim.Native.Nat.{ℕ, ◌≤◌}
use native.Mathlib.Omega.{arith}
use Rattle.formats.specs.Text.{text}
use Rattle.formats.specs.Format.{through}
use Rattle.formats.specs.Words.{after}
use Rattle.formats.specs.Mirror.Digits.{is_digit}
use Rattle.formats.proofs.Law.{Lawful, free}
use Rattle.formats.proofs.TableTests.{sound, opens, single}
use Rattle.formats.proofs.AroundLaws.{before-lawful, after-lawful}
use Rattle.formats.proofs.NumberLaws.{number-lawful, number-under}
use Rattle.text_parts.specs.Mirror.Fields.{decimal, hexadecimal}

pub decimal-lawful : (low high : ℕ) (end : List ℕ) → low ≤ 1 → low ≤ high → single end ≡ true → sound free end ≡ true → opens (is_digit 10) end ≡ true → Lawful (decimal low high end) free
unfolding decimal
decimal-lawful low high end one some a b c = after-lawful end a b c (number-lawful 10 low high (omega arith) (omega arith) one some)

pub hexadecimal-lawful : (high : ℕ) (end : List ℕ) → single end ≡ true → sound free end ≡ true → opens (is_digit 16) end ≡ true → Lawful (hexadecimal high end) free
unfolding hexadecimal sound single
hexadecimal-lawful high end a b c = before-lawful (text "0x|") refl refl (after-lawful end a b c (number-lawful 16 0 high (omega arith) (omega arith) (omega arith) (omega arith)))

pub decimal-between : (low high : ℕ) (end : List ℕ) (n : ℕ) → (decimal low high end).good n ≡ true → (low ≤ n) × (n ≤ high)
unfolding decimal after through
decimal-between low high end n h = number-under 10 low high n h
