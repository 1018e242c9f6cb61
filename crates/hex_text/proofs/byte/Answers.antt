-- `hex_text::byte` meets its contract: two digits make a byte.
use Rattle.std.proofs.Common.{◌≡◌, sym, ℕ, ◌<◌, arith}
use Rattle.hex_text.specs.Digits.{digit_of}
use Rattle.hex_text.proofs.DigitLaws.{digit_lt}
use Rattle.hex_text.proofs.ByteLaws.{hex-at, hex-past}
use Rattle.hex_text.proofs.byte.Goals as goal

small : (d c : ℕ) → d ≡ digit_of c → d < 16
small d c e = rw e (digit_lt c)

pub overflow_mul-result : goal.overflow_mul-result
overflow_mul-result c = omega (arith, small _ _ c.digit-high.ensures)

pub overflow_add-result : goal.overflow_add-result
overflow_add-result c = omega (arith, small _ _ c.digit-high.ensures, small _ _ c.digit-low.ensures)

pub returns-then-at-line : goal.returns-then-at-line
returns-then-at-line c =
    rw (hex-at _ _ c.if-at-line.true, ← c.digit-high.ensures, ← c.digit-low.ensures)

pub returns-else-at-line : goal.returns-else-at-line
returns-else-at-line c = sym (hex-past _ _ c.if-at-line.false)
