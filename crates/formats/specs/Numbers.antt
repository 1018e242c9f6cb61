-- Numbers of a range, in the digits of a base from 2 to 16: small letters, no leading zero.
use Rattle.std.specs.Prelude.{ℕ, ◌&&◌, leb, drop}
use Rattle.formats.specs.Format.{Format}
use Rattle.formats.specs.Numerals.{digits_of}
use Rattle.formats.specs.Mirror.Digits.{number_in}
use Rattle.formats.specs.declared.Base.{Base}
use Rattle.formats.specs.declared.Base.TheVariants as base

-- the numbers from low to high; low is 0 or 1, so that every start of a number but the empty one is itself a number of the range
unfoldable pub number : ℕ → ℕ → ℕ → Format ℕ
number b low high =
    record {
      print = digits_of b;
      good = λ n. leb low n && leb n high;
      read = λ s at. number_in b low high at (drop at s);
    }

-- the bases that the code has
abbrev pub radix_of : Base → ℕ
radix_of base.Decimal = 10
radix_of base.Hexadecimal = 16
