-- How the code reads a number: digit by digit, as long as the number stays in the range.
use Rattle.std.specs.Prelude.{ℕ, ◌+◌, ◌*◌, ◌-◌, List, [], ◌∷◌, Bool, cond, ◌&&◌, ltb, leb, eqb}
use Rattle.hex_text.specs.Digits.{is_decimal, is_letter}
use Rattle.formats.specs.Format.{Out, got, stop}

-- the value of a digit; 16 for any other character
unfoldable pub value_of : ℕ → ℕ
value_of c = cond (is_decimal c) (c - 48) (cond (is_letter c) (c - 97 + 10) 16)

unfoldable pub is_digit : ℕ → ℕ → Bool
is_digit b c = ltb (value_of c) b

-- whether the digit d goes on with the number v
unfoldable pub goes_on : ℕ → ℕ → ℕ → ℕ → Bool
goes_on b high v d = ltb d b && leb (v * b + d) high

unfoldable pub more_digits : ℕ → ℕ → ℕ → ℕ → List ℕ → Out ℕ
more_digits b high v at [] = got v at
more_digits b high v at (c ∷ t) = cond (goes_on b high v (value_of c)) (more_digits b high (v * b + value_of c) (at + 1) t) (got v at)

-- whether the digit d begins a number from low to high
unfoldable pub begins : ℕ → ℕ → ℕ → ℕ → Bool
begins b low high d = ltb d b && (leb low d && leb d high)

-- nothing goes on with 0
unfoldable pub number_in : ℕ → ℕ → ℕ → ℕ → List ℕ → Out ℕ
number_in b low high at [] = stop at
number_in b low high at (c ∷ t) =
    cond (begins b low high (value_of c)) (cond (eqb (value_of c) 0) (got 0 (at + 1)) (more_digits b high (value_of c) (at + 1) t)) (stop at)
