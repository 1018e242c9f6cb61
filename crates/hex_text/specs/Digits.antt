-- The digits of lower-case hex. Document 01, "The bench table": "The bench program reads standard input, lower-case hex".
use Rattle.std.specs.Prelude.{ℕ, ◌+◌, ◌-◌, Bool, true, cond, ◌&&◌, ◌||◌, List, [], ◌∷◌, ltb, leb}

-- 0 to 9
unfoldable pub is_decimal : ℕ → Bool
is_decimal c = leb 48 c && leb c 57

-- a to f
unfoldable pub is_letter : ℕ → Bool
is_letter c = leb 97 c && leb c 102

unfoldable pub is_digit : ℕ → Bool
is_digit c = is_decimal c || is_letter c

-- the value of a digit; 0 for any other character
unfoldable pub digit_of : ℕ → ℕ
digit_of c = cond (is_decimal c) (c - 48) (cond (is_letter c) (c - 97 + 10) 0)

unfoldable pub all_digits : List ℕ → Bool
all_digits [] = true
all_digits (c ∷ cs) = is_digit c && all_digits cs

-- the digit of a value below 16
unfoldable pub character_of : ℕ → ℕ
character_of v = cond (ltb v 10) (48 + v) (cond (ltb v 16) (97 + (v - 10)) 48)
