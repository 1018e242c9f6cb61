-- The digits of a number in a base from 2 to 16: small letters, no leading zero.
use Rattle.std.specs.Prelude.{ℕ, zero, suc, ◌/◌, ◌%◌, List, [], ◌∷◌, ◌++◌, cond, ltb}
use Rattle.hex_text.specs.Digits.{character_of}

-- the digits of n, at most k + 1 of them, where k is the second number
unfoldable pub digits : ℕ → ℕ → ℕ → List ℕ
digits b zero n = character_of n ∷ []
digits b (suc k) n = cond (ltb n b) (character_of n ∷ []) (digits b k (n / b) ++ (character_of (n % b) ∷ []))

abbrev pub digits_of : ℕ → ℕ → List ℕ
digits_of b n = digits b n n
