-- Bytes as lower-case hex: two digits each, the higher one first.
use Rattle.std.specs.Prelude.{ℕ, ◌+◌, ◌*◌, ◌/◌, ◌%◌, Bool, ◌&&◌, not, List, [], ◌∷◌, eqb, length}
use Rattle.hex_text.specs.Digits.{digit_of, all_digits, character_of}

-- a line that is bytes, one at least: not "an empty line", an even number of digits, and no other character
unfoldable pub is_hex : List ℕ → Bool
is_hex line = not (eqb (length line) 0) && eqb (length line % 2) 0 && all_digits line

-- the bytes of a line
unfoldable pub hex_bytes : List ℕ → List ℕ
hex_bytes [] = []
hex_bytes (c ∷ []) = []
hex_bytes (high ∷ low ∷ cs) = (digit_of high * 16 + digit_of low) ∷ hex_bytes cs

-- the digits of bytes
unfoldable pub hex_of : List ℕ → List ℕ
hex_of [] = []
hex_of (b ∷ bs) = character_of (b / 16) ∷ character_of (b % 16) ∷ hex_of bs
