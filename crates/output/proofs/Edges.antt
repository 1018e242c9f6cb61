-- The output of a refused case file, computed.
use mathlib.Core.Path.{◌≡◌, refl}
use mathlib.Core.List.{List, [], ◌∷◌}
use Prim.Native.Nat.{ℕ}
use Rattle.little_endian.specs.LittleEndian.{bytes_of}
use Rattle.hex_text.specs.Digits.{character_of}
use Rattle.hex_text.specs.Bytes.{hex_of}
use Rattle.output.specs.Output.{line_of, answer_line, output_bytes}

-- 14 at line 3, with whatever in the buffers: the 40 line alone
bad-line-written : (buffers : List ℕ) → output_bytes 14 0 3 buffers ≡ 52 ∷ 48 ∷ 48 ∷ 101 ∷ 48 ∷ 48 ∷ 48 ∷ 48 ∷ 48 ∷ 51 ∷ 48 ∷ 48 ∷ 48 ∷ 48 ∷ 48 ∷ 48 ∷ 10 ∷ []
unfolding bytes_of character_of hex_of line_of answer_line output_bytes
bad-line-written buffers = refl
