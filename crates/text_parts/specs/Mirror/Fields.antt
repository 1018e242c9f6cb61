-- Numbers in decimal, or in hex behind `0x`, each with the word that ends it.
use Rattle.std.specs.Prelude.{ℕ, List}
use Rattle.formats.specs.Text.{text}
use Rattle.formats.specs.Format.{Format}
use Rattle.formats.specs.Words.{before, after}
use Rattle.formats.specs.Numbers.{number}

unfoldable pub decimal : ℕ → ℕ → List ℕ → Format ℕ
decimal low high end = after (number 10 low high) end

unfoldable pub hexadecimal : ℕ → List ℕ → Format ℕ
hexadecimal high end = before (text "0x|") (after (number 16 0 high) end)
