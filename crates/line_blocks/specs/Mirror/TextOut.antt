-- What is put out for a text, byte by byte: something for each line, where it ends.
use Rattle.std.specs.Prelude.{ℕ, false, cond, List, [], ◌∷◌, ◌++◌, eqb}
use Rattle.line_blocks.specs.Mirror.Rows.{Row, row, is_begun, pushed}

-- no character of the next line
abbrev pub cleared : Row → Row
cleared w = row w.line 0 false

-- `f` is what is put out for a line, `w` the line begun before the text
unfoldable pub text_out : (Row → List ℕ) → Row → List ℕ → List ℕ
text_out f w [] = cond (is_begun w.used w.long) (f w) []
text_out f w (b ∷ text) = cond (eqb b 10) (f w ++ text_out f (cleared w) text) (text_out f (pushed b w) text)
