-- What the loader makes of a case file, line by line.
use Rattle.std.specs.Prelude.{ℕ, cond, List, [], ◌∷◌, leb, length}
use Rattle.tally.specs.Mirror.Reading.{Reading, only}
use Rattle.tally.specs.Mirror.Lines.{long_line}
use Rattle.frames.specs.Mirror.Frames.{line_read}
use Rattle.line_blocks.specs.LinesOf.{lines_of}

-- a line of at most `limit` characters, or one that is too long
unfoldable pub any_line_read : ℕ → List ℕ → Reading → Reading
any_line_read limit line r = cond (leb (length line) limit) (line_read line r) (only (long_line r.case) r)

unfoldable pub lines_read : ℕ → List (List ℕ) → Reading → Reading
lines_read limit [] r = r
lines_read limit (line ∷ lines) r = lines_read limit lines (any_line_read limit line r)

-- the whole text, its lines of at most `limit` characters
unfoldable pub text_read : ℕ → List ℕ → Reading → Reading
text_read limit text r = lines_read limit (lines_of text) r
