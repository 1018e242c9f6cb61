-- The lines of a text. Document 01, "The bench table": "A line ends in 0x0a, which the last may lack."
use Rattle.std.specs.Prelude.{ℕ, cond, List, [], ◌∷◌, ◌++◌, eqb, length}

abbrev pub line_end : List ℕ
line_end = 0x0a ∷ []

-- the lines of a text of whose first line some characters, with no 0x0a among them, were met before
unfoldable pub lines_from : List ℕ → List ℕ → List (List ℕ)
lines_from before [] = cond (eqb (length before) 0) [] (before ∷ [])
lines_from before (b ∷ text) = cond (eqb b 0x0a) (before ∷ lines_from [] text) (lines_from (before ++ (b ∷ [])) text)

unfoldable pub lines_of : List ℕ → List (List ℕ)
lines_of text = lines_from [] text
