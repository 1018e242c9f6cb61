-- The line begun, in a buffer of some length, and where the next line ends.
use Rattle.std.specs.Prelude.{ℕ, suc, ◌+◌, Bool, true, cond, ◌||◌, List, [], ◌∷◌, length, set, ltb, eqb}

-- the line begun: its buffer, how many characters stand in it, and whether there were more
pub record Row : Type 0 where
  pub line : List ℕ
  pub used : ℕ
  pub long : Bool

abbrev pub row : List ℕ → ℕ → Bool → Row
row line used long = record { line = line; used = used; long = long }

unfoldable pub pushed : ℕ → Row → Row
pushed b w =
    cond (ltb w.used (length w.line))
    (row (set w.line w.used b) (w.used + 1) w.long)
    (row w.line w.used true)

unfoldable pub all_pushed : List ℕ → Row → Row
all_pushed [] w = w
all_pushed (b ∷ bs) w = all_pushed bs (pushed b w)

-- a line is begun that has no end yet
unfoldable pub is_begun : ℕ → Bool → Bool
is_begun used long = long || ltb 0 used

-- how many characters stand before the first 0x0a
unfoldable pub line_length : List ℕ → ℕ
line_length [] = 0
line_length (b ∷ bs) = cond (eqb b 10) 0 (suc (line_length bs))
