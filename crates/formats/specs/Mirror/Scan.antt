-- How the code finds a word: one walk over the table, which keeps the longest start of the text that a word so far has too.
use Rattle.std.specs.Prelude.{ℕ, suc, ◌+◌, List, [], ◌∷◌, Bool, true, false, cond, ◌&&◌, not, ltb, eqb, length, get_or}
use Rattle.formats.specs.Format.{Out, got, stop}
use Rattle.formats.specs.declared.Best.{Best}

-- how many characters two texts have in common at their start
unfoldable pub common : List ℕ → List ℕ → ℕ
common [] u = 0
common (c ∷ t) [] = 0
common (c ∷ t) (d ∷ u) = cond (eqb c d) (suc (common t u)) 0

-- the first word of a table
unfoldable pub word_of : List ℕ → List ℕ
word_of [] = []
word_of (c ∷ p) = cond (eqb c 124) [] (c ∷ word_of p)

-- whether the table has a character of a word at j
unfoldable pub in_word : List ℕ → ℕ → Bool
in_word p j = cond (ltb j (length p)) (not (eqb (get_or p j 0) 124)) false

-- whether the text has at i the character that a word has at j
unfoldable pub alike_at : List ℕ → ℕ → List ℕ → ℕ → Bool
alike_at s i p j = cond (in_word p j) (cond (ltb i (length s)) (eqb (get_or s i 0) (get_or p j 0)) false) false

-- with word i, of which the text has n characters
unfoldable pub better : Best → ℕ → Bool → ℕ → Best
better b n full i =
    cond (ltb b.reach n)
    (record { reach = n; full = full; word = i })
    (cond (eqb n b.reach && (full && not b.full)) (record { reach = n; full = true; word = i }) b)

unfoldable pub scan : List (List ℕ) → List ℕ → ℕ → Best → Best
scan [] t i b = b
scan (w ∷ ws) t i b = scan ws t (suc i) (better b (common t w) (eqb (common t w) (length w)) i)

abbrev pub no_word : Best
no_word = record { reach = 0; full = false; word = 0 }

-- the word that is the longest start, if one is
unfoldable pub chosen : ℕ → Best → Out ℕ
chosen at b = cond b.full (got b.word (at + b.reach)) (stop (at + b.reach))

unfoldable pub word_in : List (List ℕ) → List ℕ → ℕ → Out ℕ
word_in ws t at = chosen at (scan ws t 0 no_word)
