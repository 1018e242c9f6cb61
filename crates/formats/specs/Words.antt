-- One word of a table. A table is a text in which a bar ends each word; a word's value is its number, from 0.
use Rattle.std.specs.Prelude.{ℕ, zero, suc, List, [], ◌∷◌, cond, ltb, eqb, length, drop}
use Rattle.formats.specs.Format.{Format, pair, through}
use Rattle.formats.specs.Mirror.Scan.{word_in}

abbrev pub ahead : ℕ → List (List ℕ) → List (List ℕ)
ahead c [] = (c ∷ []) ∷ []
ahead c (w ∷ ws) = (c ∷ w) ∷ ws

-- a bar is 124
unfoldable pub words : List ℕ → List (List ℕ)
words [] = []
words (c ∷ p) = cond (eqb c 124) ([] ∷ words p) (ahead c (words p))

-- a number that no word has stands for the empty word
unfoldable pub word_at : List (List ℕ) → ℕ → List ℕ
word_at [] i = []
word_at (w ∷ ws) zero = w
word_at (w ∷ ws) (suc i) = word_at ws i

unfoldable pub one_of : List (List ℕ) → Format ℕ
one_of ws = record { print = word_at ws; good = λ i. ltb i (length ws); read = λ s at. word_in ws (drop at s) at }

abbrev pub table : List ℕ → Format ℕ
table p = one_of (words p)

-- a word that carries no value, in front of a format or behind it; the table has this word alone
unfoldable pub before : {A : Type 0} → List ℕ → Format A → Format A
before p f = through (λ v. v.1) (λ v. (0, v)) f.good (pair (table p) (λ _. f))

unfoldable pub after : {A : Type 0} → Format A → List ℕ → Format A
after f p = through (λ v. v.0) (λ v. (v, 0)) f.good (pair f (λ _. table p))
