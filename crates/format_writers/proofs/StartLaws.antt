-- The word of a number: a walk over the words before it.
use mathlib.Core.Path.{◌≡◌, refl, ap, ◌∙◌}
use mathlib.Core.Bool.{Bool, true, false, cond}
use mathlib.Core.List.{List, [], ◌∷◌}
use Prim.Native.Nat.{ℕ, suc, ◌+◌, ◌-◌, ◌≤◌, ◌<◌}
use native.Mathlib.Omega.{arith}
use lib.ListN.{length, take, drop}
use lib.Dec.{eqb}
use lib.Seq.{drop-drop}
use Rattle.formats.specs.Words.{words, word_at}
use Rattle.formats.specs.Mirror.Scan.{word_of}
use Rattle.formats.proofs.ScanLaws.{words-at, word-inside}

-- a table with no character has no word
pub no_word : (p : List ℕ) (i : ℕ) → length p ≡ 0 → p ≡ word_at (words p) i
unfolding words word_at
no_word [] i h = refl
no_word (c ∷ p) i h = absurd (omega arith)

-- a word more to pass
pub word_later : (ws : List (List ℕ)) (i n : ℕ) → i < n → word_at (drop 1 ws) (n - (i + 1)) ≡ word_at ws (n - i)
unfolding word_at
word_later [] i n h = refl
word_later (w ∷ ws) i n h = let e : n - i ≡ suc (n - (i + 1)) = omega arith in rw e

pub first_inside : (p : List ℕ) (end : ℕ) → end ≡ 0 + length (word_of (drop 0 p)) → end ≤ length p
first_inside p end e = omega (arith, e, word-inside p 0 (omega arith))

taken : (p : List ℕ) → take (length (word_of p)) p ≡ word_of p
unfolding word_of
taken [] = refl
taken (c ∷ p) = told (eqb c 124) (taken p)
  where
    told : (b : Bool) → take (length (word_of p)) p ≡ word_of p → take (length (cond b [] (c ∷ word_of p))) (c ∷ p) ≡ cond b [] (c ∷ word_of p)
    told true e = refl
    told false e = ap (λ (q : List ℕ). c ∷ q) e

-- the words of a table with a character: the first, and those behind its bar
cut : (c : ℕ) (p : List ℕ) → words (c ∷ p) ≡ word_of (c ∷ p) ∷ words (drop 1 (drop (length (word_of (c ∷ p))) (c ∷ p)))
cut c p = words-at (c ∷ p) 0 (omega arith) ∙ ap (λ (q : List ℕ). word_of (c ∷ p) ∷ words q) (dropped (length (word_of (c ∷ p))) (c ∷ p))
  where
    dropped : (n : ℕ) (l : List ℕ) → drop (0 + n + 1) l ≡ drop 1 (drop n l)
    dropped n l = let e : 0 + n + 1 ≡ n + 1 = omega arith in rw (e, drop-drop 1 n l)

first_here : (p : List ℕ) → take (length (word_of p)) p ≡ word_at (words p) 0
unfolding words word_of word_at
first_here [] = refl
first_here (c ∷ p) = rw (cut c p) (taken (c ∷ p))

later_here : (p : List ℕ) → words (drop 1 (drop (length (word_of p)) p)) ≡ drop 1 (words p)
unfolding words word_of
later_here [] = refl
later_here (c ∷ p) = rw (cut c p)

pub first_taken : (p : List ℕ) (end : ℕ) → end ≡ 0 + length (word_of (drop 0 p)) → take end p ≡ word_at (words p) 0
first_taken p end e = let n : end ≡ length (word_of p) = omega (arith, e) in rw n (first_here p)

pub later_are : (p : List ℕ) (end : ℕ) → end ≡ 0 + length (word_of (drop 0 p)) → words (drop 1 (drop end p)) ≡ drop 1 (words p)
later_are p end e = let n : end ≡ length (word_of p) = omega (arith, e) in rw n (later_here p)
