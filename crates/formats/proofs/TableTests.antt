-- Tests of a table, which compute for a given one, and what they tell of its words.
use mathlib.Core.Path.{◌≡◌, refl, sym, ap, ◌∙◌}
use mathlib.Core.List.{List, [], ◌∷◌, ◌++◌}
use mathlib.Core.Bool.{Bool, true, false, cond, ◌&&◌, not, true≢false}
use Prim.Native.Nat.{ℕ, zero, suc, ◌<◌}
use native.Mathlib.Omega.{arith}
use lib.Dec.{eqb, ltb}
use lib.ListN.{length}
use borrow.Author.Tests.{eqb-true, eqb-false, eq-eqb, ne_eqb, ltb-true, lt-ltb}
use Rattle.formats.specs.Words.{words, word_at, one_of}
use Rattle.formats.proofs.Tests.{both_left, both_right}
use Rattle.formats.proofs.Agree.{ends}

-- two words differ, and where one begins the other, the character with which that goes on may not follow the table
unfoldable pub separable : (ℕ → Bool) → List ℕ → List ℕ → Bool
separable m [] [] = false
separable m [] (d ∷ v) = m d
separable m (c ∷ w) [] = m c
separable m (c ∷ w) (d ∷ v) = cond (eqb c d) (separable m w v) true

unfoldable pub separable_of : (ℕ → Bool) → List ℕ → List (List ℕ) → Bool
separable_of m w [] = true
separable_of m w (v ∷ ws) = separable m w v && separable_of m w ws

unfoldable pub separated : (ℕ → Bool) → List (List ℕ) → Bool
separated m [] = true
separated m (w ∷ ws) = separable_of m w ws && separated m ws

-- a table with a word, its words separable from each other
unfoldable pub sound : (ℕ → Bool) → List ℕ → Bool
unfolding words separated separable_of separable
sound m p = ltb 0 (length (words p)) && separated m (words p)

-- every word begins with a character that is none of these
unfoldable pub heads : (ℕ → Bool) → List (List ℕ) → Bool
heads m [] = true
heads m ([] ∷ ws) = false
heads m ((c ∷ w) ∷ ws) = not (m c) && heads m ws

unfoldable pub opens : (ℕ → Bool) → List ℕ → Bool
unfolding words heads
opens m p = heads m (words p)

unfoldable pub single : List ℕ → Bool
unfolding words
single p = eqb (length (words p)) 1

-- the number of words, which computes
unfoldable pub size : List ℕ → ℕ
unfolding words
size p = length (words p)

-- ---- what they tell

eqb-sym : (a b : ℕ) → eqb a b ≡ eqb b a
eqb-sym a b = told (eqb b a) refl
  where
    told : (x : Bool) → eqb b a ≡ x → eqb a b ≡ x
    told true e = eq-eqb a b (sym (eqb-true b a e))
    told false e = ne_eqb a b (λ p. eqb-false b a e (sym p))

separable-sym : (m : ℕ → Bool) (w v : List ℕ) → separable m w v ≡ separable m v w
unfolding separable
separable-sym m [] [] = refl
separable-sym m [] (d ∷ v) = refl
separable-sym m (c ∷ w) [] = refl
separable-sym m (c ∷ w) (d ∷ v) = rw (eqb-sym c d, separable-sym m w v)

separable-of-at : (m : ℕ → Bool) (w : List ℕ) (ws : List (List ℕ)) (i : ℕ) → separable_of m w ws ≡ true → i < length ws → separable m w (word_at ws i) ≡ true
unfolding separable_of word_at
separable-of-at m w [] i e h = absurd (omega arith)
separable-of-at m w (v ∷ ws) zero e h = both_left (separable m w v) (separable_of m w ws) e
separable-of-at m w (v ∷ ws) (suc i) e h = separable-of-at m w ws i (both_right (separable m w v) (separable_of m w ws) e) (omega arith)

pub separated-at : (m : ℕ → Bool) (ws : List (List ℕ)) (i j : ℕ) → separated m ws ≡ true → i < length ws → j < length ws → (i ≡ j → ⊥) → separable m (word_at ws i) (word_at ws j) ≡ true
unfolding separated word_at
separated-at m [] i j e h k n = absurd (omega arith)
separated-at m (w ∷ ws) zero zero e h k n = absurd (n refl)
separated-at m (w ∷ ws) zero (suc j) e h k n = separable-of-at m w ws j (both_left (separable_of m w ws) (separated m ws) e) (omega arith)
separated-at m (w ∷ ws) (suc i) zero e h k n = separable-sym m (word_at ws i) w ∙ separable-of-at m w ws i (both_left (separable_of m w ws) (separated m ws) e) (omega arith)
separated-at m (w ∷ ws) (suc i) (suc j) e h k n = separated-at m ws i j (both_right (separable_of m w ws) (separated m ws) e) (omega arith) (omega arith) (λ p. n (ap suc p))

pub heads-at : (m : ℕ → Bool) (ws : List (List ℕ)) (i : ℕ) (u : List ℕ) → heads m ws ≡ true → i < length ws → ends m (word_at ws i ++ u) ≡ true
unfolding heads word_at
heads-at m [] i u e h = absurd (omega arith)
heads-at m ([] ∷ ws) i u e h = absurd (true≢false (sym e))
heads-at m ((c ∷ w) ∷ ws) zero u e h = both_left (not (m c)) (heads m ws) e
heads-at m ((c ∷ w) ∷ ws) (suc i) u e h = heads-at m ws i u (both_right (not (m c)) (heads m ws) e) (omega arith)

pub only_one : (p : List ℕ) → single p ≡ true → (i : ℕ) → (one_of (words p)).good i ≡ true → 0 ≡ i
unfolding single one_of
only_one p e i h = omega (arith, eqb-true (length (words p)) 1 e, ltb-true i (length (words p)) h)

pub one-there : (p : List ℕ) → single p ≡ true → (one_of (words p)).good 0 ≡ true
unfolding single one_of
one-there p e = lt-ltb 0 (length (words p)) (omega (arith, eqb-true (length (words p)) 1 e))

pub table-good : (p : List ℕ) (i : ℕ) → (one_of (words p)).good i ≡ ltb i (size p)
unfolding one_of size
table-good p i = refl

pub table-under : (p : List ℕ) (i : ℕ) → (one_of (words p)).good i ≡ true → i < size p
table-under p i h = ltb-true i (size p) (sym (table-good p i) ∙ h)
