-- How far two texts agree: `same` counts the end of both as one character more, `common` does not.
use mathlib.Core.Path.{◌≡◌, refl, sym, ap, ◌∙◌}
use mathlib.Core.List.{List, [], ◌∷◌, ◌++◌}
use mathlib.Core.Bool.{Bool, true, false, cond, not}
use Prim.Native.Nat.{ℕ, zero, suc, ◌+◌, ◌≤◌}
use native.Mathlib.Omega.{arith}
use lib.Dec.{eqb}
use lib.ListN.{length, take, drop}
use lib.Seq.{drop-drop, drop-append_seam}
use borrow.Author.Tests.{eqb-true, eq-eqb}
use Rattle.formats.specs.Mirror.Scan.{common}

unfoldable pub same : List ℕ → List ℕ → ℕ
same [] [] = 1
same [] (d ∷ u) = 0
same (c ∷ t) [] = 0
same (c ∷ t) (d ∷ u) = cond (eqb c d) (suc (same t u)) 0

-- no character that may go on stands first
abbrev pub ends : (ℕ → Bool) → List ℕ → Bool
ends m [] = true
ends m (c ∷ u) = not (m c)

pub self-eqb : (c : ℕ) → eqb c c ≡ true
self-eqb c = eq-eqb c c refl

pub past : (s : List ℕ) (at : ℕ) (p t : List ℕ) → drop at s ≡ p ++ t → drop (at + length p) s ≡ t
past s at p t e = sym (drop-drop (length p) at s) ∙ ap (λ (l : List ℕ). drop (length p) l) e ∙ drop-append_seam p t

pub same-append : (p t u : List ℕ) → same (p ++ t) (p ++ u) ≡ length p + same t u
unfolding same
same-append [] t u = omega arith
same-append (c ∷ p) t u = rw (self-eqb c, same-append p t u) (omega arith)

pub common-append : (p t u : List ℕ) → common (p ++ t) (p ++ u) ≡ length p + common t u
unfolding common
common-append [] t u = omega arith
common-append (c ∷ p) t u = rw (self-eqb c, common-append p t u) (omega arith)

-- what is longer agrees at least as far
pub common-more : (t u v : List ℕ) → common t u ≤ common t (u ++ v)
unfolding common
common-more [] u v = omega arith
common-more (c ∷ t) [] v = omega arith
common-more (c ∷ t) (d ∷ u) v = on (eqb c d) (common-more t u v)
  where
    on : (b : Bool) → common t u ≤ common t (u ++ v) → cond b (suc (common t u)) 0 ≤ cond b (suc (common t (u ++ v))) 0
    on true h = omega arith
    on false h = omega arith

pub common-left : (t u : List ℕ) → common t u ≤ length t
unfolding common
common-left [] u = omega arith
common-left (c ∷ t) [] = omega arith
common-left (c ∷ t) (d ∷ u) = on (eqb c d) (common-left t u)
  where
    on : (b : Bool) → common t u ≤ length t → cond b (suc (common t u)) 0 ≤ suc (length t)
    on true h = omega arith
    on false h = omega arith

pub common-right : (t u : List ℕ) → common t u ≤ length u
unfolding common
common-right [] u = omega arith
common-right (c ∷ t) [] = omega arith
common-right (c ∷ t) (d ∷ u) = on (eqb c d) (common-right t u)
  where
    on : (b : Bool) → common t u ≤ length u → cond b (suc (common t u)) 0 ≤ suc (length u)
    on true h = omega arith
    on false h = omega arith

-- what is common is the same text
pub common-take : (t u : List ℕ) (k : ℕ) → k ≤ common t u → take k t ≡ take k u
unfolding common
common-take t u zero h = refl
common-take [] u (suc k) h = absurd (omega arith)
common-take (c ∷ t) [] (suc k) h = absurd (omega arith)
common-take (c ∷ t) (d ∷ u) (suc k) h = on (eqb c d) refl h (λ j. common-take t u k j)
  where
    on : (b : Bool) → eqb c d ≡ b → suc k ≤ cond b (suc (common t u)) 0 → (k ≤ common t u → take k t ≡ take k u) → c ∷ take k t ≡ d ∷ take k u
    on true e g r = rw (eqb-true c d e, r (omega arith))
    on false e g r = absurd (omega arith)
