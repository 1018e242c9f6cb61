-- What may not stand behind a line, since one might go on so: a digit or a space.
use mathlib.Core.Path.{◌≡◌, refl, sym}
use mathlib.Core.List.{List, [], ◌∷◌}
use mathlib.Core.Bool.{Bool, true, false, not, ◌||◌, true≢false}
use Prim.Native.Nat.{ℕ}
use lib.Dec.{eqb}
use Rattle.formats.specs.Mirror.Digits.{is_digit}
use Rattle.formats.proofs.Agree.{ends}

abbrev pub is_space : ℕ → Bool
is_space c = eqb c 32

abbrev pub goes_on : ℕ → Bool
goes_on c = is_digit 10 c || is_space c

neither : (a b : Bool) → not (a || b) ≡ true → (not a ≡ true) × (not b ≡ true)
neither false false e = (refl, refl)
neither false true e = absurd (true≢false (sym e))
neither true b e = absurd (true≢false (sym e))

pub no_digit : (u : List ℕ) → ends goes_on u ≡ true → ends (is_digit 10) u ≡ true
no_digit [] e = refl
no_digit (c ∷ u) e = (neither (is_digit 10 c) (is_space c) e).0

pub no-space : (u : List ℕ) → ends goes_on u ≡ true → ends is_space u ≡ true
no-space [] e = refl
no-space (c ∷ u) e = (neither (is_digit 10 c) (is_space c) e).1
