-- One turn of the loop over a number's digits, and the test that it makes.
use mathlib.Core.Path.{◌≡◌, refl, sym, ap, ◌∙◌}
use mathlib.Core.List.{List, ◌∷◌}
use mathlib.Core.Bool.{Bool, true, false, cond}
use Prim.Native.Nat.{ℕ, suc, ◌+◌, ◌*◌, ◌/◌, ◌%◌, ◌≤◌, ◌<◌}
use native.Mathlib.Omega.{arith}
use native.Mathlib.Nat.{div-add-mod', mul-le-mul_right}
use native.Mathlib.Numerals.{add-one}
use lib.Dec.{ltb, leb, eqb}
use lib.ListN.{length, get_or, drop, drop_of_length-le}
use lib.Seq.{drop-cons}
use borrow.Author.Tests.{leb-true, leb-false, le-leb, lt-leb, eq-eqb, ne_eqb}
use Rattle.formats.specs.Format.{got, stop}
use Rattle.formats.specs.Numbers.{number, radix_of}
use Rattle.formats.specs.Mirror.Digits.{value_of, goes_on, more_digits, begins, number_in}
use Rattle.formats.specs.declared.Base.{Base}
use Rattle.formats.specs.declared.Base.TheVariants as base
use Rattle.formats.proofs.Tests.{both_right}

pub radix-between : (b : Base) (r : ℕ) → r ≡ radix_of b → (2 ≤ r) × (r ≤ 16)
radix-between base.Decimal r e = (omega (arith, e), omega (arith, e))
radix-between base.Hexadecimal r e = (omega (arith, e), omega (arith, e))

-- ---- whether a digit goes on

pub goes-top : (b high v d : ℕ) → goes_on b high v d ≡ true → v * b + d ≤ high
unfolding goes_on
goes-top b high v d g = leb-true (v * b + d) high (both_right (ltb d b) (leb (v * b + d) high) g)

-- the largest number over the base decides, and at that number the last digit
pub goes-below : (b most last v d : ℕ) → d < b → v < most → leb (v * b + d) (most * b + last) ≡ true
goes-below b most last v d h k = let x : suc v * b ≤ most * b = mul-le-mul_right b k in le-leb (v * b + d) (most * b + last) (omega (arith, x))

pub goes-level : (b most last v d : ℕ) → v ≡ most → leb (v * b + d) (most * b + last) ≡ leb d last
goes-level b most last v d e = told (leb d last) refl
  where
    x : v * b ≡ most * b
    x = ap (λ (n : ℕ). n * b) e

    told : (a : Bool) → leb d last ≡ a → leb (v * b + d) (most * b + last) ≡ a
    told true f = le-leb (v * b + d) (most * b + last) (omega (arith, x, leb-true d last f))
    told false f = lt-leb (v * b + d) (most * b + last) (omega (arith, x, leb-false d last f))

pub goes_above : (b most last v d : ℕ) → last < b → most ≤ v → (v ≡ most → ⊥) → leb (v * b + d) (most * b + last) ≡ false
goes_above b most last v d h k n = let x : suc most * b ≤ v * b = mul-le-mul_right b (above k n) in lt-leb (v * b + d) (most * b + last) (omega (arith, x))
  where
    above : most ≤ v → (v ≡ most → ⊥) → most < v
    above k n = omega (arith, k, n)

pub parts : (b high : ℕ) → high / b * b + high % b ≡ high
parts b high = div-add-mod' high b

-- ---- the digits read

more-cons : (b high v at c : ℕ) (t : List ℕ) → more_digits b high v at (c ∷ t) ≡ cond (goes_on b high v (value_of c)) (more_digits b high (v * b + value_of c) (at + 1) t) (got v at)
unfolding more_digits
more-cons b high v at c t = refl

more-at : (s : List ℕ) (b high v i : ℕ) → i < length s → more_digits b high v i (drop i s) ≡ cond (goes_on b high v (value_of (get_or s i 0))) (more_digits b high (v * b + value_of (get_or s i 0)) (i + 1) (drop (i + 1) s)) (got v i)
more-at s b high v i h = rw (add-one i, drop-cons s i 0 h) (more-cons b high v i (get_or s i 0) (drop (suc i) s) ∙ rw (add-one i))

-- the code keeps the largest number in two parts
pub digits-go : (s : List ℕ) (b high v i d : ℕ) (g : Bool) → i < length s → d ≡ value_of (get_or s i 0) → g ≡ goes_on b (high / b * b + high % b) v d → g ≡ true → more_digits b high (v * b + d) (i + 1) (drop (i + 1) s) ≡ more_digits b high v i (drop i s)
digits-go s b high v i d g h x e k = sym (more-at s b high v i h ∙ rw (← x, ← parts b high, ← e, k))

pub digits-stop : (s : List ℕ) (b high v i d : ℕ) (g : Bool) → i < length s → d ≡ value_of (get_or s i 0) → g ≡ goes_on b (high / b * b + high % b) v d → g ≡ false → more_digits b high v i (drop i s) ≡ got v i
digits-stop s b high v i d g h x e k = more-at s b high v i h ∙ rw (← x, ← parts b high, ← e, k)

pub digits-fit : (b high v d : ℕ) (g : Bool) → g ≡ goes_on b (high / b * b + high % b) v d → g ≡ true → v * b + d ≤ high
digits-fit b high v d g e k = goes-top b high v d (ap (λ (h : ℕ). goes_on b h v d) (sym (parts b high)) ∙ sym e ∙ k)

pub digits-end : (s : List ℕ) (b high v i : ℕ) → length s ≤ i → more_digits b high v i (drop i s) ≡ got v i
unfolding more_digits
digits-end s b high v i h = rw (drop_of_length-le s h)

number-cons : (b low high at c : ℕ) (t : List ℕ) → number_in b low high at (c ∷ t) ≡ cond (begins b low high (value_of c)) (cond (eqb (value_of c) 0) (got 0 (at + 1)) (more_digits b high (value_of c) (at + 1) t)) (stop at)
unfolding number_in
number-cons b low high at c t = refl

number_at : (s : List ℕ) (b low high at d : ℕ) → at < length s → d ≡ value_of (get_or s at 0) →
    (number b low high).read s at ≡ cond (begins b low high d) (cond (eqb d 0) (got 0 (at + 1)) (more_digits b high d (at + 1) (drop (at + 1) s))) (stop at)
unfolding number
number_at s b low high at d h e = rw (add-one at, drop-cons s at 0 h, e) (number-cons b low high at (get_or s at 0) (drop (suc at) s) ∙ rw (add-one at))

module _ (s : List ℕ) (b low high at d : ℕ) (g : Bool) (inside : at < length s) (digit : d ≡ value_of (get_or s at 0)) (test : g ≡ begins b low high d) where
  pub number-zero : g ≡ true → d ≡ 0 → got 0 (at + 1) ≡ (number b low high).read s at
  number-zero h e = sym (number_at s b low high at d inside digit ∙ rw (← test, h, eq-eqb d 0 e))

  pub number_more : g ≡ true → (d ≡ 0 → ⊥) → more_digits b high d (at + 1) (drop (at + 1) s) ≡ (number b low high).read s at
  number_more h n = sym (number_at s b low high at d inside digit ∙ rw (← test, h, ne_eqb d 0 n))

  pub number-none : g ≡ false → stop at ≡ (number b low high).read s at
  number-none h = sym (number_at s b low high at d inside digit ∙ rw (← test, h))

pub number-end : (s : List ℕ) (b low high at : ℕ) → length s ≤ at → stop at ≡ (number b low high).read s at
unfolding number number_in
number-end s b low high at h = rw (drop_of_length-le s h)

-- what `more_digits` and `number` (src/lib.rt) stand on
pub ruleset digit_turns = (digits-fit, digits-go, digits-stop, digits-end)

pub ruleset number_cases = (number-zero, number_more, number-none, number-end)
