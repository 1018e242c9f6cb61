-- The highest element: a bound of every lane, and what its test says of all.
use mathlib.Core.Path.{◌≡◌, refl, sym, ◌∙◌}
use mathlib.Core.Bool.{Bool, true, false, cond, ◌||◌}
use Prim.Native.Nat.{ℕ, zero, suc, ◌≤◌, ◌<◌, max}
use native.Mathlib.Omega.{arith, max_cases}
use native.Mathlib.Numerals.{add-one}
use native.Mathlib.Nat.{not-suc-le-zero, le-max_left, le-max_right}
use lib.Dec.{ltb, eqb}
use borrow.Author.Tests.{ltb-true, ltb-false, lt-ltb, le-ltb, ne_eqb}
use borrow.Author.Count.{below_more}
use Rattle.bits.specs.Below.{every_below}
use Rattle.bits.proofs.All.{left}
use Rattle.bits.proofs.Every.{every-none, every-next, every-each, every-fails}
use Rattle.regions.specs.declared.Variable.{Variable}
use Rattle.regions.specs.Reach.{highest, inside_variable, elements_good}

-- what holds of both cases of a test holds of the choice
pub cond_either : {X : Type 0} (P : X → Type 0) (b : Bool) {x y : X} → (b ≡ true → P x) → (b ≡ false → P y) → P (cond b x y)
cond_either P true p q = p refl
cond_either P false p q = q refl

-- no lane is above the highest
pub highest-each : (f : ℕ → ℕ) (n k : ℕ) → k < n → f k ≤ highest f n
unfolding highest
highest-each f zero k h = absurd (not-suc-le-zero h)
highest-each f (suc n) k h =
    below_more (λ (j : ℕ). f j ≤ max (highest f n) (f n)) n (λ j l. omega (arith, highest-each f n j l, le-max_left (highest f n) (f n)))
    (le-max_right (highest f n) (f n)) k (rw (add-one n) h)

-- the highest is some lane's
pub record LaneOf (f : ℕ → ℕ) (n value : ℕ) : Type 0 where
  pub lane : ℕ
  pub below : lane < n
  pub same : value ≡ f lane

here : (f : ℕ → ℕ) (n value : ℕ) → value ≡ f n → LaneOf f (suc n) value
here f n value e = record { lane = n; below = omega arith; same = e }

later : (f : ℕ → ℕ) (n low value : ℕ) → value ≡ low → LaneOf f n low → LaneOf f (suc n) value
later f n low value e a = record { lane = a.lane; below = omega (arith, a.below); same = e ∙ a.same }

pub highest-some : (f : ℕ → ℕ) (n : ℕ) → LaneOf f (suc n) (highest f (suc n))
unfolding highest
highest-some f zero = here f 0 (max (f 0) (f 0)) (omega arith)
highest-some f (suc n) =
    max_cases (highest f (suc n)) (f (suc n)) (LaneOf f (suc (suc n)) (highest f (suc (suc n))))
    (λ _ e. here f (suc n) _ e) (λ _ e. later f (suc n) (highest f (suc n)) _ e (highest-some f n))

every-all : (good : ℕ → Bool) (n : ℕ) → ((k : ℕ) → k < n → good k ≡ true) → every_below n good ≡ true
every-all good zero h = every-none good
every-all good (suc n) h =
    rw (← add-one n) (every-next good n (every-all good n (λ k l. h k (omega arith))) (h n (omega arith)))

module _ (f : ℕ → ℕ) (count : ℕ) where
  -- all lanes are inside exactly if the highest is
  inside-by : (n : ℕ) (b : Bool) → ltb (highest f (suc n)) count ≡ b → b ≡ inside_variable f (suc n) count
  unfolding inside_variable
  inside-by n true e =
      sym (every-all (λ k. ltb (f k) count) (suc n) (λ k l. lt-ltb (f k) count
      (omega (arith, highest-each f (suc n) k l, ltb-true (highest f (suc n)) count e))))
  inside-by n false e =
      let a = highest-some f n in
      sym (every-fails (λ k. ltb (f k) count) (suc n) a.lane a.below (le-ltb (f a.lane) count
      (omega (arith, a.same, ltb-false (highest f (suc n)) count e))))

  -- no lanes are inside
  pub inside-highest : (n : ℕ) → (eqb n 0 || ltb (highest f n) count) ≡ inside_variable f n count
  unfolding inside_variable
  inside-highest zero = sym (every-none (λ k. ltb (f k) count))
  inside-highest (suc n) = rw (ne_eqb (suc n) 0 (omega arith)) (inside-by n (ltb (highest f (suc n)) count) refl)

  inside-each : (n : ℕ) → inside_variable f n count ≡ true → (k : ℕ) → k < n → f k < count
  unfolding inside_variable
  inside-each n e k l = ltb-true (f k) count (every-each (λ j. ltb (f j) count) n e k l)

-- the elements of a good operand are inside
pub elements-inside : (register_size : ℕ) (v : Variable) (f : ℕ → ℕ) (lanes : ℕ) → elements_good register_size v f lanes ≡ true → (k : ℕ) → k < lanes → f k < v.count
unfolding elements_good
elements-inside register_size v f lanes e = inside-each f v.count lanes (left _ _ e)
