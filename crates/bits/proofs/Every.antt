-- The laws of `every_below`: what a loop over a table learns, and what is then known of each entry.
use mathlib.Core.Path.{◌≡◌, refl, sym, ap}
use mathlib.Core.Logic.{◌↔◌}
use mathlib.Core.Bool.{Bool, true, false, ◌&&◌, false≢true}
use Prim.Native.Nat.{ℕ, zero, suc, ◌+◌, ◌<◌}
use native.Mathlib.Omega.{arith}
use native.Mathlib.Numerals.{add-one}
use native.Mathlib.Nat.{not-suc-le-zero}
use borrow.Author.Count.{below_more}
use Rattle.bits.specs.Below.{every_below}
use Rattle.bits.proofs.All.{left, right}

left-fails : (a b : Bool) → a ≡ false → (a && b) ≡ false
left-fails a b e = rw e

right-fails : (a b : Bool) → b ≡ false → (a && b) ≡ false
right-fails true b e = e
right-fails false b e = refl

module _ (good : ℕ → Bool) where
  pub every-none : every_below 0 good ≡ true
  unfolding every_below
  every-none = refl

  pub every-same : (m n : ℕ) → m ≡ n → every_below m good ≡ every_below n good
  every-same m n e = ap (λ (k : ℕ). every_below k good) e

  pub every-next : (n : ℕ) → every_below n good ≡ true → good n ≡ true → every_below (n + 1) good ≡ true
  unfolding every_below
  every-next n e h = rw (add-one n, e, h)

  pub every-each : (n : ℕ) → every_below n good ≡ true → (k : ℕ) → k < n → good k ≡ true
  unfolding every_below
  every-each zero e k h = absurd (not-suc-le-zero h)
  every-each (suc n) e k h =
      below_more (λ (j : ℕ). good j ≡ true) n (every-each n (left (every_below n good) (good n) e)) (right (every_below n good) (good n) e) k
      (rw (add-one n) h)

  pub every_holds : (n : ℕ) → ((k : ℕ) → k < n → good k ≡ true) → every_below n good ≡ true
  unfolding every_below
  every_holds zero h = refl
  every_holds (suc n) h = rw (every_holds n (λ k l. h k (omega (arith, l))), h n (omega arith))

  pub every-fails : (n k : ℕ) → k < n → good k ≡ false → every_below n good ≡ false
  unfolding every_below
  every-fails zero k h e = absurd (not-suc-le-zero h)
  every-fails (suc n) k h e =
      below_more (λ (j : ℕ). good j ≡ false → every_below (suc n) good ≡ false) n
      (λ j l f. left-fails (every_below n good) (good n) (every-fails n j l f))
      (λ f. right-fails (every_below n good) (good n) f) k (rw (add-one n) h) e

  -- as a chain's `all` says it: the test passed is `every_below`
  pub every_is : (n : ℕ) (b : Bool) → (b ≡ true ↔ ((k : ℕ) → k < n → good k ≡ true)) → b ≡ every_below n good
  every_is n true h = sym (every_holds n (h.0 refl))
  every_is n false h = told (every_below n good) refl
    where
      told : (q : Bool) → every_below n good ≡ q → false ≡ q
      told true e = absurd (false≢true (h.1 (every-each n e)))
      told false e = refl
