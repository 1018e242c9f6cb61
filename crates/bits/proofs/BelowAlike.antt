-- Two tests that agree on every number below a bound: some passes the one, or all do, exactly where it is so of the other.
use Prim.Native.Nat.{ℕ, zero, suc, ◌<◌}
use mathlib.Core.Path.{◌≡◌, refl}
use mathlib.Core.Bool.{Bool}
use native.Mathlib.Omega.{arith}
use Rattle.bits.specs.Below.{some_below, every_below}

module _ (p q : ℕ → Bool) where
  pub some_alike : (n : ℕ) → ((k : ℕ) → k < n → p k ≡ q k) → some_below n p ≡ some_below n q
  unfolding some_below
  some_alike zero h = refl
  some_alike (suc n) h = rw (some_alike n (λ k l. h k (omega (arith, l))), h n (omega arith))

  pub every-alike : (n : ℕ) → ((k : ℕ) → k < n → p k ≡ q k) → every_below n p ≡ every_below n q
  unfolding every_below
  every-alike zero h = refl
  every-alike (suc n) h = rw (every-alike n (λ k l. h k (omega (arith, l))), h n (omega arith))
