-- Tests that agree on every lane below a number find the same lanes there.
use Prim.Native.Nat.{ℕ, zero, suc, ◌+◌, ◌<◌}
use mathlib.Core.Path.{◌≡◌, refl, ap₂}
use mathlib.Core.Bool.{Bool, cond}
use mathlib.Core.List.{List, ◌∷◌}
use native.Mathlib.Omega.{arith}
use Rattle.cells.specs.Over.{among_from, among}

module _ (p q : ℕ → Bool) where
  alike_from : (n i : ℕ) → ((k : ℕ) → k < i + n → p k ≡ q k) → among_from p i n ≡ among_from q i n
  unfolding among_from
  alike_from zero i same = refl
  alike_from (suc n) i same =
      ap₂ (λ (t : Bool) (is : List ℕ). cond t (i ∷ is) is) (same i (omega arith)) (alike_from n (suc i) (λ k h. same k (omega arith)))

  pub among-alike : (n : ℕ) → ((k : ℕ) → k < n → p k ≡ q k) → among p n ≡ among q n
  unfolding among
  among-alike n same = alike_from n 0 (λ k h. same k (omega arith))
