-- Each of 20 to 25 is given exactly where its own rule is broken and none before it in the list is, and 0 exactly where none is.
use mathlib.Core.Path.{◌≡◌, refl, ◌∙◌}
use mathlib.Core.Bool.{Bool, true, false, cond}
use mathlib.Core.Logic.{◌⊎◌, inl, inr, ⊎_elim}
use mathlib.Core.List.{List, [], ◌∷◌}
use Prim.Native.Nat.{ℕ, zero, suc, ◌+◌, ◌≤◌, ◌<◌}
use native.Mathlib.Omega.{arith}
use Rattle.region_rules.specs.declared.Role.{Role}
use Rattle.region_rules.specs.RegionRules.{RegionRule, region_rules, first_broken, region_refusal, broken_at, IsFirstBroken}

-- numbered one after the other
abbrev Numbered : ℕ → List RegionRule → Type 0
Numbered n [] = Unit {0}
Numbered n (r ∷ rs) = (r.number ≡ n) × Numbered (suc n) rs

module _ (role : Role) (region lanes : ℕ) where
  -- the numbers of such rules are no smaller than the first
  no-smaller : (n : ℕ) (rs : List RegionRule) → Numbered n rs → (first_broken rs role region lanes ≡ 0) ⊎ (n ≤ first_broken rs role region lanes)
  unfolding first_broken
  no-smaller n [] ns = inl refl
  no-smaller n (r ∷ rs) ns = told (r.broken role region lanes) (no-smaller (suc n) rs ns.1)
    where
      told : (q : Bool) → (first_broken rs role region lanes ≡ 0) ⊎ (suc n ≤ first_broken rs role region lanes) → (cond q r.number (first_broken rs role region lanes) ≡ 0) ⊎ (n ≤ cond q r.number (first_broken rs role region lanes))
      told true later = inr (omega (arith, ns.0))
      told false later = ⊎_elim (λ e. inl e) (λ h. inr (omega (arith, h))) later

  behind : (r : RegionRule) (rs : List RegionRule) (k : ℕ) → r.broken role region lanes ≡ false → IsFirstBroken role region lanes rs k → IsFirstBroken role region lanes (r ∷ rs) (suc k)
  unfolding broken_at
  behind r rs k off f = record { broken = f.broken; before = earlier }
    where
      earlier : (j : ℕ) → j < suc k → broken_at role region lanes (r ∷ rs) j ≡ false
      earlier zero h = off
      earlier (suc j) h = f.before j (omega (arith, h))

  given-first : (n : ℕ) (rs : List RegionRule) → 0 < n → Numbered n rs → (k : ℕ) → first_broken rs role region lanes ≡ n + k → IsFirstBroken role region lanes rs k
  unfolding first_broken broken_at
  given-first n [] some ns k e = absurd (omega (arith, e, some))
  given-first n (r ∷ rs) some ns k e = told (given-first (suc n) rs (omega arith) ns.1) (r.broken role region lanes) refl k e
    where
      told : ((j : ℕ) → first_broken rs role region lanes ≡ suc n + j → IsFirstBroken role region lanes rs j) → (q : Bool) → r.broken role region lanes ≡ q → (k : ℕ) → cond q r.number (first_broken rs role region lanes) ≡ n + k → IsFirstBroken role region lanes (r ∷ rs) k
      told rest true on zero e = record { broken = on; before = λ j h. absurd (omega (arith, h)) }
      told rest true on (suc k) e = absurd (omega (arith, e, ns.0))
      told rest false off zero e = ⊎_elim (λ z. absurd (omega (arith, z, e, some))) (λ h. absurd (omega (arith, h, e))) (no-smaller (suc n) rs ns.1)
      told rest false off (suc k) e = behind r rs k off (rest k (omega (arith, e)))

  first-given : (n : ℕ) (rs : List RegionRule) → Numbered n rs → (k : ℕ) → IsFirstBroken role region lanes rs k → first_broken rs role region lanes ≡ n + k
  unfolding first_broken broken_at
  first-given n [] ns k f = cc
  first-given n (r ∷ rs) ns zero f = rw f.broken (omega (arith, ns.0))
  first-given n (r ∷ rs) ns (suc k) f =
      rw (f.before 0 (omega arith))
      (first-given (suc n) rs ns.1 k (record { broken = f.broken; before = λ j h. f.before (suc j) (omega (arith, h)) }) ∙ omega arith)

  numbered : Numbered 20 region_rules
  numbered = (refl, (refl, (refl, (refl, (refl, (refl, tt))))))

  -- number 20 + k is given where rule k is the first that is broken, and nowhere else
  pub given-exactly : (k : ℕ) → region_refusal role region lanes ≡ 20 + k → IsFirstBroken role region lanes region_rules k
  unfolding region_refusal
  given-exactly k e = given-first 20 region_rules (omega arith) numbered k e

  pub broken-exactly : (k : ℕ) → IsFirstBroken role region lanes region_rules k → region_refusal role region lanes ≡ 20 + k
  unfolding region_refusal
  broken-exactly k f = first-given 20 region_rules numbered k f

  -- ---- none is broken

  none_before : (n : ℕ) (rs : List RegionRule) → 0 < n → Numbered n rs → first_broken rs role region lanes ≡ 0 → (k : ℕ) → broken_at role region lanes rs k ≡ false
  unfolding first_broken broken_at
  none_before n [] some ns e k = refl
  none_before n (r ∷ rs) some ns e k = told (none_before (suc n) rs (omega arith) ns.1) (r.broken role region lanes) refl e k
    where
      told : (first_broken rs role region lanes ≡ 0 → (j : ℕ) → broken_at role region lanes rs j ≡ false) → (q : Bool) → r.broken role region lanes ≡ q → cond q r.number (first_broken rs role region lanes) ≡ 0 → (j : ℕ) → broken_at role region lanes (r ∷ rs) j ≡ false
      told rest true on z j = absurd (omega (arith, z, ns.0, some))
      told rest false off z zero = off
      told rest false off z (suc j) = rest z j

  -- no number is given where no rule is broken, and nowhere else
  pub none-broken : region_refusal role region lanes ≡ 0 → (k : ℕ) → broken_at role region lanes region_rules k ≡ false
  unfolding region_refusal
  none-broken e k = none_before 20 region_rules (omega arith) numbered e k

  pub none-given : ((k : ℕ) → broken_at role region lanes region_rules k ≡ false) → region_refusal role region lanes ≡ 0
  unfolding region_refusal first_broken broken_at
  none-given off = all-off region_rules off
    where
      all-off : (rs : List RegionRule) → ((k : ℕ) → broken_at role region lanes rs k ≡ false) → first_broken rs role region lanes ≡ 0
      all-off [] h = refl
      all-off (r ∷ rs) h = rw (h 0) (all-off rs (λ k. h (suc k)))
