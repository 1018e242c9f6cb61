-- Where a surface of a good table lies in the surface buffer.
use mathlib.Core.Path.{◌≡◌, refl}
use mathlib.Core.Bool.{Bool, true, false}
use mathlib.Core.List.{List}
use Prim.Native.Nat.{ℕ, zero, suc, ◌+◌, ◌*◌, ◌≤◌, ◌<◌}
use native.Mathlib.Omega.{arith}
use native.Mathlib.Numerals.{add-one}
use native.Mathlib.Nat.{not-suc-le-zero}
use lib.Dec.{ltb, leb, eqb}
use lib.ListN.{length, get_or, get_or-eq_default}
use borrow.Author.Tests.{ltb-true, ltb-false, leb-true, eqb-true}
use borrow.Author.Count.{below_more}
use Rattle.bits.specs.Below.{every_below}
use Rattle.surface_table.specs.Surfaces.{Surfaces, surfaces, surface_length, surface_start, surface_good_at, surfaces_good}
use Rattle.bits.proofs.All.{All3, all3}
use Rattle.bits.proofs.Every.{every-each}

-- a surface ends where a later one begins, or before
pub ends-before : (t : Surfaces) (n k : ℕ) → k < n → surface_start t k + surface_length t k ≤ surface_start t n
unfolding surface_start
ends-before t zero k h = absurd (not-suc-le-zero h)
ends-before t (suc n) k h =
    below_more (λ (j : ℕ). surface_start t j + surface_length t j ≤ surface_start t n + surface_length t n) n
    (λ j l. omega (arith, ends-before t n j l)) (omega arith) k (rw (add-one n) h)

-- the start of a surface, where each length before it has a limit
pub start-at-most : (t : Surfaces) (most n : ℕ) → ((k : ℕ) → k < n → surface_length t k ≤ most) → surface_start t n ≤ most * n
unfolding surface_start
start-at-most t most zero h = omega arith
start-at-most t most (suc n) h = omega (arith, start-at-most t most n (λ k l. h k (omega arith)), h n (omega arith))

pub length-is : (t : Surfaces) (k : ℕ) → surface_length t k ≡ get_or t.lengths k 0
unfolding surface_length
length-is t k = refl

-- as the code learns it: lengths of two bytes add up to no more than a start of four
pub start_small : (lengths : List ℕ) (n : ℕ) → ((k : ℕ) → k < length lengths → get_or lengths k 0 < 65536) → surface_start (surfaces lengths) n ≤ 65535 * n
unfolding surface_length
start_small lengths n h = start-at-most (surfaces lengths) 65535 n (λ k _. told k (ltb k (length lengths)) refl)
  where
    told : (k : ℕ) (q : Bool) → ltb k (length lengths) ≡ q → get_or lengths k 0 ≤ 65535
    told k true e = omega (arith, h k (ltb-true k (length lengths) e))
    told k false e = omega (arith, get_or-eq_default {A = ℕ} lengths 0 (ltb-false k (length lengths) e))

-- a good table of surfaces
module _ (bytes : ℕ) (t : Surfaces) (good : surfaces_good bytes t ≡ true) where
  tests : All3 (leb (length t.lengths) 8) (every_below (length t.lengths) (surface_good_at t)) (eqb (surface_start t (length t.lengths)) bytes)
  unfolding surfaces_good
  tests = all3 _ _ _ good

  pub surfaces-few : length t.lengths ≤ 8
  surfaces-few = leb-true (length t.lengths) 8 tests.first

  pub surface-small : (k : ℕ) → k < length t.lengths → surface_length t k ≤ 1024
  unfolding surface_good_at
  surface-small k h = leb-true (surface_length t k) 1024 (every-each (surface_good_at t) (length t.lengths) tests.second k h)

  pub lengths-add-up : surface_start t (length t.lengths) ≡ bytes
  lengths-add-up = eqb-true (surface_start t (length t.lengths)) bytes tests.third

  pub surface-inside : (k : ℕ) → k < length t.lengths → surface_start t k + surface_length t k ≤ bytes
  surface-inside k h = omega (arith, lengths-add-up, ends-before t (length t.lengths) k h)

  pub surfaces-small : bytes ≤ 8192
  surfaces-small = omega (arith, lengths-add-up, surfaces-few, start-at-most t 1024 (length t.lengths) surface-small)
