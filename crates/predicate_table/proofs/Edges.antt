-- Each limit of `predicates_good` at its edge and one past it, computed.
use mathlib.Core.Path.{◌≡◌, refl}
use mathlib.Core.Bool.{Bool, true, false}
use Prim.Native.Nat.{ℕ}
use lib.ListN.{replicate}
use Rattle.bits.specs.Below.{every_below}
use Rattle.predicate_table.specs.Predicates.{predicates, count_good, count_good_at, predicates_good}

-- so many bits and counts, all counts this one
many_predicates : ℕ → ℕ → ℕ → Bool
many_predicates bits counts count = predicates_good (predicates (replicate bits 0) (replicate counts count))

predicates-at-edges : (many_predicates 0 0 0 ≡ true)
    × (many_predicates 64 64 32 ≡ true)
    × (many_predicates 65 65 32 ≡ false)
    × (many_predicates 2 1 8 ≡ false)
    × (many_predicates 1 2 8 ≡ false)
    × (many_predicates 1 1 1 ≡ true)
    × (many_predicates 1 1 0 ≡ false)
    × (many_predicates 1 1 33 ≡ false)
unfolding many_predicates every_below count_good count_good_at predicates_good
predicates-at-edges = (refl, refl, refl, refl, refl, refl, refl, refl)
