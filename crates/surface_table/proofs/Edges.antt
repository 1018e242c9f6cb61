-- Each limit of `surfaces_good` at its edge and one past it, computed.
use mathlib.Core.Path.{◌≡◌, refl}
use mathlib.Core.Bool.{Bool, true, false}
use mathlib.Core.List.{List, [], ◌∷◌}
use Prim.Native.Nat.{ℕ}
use lib.ListN.{replicate}
use Rattle.bits.specs.Below.{every_below}
use Rattle.surface_table.specs.Surfaces.{surfaces, surface_length, surface_start, surface_good_at, surfaces_good}

surfaces_in : ℕ → List ℕ → Bool
surfaces_in bytes table = surfaces_good bytes (surfaces table)

surfaces-at-edges : (surfaces_in 0 [] ≡ true)
    × (surfaces_in 1024 (1024 ∷ []) ≡ true)
    × (surfaces_in 1025 (1025 ∷ []) ≡ false)
    × (surfaces_in 16 (10 ∷ 0 ∷ 6 ∷ []) ≡ true)
    × (surfaces_in 15 (10 ∷ 0 ∷ 6 ∷ []) ≡ false)
    × (surfaces_in 17 (10 ∷ 0 ∷ 6 ∷ []) ≡ false)
    × (surfaces_in 8 (replicate 8 1) ≡ true)
    × (surfaces_in 9 (replicate 9 1) ≡ false)
unfolding surfaces_in every_below surface_length surface_start surface_good_at surfaces_good
surfaces-at-edges = (refl, refl, refl, refl, refl, refl, refl, refl)
