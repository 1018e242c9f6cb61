-- The table of surfaces: their lengths. One buffer holds them, one after the other. Document 01, "Tables and sizes".
use Rattle.std.specs.Prelude.{ℕ, zero, suc, ◌+◌, Bool, ◌&&◌, List, leb, eqb, length, get_or}
use Rattle.bits.specs.Below.{every_below}

pub record Surfaces : Type 0 where
  pub lengths : List ℕ

abbrev pub surfaces : List ℕ → Surfaces
surfaces lengths = record { lengths = lengths }

-- 0 for a surface that is not in the table
unfoldable pub surface_length : Surfaces → ℕ → ℕ
surface_length t k = get_or t.lengths k 0

-- where surface k begins in the buffer: the lengths before it, added up
unfoldable pub surface_start : Surfaces → ℕ → ℕ
surface_start t zero = 0
surface_start t (suc k) = surface_start t k + surface_length t k

unfoldable pub surface_good_at : Surfaces → ℕ → Bool
surface_good_at t k = leb (surface_length t k) 1024

-- "At most .. 8 surfaces of at most 1,024 bytes"; the lengths add up to the buffer's
unfoldable pub surfaces_good : ℕ → Surfaces → Bool
surfaces_good bytes t =
    leb (length t.lengths) 8
    && every_below (length t.lengths) (surface_good_at t)
    && eqb (surface_start t (length t.lengths)) bytes
