-- Bytes put into a buffer from a place on: as many as there is room for, or all or none.
use Rattle.std.specs.Prelude.{ℕ, suc, ◌+◌, Bool, cond, List, [], ◌∷◌, leb, length, set}

-- the buffer with the bytes at a place and after it; what would stand past the end is lost
unfoldable pub placed : List ℕ → ℕ → List ℕ → List ℕ
placed buffer at [] = buffer
placed buffer at (b ∷ bs) = placed (set buffer at b) (suc at) bs

-- whether the buffer has room for all of them
unfoldable pub fits : List ℕ → ℕ → List ℕ → Bool
fits bytes at buffer = leb (at + length bytes) (length buffer)

-- all of them or none
unfoldable pub stored : List ℕ → ℕ → List ℕ → List ℕ
stored bytes at buffer = cond (fits bytes at buffer) (placed buffer at bytes) buffer
