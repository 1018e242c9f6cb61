-- Where the elements of the lanes are: a byte for each lane.
use Rattle.std.specs.Prelude.{ℕ, zero, suc, ◌+◌, ◌*◌, List, set, replicate}

-- a list with f 0, f 1, .. in its first n places
unfoldable pub filled : List ℕ → (ℕ → ℕ) → ℕ → List ℕ
filled l f zero = l
filled l f (suc n) = set (filled l f n) n (f n)

-- f of each of the 32 lanes; those at and past ExecSize do not matter
unfoldable pub lane_positions : (ℕ → ℕ) → List ℕ
lane_positions f = filled (replicate 32 0) f 32

-- the byte of lane k's element, where the lanes take these elements of this size, counted from a start byte
unfoldable pub element_byte : ℕ → ℕ → (ℕ → ℕ) → ℕ → ℕ
element_byte start size element k = start + element k * size
