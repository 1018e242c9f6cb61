-- What GATHER_SCALED does. Document 01, "Which channels, which results" and "How marks move".
use Rattle.std.specs.Prelude.{ℕ, zero, suc, ◌+◌, ◌%◌, ◌^◌, Bool, cond, ◌&&◌, ◌||◌, List, [], ◌∷◌, get_or, ltb}
use Rattle.cells.specs.Buffer.{Buffer, is_tainted, mark_of}
use Rattle.cells.specs.Writes.{Write}
use Rattle.cells.specs.Over.{each}
use Rattle.cells.specs.Effect.{Effect, writing}
use Rattle.plan.specs.Plan.{Plan}
use Rattle.staging.specs.Sources.{element_value, either_tainted}

-- "Address is their sum modulo 2^32"
unfoldable pub gather_address : ℕ → ℕ → ℕ
gather_address offset element = (offset + element) % 2 ^ 32

-- byte j of the dword is read from the surface: "the block's later bytes do not wrap", "Each byte at or past the surface's end reads 0.
-- Bytes of the dword above the block become 0."
unfoldable pub is_read : Plan → ℕ → ℕ → Bool
is_read p address j = ltb j p.bytes && ltb (address + j) p.length

unfoldable pub gathered_byte : List ℕ → Plan → ℕ → ℕ → ℕ
gathered_byte bytes p address j = cond (is_read p address j) (get_or bytes (p.start + address + j) 0) 0

-- "A gathered dword is wholly marked if any byte of its offset or element offset was; else each byte takes the mark of the surface byte
-- read, and zeros are unmarked."
unfoldable pub gathered_mark : List ℕ → Plan → Bool → ℕ → ℕ → ℕ
gathered_mark taint p doubtful address j =
    mark_of (doubtful || (is_read p address j && is_tainted (get_or taint (p.start + address + j) 0)))

-- bytes j, j + 1, .. of the dword that begins at a register byte
unfoldable pub gather_writes : Buffer → Plan → Bool → ℕ → ℕ → ℕ → ℕ → List Write
gather_writes surfaces p doubtful address at j zero = []
gather_writes surfaces p doubtful address at j (suc n) =
    record {
      at = at + j;
      value = gathered_byte surfaces.bytes p address j;
      mark = gathered_mark surfaces.taint p doubtful address j;
    }
    ∷ gather_writes surfaces p doubtful address at (suc j) n

unfoldable pub gather_lane : Buffer → Buffer → Plan → ℕ → List Write
gather_lane registers surfaces p lane =
    gather_writes surfaces p (either_tainted registers.taint p.left p.right lane)
    (gather_address (element_value registers.bytes p.left lane) (element_value registers.bytes p.right lane))
    (get_or p.payload.at lane 0) 0 4

unfoldable pub gather_effect : Plan → List ℕ → Buffer → Buffer → Effect
gather_effect p lanes registers surfaces = writing (each (gather_lane registers surfaces p) lanes) []
