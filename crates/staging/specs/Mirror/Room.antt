-- The room for the sources of one instruction. Document 01: "All sources are read before any write. Room for the sources of one instruction,
-- 512 bytes at most, starts as zeros." The sources stand one after the other: two of 32 lanes and 8 bytes each fill it, and so do two of
-- 16 lanes and 8 bytes each with the 64 dwords of a scatter.
use Rattle.std.specs.Prelude.{ℕ, ◌+◌, ◌*◌, Bool, true, false, cond, ◌&&◌, ◌||◌, List, leb, get_or, replicate}
use Rattle.cells.specs.Buffer.{Buffer, buffer, mark_of, any_tainted}
use Rattle.cells.specs.Element.{element}
use Rattle.cells.specs.Writes.{Write, number_writes, copy_writes, written_all}
use Rattle.cells.specs.Over.{among, each}
use Rattle.operands.specs.declared.Elements.{Elements}
use Rattle.staging.specs.declared.Layout.{Layout}

abbrev pub empty_room : Buffer
empty_room = buffer (replicate 512 0) (replicate 512 0)

-- ---- where the sources stand
abbrev pub layout_of : Elements → Elements → ℕ → Layout
layout_of first second lanes = record { lanes = lanes; first = first.size; second = second.size }

-- a lane's element of the first source, and of the second, which begins where the first ends
unfoldable pub first_place : Layout → ℕ → ℕ
first_place s lane = lane * s.first

unfoldable pub second_place : Layout → ℕ → ℕ
second_place s lane = s.lanes * s.first + lane * s.second

-- a scatter's data, where the second source ends
unfoldable pub data_place : Layout → ℕ
data_place s = s.lanes * s.first + s.lanes * s.second

-- ---- how they come there
-- lane n's element goes to n elements past the base, with its taint
unfoldable pub stage_lane : Buffer → Elements → ℕ → ℕ → List Write
stage_lane registers e base lane =
    cond e.immediate
    (number_writes (base + lane * e.size) e.size (mark_of false) e.value)
    (copy_writes registers (get_or e.at lane 0) (base + lane * e.size) e.size)

-- the elements of all lanes, on or off
unfoldable pub staged : Buffer → Elements → ℕ → ℕ → Buffer → Buffer
staged registers e lanes base room = written_all (each (stage_lane registers e base) (among (λ _. true) lanes)) room

-- both sources of an instruction
abbrev pub sources_staged : Buffer → Elements → Elements → ℕ → Buffer → Buffer
sources_staged registers first second lanes room =
    staged registers second lanes (second_place (layout_of first second lanes) 0) (staged registers first lanes (first_place (layout_of first second lanes) 0) room)

unfoldable pub both_staged : Buffer → Elements → Elements → ℕ → Buffer
both_staged registers first second lanes = sources_staged registers first second lanes empty_room

-- and, of a scatter, so many register bytes from a position on
unfoldable pub data_staged : Buffer → Elements → Elements → ℕ → ℕ → ℕ → Buffer
data_staged registers first second lanes from count =
    written_all (copy_writes registers from (data_place (layout_of first second lanes)) count) (both_staged registers first second lanes)

-- ---- what is read there
unfoldable pub first_number : List ℕ → Layout → ℕ → ℕ
first_number bytes s lane = element s.first bytes (first_place s lane)

unfoldable pub second_number : List ℕ → Layout → ℕ → ℕ
second_number bytes s lane = element s.second bytes (second_place s lane)

-- whether a byte of either is tainted
unfoldable pub either_staged : List ℕ → Layout → ℕ → Bool
either_staged taint s lane = any_tainted taint (first_place s lane) s.first || any_tainted taint (second_place s lane) s.second

-- ---- what there is room for
-- at most 32 lanes, and elements of at most this size
unfoldable pub elements_fit : ℕ → Elements → ℕ → Bool
elements_fit size e lanes = leb lanes 32 && leb e.size size
