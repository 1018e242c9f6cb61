-- What SHL does. Document 01, "Which channels, which results" and "How marks move".
use Rattle.std.specs.Prelude.{ℕ, List, [], get_or}
use Rattle.cells.specs.Buffer.{Buffer, mark_of}
use Rattle.cells.specs.Writes.{Write, number_writes}
use Rattle.cells.specs.Over.{each}
use Rattle.cells.specs.Effect.{Effect, writing}
use Rattle.shift.specs.Exact.{shifted}
use Rattle.plan.specs.Plan.{Plan}
use Rattle.staging.specs.Sources.{element_value, either_tainted}

-- "Source read exactly (signed types signed), times 2^(count mod 32), taken modulo 2^(destination bits)."
unfoldable pub shl_value : List ℕ → Plan → ℕ → ℕ
shl_value bytes p lane =
    shifted p.left.signed p.left.size (element_value bytes p.left lane) (element_value bytes p.right lane) p.payload.size

-- "Each written SHL element is wholly marked if any byte of either source element was, else wholly unmarked."
unfoldable pub shl_mark : List ℕ → Plan → ℕ → ℕ
shl_mark taint p lane = mark_of (either_tainted taint p.left p.right lane)

unfoldable pub shl_lane : Buffer → Plan → ℕ → List Write
shl_lane b p lane = number_writes (get_or p.payload.at lane 0) p.payload.size (shl_mark b.taint p lane) (shl_value b.bytes p lane)

-- the enabled lanes, in order, over the registers as they were
unfoldable pub shl_effect : Plan → List ℕ → Buffer → Effect
shl_effect p lanes registers = writing (each (shl_lane registers p) lanes) []
