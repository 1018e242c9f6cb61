-- What SHL leaves: every enabled lane's element is the defined one, under the defined mark, and no other byte of the registers changes, nor its
-- mark.
use Rattle.std.specs.Prelude.{ℕ, ◌+◌, ◌/◌, ◌%◌, ◌^◌, ◌<◌, ◌≡◌}
use Rattle.cells.specs.Buffer.{Buffer}
use Rattle.cells.specs.Element.{element}
use Rattle.cells.specs.Results.{Kept, Holds, Outside}
use Rattle.plan.specs.Plan.{Plan}
use Rattle.staging.specs.Results.{Enabled, destination}
use Rattle.shl_effect.specs.Shl.{shl_value, shl_mark}

-- a lane's element afterwards: its value, and its bytes one by one, the lowest first, all under one mark
pub record LaneHolds (p : Plan) (before after : Buffer) (lane : ℕ) : Type 0 where
  pub value : element p.payload.size after.bytes (destination p lane) ≡ shl_value before.bytes p lane
  pub each-byte : (k : ℕ) → k < p.payload.size → Holds after (destination p lane + k) (shl_value before.bytes p lane / 256 ^ k % 256) (shl_mark before.taint p lane)

pub record LanesHold (mask : ℕ) (p : Plan) (before after : Buffer) : Type 0 where
  pub enabled : (lane : ℕ) → Enabled mask p lane → LaneHolds p before after lane
  pub others : (j : ℕ) → ((lane : ℕ) → Enabled mask p lane → Outside (destination p lane) p.payload.size j) → Kept before after j
