-- The words in which the results of lanes are told.
use Rattle.std.specs.Prelude.{ℕ, ◌≡◌, true, get_or}
use Rattle.channels.specs.Lanes.{lane_on}
use Rattle.plan.specs.Plan.{Plan}

-- "Channel n is on"
abbrev pub Enabled : ℕ → Plan → ℕ → Type 0
Enabled mask p lane = lane_on p.control.exec p.control.pred mask p.bits lane ≡ true

-- the register byte at which a lane's destination begins
abbrev pub destination : Plan → ℕ → ℕ
destination p lane = get_or p.payload.at lane 0
