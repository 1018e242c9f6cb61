-- What GATHER_SCALED leaves: every enabled lane's dword is the defined one, each byte under its defined mark, and no other byte of the registers
-- changes, nor its mark.
use Rattle.std.specs.Prelude.{ℕ, ◌+◌, ◌<◌, Bool}
use Rattle.cells.specs.Buffer.{Buffer}
use Rattle.cells.specs.Results.{Kept, Holds, Outside}
use Rattle.plan.specs.Plan.{Plan}
use Rattle.staging.specs.Sources.{element_value, either_tainted}
use Rattle.staging.specs.Results.{Enabled, destination}
use Rattle.gather_effect.specs.Gather.{gather_address, gathered_byte, gathered_mark}

-- a lane's address, and whether it is doubtful
abbrev pub lane_address : Plan → Buffer → ℕ → ℕ
lane_address p registers lane = gather_address (element_value registers.bytes p.left lane) (element_value registers.bytes p.right lane)

abbrev pub lane_doubtful : Plan → Buffer → ℕ → Bool
lane_doubtful p registers lane = either_tainted registers.taint p.left p.right lane

-- byte j of a lane's dword afterwards
abbrev pub lane_byte : Plan → Buffer → Buffer → ℕ → ℕ → ℕ
lane_byte p registers surfaces lane j = gathered_byte surfaces.bytes p (lane_address p registers lane) j

abbrev pub lane_mark : Plan → Buffer → Buffer → ℕ → ℕ → ℕ
lane_mark p registers surfaces lane j = gathered_mark surfaces.taint p (lane_doubtful p registers lane) (lane_address p registers lane) j

pub record LanesHold (mask : ℕ) (p : Plan) (surfaces before after : Buffer) : Type 0 where
  pub enabled : (lane : ℕ) → Enabled mask p lane → (j : ℕ) → j < 4 → Holds after (destination p lane + j) (lane_byte p before surfaces lane j) (lane_mark p before surfaces lane j)
  pub others : (j : ℕ) → ((lane : ℕ) → Enabled mask p lane → Outside (destination p lane) 4 j) → Kept before after j
