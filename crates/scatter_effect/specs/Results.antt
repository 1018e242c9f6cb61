-- What SVM SCATTER4_SCALED leaves: every enabled pair's four bytes hold its data with their marks, but for those that a later pair writes, and no
-- other byte of the memory changes, nor its mark.
use Rattle.std.specs.Prelude.{ℕ, ◌+◌, ◌-◌, ◌<◌, ◌≡◌, ◌⊎◌, true, get_or}
use Rattle.cells.specs.Buffer.{Buffer, is_tainted, mark_of}
use Rattle.cells.specs.Results.{Kept, Holds, Outside}
use Rattle.bits.specs.Bits.{bit}
use Rattle.plan.specs.Plan.{Plan}
use Rattle.staging.specs.Results.{Enabled}
use Rattle.scatter_effect.specs.Scatter.{Window, target, source_byte}

-- a channel and a lane, both enabled
pub record EnabledPair (mask : ℕ) (p : Plan) (c lane : ℕ) : Type 0 where
  pub channel : c < 4
  pub channel-on : bit p.channels c ≡ true
  pub lane-on : Enabled mask p lane

-- "c outer, i inner": the second pair is the later
abbrev pub Later : ℕ → ℕ → ℕ → ℕ → Type 0
Later c lane d other = (c < d) ⊎ ((c ≡ d) × (lane < other))

-- the memory byte at which a pair's data begin
abbrev pub place : Window → Plan → Buffer → ℕ → ℕ → ℕ
place w p registers c lane = target registers.bytes p c lane - w.base

pub record PairsHold (w : Window) (mask : ℕ) (p : Plan) (registers before after : Buffer) : Type 0 where
  -- "the later write stays", and "scattered bytes carry their marks"
  pub enabled : (c lane k : ℕ) → EnabledPair mask p c lane → k < 4
      → ((d other : ℕ) → EnabledPair mask p d other → Later c lane d other → Outside (place w p registers d other) 4 (place w p registers c lane + k))
      → Holds after (place w p registers c lane + k) (get_or registers.bytes (source_byte p c lane + k) 0) (mark_of (is_tainted (get_or registers.taint (source_byte p c lane + k) 0)))
  pub others : (j : ℕ) → ((c lane : ℕ) → EnabledPair mask p c lane → Outside (place w p registers c lane) 4 j) → Kept before after j
