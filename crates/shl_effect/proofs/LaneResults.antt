-- What SHL leaves, for a plan that `check` accepts: every enabled lane's element is the defined one, under the defined mark, and no other byte
-- of the registers changes, nor its mark.
use Prim.Native.Nat.{ℕ, ◌+◌, ◌/◌, ◌%◌, ◌^◌, ◌≤◌, ◌<◌}
use mathlib.Core.Path.{◌≡◌, ◌∙◌}
use mathlib.Core.List.{List}
use native.Mathlib.Nat.{mod-eq_of_lt}
use native.Mathlib.Omega.{arith}
use lib.ListN.{length}
use Rattle.shl_effect.specs.Results.{LaneHolds, LanesHold}
use Rattle.cells.specs.Buffer.{Buffer}
use Rattle.cells.specs.Writes.{written_all}
use Rattle.cells.specs.Over.{each}
use Rattle.cells.proofs.NumberLaws.{element-is}
use Rattle.cells.specs.Results.{Holds}
use Rattle.cells.proofs.RowLaws.{row, number-row}
use Rattle.cells.proofs.NumberWriteLaws.{number-held}
use Rattle.exec_byte.specs.Exec.{exec_size}
use Rattle.shift.proofs.SpanLaws.{span-bytes}
use Rattle.shift.proofs.ShiftLaws.{shifted-small}
use Rattle.plan.specs.Plan.{Plan}
use Rattle.plan.proofs.PlanLaws.{ShlSound}
use Rattle.staging.specs.Lanes.{lanes_on}
use Rattle.staging.specs.Results.{Enabled, destination}
use Rattle.staging.proofs.ResultLaws.{Destinations, others-kept, lanes-hold}
use Rattle.shl_effect.specs.Shl.{shl_value, shl_mark, shl_lane, shl_effect}

value-small : (bytes : List ℕ) (p : Plan) (lane : ℕ) → shl_value bytes p lane < 256 ^ p.payload.size
unfolding shl_value
value-small bytes p lane = rw (← span-bytes p.payload.size) (shifted-small p.left.signed p.left.size _ _ p.payload.size)

module _ (registers mask : ℕ) (p : Plan) (few : exec_size p.control.exec ≤ 32) (sound : ShlSound registers p) (b : Buffer) (bytes : length b.bytes ≡ registers) (taint : length b.taint ≡ registers) where
  abbrev after : Buffer
  after = written_all (each (shl_lane b p) (lanes_on mask p)) b

  apart : Destinations p p.payload.size b
  apart =
      record {
        inside = λ lane h. record {
          bytes = rw bytes (sound.payload.inside sound.apart.in_registers lane h);
          taint = rw taint (sound.payload.inside sound.apart.in_registers lane h);
        };
        apart = λ i k h g. sound.apart.each i k h (omega arith);
      }

  lane_row : (lane : ℕ) → shl_lane b p lane ≡ row (λ k. shl_value b.bytes p lane / 256 ^ k % 256) (λ _. shl_mark b.taint p lane) (destination p lane) 0 p.payload.size
  unfolding shl_lane
  lane_row lane = number-row (destination p lane) (shl_mark b.taint p lane) (shl_value b.bytes p lane) p.payload.size

  lane-holds : (lane : ℕ) → Enabled mask p lane → LaneHolds p b after lane
  lane-holds lane enabled =
      record {
        value =
            element-is p.payload.size after.bytes (destination p lane) (omega (arith, sound.payload.size.1))
            ∙ number-held p.payload.size after.bytes (destination p lane) (shl_value b.bytes p lane) (λ k h. (each-byte k h).byte)
            ∙ mod-eq_of_lt (value-small b.bytes p lane);
        each-byte = each-byte;
      }
    where
      each-byte : (k : ℕ) → k < p.payload.size → Holds after (destination p lane + k) (shl_value b.bytes p lane / 256 ^ k % 256) (shl_mark b.taint p lane)
      each-byte = lanes-hold mask p p.payload.size b (shl_lane b p) (λ i k. shl_value b.bytes p i / 256 ^ k % 256) (λ i _. shl_mark b.taint p i) lane_row apart lane enabled

  pub shl-results : LanesHold mask p b (written_all (shl_effect p (lanes_on mask p) b).registers b)
  unfolding shl_effect
  shl-results =
      record {
        enabled = lane-holds;
        others = others-kept mask p p.payload.size b (shl_lane b p) _ _ lane_row;
      }
