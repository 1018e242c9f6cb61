-- Where each enabled lane writes one row of register bytes, and the rows lie apart: afterwards every enabled lane's row holds what was written
-- there, and every other byte keeps what it had.
use Prim.Native.Nat.{ℕ, ◌+◌, ◌≤◌, ◌<◌}
use mathlib.Core.Path.{◌≡◌}
use mathlib.Core.Logic.{inl}
use mathlib.Core.Bool.{Bool, true, false}
use mathlib.Core.List.{List}
use native.Mathlib.Omega.{arith}
use Rattle.staging.specs.Results.{Enabled, destination}
use Rattle.cells.specs.Buffer.{Buffer}
use Rattle.cells.specs.Writes.{Write, written_all}
use Rattle.cells.specs.Over.{among, each}
use Rattle.cells.proofs.WriteLaws.{bytes-kept, taint-kept}
use Rattle.cells.specs.Results.{Kept, Outside, Holds}
use Rattle.cells.proofs.StayLaws.{writes_at, stays}
use Rattle.cells.proofs.RowLaws.{Room, row, row-outside, row-holds, kept-holds}
use Rattle.cells.proofs.LaneStayLaws.{lanes-outside, lane-stays}
use Rattle.exec_byte.specs.Exec.{exec_size}
use Rattle.channels.specs.Lanes.{lane_on}
use Rattle.channels.proofs.LaneLaws.{on-below-size}
use Rattle.plan.specs.Plan.{Plan}
use Rattle.staging.specs.Lanes.{lanes_on}
use Rattle.staging.proofs.LanesOnLaws.{lanes-on-are}

-- all lanes' destinations, of so many bytes, lie in the registers, and apart
pub record Destinations (p : Plan) (size : ℕ) (b : Buffer) : Type 0 where
  pub inside : (lane : ℕ) → lane < exec_size p.control.exec → Room b (destination p lane) size
  pub apart : (i k : ℕ) → i < k → k < exec_size p.control.exec → destination p i + size ≤ destination p k

module _ (mask : ℕ) (p : Plan) (size : ℕ) (b : Buffer) (f : ℕ → List Write) (byte mark : ℕ → ℕ → ℕ) (rows : (lane : ℕ) → f lane ≡ row (byte lane) (mark lane) (destination p lane) 0 size) where
  abbrev on : ℕ → Bool
  on = lane_on p.control.exec p.control.pred mask p.bits

  row_apart : (lane j : ℕ) → Outside (destination p lane) size j → writes_at (f lane) j ≡ false
  row_apart lane j out = rw (rows lane) (row-outside (byte lane) (mark lane) (destination p lane) size j out)

  pub others-kept : (j : ℕ) → ((lane : ℕ) → Enabled mask p lane → Outside (destination p lane) size j) → Kept b (written_all (each f (lanes_on mask p)) b) j
  others-kept j out =
      rw (lanes-on-are mask p) (stays (each f (among on (exec_size p.control.exec))) b j (lanes-outside f on (exec_size p.control.exec) j (λ lane _ enabled. row_apart lane j (out lane enabled))))

  pub lanes-hold : Destinations p size b → (lane : ℕ) → Enabled mask p lane → (k : ℕ) → k < size → Holds (written_all (each f (lanes_on mask p)) b) (destination p lane + k) (byte lane k) (mark lane k)
  lanes-hold d lane enabled k h =
      rw (lanes-on-are mask p) (kept-holds _ _ _ _ _ (lane-stays f on lane lanes b (destination p lane + k) below enabled later) there)
    where
      lanes : ℕ
      lanes = exec_size p.control.exec

      below : lane < lanes
      below = on-below-size p.control.exec p.control.pred mask p.bits lane enabled

      earlier : List Write
      earlier = each f (among on lane)

      room : Room (written_all earlier b) (destination p lane) size
      room =
          record {
            bytes = rw (bytes-kept earlier b) (d.inside lane below).bytes;
            taint = rw (taint-kept earlier b) (d.inside lane below).taint;
          }

      there : Holds (written_all (f lane) (written_all earlier b)) (destination p lane + k) (byte lane k) (mark lane k)
      there = rw (rows lane) (row-holds (byte lane) (mark lane) (destination p lane) size (written_all earlier b) room k h)

      later : (i : ℕ) → lane < i → i < lanes → on i ≡ true → writes_at (f i) (destination p lane + k) ≡ false
      later i a c _ = row_apart i (destination p lane + k) (inl (omega (arith, d.apart lane i a c)))
