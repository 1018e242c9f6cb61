-- What GATHER_SCALED leaves, for a plan that `check` accepts: every enabled lane's dword is the defined one, each byte under its defined mark,
-- and no other byte of the registers changes, nor its mark.
use Prim.Native.Nat.{ℕ, zero, suc, ◌+◌, ◌≤◌}
use mathlib.Core.Path.{◌≡◌, sym, ap, ◌∙◌}
use mathlib.Core.Bool.{Bool}
use mathlib.Core.List.{List, ◌∷◌}
use native.Mathlib.Omega.{arith}
use lib.ListN.{length}
use Rattle.gather_effect.specs.Results.{LanesHold, lane_address, lane_byte, lane_doubtful, lane_mark}
use Rattle.cells.specs.Buffer.{Buffer}
use Rattle.cells.specs.Writes.{Write, written_all}
use Rattle.cells.proofs.RowLaws.{row, row-none, row_next}
use Rattle.exec_byte.specs.Exec.{exec_size}
use Rattle.plan.specs.Plan.{Plan}
use Rattle.plan.proofs.PlanLaws.{GatherSound}
use Rattle.staging.specs.Lanes.{lanes_on}
use Rattle.staging.specs.Results.{destination}
use Rattle.staging.proofs.ResultLaws.{Destinations, others-kept, lanes-hold}
use Rattle.gather_effect.specs.Gather.{gathered_byte, gathered_mark, gather_writes, gather_lane, gather_effect}

dword-row : (surfaces : Buffer) (p : Plan) (doubt : Bool) (address at n j : ℕ) → gather_writes surfaces p doubt address at j n ≡ row (gathered_byte surfaces.bytes p address) (gathered_mark surfaces.taint p doubt address) at j n
unfolding gather_writes
dword-row surfaces p doubt address at zero j = sym (row-none _ _ at j)
dword-row surfaces p doubt address at (suc n) j =
    ap (λ (ws : List Write). record { at = at + j; value = gathered_byte surfaces.bytes p address j; mark = gathered_mark surfaces.taint p doubt address j } ∷ ws) (dword-row surfaces p doubt address at n (suc j))
    ∙ sym (row_next (gathered_byte surfaces.bytes p address) (gathered_mark surfaces.taint p doubt address) at j n)

module _ (registers surfaces mask : ℕ) (p : Plan) (few : exec_size p.control.exec ≤ 32) (sound : GatherSound registers surfaces p) (b s : Buffer) (bytes : length b.bytes ≡ registers) (taint : length b.taint ≡ registers) where
  lane_row : (lane : ℕ) → gather_lane b s p lane ≡ row (lane_byte p b s lane) (lane_mark p b s lane) (destination p lane) 0 4
  unfolding gather_lane
  lane_row lane = dword-row s p (lane_doubtful p b lane) (lane_address p b lane) (destination p lane) 4 0

  -- the dwords stand one after the other
  apart : Destinations p 4 b
  apart =
      record {
        inside = λ lane h.
            let here = sound.payload.inside sound.dwords.in_registers lane h in
            record { bytes = omega (arith, here, sound.payload.size, bytes); taint = omega (arith, here, sound.payload.size, taint) };
        apart = λ i k h g.
            let first = sound.dwords.next i (omega arith) in
            let second = sound.dwords.next k (omega arith) in
            let size = sound.payload.size in
            rw (first, second, size) (omega arith);
      }

  pub gather-results : LanesHold mask p s b (written_all (gather_effect p (lanes_on mask p) b s).registers b)
  unfolding gather_effect
  gather-results =
      record {
        enabled = lanes-hold mask p 4 b (gather_lane b s p) (lane_byte p b s) (lane_mark p b s) lane_row apart;
        others = others-kept mask p 4 b (gather_lane b s p) (lane_byte p b s) (lane_mark p b s) lane_row;
      }
