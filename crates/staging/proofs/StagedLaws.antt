-- What stands in the room: each lane's element, as it was in the registers, and no later staging past it changes that.
use Prim.Native.Nat.{ℕ, ◌+◌, ◌*◌, ◌%◌, ◌^◌, ◌≤◌, ◌<◌}
use mathlib.Core.Path.{◌≡◌, refl, ap, ◌∙◌}
use mathlib.Core.Logic.{◌⊎◌, inl, inr, ⊎_elim}
use mathlib.Core.Bool.{Bool, true, false, cond}
use native.Mathlib.Nat.{mul-le-mul_right}
use native.Mathlib.Omega.{arith}
use lib.ListN.{length, get_or}
use Rattle.little_endian.specs.LittleEndian.{number_at}
use Rattle.cells.specs.Buffer.{Buffer, is_tainted, mark_of, any_tainted}
use Rattle.cells.specs.Writes.{written_all, number_writes, copy_writes}
use Rattle.cells.specs.Over.{among, each}
use Rattle.cells.proofs.WriteLaws.{bytes-kept, taint-kept}
use Rattle.cells.proofs.NumberLaws.{number-local}
use Rattle.cells.proofs.TaintLaws.{tainted-local}
use Rattle.cells.proofs.RowLaws.{Room}
use Rattle.cells.proofs.CopyLaws.{copy-writes-outside, copied-number, copied-taint}
use Rattle.cells.proofs.NumberWriteLaws.{number-writes-outside, written-number, written-untainted}
use Rattle.cells.specs.Results.{Kept, Outside}
use Rattle.cells.proofs.StayLaws.{writes_at, stays}
use Rattle.cells.proofs.LaneStayLaws.{lanes-outside, lane-stays}
use Rattle.operands.specs.declared.Elements.{Elements}
use Rattle.staging.specs.Sources.{element_value, element_tainted}
use Rattle.staging.specs.Mirror.Room.{stage_lane, staged}

-- a lane's element stands in the room
pub record Stands (registers : Buffer) (e : Elements) (base lane : ℕ) (room : Buffer) : Type 0 where
  pub number : number_at e.size room.bytes (base + lane * e.size) ≡ element_value registers.bytes e lane
  pub taint : any_tainted room.taint (base + lane * e.size) e.size ≡ element_tainted registers.taint e lane

-- what is the same in all bytes of the element stands there too
pub kept-stands : (registers : Buffer) (e : Elements) (base lane : ℕ) (b c : Buffer) → ((k : ℕ) → k < e.size → Kept b c (base + lane * e.size + k)) → Stands registers e base lane b → Stands registers e base lane c
kept-stands registers e base lane b c kept s =
    let at = base + lane * e.size in
    record {
      number = number-local e.size c.bytes b.bytes at at (λ k h. (kept k h).byte) ∙ s.number;
      taint = tainted-local e.size c.taint b.taint at at (λ k h. ap is_tainted (kept k h).mark) ∙ s.taint;
    }

module _ (registers : Buffer) (e : Elements) (base : ℕ) where
  lane-outside : (lane j : ℕ) → Outside (base + lane * e.size) e.size j → writes_at (stage_lane registers e base lane) j ≡ false
  unfolding stage_lane
  lane-outside lane j out = asked e.immediate
    where
      asked : (t : Bool) → writes_at (cond t (number_writes (base + lane * e.size) e.size (mark_of false) e.value) (copy_writes registers (get_or e.at lane 0) (base + lane * e.size) e.size)) j ≡ false
      asked true = number-writes-outside e.size (base + lane * e.size) (mark_of false) e.value j out
      asked false = copy-writes-outside registers e.size (get_or e.at lane 0) (base + lane * e.size) j out

  lane-number : (lane : ℕ) (b : Buffer) → Room b (base + lane * e.size) e.size → number_at e.size (written_all (stage_lane registers e base lane) b).bytes (base + lane * e.size) ≡ element_value registers.bytes e lane
  unfolding stage_lane element_value
  lane-number lane b room = asked e.immediate
    where
      asked : (t : Bool) → number_at e.size (written_all (cond t (number_writes (base + lane * e.size) e.size (mark_of false) e.value) (copy_writes registers (get_or e.at lane 0) (base + lane * e.size) e.size)) b).bytes (base + lane * e.size) ≡ cond t (e.value % 256 ^ e.size) (number_at e.size registers.bytes (get_or e.at lane 0))
      asked true = written-number (mark_of false) e.size (base + lane * e.size) e.value b room
      asked false = copied-number registers e.size (get_or e.at lane 0) (base + lane * e.size) b room

  lane-taint : (lane : ℕ) (b : Buffer) → Room b (base + lane * e.size) e.size → any_tainted (written_all (stage_lane registers e base lane) b).taint (base + lane * e.size) e.size ≡ element_tainted registers.taint e lane
  unfolding stage_lane element_tainted
  lane-taint lane b room = asked e.immediate
    where
      asked : (t : Bool) → any_tainted (written_all (cond t (number_writes (base + lane * e.size) e.size (mark_of false) e.value) (copy_writes registers (get_or e.at lane 0) (base + lane * e.size) e.size)) b).taint (base + lane * e.size) e.size ≡ cond t false (any_tainted registers.taint (get_or e.at lane 0) e.size)
      asked true = written-untainted e.size (base + lane * e.size) e.value b room
      asked false = copied-taint registers e.size (get_or e.at lane 0) (base + lane * e.size) b room

  lane-stands : (lane : ℕ) (b : Buffer) → Room b (base + lane * e.size) e.size → Stands registers e base lane (written_all (stage_lane registers e base lane) b)
  lane-stands lane b room = record { number = lane-number lane b room; taint = lane-taint lane b room }

  -- a lane before another ends where the other begins, or earlier
  lane-before : (i k : ℕ) → i < k → i * e.size + e.size ≤ k * e.size
  lane-before i k h = let m = mul-le-mul_right e.size h in omega arith

  pub staged-bytes : (lanes : ℕ) (room : Buffer) → length (staged registers e lanes base room).bytes ≡ length room.bytes
  unfolding staged
  staged-bytes lanes room = bytes-kept _ room

  pub staged-taint : (lanes : ℕ) (room : Buffer) → length (staged registers e lanes base room).taint ≡ length room.taint
  unfolding staged
  staged-taint lanes room = taint-kept _ room

  -- a place before the base, or past the last lane's element, keeps what it had
  pub staged-outside : (lanes : ℕ) (room : Buffer) (j : ℕ) → Outside base (lanes * e.size) j → Kept room (staged registers e lanes base room) j
  unfolding staged
  staged-outside lanes room j out =
      stays (each (stage_lane registers e base) (among (λ _. true) lanes)) room j (lanes-outside (stage_lane registers e base) (λ _. true) lanes j (λ k h _. lane-outside k j (apart k h)))
    where
      apart : (k : ℕ) → k < lanes → Outside (base + k * e.size) e.size j
      apart k h =
          let m = lane-before k lanes h in
          ⊎_elim (λ (g : j < base). inl (omega arith)) (λ (g : base + lanes * e.size ≤ j). inr (omega arith)) out

  pub staged-stands : (lanes lane : ℕ) (room : Buffer) → Room room base (lanes * e.size) → lane < lanes → Stands registers e base lane (staged registers e lanes base room)
  unfolding staged
  staged-stands lanes lane room fits h =
      kept-stands registers e base lane _ _ (λ k g. lane-stays (stage_lane registers e base) (λ _. true) lane lanes room (base + lane * e.size + k) h refl (λ i a b _. later k g i a b)) (lane-stands lane before here)
    where
      before : Buffer
      before = written_all (each (stage_lane registers e base) (among (λ _. true) lane)) room

      here : Room before (base + lane * e.size) e.size
      here =
          let m = lane-before lane lanes h in
          record {
            bytes = rw (bytes-kept (each (stage_lane registers e base) (among (λ _. true) lane)) room) (omega (arith, fits.bytes));
            taint = rw (taint-kept (each (stage_lane registers e base) (among (λ _. true) lane)) room) (omega (arith, fits.taint));
          }

      later : (k : ℕ) → k < e.size → (i : ℕ) → lane < i → i < lanes → writes_at (stage_lane registers e base i) (base + lane * e.size + k) ≡ false
      later k g i a b = let m = lane-before lane i a in lane-outside i (base + lane * e.size + k) (inl (omega arith))

-- what stands in the room stands there after other elements are staged before it or past it
pub stands_after : (registers : Buffer) (e : Elements) (base lane : ℕ) (room : Buffer) (others : Buffer) (d : Elements) (lanes there : ℕ) → Stands registers e base lane room → (base + lane * e.size + e.size ≤ there) ⊎ (there + lanes * d.size ≤ base + lane * e.size) → Stands registers e base lane (staged others d lanes there room)
stands_after registers e base lane room others d lanes there s apart =
    kept-stands registers e base lane room _ (λ k g. staged-outside others d there lanes room (base + lane * e.size + k) (away k g)) s
  where
    away : (k : ℕ) → k < e.size → Outside there (lanes * d.size) (base + lane * e.size + k)
    away k g = ⊎_elim (λ (h : base + lane * e.size + e.size ≤ there). inl (omega arith)) (λ (h : there + lanes * d.size ≤ base + lane * e.size). inr (omega arith)) apart
