-- GATHER_SCALED over registers and surfaces with marks beside ones with the same bytes and no marks: the same bytes, and no marks in the
-- second.
use mathlib.Core.Path.{◌≡◌, refl, ap, subst}
use mathlib.Core.Bool.{Bool, false, and-false}
use mathlib.Core.List.{List}
use Prim.Native.Nat.{ℕ, zero, suc, ◌+◌}
use lib.ListN.{get_or}
use Rattle.cells.specs.Buffer.{Buffer}
use Rattle.cells.proofs.Related.{none, more, each-alike}
use Rattle.cells.proofs.Plain.{SameBytes, Plainly, PlainWrites, PlainEffects, bytes_same, zero-untainted, untainted-mark}
use Rattle.plan.specs.Plan.{Plan}
use Rattle.staging.proofs.Plain.{both-plain, either-plain}
use Rattle.gather_effect.specs.Gather.{gather_address, is_read, gathered_byte, gathered_mark, gather_writes, gather_lane, gather_effect}

module _ (b c : Buffer) (r : Plainly b c) (p : Plan) where
  mark-plain : (e : Bool) (address j : ℕ) → e ≡ false → gathered_mark c.taint p e address j ≡ 0
  unfolding gathered_mark
  mark-plain e address j h =
      rw (h, zero-untainted _ (r.cells (p.start + address + j)).1, and-false (is_read p address j)) (untainted-mark false refl)

  writes-same : (d e : Bool) (address at j n : ℕ) → e ≡ false → PlainWrites (gather_writes b p d address at j n) (gather_writes c p e address at j n)
  unfolding gather_writes
  writes-same d e address at j zero h = none
  writes-same d e address at j (suc n) h =
      more (ap (λ (l : List ℕ). gathered_byte l p address j) (bytes_same r), mark-plain e address j h) (writes-same d e address at (suc j) n h)

  writes-plain : (d e : Bool) (address other at j n : ℕ) → e ≡ false → address ≡ other → PlainWrites (gather_writes b p d address at j n) (gather_writes c p e other at j n)
  writes-plain d e address other at j n h q =
      let P : ℕ → Type 0 = λ o. PlainWrites (gather_writes b p d address at j n) (gather_writes c p e o at j n) in
      subst P q (writes-same d e address at j n h)

module _ (b c f g : Buffer) (r : Plainly b c) (q : Plainly f g) (p : Plan) where
  lane_plain : (lane : ℕ) → PlainWrites (gather_lane b f p lane) (gather_lane c g p lane)
  unfolding gather_lane
  lane_plain lane =
      writes-plain f g q p _ _ _ _ (get_or p.payload.at lane 0) 0 4 (either-plain b c r _ _ lane)
      (both-plain b c r gather_address p.left p.right lane)

  pub gather-plain : (lanes : List ℕ) → PlainEffects (gather_effect p lanes b f) (gather_effect p lanes c g)
  unfolding gather_effect
  gather-plain lanes = record { number = refl; detail = refl; registers = each-alike SameBytes _ _ lanes lane_plain; memory = none }
