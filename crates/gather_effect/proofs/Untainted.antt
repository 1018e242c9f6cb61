-- GATHER_SCALED over register files and surfaces with equal marks and equal untainted bytes: alike effects.
use mathlib.Core.Path.{◌≡◌, refl, ap, subst}
use mathlib.Core.Bool.{Bool, true, false, true≢false, false≢true, cond, ◌&&◌}
use mathlib.Core.List.{List}
use Prim.Native.Nat.{ℕ, zero, suc, ◌+◌}
use lib.ListN.{get_or}
use Rattle.cells.specs.Buffer.{Buffer, is_tainted}
use Rattle.cells.proofs.Related.{none, more, each-alike}
use Rattle.cells.proofs.Untainted.{SameUntainted, Agreeing, AlikeWrites, AlikeEffects, under-mark, byte-same}
use Rattle.plan.specs.Plan.{Plan}
use Rattle.staging.proofs.Untainted.{both-same, either_same}
use Rattle.gather_effect.specs.Gather.{gather_address, is_read, gathered_byte, gathered_mark, gather_writes, gather_lane, gather_effect}

module _ (b c : Buffer) (r : Agreeing b c) (p : Plan) where
  -- a surface byte that is read: the mark is the same, and the byte where it is untainted
  byte-alike : (address j : ℕ) (q : Bool) → (q && is_tainted (get_or b.taint (p.start + address + j) 0)) ≡ false → cond q (get_or b.bytes (p.start + address + j) 0) 0 ≡ cond q (get_or c.bytes (p.start + address + j) 0) 0
  byte-alike address j true h = byte-same b c r (p.start + address + j) h
  byte-alike address j false h = refl

  -- one byte of a dword whose address is not doubtful
  sure-alike : (address j : ℕ) → SameUntainted 0 (gathered_byte b.bytes p address j) (gathered_mark b.taint p false address j) (gathered_byte c.bytes p address j) (gathered_mark c.taint p false address j)
  unfolding gathered_byte gathered_mark
  sure-alike address j =
      under-mark (is_read p address j && is_tainted (get_or b.taint (p.start + address + j) 0)) _ _ _
      (ap (λ m. is_read p address j && is_tainted m) (r.cells (p.start + address + j)).0)
      (byte-alike address j (is_read p address j))

  doubtful-alike : (address other j : ℕ) → SameUntainted 0 (gathered_byte b.bytes p address j) (gathered_mark b.taint p true address j) (gathered_byte c.bytes p other j) (gathered_mark c.taint p true other j)
  unfolding gathered_mark
  doubtful-alike address other j = under-mark true true _ _ refl (λ x. absurd (true≢false x))

  -- the dword of an address that is the same in both, and not doubtful
  sure-writes : (address at j n : ℕ) → AlikeWrites (gather_writes b p false address at j n) (gather_writes c p false address at j n)
  unfolding gather_writes
  sure-writes address at j zero = none
  sure-writes address at j (suc n) = more (sure-alike address j) (sure-writes address at (suc j) n)

  doubtful-writes : (address other at j n : ℕ) → AlikeWrites (gather_writes b p true address at j n) (gather_writes c p true other at j n)
  unfolding gather_writes
  doubtful-writes address other at j zero = none
  doubtful-writes address other at j (suc n) = more (doubtful-alike address other j) (doubtful-writes address other at (suc j) n)

  writes-alike : (d e : Bool) (address other at j n : ℕ) → d ≡ e → (d ≡ false → address ≡ other) → AlikeWrites (gather_writes b p d address at j n) (gather_writes c p e other at j n)
  writes-alike true true address other at j n q h = doubtful-writes address other at j n
  writes-alike true false address other at j n q h = absurd (true≢false q)
  writes-alike false true address other at j n q h = absurd (false≢true q)
  writes-alike false false address other at j n q h =
      let P : ℕ → Type 0 = λ o. AlikeWrites (gather_writes b p false address at j n) (gather_writes c p false o at j n) in
      subst P (h refl) (sure-writes address at j n)

module _ (b c f g : Buffer) (r : Agreeing b c) (q : Agreeing f g) (p : Plan) where
  lane-alike : (lane : ℕ) → AlikeWrites (gather_lane b f p lane) (gather_lane c g p lane)
  unfolding gather_lane
  lane-alike lane =
      writes-alike f g q p _ _ _ _ (get_or p.payload.at lane 0) 0 4 (either_same b c r p.left p.right lane)
      (both-same b c r gather_address p.left p.right lane)

  pub gather-alike : (lanes : List ℕ) → AlikeEffects (gather_effect p lanes b f) (gather_effect p lanes c g)
  unfolding gather_effect
  gather-alike lanes = record { number = refl; detail = refl; registers = each-alike SameUntainted _ _ lanes lane-alike; memory = none }
