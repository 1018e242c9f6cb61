-- The bytes of a gathered dword and their marks. Document 01: "A gathered dword is wholly marked if any byte of its offset or element offset
-- was; else each byte takes the mark of the surface byte read, and zeros are unmarked."
use mathlib.Core.Path.{◌≡◌, refl, ap, ◌∙◌}
use mathlib.Core.Bool.{Bool, true, false, cond, ◌&&◌}
use mathlib.Core.List.{List}
use Prim.Native.Nat.{ℕ, ◌+◌}
use lib.ListN.{get_or}
use Rattle.cells.specs.Buffer.{is_tainted, mark_of}
use Rattle.cells.proofs.TaintLaws.{tainted-mark}
use Rattle.plan.specs.Plan.{Plan}
use Rattle.gather_effect.specs.Gather.{is_read, gathered_byte, gathered_mark}

module _ (bytes taint : List ℕ) (p : Plan) (address j : ℕ) where
  pub doubtful-mark : gathered_mark taint p true address j ≡ mark_of true
  unfolding gathered_mark
  doubtful-mark = refl

  -- a byte that the test of the surface's end lets pass, or not
  mark-asked : (read : Bool) → is_read p address j ≡ read → gathered_mark taint p false address j ≡ mark_of (read && is_tainted (get_or taint (p.start + address + j) 0))
  unfolding gathered_mark
  mark-asked read h = ap (λ (t : Bool). mark_of (t && is_tainted (get_or taint (p.start + address + j) 0))) h

  byte-asked : (read : Bool) → is_read p address j ≡ read → gathered_byte bytes p address j ≡ cond read (get_or bytes (p.start + address + j) 0) 0
  unfolding gathered_byte
  byte-asked read h = ap (λ (t : Bool). cond t (get_or bytes (p.start + address + j) 0) 0) h

  pub zero-mark : is_read p address j ≡ false → gathered_mark taint p false address j ≡ mark_of false
  zero-mark h = mark-asked false h

  pub zero-byte : is_read p address j ≡ false → gathered_byte bytes p address j ≡ 0
  zero-byte h = byte-asked false h

  pub read-mark : is_read p address j ≡ true → gathered_mark taint p false address j ≡ mark_of (is_tainted (get_or taint (p.start + address + j) 0))
  read-mark h = mark-asked true h

  pub read_byte : is_read p address j ≡ true → gathered_byte bytes p address j ≡ get_or bytes (p.start + address + j) 0
  read_byte h = byte-asked true h

  pub doubtful-marked : is_tainted (gathered_mark taint p true address j) ≡ true
  doubtful-marked = ap is_tainted doubtful-mark ∙ tainted-mark true

  pub read-marked : is_read p address j ≡ true → is_tainted (gathered_mark taint p false address j) ≡ is_tainted (get_or taint (p.start + address + j) 0)
  read-marked h = ap is_tainted (read-mark h) ∙ tainted-mark _

  pub zeros-unmarked : is_read p address j ≡ false → (gathered_byte bytes p address j ≡ 0) × (is_tainted (gathered_mark taint p false address j) ≡ false)
  zeros-unmarked h = (zero-byte h, ap is_tainted (zero-mark h) ∙ tainted-mark false)
