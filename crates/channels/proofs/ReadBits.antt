-- Which bits of a predicate decide about lanes: those below offset + ExecSize, and no others.
use Prim.Native.Nat.{ℕ, ◌+◌, ◌<◌}
use mathlib.Core.Path.{◌≡◌, refl}
use mathlib.Core.Bool.{Bool, true, false, ◌&&◌}
use native.Mathlib.Omega.{arith}
use lib.Dec.{ltb}
use borrow.Author.Tests.{ltb-true}
use Rattle.bits.specs.Bits.{bit}
use Rattle.exec_byte.specs.Exec.{exec_size, exec_offset}
use Rattle.channels.specs.Lanes.{any_bit, all_bits, combined, predicate_agrees, mask_allows, lane_on}
use Rattle.bits.proofs.BelowAlike.{some_alike, every-alike}

module _ (exec a b : ℕ) (alike : (k : ℕ) → k < exec_offset exec + exec_size exec → bit a k ≡ bit b k) where
  lane-bit : (n : ℕ) → n < exec_size exec → bit a (n + exec_offset exec) ≡ bit b (n + exec_offset exec)
  lane-bit n h = alike (n + exec_offset exec) (omega (arith, h))

  any-alike : any_bit (exec_size exec) (exec_offset exec) a ≡ any_bit (exec_size exec) (exec_offset exec) b
  unfolding any_bit
  any-alike = some_alike _ _ (exec_size exec) lane-bit

  all_alike : all_bits (exec_size exec) (exec_offset exec) a ≡ all_bits (exec_size exec) (exec_offset exec) b
  unfolding all_bits
  all_alike = every-alike _ _ (exec_size exec) lane-bit

  agrees-alike : (pred n : ℕ) → n < exec_size exec → predicate_agrees exec pred a n ≡ predicate_agrees exec pred b n
  unfolding predicate_agrees combined
  agrees-alike pred n h = rw (any-alike, all_alike, lane-bit n h)

  pub lane-alike : (pred mask n : ℕ) → lane_on exec pred mask a n ≡ lane_on exec pred mask b n
  unfolding lane_on
  lane-alike pred mask n = told (ltb n (exec_size exec)) refl
    where
      told : (q : Bool) → ltb n (exec_size exec) ≡ q → (q && (mask_allows exec mask n && predicate_agrees exec pred a n)) ≡ (q && (mask_allows exec mask n && predicate_agrees exec pred b n))
      told true e = rw (agrees-alike pred n (ltb-true _ _ e))
      told false e = refl
