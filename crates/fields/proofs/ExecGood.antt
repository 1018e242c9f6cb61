-- An exec byte that is not refused is not reserved, and a scatter's has 8 or 16 lanes.
use mathlib.Core.Path.{◌≡◌, refl}
use mathlib.Core.Bool.{Bool, true, false, ◌&&◌, ◌||◌}
use mathlib.Core.Logic.{◌⊎◌, inl, inr}
use Prim.Native.Nat.{ℕ}
use native.Mathlib.Omega.{arith}
use lib.Dec.{eqb}
use borrow.Author.Tests.{eqb-true, not-true}
use Rattle.exec_byte.specs.Exec.{exec_reserved, exec_size}
use Rattle.bits.proofs.All.{left, right}
use Rattle.fields.specs.declared.ByteRule.TheVariants as byte
use Rattle.fields.specs.Rules.{judged, exec_good, scatter_exec_good, byte_refusal}

abbrev pub EightOrSixteen : ℕ → Type 0
EightOrSixteen lanes = (lanes ≡ 8) ⊎ (lanes ≡ 16)

pub judged-good : (b : Bool) → judged b 3 ≡ 0 → b ≡ true
unfolding judged
judged-good true e = refl
judged-good false e = absurd (omega (arith, e))

eight-or-sixteen : (lanes : ℕ) → (eqb lanes 8 || eqb lanes 16) ≡ true → EightOrSixteen lanes
eight-or-sixteen lanes e = told (eqb lanes 8) refl e
  where
    told : (eight : Bool) → eqb lanes 8 ≡ eight → (eight || eqb lanes 16) ≡ true → EightOrSixteen lanes
    told true a h = inl (eqb-true lanes 8 a)
    told false a h = inr (eqb-true lanes 16 h)

module _ (exec : ℕ) where
  good-unreserved : exec_good exec ≡ true → exec_reserved exec ≡ false
  unfolding exec_good
  good-unreserved = not-true (exec_reserved exec)

  pub exec-unreserved : byte_refusal byte.Exec exec ≡ 0 → exec_reserved exec ≡ false
  unfolding byte_refusal
  exec-unreserved e = good-unreserved (judged-good (exec_good exec) e)

  pub scatter-exec-unreserved : byte_refusal byte.ScatterExec exec ≡ 0 → exec_reserved exec ≡ false
  unfolding byte_refusal scatter_exec_good
  scatter-exec-unreserved e = good-unreserved (left (exec_good exec) (eqb (exec_size exec) 8 || eqb (exec_size exec) 16) (judged-good (exec_good exec && (eqb (exec_size exec) 8 || eqb (exec_size exec) 16)) e))

  pub scatter-exec-lanes : byte_refusal byte.ScatterExec exec ≡ 0 → EightOrSixteen (exec_size exec)
  unfolding byte_refusal scatter_exec_good
  scatter-exec-lanes e =
      eight-or-sixteen (exec_size exec)
      (right (exec_good exec) (eqb (exec_size exec) 8 || eqb (exec_size exec) 16) (judged-good (exec_good exec && (eqb (exec_size exec) 8 || eqb (exec_size exec) 16)) e))
