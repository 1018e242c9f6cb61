use Rattle.std.proofs.Common.{◌≡◌, ℕ, ◌+◌}
use mathlib.Core.Bool.{beq}
use Rattle.bits.specs.Bits.{bit}
use Rattle.bits.specs.Below.{some_below}
use Rattle.channels.proofs.some_bit.Given as goal

-- what was found is what the bits passed say
abbrev pub invariant-loop-k : goal.invariant-loop-k
invariant-loop-k l = l.found ≡ some_below l.k (λ (k : ℕ). beq (bit l.bits (k + l.offset)) l.value)
