-- `channels::some_bit` meets its contract.
use Rattle.std.proofs.Common.{◌≡◌, refl, ap, Bool, ◌||◌, ℕ, ◌+◌, add-one}
use mathlib.Core.Bool.{beq}
use Rattle.bits.specs.Bits.{bit}
use Rattle.bits.specs.Below.{some_below}
use Rattle.channels.proofs.some_bit.Goals as goal

turn : (test : ℕ → Bool) (k : ℕ) (found here : Bool) → found ≡ some_below k test → here ≡ test k → (found || here) ≡ some_below (k + 1) test
unfolding some_below
turn test k found here f h = rw (add-one k, f, h)

pub loop-k-init : goal.loop-k-init
unfolding some_below
loop-k-init c = refl

pub loop-k-preserved : goal.loop-k-preserved
loop-k-preserved c =
    let a = c.args in
    turn (λ (k : ℕ). beq (bit a.bits (k + c.from-offset.result)) a.value) c.loop-k.k _ _ c.loop-k.invariant (ap (λ (b : Bool). beq b a.value) c.bit_at.ensures)
