-- The turns of a loop that counts the enabled channels below one.
use Prim.Native.Nat.{ℕ, ◌+◌, ◌/◌, ◌%◌, ◌^◌}
use mathlib.Core.Path.{◌≡◌, sym, ap, ◌∙◌}
use Rattle.payloads.specs.Needed.{enabled_below}
use Rattle.payloads.proofs.ChannelLaws.{enabled-next}

pub rank-turn : (channels k count : ℕ) → count ≡ enabled_below channels k → count + channels / 2 ^ k % 2 ≡ enabled_below channels (k + 1)
rank-turn channels k count e = ap (λ (n : ℕ). n + channels / 2 ^ k % 2) e ∙ sym (enabled-next channels k)
