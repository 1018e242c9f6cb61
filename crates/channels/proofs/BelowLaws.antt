-- any and all, found by looking for one bit: some bit is 1, no bit is 0.
use Prim.Native.Nat.{ℕ, zero, suc, ◌+◌}
use mathlib.Core.Path.{◌≡◌, refl, ap, ◌∙◌}
use mathlib.Core.Bool.{Bool, true, false, not, ◌&&◌, ◌||◌, beq}
use Rattle.bits.specs.Bits.{bit}
use Rattle.bits.specs.Below.{some_below, every_below}
use Rattle.channels.specs.Lanes.{any_bit, all_bits}
use Rattle.bits.proofs.BelowAlike.{some_alike}

not-or : (a b : Bool) → not (a || not b) ≡ (not a && b)
not-or true b = refl
not-or false true = refl
not-or false false = refl

-- none fails: every one passes
none-fails : (n : ℕ) (p : ℕ → Bool) → not (some_below n (λ k. not (p k))) ≡ every_below n p
unfolding some_below every_below
none-fails zero p = refl
none-fails (suc n) p = rw (not-or (some_below n (λ k. not (p k))) (p n), none-fails n p)

is_true : (b : Bool) → beq b true ≡ b
is_true true = refl
is_true false = refl

is_false : (b : Bool) → beq b false ≡ not b
is_false true = refl
is_false false = refl

pub some-true : (size offset bits : ℕ) → some_below size (λ k. beq (bit bits (k + offset)) true) ≡ any_bit size offset bits
unfolding any_bit
some-true size offset bits = some_alike _ _ size (λ k _. is_true (bit bits (k + offset)))

pub none-false : (size offset bits : ℕ) → not (some_below size (λ k. beq (bit bits (k + offset)) false)) ≡ all_bits size offset bits
unfolding all_bits
none-false size offset bits =
    ap not (some_alike _ _ size (λ k _. is_false (bit bits (k + offset)))) ∙ none-fails size (λ k. bit bits (k + offset))
