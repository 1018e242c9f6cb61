-- The digits of a number: one, or those before the last and then the last.
use mathlib.Core.Path.{◌≡◌, sym, ap, ◌∙◌}
use mathlib.Core.List.{List, [], ◌∷◌, ◌++◌}
use Prim.Native.Nat.{ℕ, suc, ◌/◌, ◌%◌, ◌≤◌, ◌<◌}
use native.Mathlib.Omega.{arith}
use native.Mathlib.Nat.{div-lt_self}
use borrow.Author.Tests.{lt-ltb, le-ltb}
use Rattle.hex_text.specs.Digits.{character_of}
use Rattle.formats.specs.Numerals.{digits, digits_of}
use Rattle.formats.proofs.NumberLaws.{digits-turns}
use Rattle.format_writers.specs.Writing.{wrote, written}
use Rattle.format_writers.proofs.WritingLaws.{wrote_then}

pub one_digit : (b n : ℕ) → 2 ≤ b → b ≤ 16 → n < b → digits_of b n ≡ character_of n ∷ []
unfolding digits
one_digit b n two small h = digits-turns b two small n (suc n) n (omega arith) (omega arith) ∙ rw (lt-ltb n b h)

pub last_digit : (b n : ℕ) → 2 ≤ b → b ≤ 16 → b ≤ n → digits_of b n ≡ digits_of b (n / b) ++ (character_of (n % b) ∷ [])
unfolding digits
last_digit b n two small h =
    let d : n / b < n = div-lt_self (omega (arith, two, h)) two in
    digits-turns b two small n (suc n) n (omega arith) (omega arith) ∙ rw (le-ltb n b h, digits-turns b two small n (n / b) (n / b) (omega (arith, d)) (omega arith))

pub put_one : (l : List ℕ) (at b n e : ℕ) (m : List ℕ) → 2 ≤ b → b ≤ 16 → n < b → wrote e m ≡ written l at (character_of n ∷ []) → wrote e m ≡ written l at (digits_of b n)
put_one l at b n e m two small h p = p ∙ ap (written l at) (sym (one_digit b n two small h))

pub put-more : (l : List ℕ) (at b n e : ℕ) (m : List ℕ) (d : ℕ) (k : List ℕ) → 2 ≤ b → b ≤ 16 → b ≤ n → wrote e m ≡ written l at (digits_of b (n / b)) → wrote d k ≡ written m e (character_of (n % b) ∷ []) → wrote d k ≡ written l at (digits_of b n)
put-more l at b n e m d k two small h p q = wrote_then l at (digits_of b (n / b)) (character_of (n % b) ∷ []) e m d k p q ∙ ap (written l at) (sym (last_digit b n two small h))
