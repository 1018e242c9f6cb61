-- Digits and their values undo each other; a digit's value is below 16.
use mathlib.Core.Path.{◌≡◌, refl, sym, ap, ◌∙◌}
use mathlib.Core.Bool.{Bool, true, false, cond, ◌&&◌, true≢false}
use mathlib.Core.List.{List, [], ◌∷◌, ◌++◌}
use Prim.Native.Nat.{ℕ, ◌+◌, ◌-◌, ◌≤◌, ◌<◌}
use native.Mathlib.Omega.{arith}
use lib.ListN.{length, get_or, take}
use Rattle.std.proofs.Math.Bool.{and_assoc, and-true}
use Rattle.std.proofs.lemmas.List.{take_more}
use lib.Dec.{leb, ltb}
use borrow.Author.Tests.{leb-true, ltb-true, ltb-false, le-leb, lt-leb, lt-ltb}
use Rattle.hex_text.specs.Digits.{is_decimal, is_letter, is_digit, digit_of, all_digits, character_of}

pub cond_both : {X : Type 0} (P : X → Type 0) (b : Bool) {x y : X} → (b ≡ true → P x) → (b ≡ false → P y) → P (cond b x y)
cond_both P true p q = p refl
cond_both P false p q = q refl

and_left : (a b : Bool) → (a && b) ≡ true → a ≡ true
and_left true b e = refl
and_left false b e = e

and_right : (a b : Bool) → (a && b) ≡ true → b ≡ true
and_right true b e = e
and_right false b e = absurd (true≢false (sym e))

pub decimal-between : (c : ℕ) → is_decimal c ≡ true → (48 ≤ c) × (c ≤ 57)
unfolding is_decimal
decimal-between c e =
    (leb-true 48 c (and_left (leb 48 c) (leb c 57) e), leb-true c 57 (and_right (leb 48 c) (leb c 57) e))

pub letter-between : (c : ℕ) → is_letter c ≡ true → (97 ≤ c) × (c ≤ 102)
unfolding is_letter
letter-between c e =
    (leb-true 97 c (and_left (leb 97 c) (leb c 102) e), leb-true c 102 (and_right (leb 97 c) (leb c 102) e))

pub digit_lt : (c : ℕ) → digit_of c < 16
unfolding digit_of
digit_lt c =
    let P : ℕ → Type 0 = λ n. n < 16 in
    cond_both P (is_decimal c) (λ e. omega (arith, (decimal-between c e).1))
    (λ _. cond_both P (is_letter c) (λ e. omega (arith, (letter-between c e).1)) (λ _. omega arith))

-- a character written for a value reads as that value
pub digit-character : (v : ℕ) → v < 16 → digit_of (character_of v) ≡ v
unfolding digit_of character_of is_decimal is_letter
digit-character v h =
    let P : ℕ → Type 0 = λ c. cond (leb 48 c && leb c 57) (c - 48) (cond (leb 97 c && leb c 102) (c - 97 + 10) 0) ≡ v in
    cond_both P (ltb v 10)
    (λ e. let k : v < 10 = ltb-true v 10 e in rw (le-leb 48 (48 + v) (omega arith), le-leb (48 + v) 57 (omega arith)) (omega arith))
    (λ e.
    let k : 10 ≤ v = ltb-false v 10 e in
    rw (lt-ltb v 16 h, le-leb 48 (97 + (v - 10)) (omega arith), lt-leb (97 + (v - 10)) 57 (omega arith), le-leb 97 (97 + (v - 10)) (omega arith), le-leb (97 + (v - 10)) 102 (omega arith))
    (omega arith))

digits-append : (xs : List ℕ) (c : ℕ) → all_digits (xs ++ (c ∷ [])) ≡ (all_digits xs && is_digit c)
unfolding all_digits
digits-append [] c = and-true (is_digit c)
digits-append (x ∷ xs) c = ap (λ b. is_digit x && b) (digits-append xs c) ∙ sym (and_assoc (is_digit x) (all_digits xs) (is_digit c))

-- one more character of a line
pub digits_more : (line : List ℕ) (i : ℕ) → i < length line → all_digits (take (i + 1) line) ≡ (all_digits (take i line) && is_digit (get_or line i 0))
digits_more line i h = rw (take_more line i 0 h) (digits-append (take i line) (get_or line i 0))
