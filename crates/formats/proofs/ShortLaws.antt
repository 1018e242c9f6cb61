-- Bounds on the length of a printed text, one for each way to make a format.
use mathlib.Core.Path.{◌≡◌, refl, ap, ◌∙◌}
use mathlib.Core.List.{List, [], ◌∷◌}
use mathlib.Core.Bool.{Bool, true, false, cond, ◌&&◌}
use Prim.Native.Nat.{ℕ, zero, suc, ◌+◌, ◌*◌, ◌^◌, ◌/◌, ◌%◌, ◌≤◌, ◌<◌}
use native.Mathlib.Omega.{arith}
use native.Mathlib.Nat.{div-lt_iff_lt-mul, pow-zero, pow-suc}
use lib.Dec.{ltb, leb}
use lib.ListN.{length, length-append}
use borrow.Author.Tests.{ltb-true, ltb-false, leb-true, le-leb}
use Rattle.hex_text.specs.Digits.{character_of}
use Rattle.formats.specs.Format.{Format, pair, through, blank}
use Rattle.formats.specs.Words.{words, word_at, one_of, table, before, after}
use Rattle.formats.specs.Numerals.{digits, digits_of}
use Rattle.formats.specs.Numbers.{number}
use Rattle.formats.proofs.Tests.{both, both_left, both_right, cond-then}
use Rattle.formats.proofs.Following.{Matches}
use Rattle.formats.proofs.AroundLaws.{matches-before, matches-after}
use Rattle.formats.proofs.TableTests.{single}

-- no good value's text is longer than n
pub record Short {A : Type 0} (f : Format A) (n : ℕ) : Type 0 where
  pub most : (v : A) → f.good v ≡ true → length (f.print v) ≤ n

pub short-more : {A : Type 0} {f : Format A} (n m : ℕ) → leb n m ≡ true → Short f n → Short f m
short-more n m e p = record { most = λ v h. omega (arith, p.most v h, leb-true n m e) }

pub short-pair : {A B : Type 0} {f : Format A} {g : A → Format B} {n m : ℕ} → Short f n → ((a : A) → Short (g a) m) → Short (pair f g) (n + m)
unfolding pair
short-pair {f} {g} p q =
    record {
      most = λ v h.
          let i = p.most v.0 (both_left (f.good v.0) ((g v.0).good v.1) h) in
          let j = (q v.0).most v.1 (both_right (f.good v.0) ((g v.0).good v.1) h) in
          omega (arith, i, j, length-append (f.print v.0) ((g v.0).print v.1));
    }

pub short-through : {A B : Type 0} {to : A → B} {from : B → A} {good : B → Bool} {f : Format A} {n : ℕ} → Short f n → Matches to from good f → Short (through to from good f) n
unfolding through
short-through {from} p matches = record { most = λ v h. p.most (from v) (matches.out v h).0 }

pub short-blank : {A : Type 0} (v : A) (test : A → Bool) (n : ℕ) → Short (blank v test) n
unfolding blank
short-blank v test n = record { most = λ w h. omega arith }

pub short-cond : {A : Type 0} {f g : Format A} {n : ℕ} (b : Bool) → Short f n → Short g n → Short (cond b f g) n
short-cond true p q = p
short-cond false p q = q

-- every word has n characters at most: a test that computes
unfoldable pub all_short : ℕ → List (List ℕ) → Bool
all_short n [] = true
all_short n (w ∷ ws) = leb (length w) n && all_short n ws

unfoldable pub narrow : ℕ → List ℕ → Bool
unfolding words all_short
narrow n p = all_short n (words p)

word-short : (n : ℕ) (ws : List (List ℕ)) (i : ℕ) → all_short n ws ≡ true → length (word_at ws i) ≤ n
unfolding all_short word_at
word-short n [] i e = omega arith
word-short n (w ∷ ws) zero e = leb-true (length w) n (both_left (leb (length w) n) (all_short n ws) e)
word-short n (w ∷ ws) (suc i) e = word-short n ws i (both_right (leb (length w) n) (all_short n ws) e)

pub short-table : (p : List ℕ) (n : ℕ) → narrow n p ≡ true → Short (table p) n
unfolding narrow one_of
short-table p n e = record { most = λ i h. word-short n (words p) i e }

-- a number below a power of the base has as many digits at most
digits-short : (b k j n : ℕ) → 2 ≤ b → n < b ^ suc j → length (digits b k n) ≤ suc j
unfolding digits
digits-short b zero j n two h = omega arith
digits-short b (suc k) zero n two h =
    cond-then (λ (t : List ℕ). length t ≤ 1) (ltb n b) (λ _. omega arith)
    (λ e. let x : b ^ 1 ≡ b = pow-suc b 0 ∙ ap (λ (y : ℕ). y * b) (pow-zero b) ∙ omega arith in absurd (omega (arith, ltb-false n b e, h, x)))
digits-short b (suc k) (suc j) n two h =
    let x : n < b ^ suc j * b = rw (← pow-suc b (suc j)) h in
    let y : n / b < b ^ suc j = (div-lt_iff_lt-mul {k = b} (omega (arith, two))).1 x in
    let z = digits-short b k j (n / b) two y in
    cond-then (λ (t : List ℕ). length t ≤ suc (suc j)) (ltb n b) (λ _. omega arith)
    (λ _. omega (arith, length-append (digits b k (n / b)) (character_of (n % b) ∷ []), z))

pub short-number : (b low high n : ℕ) → 2 ≤ b → ltb high (b ^ suc n) ≡ true → Short (number b low high) (suc n)
unfolding number
short-number b low high n two e =
    record { most = λ v h. digits-short b v n v two (omega (arith, ltb-true high (b ^ suc n) e, leb-true v high (both_right (leb low v) (leb v high) h))) }

pub short-before : {A : Type 0} (p : List ℕ) (n : ℕ) {f : Format A} {m : ℕ} → single p ≡ true → narrow n p ≡ true → Short f m → Short (before p f) (n + m)
unfolding before
short-before p n {f} e k q = short-through (short-pair (short-table p n k) (λ _. q)) (matches-before p f e)

pub short-after : {A : Type 0} (p : List ℕ) (n : ℕ) {f : Format A} {m : ℕ} → single p ≡ true → narrow n p ≡ true → Short f m → Short (after f p) (m + n)
unfolding after
short-after p n {f} e k q = short-through (short-pair q (λ _. short-table p n k)) (matches-after p f e)

-- the decimal digits of a number of 64 bits
pub digits-most : (v : ℕ) → v < 18446744073709551616 → length (digits_of 10 v) ≤ 20
unfolding number
digits-most v h = (short-number 10 0 18446744073709551615 19 (omega arith) refl).most v (both (leb 0 v) (leb v 18446744073709551615) (le-leb 0 v (omega arith)) (le-leb v 18446744073709551615 (omega (arith, h))))
