-- The predicate's text is a lawful format: which words have a text, and that each has its own.
use mathlib.Core.Path.{◌≡◌, refl, sym, ◌∙◌, subst}
use mathlib.Core.Bool.{Bool, true, false, cond, ◌&&◌, true≢false}
use Prim.Native.Nat.{ℕ, ◌+◌, ◌*◌, ◌-◌, ◌/◌, ◌%◌, ◌≤◌, ◌<◌}
use native.Mathlib.Omega.{arith}
use lib.Dec.{eqb, ltb}
use borrow.Author.Tests.{eqb-true, eqb-false, eq-eqb, ne_eqb, ltb-true, lt-ltb}
use Rattle.hex_text.specs.Digits.{is_decimal, is_letter}
use Rattle.formats.specs.Format.{pair, blank}
use Rattle.formats.specs.Words.{words, one_of, table}
use Rattle.formats.specs.Numbers.{number}
use Rattle.formats.specs.Mirror.Digits.{is_digit, value_of}
use Rattle.formats.proofs.Tests.{both, both_left, both_right}
use Rattle.formats.proofs.Law.{Lawful, free, weaken}
use Rattle.formats.proofs.Following.{Matches, Begins, Follows, follows-begins, follows-cond, follows-blank, begins-pair, begins-cond}
use Rattle.formats.proofs.Combining.{pair-lawful, through-lawful, blank-lawful, cond-lawful}
use Rattle.formats.proofs.TableTests.{sound, opens, size, table-under}
use Rattle.formats.proofs.WordLaws.{table-lawful, begins-table}
use Rattle.formats.proofs.NumberLaws.{number-lawful, begins-number, number-under, decimal-characters}
use Rattle.control_texts.specs.Mirror.Predicate.{zeros, nothing, openings, endings, group_endings, predicate_to, predicate_from, predicate_fits, ending, id_and_ending, predicate}
use Rattle.formats.proofs.PartLaws.{in_table, in-range}
use Rattle.control_texts.proofs.GoodLaws.{predicate-good-is}

pub both_zero : (v : ℕ × ℕ) → zeros v ≡ true → v ≡ (0, 0)
both_zero v h = λ i. (eqb-true v.0 0 (both_left (eqb v.0 0) (eqb v.1 0) h) i, eqb-true v.1 0 (both_right (eqb v.0 0) (eqb v.1 0) h) i)

pub nothing_lawful : (m : ℕ → Bool) → Lawful nothing m
nothing_lawful m = blank-lawful (0, 0) zeros m refl both_zero

-- no line goes on with a bracket behind its predicate
abbrev pub bracket : ℕ → Bool
bracket c = eqb c 40

digit-no-bracket : (c : ℕ) → is_digit 10 c ≡ true → bracket c ≡ false
digit-no-bracket c h = ne_eqb c 40 (λ e. omega (arith, e, (decimal-characters c h).0))

openings-lawful : Lawful (table openings) bracket
unfolding sound
openings-lawful = table-lawful openings bracket refl

pub ending-lawful : (k n : ℕ) → Lawful (ending k n) bracket
unfolding ending sound
ending-lawful k n = cond-lawful (eqb k 1 && eqb n 0) (weaken bracket (table-lawful group_endings free refl)) (weaken bracket (table-lawful endings free refl))

ending-begins : (k n : ℕ) → Begins (is_digit 10) (ending k n)
unfolding ending opens is_digit value_of is_decimal is_letter
ending-begins k n = begins-cond (eqb k 1 && eqb n 0) (begins-table group_endings (is_digit 10) refl) (begins-table endings (is_digit 10) refl)

id-and-ending-lawful : (k : ℕ) → Lawful (id_and_ending k) bracket
unfolding id_and_ending
id-and-ending-lawful k =
    cond-lawful (eqb k 0) (nothing_lawful bracket)
    (pair-lawful (number-lawful 10 0 4095 (omega arith) (omega arith) (omega arith) (omega arith)) (ending-lawful k) (follows-begins (ending-begins k)))

id-and-ending-follows : Follows (table openings) id_and_ending bracket bracket
unfolding id_and_ending
id-and-ending-follows =
    follows-cond (λ k. eqb k 0) (follows-blank (0, 0) zeros)
    (follows-begins (λ k. begins-pair (λ n. ending k n) (begins-number 10 0 4095 bracket (omega arith) (omega arith) digit-no-bracket)))

pub ending-under : (k n i : ℕ) → (ending k n).good i ≡ true → (i < 3) × (k ≡ 1 → n ≡ 0 → i < 2)
unfolding ending size
ending-under k n i = told (eqb k 1 && eqb n 0) refl
  where
    told : (b : Bool) → (eqb k 1 && eqb n 0) ≡ b → (cond b (table group_endings) (table endings)).good i ≡ true → (i < 3) × (k ≡ 1 → n ≡ 0 → i < 2)
    told true e h = let g : i < 2 = table-under group_endings i h in (omega (arith, g), λ _ _. g)
    told false e h = (table-under endings i h, λ p q. absurd (true≢false (sym (both (eqb k 1) (eqb n 0) (eq-eqb k 1 p) (eq-eqb n 0 q)) ∙ e)))

ending-fits : (k n i : ℕ) → i < 3 → (k ≡ 1 → n ≡ 0 → i < 2) → (ending k n).good i ≡ true
unfolding ending size
ending-fits k n i h g = told (eqb k 1 && eqb n 0) refl
  where
    told : (b : Bool) → (eqb k 1 && eqb n 0) ≡ b → (cond b (table group_endings) (table endings)).good i ≡ true
    told true e = in_table group_endings i (g (eqb-true k 1 (both_left (eqb k 1) (eqb n 0) e)) (eqb-true n 0 (both_right (eqb k 1) (eqb n 0) e)))
    told false e = in_table endings i h

-- the numbers of a predicate word
record Parts (p a j n : ℕ) : Type 0 where
  inverse : p / 32768 ≡ a
  test : p / 8192 % 4 ≡ j
  number : p % 4096 ≡ n
  clear : p / 4096 % 2 ≡ 0
  small : p < 65536

parts : (a j n : ℕ) → a ≤ 1 → j < 3 → n ≤ 4095 → Parts (a * 32768 + j * 8192 + n) a j n
parts a j n h g k = record { inverse = omega arith; test = omega arith; number = omega arith; clear = omega arith; small = omega arith }

good-word : (p : ℕ) → p < 65536 → p / 4096 % 2 ≡ 0 → p / 8192 % 4 < 3 → predicate_fits p ≡ true
unfolding predicate_fits
good-word p h g k = rw (predicate-good-is p) (both (ltb p 65536) (eqb (p / 4096 % 2) 0 && ltb (p / 8192 % 4) 3) (lt-ltb p 65536 h) (both (eqb (p / 4096 % 2) 0) (ltb (p / 8192 % 4) 3) (eq-eqb (p / 4096 % 2) 0 g) (lt-ltb (p / 8192 % 4) 3 k)))

-- the fields of a word that the encoder takes
pub record Word (p : ℕ) : Type 0 where
  pub small : p < 65536
  pub clear : p / 4096 % 2 ≡ 0
  pub three : p / 8192 % 4 < 3

pub word-tells : (p : ℕ) → predicate_fits p ≡ true → Word p
unfolding predicate_fits
word-tells p fits =
    let h = rw (predicate-good-is p) at fits in
    let g = both_right (ltb p 65536) (eqb (p / 4096 % 2) 0 && ltb (p / 8192 % 4) 3) h in
    record {
      small = ltb-true p 65536 (both_left (ltb p 65536) (eqb (p / 4096 % 2) 0 && ltb (p / 8192 % 4) 3) h);
      clear = eqb-true (p / 4096 % 2) 0 (both_left (eqb (p / 4096 % 2) 0) (ltb (p / 8192 % 4) 3) g);
      three = ltb-true (p / 8192 % 4) 3 (both_right (eqb (p / 4096 % 2) 0) (ltb (p / 8192 % 4) 3) g);
    }

from-word : (p k n i : ℕ) → (p ≡ 0 → ⊥) → 1 + p / 32768 ≡ k → p % 4096 ≡ n → (p / 8192 % 4 + 2) % 3 ≡ i → predicate_from p ≡ (k, (n, i))
from-word p k n i h x y z = rw (ne_eqb p 0 h) (λ l. (x l, (y l, z l)))

predicate-into : (k n i : ℕ) → k < 3 → (id_and_ending k).good (n, i) ≡ true → (predicate_fits (predicate_to (k, (n, i))) ≡ true) × (predicate_from (predicate_to (k, (n, i))) ≡ (k, (n, i)))
unfolding id_and_ending pair blank
predicate-into k n i h = told (eqb k 0) refl
  where
    told : (b : Bool) → eqb k 0 ≡ b → (cond b nothing (pair (number 10 0 4095) (λ n. ending k n))).good (n, i) ≡ true →
        (predicate_fits (cond b 0 ((k - 1) * 32768 + (i + 1) % 3 * 8192 + n)) ≡ true) × (predicate_from (cond b 0 ((k - 1) * 32768 + (i + 1) % 3 * 8192 + n)) ≡ (k, (n, i)))
    told true e g = (good-word 0 (omega arith) refl (omega arith), λ x. (sym (eqb-true k 0 e) x, sym (both_zero (n, i) g) x))
    told false e g =
        let u = number-under 10 0 4095 n (both_left ((number 10 0 4095).good n) ((ending k n).good i) g) in
        let t = ending-under k n i (both_right ((number 10 0 4095).good n) ((ending k n).good i) g) in
        on ((i + 1) % 3) ((k - 1) * 32768 + (i + 1) % 3 * 8192 + n) refl refl u.1 t.0 t.1 (eqb-false k 0 e)
      where
        on : (j p : ℕ) → j ≡ (i + 1) % 3 → p ≡ (k - 1) * 32768 + j * 8192 + n → n ≤ 4095 → i < 3 → (k ≡ 1 → n ≡ 0 → i < 2) → (k ≡ 0 → ⊥) → (predicate_fits p ≡ true) × (predicate_from p ≡ (k, (n, i)))
        on j p f q u t z y =
            let w = subst (λ (x : ℕ). Parts x (k - 1) j n) (sym q) (parts (k - 1) j n (omega (arith, h)) (omega (arith, f)) u) in
            let l : j < 3 = omega (arith, f) in
            let r : (j + 2) % 3 ≡ i = omega (arith, f, t) in (
              good-word p w.small w.clear (omega (arith, w.test, l)),
              from-word p k n i (λ v. some v (omega (arith, v, q, y)) (omega (arith, v, q)) (omega (arith, v, q))) (omega (arith, w.inverse, y)) w.number (rw w.test r),
            )
          where
            some : p ≡ 0 → k ≡ 1 → n ≡ 0 → j ≡ 0 → ⊥
            some v a b c = omega (arith, z a b, f, c)

predicate-out : (p : ℕ) → predicate_fits p ≡ true → ((pair (table openings) id_and_ending).good (predicate_from p) ≡ true) × (predicate_to (predicate_from p) ≡ p)
unfolding id_and_ending pair blank size
predicate-out p h = told (eqb p 0) refl
  where
    word : Word p
    word = word-tells p h

    on : (k n i j : ℕ) → k ≡ 1 + p / 32768 → n ≡ p % 4096 → j ≡ p / 8192 % 4 → i ≡ (j + 2) % 3 → (p ≡ 0 → ⊥) →
        ((one_of (words openings)).good k && (cond (eqb k 0) nothing (pair (number 10 0 4095) (λ n. ending k n))).good (n, i) ≡ true) × (cond (eqb k 0) 0 ((k - 1) * 32768 + (i + 1) % 3 * 8192 + n) ≡ p)
    on k n i j a b c d y =
        let e : eqb k 0 ≡ false = ne_eqb k 0 (λ v. omega (arith, v, a)) in
        let l : j < 3 = omega (arith, c, word.three) in
        let r : (i + 1) % 3 ≡ j = omega (arith, d, l) in
        let q : p ≡ (k - 1) * 32768 + j * 8192 + n = omega (arith, a, b, c, word.clear) in
        rw (in_table openings k (omega (arith, a, word.small)), e, r)
        (both ((number 10 0 4095).good n) ((ending k n).good i) (in-range 10 0 4095 n (omega arith) (omega (arith, b))) (ending-fits k n i (omega (arith, d)) (λ x z. omega (arith, d, l, some x z q y))), sym q)
      where
        some : k ≡ 1 → n ≡ 0 → p ≡ (k - 1) * 32768 + j * 8192 + n → (p ≡ 0 → ⊥) → 0 < j
        some x z q y = omega (arith, x, z, q, y)

    told : (b : Bool) → eqb p 0 ≡ b → ((pair (table openings) id_and_ending).good (cond b (0, (0, 0)) (1 + p / 32768, (p % 4096, (p / 8192 % 4 + 2) % 3))) ≡ true) × (predicate_to (cond b (0, (0, 0)) (1 + p / 32768, (p % 4096, (p / 8192 % 4 + 2) % 3))) ≡ p)
    told true e = (rw (in_table openings 0 (omega arith)), sym (eqb-true p 0 e))
    told false e = on (1 + p / 32768) (p % 4096) ((p / 8192 % 4 + 2) % 3) (p / 8192 % 4) refl refl refl refl (eqb-false p 0 e)

pub predicate-matches : Matches predicate_to predicate_from predicate_fits (pair (table openings) id_and_ending)
unfolding pair size
predicate-matches =
    record {
      into = λ v h. predicate-into v.0 v.1.0 v.1.1 (table-under openings v.0 (both_left ((one_of (words openings)).good v.0) ((id_and_ending v.0).good v.1) h)) (both_right ((one_of (words openings)).good v.0) ((id_and_ending v.0).good v.1) h);
      out = predicate-out;
    }

pub predicate-lawful : Lawful predicate bracket
unfolding predicate
predicate-lawful = through-lawful (pair-lawful openings-lawful id-and-ending-lawful id-and-ending-follows) predicate-matches

-- ---- the test of the code

pub p0 : (opening id : ℕ) → opening ≡ 1 → eqb id 0 ≡ (eqb opening 1 && eqb id 0)
p0 opening id e = rw (eq-eqb opening 1 e)

pub not-p0 : (opening id : ℕ) → (opening ≡ 1 → ⊥) → false ≡ (eqb opening 1 && eqb id 0)
not-p0 opening id n = rw (ne_eqb opening 1 n)
