-- The text of an exec byte is a lawful format, and so is a scatter's.
use mathlib.Core.Path.{◌≡◌, refl, ap, ◌∙◌}
use mathlib.Core.List.{List}
use mathlib.Core.Bool.{Bool, true, false, cond, ◌&&◌, ◌||◌}
use mathlib.Core.Logic.{◌⊎◌, inl, inr}
use Prim.Native.Nat.{ℕ, zero, suc, ◌+◌, ◌*◌, ◌-◌, ◌/◌, ◌%◌, ◌^◌, ◌≤◌, ◌<◌}
use native.Mathlib.Omega.{arith}
use lib.Dec.{eqb, ltb, leb}
use borrow.Author.Tests.{eqb-true, eqb-false, eq-eqb, ne_eqb, ltb-true, lt-ltb, leb-true, leb-false, lt-leb}
use Rattle.hex_text.specs.Digits.{is_decimal, is_letter}
use Rattle.formats.specs.Text.{text}
use Rattle.formats.specs.Format.{pair, through}
use Rattle.formats.specs.Words.{words, one_of, table, before}
use Rattle.formats.specs.Numbers.{number}
use Rattle.formats.specs.Mirror.Digits.{is_digit, value_of}
use Rattle.exec_byte.specs.Exec.{exec_reserved, exec_size, exec_of}
use Rattle.exec_byte.proofs.ExecLaws.{exec-reserved, exec-size, exec-offset, no-mask}
use Rattle.formats.proofs.Tests.{both, both_left, both_right}
use Rattle.formats.proofs.Law.{Lawful, free}
use Rattle.formats.proofs.Following.{Matches, follows-free, follows-begins}
use Rattle.formats.proofs.Combining.{pair-lawful, through-lawful}
use Rattle.formats.proofs.TableTests.{sound, opens, single, size, table-under}
use Rattle.formats.proofs.WordLaws.{table-lawful, begins-table}
use Rattle.formats.proofs.AroundLaws.{before-lawful}
use Rattle.formats.proofs.NumberLaws.{number-lawful, number-under}
use Rattle.control_texts.specs.Mirror.Exec.{mask_endings, sizes, scatter_sizes, mask_parts, mask, mask_place, size_place, exec_from, exec_fits, exec, scatter_exec_fits, scatter_exec}
use Rattle.formats.proofs.PartLaws.{in_table, in-range}
use Rattle.control_texts.proofs.GoodLaws.{exec-good-is, scatter-exec-good-is}

-- ---- the mask

mask-parts-lawful : Lawful mask_parts free
unfolding mask_parts sound single opens is_digit value_of is_decimal is_letter
mask-parts-lawful =
    before-lawful (text "(M|") refl refl
    (pair-lawful (number-lawful 10 1 8 (omega arith) (omega arith) (omega arith) (omega arith)) (λ _. table-lawful mask_endings free refl) (follows-begins (λ _. begins-table mask_endings (is_digit 10) refl)))

pub mask-matches : Matches {A = ℕ × ℕ} (λ v. v.0 - 1 + 8 * v.1) (λ m. (m % 8 + 1, m / 8)) (λ m. ltb m 16) mask_parts
unfolding mask_parts before through pair size
mask-matches =
    record {
      into = λ v h.
          let k = number-under 10 1 8 v.0 (both_left ((number 10 1 8).good v.0) ((one_of (words mask_endings)).good v.1) h) in
          into v.0 v.1 k.0 k.1 (table-under mask_endings v.1 (both_right ((number 10 1 8).good v.0) ((one_of (words mask_endings)).good v.1) h));
      out = λ m h.
          let l = ltb-true m 16 h in (
            both ((number 10 1 8).good (m % 8 + 1)) ((one_of (words mask_endings)).good (m / 8)) (in-range 10 1 8 (m % 8 + 1) (omega arith) (omega arith)) (in_table mask_endings (m / 8) (omega (arith, l))),
            omega arith,
          );
    }
  where
    into : (n x : ℕ) → 1 ≤ n → n ≤ 8 → x < 2 → (ltb (n - 1 + 8 * x) 16 ≡ true) × (◌≡◌ {A = ℕ × ℕ} ((n - 1 + 8 * x) % 8 + 1, (n - 1 + 8 * x) / 8) (n, x))
    into n x h g k =
        let p : (n - 1 + 8 * x) % 8 + 1 ≡ n = omega arith in
        let q : (n - 1 + 8 * x) / 8 ≡ x = omega arith in
        rw (p, q) (lt-ltb (n - 1 + 8 * x) 16 (omega arith), refl)

pub mask-lawful : Lawful mask free
unfolding mask
mask-lawful = through-lawful mask-parts-lawful mask-matches

pub mask-under : (m : ℕ) → mask.good m ≡ true → m < 16
unfolding mask through
mask-under m h = ltb-true m 16 h

mask_fits : (m : ℕ) → m < 16 → mask.good m ≡ true
unfolding mask through
mask_fits m h = lt-ltb m 16 h

-- ---- the places of a byte's mask and size

size-place : (z : ℕ) → z < 6 → size_place (2 ^ z) ≡ z
unfolding size_place
size-place zero h = refl
size-place (suc zero) h = refl
size-place (suc (suc zero)) h = refl
size-place (suc (suc (suc zero))) h = refl
size-place (suc (suc (suc (suc zero)))) h = refl
size-place (suc (suc (suc (suc (suc zero))))) h = refl
size-place (suc (suc (suc (suc (suc (suc z)))))) h = absurd (omega arith)

module _ (e : ℕ) (h : e < 256) (k : e % 16 < 6) where
  pub not-reserved : exec_reserved e ≡ false
  not-reserved = rw (exec-reserved e, ne_eqb (e / 8 % 2) 1 (λ z. omega (arith, z, k))) (lt-leb 6 (e % 8) (omega (arith, k)))

  pub mask-place-is : mask_place (exec_of e) ≡ e / 16
  unfolding mask_place
  mask-place-is = rw (exec-offset e not-reserved, no-mask e not-reserved h) (told (leb 8 (e / 16)) refl)
    where
      told : (b : Bool) → leb 8 (e / 16) ≡ b → 4 * (e / 16 % 8) / 4 + cond b 8 0 ≡ e / 16
      told true l = omega (arith, leb-true 8 (e / 16) l, h)
      told false l = omega (arith, leb-false 8 (e / 16) l, h)

  pub size-place-is : size_place (exec_size e) ≡ e % 16
  size-place-is = let c : e % 8 ≡ e % 16 = omega (arith, k) in rw (exec-size e not-reserved, c) (size-place (e % 16) k)

-- ---- the exec byte, once over the first size and how many there are

module _ (p : List ℕ) (first count : ℕ) (fits : ℕ → Bool) (words_are : size p ≡ count) (few : first + count ≤ 6)
    (told : (e : ℕ) → fits e ≡ true → (e < 256) × (first ≤ e % 16) × (e % 16 < first + count)) (good : (e : ℕ) → e < 256 → first ≤ e % 16 → e % 16 < first + count → fits e ≡ true) where
  size-matches : Matches {A = ℕ × ℕ} (λ v. v.0 * 16 + (first + v.1)) (λ e. (mask_place (exec_of e), size_place (exec_size e) - first)) fits (pair mask (λ _. table p))
  unfolding pair
  size-matches =
      record {
        into = λ v h. into v.0 v.1 (mask-under v.0 (both_left (mask.good v.0) ((one_of (words p)).good v.1) h)) (table-under p v.1 (both_right (mask.good v.0) ((one_of (words p)).good v.1) h));
        out = λ e h.
            let k = told e h in
            let few-codes : e % 16 < 6 = omega (arith, k.2, few) in
            rw (mask-place-is e k.0 few-codes, size-place-is e k.0 few-codes) (
              both (mask.good (e / 16)) ((one_of (words p)).good (e % 16 - first)) (mask_fits (e / 16) (omega (arith, k.0))) (in_table p (e % 16 - first) (omega (arith, words_are, k.1, k.2))),
              omega (arith, k.1),
            );
      }
    where
      into : (m z : ℕ) → m < 16 → z < size p → (fits (m * 16 + (first + z)) ≡ true) × (◌≡◌ {A = ℕ × ℕ} (mask_place (exec_of (m * 16 + (first + z))), size_place (exec_size (m * 16 + (first + z))) - first) (m, z))
      into m z h g =
          let l : first + z < 6 = omega (arith, g, words_are, few) in
          let x : (m * 16 + (first + z)) / 16 ≡ m = omega (arith, l) in
          let y : (m * 16 + (first + z)) % 16 ≡ first + z = omega (arith, l) in
          let w : first + z - first ≡ z = omega arith in
          let e : m * 16 + (first + z) < 256 = omega (arith, l, h) in
          let c : (m * 16 + (first + z)) % 16 < 6 = omega (arith, y, l) in (
            good (m * 16 + (first + z)) e (omega (arith, y)) (omega (arith, y, g, words_are)),
            λ i. ((mask-place-is (m * 16 + (first + z)) e c ∙ x) i, (ap (λ (n : ℕ). n - first) (size-place-is (m * 16 + (first + z)) e c ∙ y) ∙ w) i),
          )

-- ---- all sizes

pub exec-told : (e : ℕ) → exec_fits e ≡ true → (e < 256) × (0 ≤ e % 16) × (e % 16 < 0 + 6)
unfolding exec_fits
exec-told e fits =
    let h = rw (exec-good-is e) at fits in
    let k = ltb-true e 256 (both_left (ltb e 256) (eqb (e / 8 % 2) 0 && ltb (e % 8) 6) h) in
    let g = both_right (ltb e 256) (eqb (e / 8 % 2) 0 && ltb (e % 8) 6) h in
    let x = eqb-true (e / 8 % 2) 0 (both_left (eqb (e / 8 % 2) 0) (ltb (e % 8) 6) g) in
    let y = ltb-true (e % 8) 6 (both_right (eqb (e / 8 % 2) 0) (ltb (e % 8) 6) g) in
    (k, omega arith, omega (arith, x, y))

exec-good : (e : ℕ) → e < 256 → 0 ≤ e % 16 → e % 16 < 0 + 6 → exec_fits e ≡ true
unfolding exec_fits
exec-good e h _ k =
    rw (exec-good-is e)
    (both (ltb e 256) (eqb (e / 8 % 2) 0 && ltb (e % 8) 6) (lt-ltb e 256 h)
    (both (eqb (e / 8 % 2) 0) (ltb (e % 8) 6) (eq-eqb (e / 8 % 2) 0 (omega (arith, k))) (lt-ltb (e % 8) 6 (omega (arith, k)))))

pub exec-matches : Matches {A = ℕ × ℕ} (λ v. v.0 * 16 + (0 + v.1)) (λ e. (mask_place (exec_of e), size_place (exec_size e) - 0)) exec_fits (pair mask (λ _. table sizes))
unfolding size
exec-matches = size-matches sizes 0 6 exec_fits refl (omega arith) exec-told exec-good

pub exec-lawful : Lawful exec free
unfolding exec exec_from sound
exec-lawful = through-lawful (pair-lawful mask-lawful (λ _. table-lawful sizes free refl) follows-free) exec-matches

-- ---- a scatter's

one-or-other : (a b : Bool) → (a || b) ≡ true → (a ≡ true) ⊎ (b ≡ true)
one-or-other true b e = inl refl
one-or-other false b e = inr e

pub scatter-told : (e : ℕ) → scatter_exec_fits e ≡ true → (e < 256) × (3 ≤ e % 16) × (e % 16 < 3 + 2)
unfolding scatter_exec_fits
scatter-told e fits =
    let h = rw (scatter-exec-good-is e) at fits in
    let k = ltb-true e 256 (both_left (ltb e 256) (eqb (e / 8 % 2) 0 && (eqb (e % 8) 3 || eqb (e % 8) 4)) h) in
    let g = both_right (ltb e 256) (eqb (e / 8 % 2) 0 && (eqb (e % 8) 3 || eqb (e % 8) 4)) h in
    let x = eqb-true (e / 8 % 2) 0 (both_left (eqb (e / 8 % 2) 0) (eqb (e % 8) 3 || eqb (e % 8) 4) g) in
    on k x (one-or-other (eqb (e % 8) 3) (eqb (e % 8) 4) (both_right (eqb (e / 8 % 2) 0) (eqb (e % 8) 3 || eqb (e % 8) 4) g))
  where
    on : e < 256 → e / 8 % 2 ≡ 0 → (eqb (e % 8) 3 ≡ true) ⊎ (eqb (e % 8) 4 ≡ true) → (e < 256) × (3 ≤ e % 16) × (e % 16 < 3 + 2)
    on k x (inl y) = let z = eqb-true (e % 8) 3 y in (k, omega (arith, x, z), omega (arith, x, z))
    on k x (inr y) = let z = eqb-true (e % 8) 4 y in (k, omega (arith, x, z), omega (arith, x, z))

scatter-good : (e : ℕ) → e < 256 → 3 ≤ e % 16 → e % 16 < 3 + 2 → scatter_exec_fits e ≡ true
unfolding scatter_exec_fits
scatter-good e h g k =
    rw (scatter-exec-good-is e)
    (both (ltb e 256) (eqb (e / 8 % 2) 0 && (eqb (e % 8) 3 || eqb (e % 8) 4)) (lt-ltb e 256 h)
    (both (eqb (e / 8 % 2) 0) (eqb (e % 8) 3 || eqb (e % 8) 4) (eq-eqb (e / 8 % 2) 0 (omega (arith, k))) (on (eqb (e % 8) 3) refl)))
  where
    on : (b : Bool) → eqb (e % 8) 3 ≡ b → (b || eqb (e % 8) 4) ≡ true
    on true x = refl
    on false x = eq-eqb (e % 8) 4 (rest (eqb-false (e % 8) 3 x))
      where
        rest : (e % 8 ≡ 3 → ⊥) → e % 8 ≡ 4
        rest n = omega (arith, n, g, k)

pub scatter-exec-matches : Matches {A = ℕ × ℕ} (λ v. v.0 * 16 + (3 + v.1)) (λ e. (mask_place (exec_of e), size_place (exec_size e) - 3)) scatter_exec_fits (pair mask (λ _. table scatter_sizes))
unfolding size
scatter-exec-matches = size-matches scatter_sizes 3 2 scatter_exec_fits refl (omega arith) scatter-told scatter-good

pub scatter-exec-lawful : Lawful scatter_exec free
unfolding scatter_exec exec_from sound
scatter-exec-lawful = through-lawful (pair-lawful mask-lawful (λ _. table-lawful scatter_sizes free refl) follows-free) scatter-exec-matches
