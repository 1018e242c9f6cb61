-- The text of an immediate is a lawful format.
use mathlib.Core.Path.{◌≡◌, refl, sym, ap, ◌∙◌}
use mathlib.Core.Logic.{◌⊎◌, inl, inr}
use mathlib.Core.Bool.{Bool, true, false, cond, ◌&&◌, ◌||◌, true≢false}
use Prim.Native.Nat.{ℕ, suc, ◌+◌, ◌*◌, ◌-◌, ◌/◌, ◌%◌, ◌≤◌, ◌<◌}
use native.Mathlib.Omega.{arith}
use lib.Dec.{eqb, ltb}
use borrow.Author.Tests.{eqb-true, eqb-false, eq-eqb, ne_eqb, ltb-true, ltb-false, lt-ltb}
use Rattle.hex_text.specs.Digits.{is_decimal, is_letter}
use Rattle.formats.specs.Format.{pair}
use Rattle.formats.specs.Words.{table}
use Rattle.formats.specs.Numbers.{number}
use Rattle.formats.specs.Mirror.Digits.{is_digit, value_of}
use Rattle.formats.proofs.Tests.{both, both_left, both_right, cond-then}
use Rattle.formats.proofs.Law.{Lawful, free}
use Rattle.formats.proofs.Following.{Matches, Begins, follows-begins, begins-cond}
use Rattle.formats.proofs.Combining.{pair-lawful, through-lawful, cond-lawful}
use Rattle.formats.proofs.TableTests.{sound, opens, size, table-under}
use Rattle.formats.proofs.WordLaws.{table-lawful, begins-table}
use Rattle.formats.proofs.NumberLaws.{number-lawful, number-under}
use Rattle.element_types.specs.Types.{size_of, is_listed, has_high_word}
use Rattle.operand_fields.specs.declared.Immediate.{Immediate}
use Rattle.text_parts.specs.Mirror.Immediate.{types, wide_types, type_behind, code_at, place_of, immediate_to, immediate_from, immediate_parts, immediate_fits, immediate}
use Rattle.formats.proofs.PartLaws.{in_table, in-range}

-- ---- the type behind the number

pub type-lawful : (n : ℕ) → Lawful (type_behind n) free
unfolding type_behind sound
type-lawful n = cond-lawful (ltb n 4294967296) (table-lawful types free refl) (table-lawful wide_types free refl)

type-begins : (n : ℕ) → Begins (is_digit 16) (type_behind n)
unfolding type_behind opens is_digit value_of is_decimal is_letter
type-begins n = begins-cond (ltb n 4294967296) (begins-table types (is_digit 16) refl) (begins-table wide_types (is_digit 16) refl)

pub type-under : (n k : ℕ) → (type_behind n).good k ≡ true → (k < 8) × (4294967296 ≤ n → k ≡ 0)
unfolding type_behind size
type-under n k = told (ltb n 4294967296) refl
  where
    told : (b : Bool) → ltb n 4294967296 ≡ b → (cond b (table types) (table wide_types)).good k ≡ true → (k < 8) × (4294967296 ≤ n → k ≡ 0)
    told true e h = (table-under types k h, λ g. absurd (omega (arith, g, ltb-true n 4294967296 e)))
    told false e h = let g : k < 1 = table-under wide_types k h in (omega (arith, g), λ _. omega (arith, g))

type-fits : (n k : ℕ) → k < 8 → (4294967296 ≤ n → k ≡ 0) → (type_behind n).good k ≡ true
unfolding type_behind size
type-fits n k h g = told (ltb n 4294967296) refl
  where
    told : (b : Bool) → ltb n 4294967296 ≡ b → (cond b (table types) (table wide_types)).good k ≡ true
    told true e = in_table types k h
    told false e = let z = g (ltb-false n 4294967296 e) in in_table wide_types k (omega (arith, z))

-- ---- codes

abbrev pub Code : ℕ → Type 0
Code c = (c < 6) ⊎ ((c ≡ 7) ⊎ (c ≡ 11))

size-code : (c : ℕ) → 0 < size_of c → Code c
unfolding size_of
size-code c =
    let P : ℕ → Type 0 = λ n. 0 < n → Code c in
    cond-then P (eqb c 0) (λ e _. inl (omega (arith, eqb-true c 0 e)))
    (λ _. cond-then P (eqb c 1) (λ e _. inl (omega (arith, eqb-true c 1 e)))
    (λ _. cond-then P (eqb c 7) (λ e _. inr (inl (eqb-true c 7 e)))
    (λ _. cond-then P (eqb c 2) (λ e _. inl (omega (arith, eqb-true c 2 e)))
    (λ _. cond-then P (eqb c 3) (λ e _. inl (omega (arith, eqb-true c 3 e)))
    (λ _. cond-then P (eqb c 4) (λ e _. inl (omega (arith, eqb-true c 4 e)))
    (λ _. cond-then P (eqb c 5) (λ e _. inl (omega (arith, eqb-true c 5 e)))
    (λ _. cond-then P (eqb c 11) (λ e _. inr (inr (eqb-true c 11 e))) (λ _ h. absurd (omega (arith, h))))))))))

pub listed-code : (c : ℕ) → is_listed c ≡ true → Code c
unfolding is_listed
listed-code c h = size-code c (ltb-true 0 (size_of c) h)

short-listed : (c : ℕ) → c < 6 → is_listed c ≡ true
unfolding is_listed size_of
short-listed c h =
    let P : ℕ → Type 0 = λ n. ltb 0 n ≡ true in
    cond-then P (eqb c 0) (λ _. refl)
    (λ a. cond-then P (eqb c 1) (λ _. refl)
    (λ b. cond-then P (eqb c 7) (λ _. refl)
    (λ _. cond-then P (eqb c 2) (λ _. refl)
    (λ d. cond-then P (eqb c 3) (λ _. refl)
    (λ e. cond-then P (eqb c 4) (λ _. refl)
    (λ f. cond-then P (eqb c 5) (λ _. refl)
    (λ g. absurd (none (eqb-false c 0 a) (eqb-false c 1 b) (eqb-false c 2 d) (eqb-false c 3 e) (eqb-false c 4 f) (eqb-false c 5 g)))))))))
  where
    under : (n : ℕ) → (c ≡ n → ⊥) → c < suc n → c < n
    under n e k = omega (arith, e, k)

    none : (c ≡ 0 → ⊥) → (c ≡ 1 → ⊥) → (c ≡ 2 → ⊥) → (c ≡ 3 → ⊥) → (c ≡ 4 → ⊥) → (c ≡ 5 → ⊥) → ⊥
    none a b d e f g = let z : c < 0 = under 0 a (under 1 b (under 2 d (under 3 e (under 4 f (under 5 g h))))) in omega (arith, z)

-- uq alone has a high word
size-quad : (c : ℕ) → eqb (size_of c) 8 ≡ true → c ≡ 11
unfolding size_of
size-quad c =
    let P : ℕ → Type 0 = λ n. eqb n 8 ≡ true → c ≡ 11 in
    cond-then P (eqb c 0) (λ _ h. absurd (true≢false (sym h)))
    (λ _. cond-then P (eqb c 1) (λ _ h. absurd (true≢false (sym h)))
    (λ _. cond-then P (eqb c 7) (λ _ h. absurd (true≢false (sym h)))
    (λ _. cond-then P (eqb c 2) (λ _ h. absurd (true≢false (sym h)))
    (λ _. cond-then P (eqb c 3) (λ _ h. absurd (true≢false (sym h)))
    (λ _. cond-then P (eqb c 4) (λ _ h. absurd (true≢false (sym h)))
    (λ _. cond-then P (eqb c 5) (λ _ h. absurd (true≢false (sym h)))
    (λ _. cond-then P (eqb c 11) (λ e _. eqb-true c 11 e) (λ _ h. absurd (true≢false (sym h))))))))))

high-quad : (c : ℕ) → has_high_word c ≡ true → c ≡ 11
unfolding has_high_word
high-quad c h = size-quad c h

quad-high : has_high_word 11 ≡ true
unfolding has_high_word size_of
quad-high = refl

-- the numbers in the table and the codes undo each other
code-at : (k : ℕ) → k < 8 → (place_of (code_at k) ≡ k) × (is_listed (code_at k) ≡ true)
unfolding code_at place_of is_listed size_of
code-at k h = told (eqb k 0) refl (eqb k 7) refl
  where
    told : (a : Bool) → eqb k 0 ≡ a → (b : Bool) → eqb k 7 ≡ b → (place_of (cond a 11 (cond b 7 (k - 1))) ≡ k) × (is_listed (cond a 11 (cond b 7 (k - 1))) ≡ true)
    told true e b f = (sym (eqb-true k 0 e), refl)
    told false e true f = (sym (eqb-true k 7 f), refl)
    told false e false f = on (eqb-false k 0 e) (eqb-false k 7 f)
      where
        on : (k ≡ 0 → ⊥) → (k ≡ 7 → ⊥) → (place_of (k - 1) ≡ k) × (is_listed (k - 1) ≡ true)
        on n m = (rw (ne_eqb (k - 1) 11 (λ x. omega (arith, x, h)), ne_eqb (k - 1) 7 (λ x. omega (arith, x, h))) (omega (arith, n)), short-listed (k - 1) (omega (arith, n, m, h)))

place-of : (c : ℕ) → Code c → (code_at (place_of c) ≡ c) × (place_of c < 8)
unfolding code_at place_of
place-of c (inl h) =
    rw (ne_eqb c 11 (λ x. omega (arith, x, h)), ne_eqb c 7 (λ x. omega (arith, x, h)), ne_eqb (c + 1) 0 (λ x. omega (arith, x)), ne_eqb (c + 1) 7 (λ x. omega (arith, x, h)))
    (omega arith, omega (arith, h))
place-of c (inr (inl e)) = rw e (refl, omega arith)
place-of c (inr (inr e)) = rw e (refl, omega arith)

-- ---- the format

immediate-parts-lawful : Lawful immediate_parts free
unfolding immediate_parts
immediate-parts-lawful =
    pair-lawful (number-lawful 16 0 18446744073709551615 (omega arith) (omega arith) (omega arith) (omega arith)) type-lawful (follows-begins type-begins)

or_left : (a b : Bool) → a ≡ true → (a || b) ≡ true
or_left a b e = rw e

or_right : (a b : Bool) → b ≡ true → (a || b) ≡ true
or_right true b e = refl
or_right false b e = e

either : (a b : Bool) → (a || b) ≡ true → (a ≡ true) ⊎ (b ≡ true)
either true b e = inl refl
either false b e = inr e

high_fits : (n k : ℕ) → (4294967296 ≤ n → k ≡ 0) → (has_high_word (code_at k) || eqb (n / 4294967296) 0) ≡ true
unfolding code_at
high_fits n k g = told (ltb n 4294967296) refl
  where
    told : (b : Bool) → ltb n 4294967296 ≡ b → (has_high_word (code_at k) || eqb (n / 4294967296) 0) ≡ true
    told true e = or_right (has_high_word (code_at k)) (eqb (n / 4294967296) 0) (eq-eqb (n / 4294967296) 0 (omega (arith, ltb-true n 4294967296 e)))
    told false e = or_left (has_high_word (code_at k)) (eqb (n / 4294967296) 0) (ap (λ (x : ℕ). has_high_word (code_at x)) (g (ltb-false n 4294967296 e)) ∙ quad-high)

pub place-alone : (c high low : ℕ) → (has_high_word c || eqb high 0) ≡ true → low < 4294967296 → 4294967296 ≤ high * 4294967296 + low → place_of c ≡ 0
unfolding place_of
place-alone c high low e h k = told (either (has_high_word c) (eqb high 0) e)
  where
    told : (has_high_word c ≡ true) ⊎ (eqb high 0 ≡ true) → place_of c ≡ 0
    told (inl x) = ap place_of (high-quad c x)
    told (inr x) = absurd (omega (arith, eqb-true high 0 x, h, k))

pub record Fits (i : Immediate) : Type 0 where
  pub listed : is_listed i.code ≡ true
  pub low : i.low < 4294967296
  pub high : i.high < 4294967296
  pub lacking : (has_high_word i.code || eqb i.high 0) ≡ true

pub fits-tells : (i : Immediate) → immediate_fits i ≡ true → Fits i
unfolding immediate_fits
fits-tells i h =
    let z = has_high_word i.code || eqb i.high 0 in
    let y = ltb i.high 4294967296 && z in
    let x = ltb i.low 4294967296 && y in
    let a : x ≡ true = both_right (is_listed i.code) x h in
    let b : y ≡ true = both_right (ltb i.low 4294967296) y a in
    record {
      listed = both_left (is_listed i.code) x h;
      low = ltb-true i.low 4294967296 (both_left (ltb i.low 4294967296) y a);
      high = ltb-true i.high 4294967296 (both_left (ltb i.high 4294967296) z b);
      lacking = both_right (ltb i.high 4294967296) z b;
    }

fits-made : (c l u : ℕ) → is_listed c ≡ true → l < 4294967296 → u < 4294967296 → (has_high_word c || eqb u 0) ≡ true → immediate_fits (record { code = c; low = l; high = u }) ≡ true
unfolding immediate_fits
fits-made c l u e h k z =
    both (is_listed c) (ltb l 4294967296 && (ltb u 4294967296 && (has_high_word c || eqb u 0))) e
    (both (ltb l 4294967296) (ltb u 4294967296 && (has_high_word c || eqb u 0)) (lt-ltb l 4294967296 h)
    (both (ltb u 4294967296) (has_high_word c || eqb u 0) (lt-ltb u 4294967296 k) z))

pub immediate-matches : Matches immediate_to immediate_from immediate_fits immediate_parts
unfolding immediate_parts pair
immediate-matches =
    record {
      into = λ v h. into v.0 v.1 (number-under 16 0 18446744073709551615 v.0 (both_left ((number 16 0 18446744073709551615).good v.0) ((type_behind v.0).good v.1) h)).1 (type-under v.0 v.1 (both_right ((number 16 0 18446744073709551615).good v.0) ((type_behind v.0).good v.1) h));
      out = λ i h. out i (fits-tells i h);
    }
  where
    into : (n k : ℕ) → n ≤ 18446744073709551615 → (k < 8) × (4294967296 ≤ n → k ≡ 0) → (immediate_fits (immediate_to (n, k)) ≡ true) × (immediate_from (immediate_to (n, k)) ≡ (n, k))
    into n k h t =
        let c = code-at k t.0 in
        let x : n / 4294967296 * 4294967296 + n % 4294967296 ≡ n = omega arith in
        (fits-made (code_at k) (n % 4294967296) (n / 4294967296) c.1 (omega arith) (omega arith) (high_fits n k t.1), λ j. (x j, c.0 j))

    out : (i : Immediate) → Fits i → (((number 16 0 18446744073709551615).good (i.high * 4294967296 + i.low) && (type_behind (i.high * 4294967296 + i.low)).good (place_of i.code)) ≡ true) × (immediate_to (immediate_from i) ≡ i)
    out i f =
        let n = i.high * 4294967296 + i.low in
        let p = place-of i.code (listed-code i.code f.listed) in
        let x : (i.high * 4294967296 + i.low) % 4294967296 ≡ i.low = omega (arith, f.low) in
        let y : (i.high * 4294967296 + i.low) / 4294967296 ≡ i.high = omega (arith, f.low) in (
          both ((number 16 0 18446744073709551615).good n) ((type_behind n).good (place_of i.code)) (in-range 16 0 18446744073709551615 n (omega arith) (omega (arith, f.low, f.high)))
              (type-fits n (place_of i.code) p.1 (place-alone i.code i.high i.low f.lacking f.low)),
          λ j. record { code = p.0 j; low = x j; high = y j },
        )

pub immediate-lawful : Lawful immediate free
unfolding immediate
immediate-lawful = through-lawful immediate-parts-lawful immediate-matches
