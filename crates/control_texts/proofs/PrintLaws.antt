-- The formats print the texts that `Texts` has, for every value that the encoder takes.
use mathlib.Core.Path.{◌≡◌, refl, sym, ap, ◌∙◌}
use mathlib.Core.List.{List, ◌++◌, append_assoc}
use mathlib.Core.Bool.{Bool, true, false, cond, ◌&&◌}
use Prim.Native.Nat.{ℕ, zero, suc, ◌+◌, ◌*◌, ◌-◌, ◌/◌, ◌%◌, ◌^◌, ◌<◌}
use native.Mathlib.Omega.{arith}
use native.Mathlib.Nat.{sub-zero}
use lib.Dec.{eqb, leb}
use borrow.Author.Tests.{eqb-true, eqb-false, ne_eqb, leb-true, leb-false}
use Rattle.hex_text.specs.Digits.{character_of}
use Rattle.formats.specs.Text.{text}
use Rattle.formats.specs.Format.{pair, through, blank}
use Rattle.formats.specs.Words.{words, word_at, one_of, table, before}
use Rattle.formats.specs.Numerals.{digits, digits_of}
use Rattle.formats.specs.Numbers.{number}
use Rattle.bits.specs.Bits.{bit, bit_field}
use Rattle.exec_byte.specs.Exec.{exec_reserved, exec_size, mask_control, mask_number, no_mask}
use Rattle.predicate_field.specs.Predicate.{has_predicate, predicate_id, predicate_combine, predicate_inverse}
use Rattle.exec_byte.proofs.ExecLaws.{exec-size}
use Rattle.formats.proofs.Tests.{both_left, both_right}
use Rattle.control_texts.specs.Mirror.Predicate.{openings, endings, group_endings, ending, id_and_ending, predicate_fits, predicate}
use Rattle.control_texts.specs.Mirror.Exec.{mask_endings, sizes, scatter_sizes, mask_parts, mask, exec_from, exec_fits, exec, scatter_exec_fits, scatter_exec}
use Rattle.control_texts.specs.Texts.{optional, predicate_text, exec_text}
use Rattle.control_texts.proofs.PredicateLaws.{Word, word-tells}
use Rattle.control_texts.proofs.ExecLaws.{not-reserved, mask-place-is, size-place-is, exec-told, scatter-told}

-- ---- the exec byte

mask-ending : (m : ℕ) → m < 16 → word_at (words mask_endings) (m / 8) ≡ optional (leb 8 m) (text "_NM") ++ text ","
unfolding words word_at
mask-ending m h = told (leb 8 m) refl
  where
    told : (b : Bool) → leb 8 m ≡ b → word_at (words mask_endings) (m / 8) ≡ optional b (text "_NM") ++ text ","
    told true e = let k : m / 8 ≡ 1 = omega (arith, leb-true 8 m e, h) in rw k
    told false e = let k : m / 8 ≡ 0 = omega (arith, leb-false 8 m e) in rw k

size-text : (z : ℕ) → z < 6 → word_at (words sizes) z ≡ digits_of 10 (2 ^ z) ++ text ") "
unfolding words word_at digits character_of
size-text zero h = refl
size-text (suc zero) h = refl
size-text (suc (suc zero)) h = refl
size-text (suc (suc (suc zero))) h = refl
size-text (suc (suc (suc (suc zero)))) h = refl
size-text (suc (suc (suc (suc (suc zero))))) h = refl
size-text (suc (suc (suc (suc (suc (suc z)))))) h = absurd (omega arith)

scatter-size-text : (i : ℕ) → i < 2 → word_at (words scatter_sizes) i ≡ word_at (words sizes) (3 + i)
unfolding words word_at
scatter-size-text zero h = refl
scatter-size-text (suc zero) h = refl
scatter-size-text (suc (suc i)) h = absurd (omega arith)

-- the fields of a byte below 256
control-is : (e : ℕ) → e < 256 → mask_control e ≡ e / 16
unfolding mask_control bit_field
control-is e h = omega arith

size_is : (e : ℕ) → exec_reserved e ≡ false → e % 16 < 8 → exec_size e ≡ 2 ^ (e % 16)
size_is e good h = exec-size e good ∙ ap (λ (n : ℕ). 2 ^ n) (omega arith)

joined : (d o s p : List ℕ) → (text "(M" ++ (d ++ (o ++ text ","))) ++ (s ++ p) ≡ text "(M" ++ d ++ o ++ text "," ++ s ++ p
joined d o s p =
    ap (λ (t : List ℕ). text "(M" ++ (t ++ (s ++ p))) (sym (append_assoc d o (text ",")))
    ∙ ap (λ (t : List ℕ). text "(M" ++ t) (sym (append_assoc (d ++ o ++ text ",") s p))

mask_is : (m : ℕ) → m < 16 → mask.print m ≡ text "(M" ++ (digits_of 10 (m % 8 + 1) ++ (optional (leb 8 m) (text "_NM") ++ text ","))
unfolding mask mask_parts before through pair number one_of words word_at
mask_is m h = ap (λ (t : List ℕ). text "(M" ++ (digits_of 10 (m % 8 + 1) ++ t)) (mask-ending m h)

exec-is : (e m z : ℕ) → exec_reserved e ≡ false → mask_control e ≡ m → exec_size e ≡ z → exec_text e ≡ text "(M" ++ digits_of 10 (m % 8 + 1) ++ optional (leb 8 m) (text "_NM") ++ text "," ++ digits_of 10 z ++ text ") "
unfolding exec_text mask_number no_mask
exec-is e m z good p q = rw (good, p, q)

with_size : (e : ℕ) → e < 256 → e % 16 < 6 → mask.print (e / 16) ++ word_at (words sizes) (e % 16) ≡ exec_text e
with_size e h k =
    ap (λ (t : List ℕ). t ++ word_at (words sizes) (e % 16)) (mask_is (e / 16) (omega (arith, h)))
    ∙ ap (λ (t : List ℕ). (text "(M" ++ (digits_of 10 (e / 16 % 8 + 1) ++ (optional (leb 8 (e / 16)) (text "_NM") ++ text ","))) ++ t) (size-text (e % 16) k)
    ∙ joined (digits_of 10 (e / 16 % 8 + 1)) (optional (leb 8 (e / 16)) (text "_NM")) (digits_of 10 (2 ^ (e % 16))) (text ") ")
    ∙ sym (exec-is e (e / 16) (2 ^ (e % 16)) good (control-is e h) (size_is e good (omega (arith, k))))
  where
    good : exec_reserved e ≡ false
    good = not-reserved e h k

pub exec-prints : (e : ℕ) → exec_fits e ≡ true → exec.print e ≡ exec_text e
unfolding exec exec_from through pair one_of
exec-prints e h =
    let k = exec-told e h in
    let c : e % 16 < 6 = omega (arith, k.2) in
    rw (mask-place-is e k.0 c, size-place-is e k.0 c) (ap (λ (n : ℕ). mask.print (e / 16) ++ word_at (words sizes) n) (sub-zero (e % 16)) ∙ with_size e k.0 c)

pub scatter-exec-prints : (e : ℕ) → scatter_exec_fits e ≡ true → scatter_exec.print e ≡ exec_text e
unfolding scatter_exec exec_from through pair one_of
scatter-exec-prints e h =
    let k = scatter-told e h in
    let c : e % 16 < 6 = omega (arith, k.2) in
    let n : 3 + (e % 16 - 3) ≡ e % 16 = omega (arith, k.1) in
    rw (mask-place-is e k.0 c, size-place-is e k.0 c)
    (ap (λ (t : List ℕ). mask.print (e / 16) ++ t) (scatter-size-text (e % 16 - 3) (omega (arith, k.2)) ∙ ap (word_at (words sizes)) n) ∙ with_size e k.0 c)

-- ---- the predicate

opening-text : (p : ℕ) → p < 65536 → word_at (words openings) (1 + p / 32768) ≡ text "(" ++ optional (predicate_inverse p) (text "!") ++ text "P"
unfolding words word_at predicate_inverse bit
opening-text p h = told (eqb (p / 32768 % 2) 1) refl
  where
    told : (b : Bool) → eqb (p / 32768 % 2) 1 ≡ b → word_at (words openings) (1 + p / 32768) ≡ text "(" ++ optional b (text "!") ++ text "P"
    told true e = let k : 1 + p / 32768 ≡ 2 = omega (arith, h, eqb-true (p / 32768 % 2) 1 e) in rw k
    told false e = let k : 1 + p / 32768 ≡ 1 = none (eqb-false (p / 32768 % 2) 1 e) in rw k
      where
        none : (p / 32768 % 2 ≡ 1 → ⊥) → 1 + p / 32768 ≡ 1
        none n = omega (arith, n, h)

ending-text : (k id j : ℕ) → j < 3 → (k ≡ 1 → id ≡ 0 → 0 < j) → (ending k id).print ((j + 2) % 3) ≡ optional (eqb j 1) (text ".any") ++ optional (eqb j 2) (text ".all") ++ text ") "
unfolding ending one_of words word_at
ending-text k id j h g = told j (eqb k 1 && eqb id 0) refl h g
  where
    told : (j : ℕ) (b : Bool) → (eqb k 1 && eqb id 0) ≡ b → j < 3 → (k ≡ 1 → id ≡ 0 → 0 < j) → (cond b (table group_endings) (table endings)).print ((j + 2) % 3) ≡ optional (eqb j 1) (text ".any") ++ optional (eqb j 2) (text ".all") ++ text ") "
    told zero true e h g =
        let z : 0 < 0 = g (eqb-true k 1 (both_left (eqb k 1) (eqb id 0) e)) (eqb-true id 0 (both_right (eqb k 1) (eqb id 0) e)) in
        absurd (omega (arith, z))
    told zero false e h g = refl
    told (suc zero) true e h g = refl
    told (suc zero) false e h g = refl
    told (suc (suc zero)) true e h g = refl
    told (suc (suc zero)) false e h g = refl
    told (suc (suc (suc j))) b e h g = absurd (omega arith)

word-is : (p a j n : ℕ) → a ≡ p / 32768 → j ≡ p / 8192 % 4 → n ≡ p % 4096 → p / 4096 % 2 ≡ 0 → p ≡ a * 32768 + j * 8192 + n
word-is p a j n x y z c = omega (arith, x, y, z, c)

id-is : (p : ℕ) → predicate_id p ≡ p % 4096
unfolding predicate_id bit_field
id-is p = omega arith

combine-is : (p : ℕ) → predicate_combine p ≡ p / 8192 % 4
unfolding predicate_combine bit_field
combine-is p = refl

pieces-joined : (o d a l e : List ℕ) → o ++ (d ++ (a ++ l ++ e)) ≡ o ++ d ++ a ++ l ++ e
pieces-joined o d a l e =
    sym (append_assoc o d (a ++ l ++ e)) ∙ sym (append_assoc (o ++ d) (a ++ l) e) ∙ ap (λ (t : List ℕ). t ++ e) (sym (append_assoc (o ++ d) a l))

some-text : (p id j : ℕ) → (p ≡ 0 → ⊥) → predicate_id p ≡ id → predicate_combine p ≡ j →
    predicate_text p ≡ text "(" ++ optional (predicate_inverse p) (text "!") ++ text "P" ++ digits_of 10 id ++ optional (eqb j 1) (text ".any") ++ optional (eqb j 2) (text ".all") ++ text ") "
unfolding predicate_text has_predicate
some-text p id j n x y = rw (ne_eqb p 0 n, x, y)

-- what the text of a predicate is made of
pub some-print : (p : ℕ) → (p ≡ 0 → ⊥) → predicate.print p ≡ word_at (words openings) (1 + p / 32768) ++ (digits_of 10 (p % 4096) ++ (ending (1 + p / 32768) (p % 4096)).print ((p / 8192 % 4 + 2) % 3))
unfolding predicate through pair id_and_ending one_of number
some-print p n = rw (ne_eqb p 0 n, ne_eqb (1 + p / 32768) 0 (λ e. omega (arith, e)))

no-print : predicate.print 0 ≡ predicate_text 0
unfolding predicate through pair id_and_ending blank one_of words word_at predicate_text has_predicate
no-print = refl

pub predicate-prints : (p : ℕ) → predicate_fits p ≡ true → predicate.print p ≡ predicate_text p
predicate-prints p h = told (eqb p 0) refl (word-tells p h)
  where
    some : (p ≡ 0 → ⊥) → Word p → predicate.print p ≡ predicate_text p
    some n w =
        let j = p / 8192 % 4 in
        some-print p n
        ∙ ap (λ (t : List ℕ). t ++ (digits_of 10 (p % 4096) ++ (ending (1 + p / 32768) (p % 4096)).print ((j + 2) % 3))) (opening-text p w.small)
        ∙ ap (λ (t : List ℕ). (text "(" ++ optional (predicate_inverse p) (text "!") ++ text "P") ++ (digits_of 10 (p % 4096) ++ t)) (ending-text (1 + p / 32768) (p % 4096) j w.three (λ x y. positive x y n w))
        ∙ pieces-joined (text "(" ++ optional (predicate_inverse p) (text "!") ++ text "P") (digits_of 10 (p % 4096)) (optional (eqb j 1) (text ".any")) (optional (eqb j 2) (text ".all")) (text ") ")
        ∙ sym (some-text p (p % 4096) j n (id-is p) (combine-is p))
      where
        positive : 1 + p / 32768 ≡ 1 → p % 4096 ≡ 0 → (p ≡ 0 → ⊥) → Word p → 0 < p / 8192 % 4
        positive x y n w = let q = word-is p (p / 32768) (p / 8192 % 4) (p % 4096) refl refl refl w.clear in from (p / 8192 % 4) (p / 32768) (p % 4096) q (omega (arith, x)) y
          where
            from : (j a k : ℕ) → p ≡ a * 32768 + j * 8192 + k → a ≡ 0 → k ≡ 0 → 0 < j
            from j a k q x y = omega (arith, q, x, y, n)

    told : (b : Bool) → eqb p 0 ≡ b → Word p → predicate.print p ≡ predicate_text p
    told true e w = ap (λ (x : ℕ). predicate.print x) (eqb-true p 0 e) ∙ no-print ∙ ap predicate_text (sym (eqb-true p 0 e))
    told false e w = some (eqb-false p 0 e) w
