-- The texts of the ignored fields are lawful formats, behind which neither a digit nor a space may stand.
use mathlib.Core.Path.{◌≡◌, refl, sym}
use mathlib.Core.List.{List, ◌++◌}
use mathlib.Core.Bool.{Bool, true, false, cond, ◌&&◌}
use Prim.Native.Nat.{ℕ, ◌≤◌, ◌<◌}
use native.Mathlib.Omega.{arith}
use lib.Dec.{leb, eqb}
use borrow.Author.Tests.{eqb-true, eqb-false, ne_eqb, leb-true, le-leb}
use Rattle.hex_text.specs.Digits.{is_decimal, is_letter}
use Rattle.formats.specs.Text.{text}
use Rattle.formats.specs.Format.{Format, pair, through, blank}
use Rattle.formats.specs.Words.{words, word_at, one_of, table, after}
use Rattle.formats.specs.Numbers.{number}
use Rattle.formats.specs.Mirror.Digits.{is_digit, value_of}
use Rattle.formats.proofs.Tests.{both, both_left, both_right, cond-then}
use Rattle.formats.proofs.Agree.{ends}
use Rattle.formats.proofs.Law.{Lawful, weaken}
use Rattle.formats.proofs.Following.{Matches, Begins, Follows, follows-free, follows-begins, follows-cond, begins-pair}
use Rattle.formats.proofs.Combining.{pair-lawful, through-lawful, blank-lawful, cond-lawful}
use Rattle.formats.proofs.TableTests.{sound, opens, single, size, table-under}
use Rattle.formats.proofs.WordLaws.{table-lawful}
use Rattle.formats.proofs.AroundLaws.{begins-after}
use Rattle.formats.proofs.NumberLaws.{begins-number, decimal-characters}
use Rattle.control_texts.specs.Mirror.Predicate.{zeros, nothing}
use Rattle.text_parts.specs.Mirror.Fields.{decimal}
use Rattle.formats.proofs.PartLaws.{in_table, in-range}
use Rattle.text_parts.proofs.FieldLaws.{decimal-lawful, decimal-between}
use Rattle.control_texts.proofs.PredicateLaws.{nothing_lawful}
use Rattle.line_parts.specs.Mirror.Braces.{bracing, scale_behind, size_and_scale, gather_braces_fit, gather_braces, scale_alone, scatter_braces}
use Rattle.line_parts.proofs.EndLaws.{is_space, goes_on, no_digit, no-space}

-- ---- the pieces

bracing-lawful : Lawful (table bracing) is_space
unfolding sound
bracing-lawful = table-lawful bracing is_space refl

digit-no-space : (c : ℕ) → is_digit 10 c ≡ true → is_space c ≡ false
digit-no-space c h = ne_eqb c 32 (λ e. omega (arith, e, (decimal-characters c h).0))

decimal-begins : (low high : ℕ) (end : List ℕ) → single end ≡ true → Begins is_space (decimal low high end)
unfolding decimal
decimal-begins low high end e = begins-after end (number 10 low high) is_space e (begins-number 10 low high is_space (omega arith) (omega arith) digit-no-space)

-- behind the braces' opening or its absence
follows-none : {A : Type 0} (v : A) (test : A → Bool) → Follows (table bracing) (λ _. blank v test) is_space goes_on
unfolding blank
follows-none v test = record { apart = λ a b u x y z. no-space u z }

lowest : (size : ℕ) → cond (eqb size 0) 1 0 ≤ 1
lowest size = cond-then (λ (n : ℕ). n ≤ 1) (eqb size 0) (λ _. omega arith) (λ _. omega arith)

pub scale-behind-lawful : (size : ℕ) → Lawful (scale_behind size) goes_on
unfolding scale_behind sound single opens is_digit value_of is_decimal is_letter
scale-behind-lawful size =
    let l = lowest size in
    weaken goes_on (decimal-lawful (cond (eqb size 0) 1 0) 65535 (text "}|") l (omega (arith, l)) refl refl refl)

pub scale-behind-under : (size n : ℕ) → (scale_behind size).good n ≡ true → n ≤ 65535
unfolding scale_behind
scale-behind-under size n h = (decimal-between (cond (eqb size 0) 1 0) 65535 (text "}|") n h).1

size-and-scale-lawful : (braced : ℕ) → Lawful (size_and_scale braced) goes_on
unfolding size_and_scale sound single opens is_digit value_of is_decimal is_letter
size-and-scale-lawful braced =
    cond-lawful (eqb braced 0) (nothing_lawful goes_on)
    (pair-lawful (decimal-lawful 0 255 (text ",|") (omega arith) (omega arith) refl refl refl) scale-behind-lawful follows-free)

size-and-scale-follows : Follows (table bracing) size_and_scale is_space goes_on
unfolding size_and_scale single
size-and-scale-follows =
    follows-cond (λ braced. eqb braced 0) (follows-none (0, 0) zeros)
    (follows-begins (λ _. begins-pair scale_behind (decimal-begins 0 255 (text ",|") refl)))

decimal-fits : (low high : ℕ) (end : List ℕ) (n : ℕ) → low ≤ n → n ≤ high → (decimal low high end).good n ≡ true
unfolding decimal after through
decimal-fits low high end n h k = in-range 10 low high n h k

-- ---- Block_size and Scale of a gather

some-zeros : (a b : ℕ) → cond (eqb a 0) 1 0 ≤ b → (eqb a 0 && eqb b 0) ≡ false
some-zeros a b = told (eqb a 0)
  where
    told : (t : Bool) → cond t 1 0 ≤ b → (t && eqb b 0) ≡ false
    told true h = ne_eqb b 0 (λ e. omega (arith, e, h))
    told false h = refl

no-zeros : (a b : ℕ) → (eqb a 0 && eqb b 0) ≡ false → cond (eqb a 0) 1 0 ≤ b
no-zeros a b = told (eqb a 0)
  where
    told : (t : Bool) → (t && eqb b 0) ≡ false → cond t 1 0 ≤ b
    told true e = above (eqb-false b 0 e)
      where
        above : (b ≡ 0 → ⊥) → 1 ≤ b
        above n = omega (arith, n)
    told false e = omega arith

fit-both : (a b : ℕ) → a ≤ 255 → b ≤ 65535 → gather_braces_fit (a, b) ≡ true
unfolding gather_braces_fit
fit-both a b h k = both (leb a 255) (leb b 65535) (le-leb a 255 h) (le-leb b 65535 k)

pub both-fit : (a b : ℕ) → gather_braces_fit (a, b) ≡ true → (a ≤ 255) × (b ≤ 65535)
unfolding gather_braces_fit
both-fit a b h = (leb-true a 255 (both_left (leb a 255) (leb b 65535) h), leb-true b 65535 (both_right (leb a 255) (leb b 65535) h))

gather-into : (k a b : ℕ) → k < 2 → (size_and_scale k).good (a, b) ≡ true → (gather_braces_fit (a, b) ≡ true) × (◌≡◌ {A = ℕ × (ℕ × ℕ)} (cond (zeros (a, b)) 0 1, (a, b)) (k, (a, b)))
unfolding size_and_scale scale_behind pair blank
gather-into k a b l = told (eqb k 0) refl
  where
    told : (t : Bool) → eqb k 0 ≡ t → (cond t nothing (pair (decimal 0 255 (text ",|")) scale_behind)).good (a, b) ≡ true →
        (gather_braces_fit (a, b) ≡ true) × (◌≡◌ {A = ℕ × (ℕ × ℕ)} (cond (zeros (a, b)) 0 1, (a, b)) (k, (a, b)))
    told true e h =
        let x = eqb-true a 0 (both_left (eqb a 0) (eqb b 0) h) in
        let y = eqb-true b 0 (both_right (eqb a 0) (eqb b 0) h) in
        let z : cond (zeros (a, b)) 0 1 ≡ k = rw h (sym (eqb-true k 0 e)) in
        (fit-both a b (omega (arith, x)) (omega (arith, y)), λ i. (z i, (a, b)))
    told false e h =
        let x = decimal-between 0 255 (text ",|") a (both_left ((decimal 0 255 (text ",|")).good a) ((decimal (cond (eqb a 0) 1 0) 65535 (text "}|")).good b) h) in
        let y = decimal-between (cond (eqb a 0) 1 0) 65535 (text "}|") b (both_right ((decimal 0 255 (text ",|")).good a) ((decimal (cond (eqb a 0) 1 0) 65535 (text "}|")).good b) h) in
        let z : cond (zeros (a, b)) 0 1 ≡ k = rw (some-zeros a b y.0) (one (eqb-false k 0 e)) in
        (fit-both a b x.1 y.1, λ i. (z i, (a, b)))
      where
        one : (k ≡ 0 → ⊥) → 1 ≡ k
        one n = omega (arith, n, l)

gather-out : (a b : ℕ) → gather_braces_fit (a, b) ≡ true → (pair (table bracing) size_and_scale).good (cond (zeros (a, b)) 0 1, (a, b)) ≡ true
unfolding size_and_scale scale_behind pair blank size
gather-out a b h = told (zeros (a, b)) refl
  where
    told : (t : Bool) → zeros (a, b) ≡ t → (pair (table bracing) size_and_scale).good (cond t 0 1, (a, b)) ≡ true
    told true e = rw (in_table bracing 0 (omega arith)) e
    told false e =
        let x = both-fit a b h in
        rw (in_table bracing 1 (omega arith))
        (both ((decimal 0 255 (text ",|")).good a) ((decimal (cond (eqb a 0) 1 0) 65535 (text "}|")).good b) (decimal-fits 0 255 (text ",|") a (omega arith) x.0) (decimal-fits (cond (eqb a 0) 1 0) 65535 (text "}|") b (no-zeros a b e) x.1))

pub gather-braces-matches : Matches {A = ℕ × (ℕ × ℕ)} (λ v. v.1) (λ v. (cond (zeros v) 0 1, v)) gather_braces_fit (pair (table bracing) size_and_scale)
unfolding pair size
gather-braces-matches =
    record {
      into = λ v h. gather-into v.0 v.1.0 v.1.1 (table-under bracing v.0 (both_left ((one_of (words bracing)).good v.0) ((size_and_scale v.0).good v.1) h)) (both_right ((one_of (words bracing)).good v.0) ((size_and_scale v.0).good v.1) h);
      out = λ v h. (gather-out v.0 v.1 h, refl);
    }

pub gather-braces-lawful : Lawful gather_braces goes_on
unfolding gather_braces
gather-braces-lawful = through-lawful (pair-lawful bracing-lawful size-and-scale-lawful size-and-scale-follows) gather-braces-matches

-- no digit stands behind a raw operand
pub gather-braces-follow : {A : Type 0} {f : Format A} → Follows f (λ _. gather_braces) (is_digit 10) goes_on
unfolding gather_braces through pair size_and_scale blank one_of words word_at is_digit value_of is_decimal is_letter
gather-braces-follow = record { apart = λ a v u x y z. told v u z (zeros v) }
  where
    told : (v : ℕ × ℕ) (u : List ℕ) → ends goes_on u ≡ true → (t : Bool) → ends (is_digit 10) ((word_at (words bracing) (cond t 0 1) ++ (size_and_scale (cond t 0 1)).print v) ++ u) ≡ true
    told v u z true = no_digit u z
    told v u z false = refl

-- ---- Scale of a scatter

scale-alone-lawful : (braced : ℕ) → Lawful (scale_alone braced) goes_on
unfolding scale_alone sound single opens is_digit value_of is_decimal is_letter
scale-alone-lawful braced =
    cond-lawful (eqb braced 0) (blank-lawful 0 (λ s. eqb s 0) goes_on refl (λ s h. eqb-true s 0 h))
    (weaken goes_on (decimal-lawful 1 65535 (text "}|") (omega arith) (omega arith) refl refl refl))

scale-alone-follows : Follows (table bracing) scale_alone is_space goes_on
unfolding scale_alone single
scale-alone-follows =
    follows-cond (λ braced. eqb braced 0) (follows-none 0 (λ s. eqb s 0)) (follows-begins (λ _. decimal-begins 1 65535 (text "}|") refl))

scatter-into : (k s : ℕ) → k < 2 → (scale_alone k).good s ≡ true → (leb s 65535 ≡ true) × (◌≡◌ {A = ℕ × ℕ} (cond (eqb s 0) 0 1, s) (k, s))
unfolding scale_alone blank
scatter-into k s l = told (eqb k 0) refl
  where
    told : (t : Bool) → eqb k 0 ≡ t → (cond t (blank 0 (λ s. eqb s 0)) (decimal 1 65535 (text "}|"))).good s ≡ true → (leb s 65535 ≡ true) × (◌≡◌ {A = ℕ × ℕ} (cond (eqb s 0) 0 1, s) (k, s))
    told true e h =
        let z : cond (eqb s 0) 0 1 ≡ k = rw h (sym (eqb-true k 0 e)) in
        (le-leb s 65535 (omega (arith, eqb-true s 0 h)), λ i. (z i, s))
    told false e h =
        let x = decimal-between 1 65535 (text "}|") s h in
        let z : cond (eqb s 0) 0 1 ≡ k = rw (ne_eqb s 0 (λ e. omega (arith, e, x.0))) (one (eqb-false k 0 e)) in
        (le-leb s 65535 x.1, λ i. (z i, s))
      where
        one : (k ≡ 0 → ⊥) → 1 ≡ k
        one n = omega (arith, n, l)

scatter-out : (s : ℕ) → leb s 65535 ≡ true → (pair (table bracing) scale_alone).good (cond (eqb s 0) 0 1, s) ≡ true
unfolding scale_alone pair blank size
scatter-out s h = told (eqb s 0) refl
  where
    above : (s ≡ 0 → ⊥) → 1 ≤ s
    above n = omega (arith, n)

    told : (t : Bool) → eqb s 0 ≡ t → (pair (table bracing) scale_alone).good (cond t 0 1, s) ≡ true
    told true e = rw (in_table bracing 0 (omega arith)) e
    told false e = rw (in_table bracing 1 (omega arith)) (decimal-fits 1 65535 (text "}|") s (above (eqb-false s 0 e)) (leb-true s 65535 h))

pub scatter-braces-matches : Matches {A = ℕ × ℕ} (λ v. v.1) (λ s. (cond (eqb s 0) 0 1, s)) (λ s. leb s 65535) (pair (table bracing) scale_alone)
unfolding pair size
scatter-braces-matches =
    record {
      into = λ v h. scatter-into v.0 v.1 (table-under bracing v.0 (both_left ((one_of (words bracing)).good v.0) ((scale_alone v.0).good v.1) h)) (both_right ((one_of (words bracing)).good v.0) ((scale_alone v.0).good v.1) h);
      out = λ s h. (scatter-out s h, refl);
    }

pub scatter-braces-lawful : Lawful scatter_braces goes_on
unfolding scatter_braces
scatter-braces-lawful = through-lawful (pair-lawful bracing-lawful scale-alone-lawful scale-alone-follows) scatter-braces-matches

pub scatter-braces-follow : {A : Type 0} {f : Format A} → Follows f (λ _. scatter_braces) (is_digit 10) goes_on
unfolding scatter_braces through pair scale_alone blank one_of words word_at is_digit value_of is_decimal is_letter
scatter-braces-follow = record { apart = λ a v u x y z. told v u z (eqb v 0) }
  where
    told : (v : ℕ) (u : List ℕ) → ends goes_on u ≡ true → (t : Bool) → ends (is_digit 10) ((word_at (words bracing) (cond t 0 1) ++ (scale_alone (cond t 0 1)).print v) ++ u) ≡ true
    told v u z true = no_digit u z
    told v u z false = refl
