-- The text of a region is a lawful format, a source's and a destination's: which words have a text, and that each has its own.
use mathlib.Core.Path.{◌≡◌, refl, sym, ◌∙◌}
use mathlib.Core.Bool.{Bool, true, false, cond, ◌&&◌, not, true≢false}
use Prim.Native.Nat.{ℕ, ◌+◌, ◌*◌, ◌-◌, ◌/◌, ◌%◌, ◌<◌, ◌≤◌}
use native.Mathlib.Omega.{arith}
use lib.Dec.{eqb, ltb}
use borrow.Author.Tests.{eqb-true, eqb-false, eq-eqb, ne_eqb, ltb-true, ltb-false, lt-ltb, le-ltb}
use Rattle.formats.specs.Format.{pair, blank}
use Rattle.formats.specs.Words.{words, one_of, table}
use Rattle.formats.proofs.Tests.{both, both_left, both_right}
use Rattle.formats.proofs.Law.{Lawful, free}
use Rattle.formats.proofs.Following.{Matches, follows-free}
use Rattle.formats.proofs.Combining.{pair-lawful, through-lawful, cond-lawful}
use Rattle.formats.proofs.TableTests.{sound, size, table-under}
use Rattle.formats.proofs.WordLaws.{table-lawful}
use Rattle.fields.specs.Rules.{region_good}
use Rattle.control_texts.specs.Mirror.Predicate.{nothing}
use Rattle.formats.proofs.PartLaws.{in_table}
use Rattle.control_texts.proofs.PredicateLaws.{both_zero, nothing_lawful}
use Rattle.operand_texts.specs.Mirror.Region.{verticals, widths, strides, region_to, region_from, region_fits, source_region, firsts, null_stride, stride_behind, width_and_stride, destination_region_to, destination_region_from, destination_region}

-- ---- the words that the encoder takes

pub record Region (r : ℕ) : Type 0 where
  pub small : r < 4096
  pub vertical : r % 16 < 8
  pub width : r / 16 % 16 < 8
  pub stride : r / 256 < 8

pub region-tells : (r : ℕ) → region_fits r ≡ true → Region r
unfolding region_fits region_good
region-tells r h =
    let z = ltb (r / 256 % 16) 8 in
    let y = ltb (r / 16 % 16) 8 && z in
    let x = ltb (r % 16) 8 && y in
    let a : x ≡ true = both_right (eqb (r / 4096) 0) x h in
    let b : y ≡ true = both_right (ltb (r % 16) 8) y a in
    let s : r < 4096 = omega (arith, eqb-true (r / 4096) 0 (both_left (eqb (r / 4096) 0) x h)) in
    record {
      small = s;
      vertical = ltb-true (r % 16) 8 (both_left (ltb (r % 16) 8) y a);
      width = ltb-true (r / 16 % 16) 8 (both_left (ltb (r / 16 % 16) 8) z b);
      stride = omega (arith, s, ltb-true (r / 256 % 16) 8 (both_right (ltb (r / 16 % 16) 8) z b));
    }

region-made : (r : ℕ) → r % 16 < 8 → r / 16 % 16 < 8 → r / 256 < 8 → region_fits r ≡ true
unfolding region_fits region_good
region-made r h g k =
    both (eqb (r / 4096) 0) (ltb (r % 16) 8 && (ltb (r / 16 % 16) 8 && ltb (r / 256 % 16) 8)) (eq-eqb (r / 4096) 0 (omega (arith, k)))
    (both (ltb (r % 16) 8) (ltb (r / 16 % 16) 8 && ltb (r / 256 % 16) 8) (lt-ltb (r % 16) 8 h)
    (both (ltb (r / 16 % 16) 8) (ltb (r / 256 % 16) 8) (lt-ltb (r / 16 % 16) 8 g) (lt-ltb (r / 256 % 16) 8 (omega (arith, k)))))

-- the fields of the word of three codes
record Parts (r v w h : ℕ) : Type 0 where
  vertical : r % 16 ≡ v
  width : r / 16 % 16 ≡ w
  stride : r / 256 ≡ h
  masked : r / 256 % 16 ≡ h

parts : (r v w h : ℕ) → r ≡ v + 16 * w + 256 * h → v < 8 → w < 8 → h < 8 → Parts r v w h
parts r v w h q x y z =
    let d : r / 16 ≡ w + 16 * h = omega (arith, q, x) in
    let c : r / 256 ≡ h = omega (arith, q, x, y) in
    record { vertical = omega (arith, q, x, y); width = rw d (omega (arith, y)); stride = c; masked = rw c (omega (arith, z)) }

parts-good : (r v w h : ℕ) → Parts r v w h → v < 8 → w < 8 → h < 8 → region_fits r ≡ true
parts-good r v w h p x y z = region-made r (omega (arith, p.vertical, x)) (omega (arith, p.width, y)) (omega (arith, p.stride, z))

-- ---- a source's region

pub source-region-matches : Matches region_to region_from region_fits (pair (table verticals) (λ _. pair (table widths) (λ _. table strides)))
unfolding pair size
source-region-matches =
    record {
      into = λ v h.
          let a = (one_of (words verticals)).good v.0 in
          let b = (one_of (words widths)).good v.1.0 in
          let c = (one_of (words strides)).good v.1.1 in
          into v.0 v.1.0 v.1.1 (region_to v) refl (table-under verticals v.0 (both_left a (b && c) h)) (table-under widths v.1.0 (both_left b c (both_right a (b && c) h))) (table-under strides v.1.1 (both_right b c (both_right a (b && c) h)));
      out = λ r h. out r (region-tells r h);
    }
  where
    into : (v w h r : ℕ) → r ≡ v + 16 * w + 256 * h → v < 8 → w < 8 → h < 8 → (region_fits r ≡ true) × (◌≡◌ {A = ℕ × (ℕ × ℕ)} (r % 16, (r / 16 % 16, r / 256 % 16)) (v, (w, h)))
    into v w h r q x y z = let p = parts r v w h q x y z in (parts-good r v w h p x y z, λ i. (p.vertical i, (p.width i, p.masked i)))

    out : (r : ℕ) → Region r → (((one_of (words verticals)).good (r % 16) && ((one_of (words widths)).good (r / 16 % 16) && (one_of (words strides)).good (r / 256 % 16))) ≡ true) × (r % 16 + 16 * (r / 16 % 16) + 256 * (r / 256 % 16) ≡ r)
    out r k = (
      both ((one_of (words verticals)).good (r % 16)) ((one_of (words widths)).good (r / 16 % 16) && (one_of (words strides)).good (r / 256 % 16)) (in_table verticals (r % 16) k.vertical)
          (both ((one_of (words widths)).good (r / 16 % 16)) ((one_of (words strides)).good (r / 256 % 16)) (in_table widths (r / 16 % 16) k.width) (in_table strides (r / 256 % 16) (omega (arith, k.stride)))),
      omega (arith, k.stride),
    )

pub source-region-lawful : Lawful source_region free
unfolding source_region sound
source-region-lawful =
    through-lawful (pair-lawful (table-lawful verticals free refl) (λ _. pair-lawful (table-lawful widths free refl) (λ _. table-lawful strides free refl) follows-free) follows-free) source-region-matches

-- ---- what stands behind a destination's first word

pub stride-lawful : (v w : ℕ) → Lawful (stride_behind v w) free
unfolding stride_behind sound
stride-lawful v w = cond-lawful (eqb v 0 && eqb w 0) (table-lawful null_stride free refl) (table-lawful strides free refl)

width-and-stride-lawful : (first : ℕ) → Lawful (width_and_stride first) free
unfolding width_and_stride sound
width-and-stride-lawful first = cond-lawful (ltb first 8) (pair-lawful (table-lawful widths free refl) (stride-lawful first) follows-free) (nothing_lawful free)

pub stride-under : (v w h : ℕ) → (stride_behind v w).good h ≡ true → (h < 8) × (v ≡ 0 → w ≡ 0 → h ≡ 0)
unfolding stride_behind size
stride-under v w h = told (eqb v 0 && eqb w 0) refl
  where
    told : (b : Bool) → (eqb v 0 && eqb w 0) ≡ b → (cond b (table null_stride) (table strides)).good h ≡ true → (h < 8) × (v ≡ 0 → w ≡ 0 → h ≡ 0)
    told true e g = let x : h < 1 = table-under null_stride h g in (omega (arith, x), λ _ _. omega (arith, x))
    told false e g = (table-under strides h g, λ p q. absurd (true≢false (sym (both (eqb v 0) (eqb w 0) (eq-eqb v 0 p) (eq-eqb w 0 q)) ∙ e)))

stride-fits : (v w h : ℕ) → h < 8 → (v ≡ 0 → w ≡ 0 → h ≡ 0) → (stride_behind v w).good h ≡ true
unfolding stride_behind size
stride-fits v w h l g = told (eqb v 0 && eqb w 0) refl
  where
    told : (b : Bool) → (eqb v 0 && eqb w 0) ≡ b → (cond b (table null_stride) (table strides)).good h ≡ true
    told true e = in_table null_stride h (omega (arith, g (eqb-true v 0 (both_left (eqb v 0) (eqb w 0) e)) (eqb-true w 0 (both_right (eqb v 0) (eqb w 0) e))))
    told false e = in_table strides h l

-- ---- a destination's region

-- whether H stands alone
pub alone : (r : ℕ) → r % 256 ≡ 0 → (r / 256 ≡ 0 → ⊥) → (eqb (r % 256) 0 && not (eqb (r / 256) 0)) ≡ true
alone r h g = rw (eq-eqb (r % 256) 0 h, ne_eqb (r / 256) 0 g)

pub not-alone : (r : ℕ) → (r % 256 ≡ 0 → r / 256 ≡ 0) → (eqb (r % 256) 0 && not (eqb (r / 256) 0)) ≡ false
not-alone r h = told (eqb (r % 256) 0) refl (eqb (r / 256) 0) refl
  where
    told : (a : Bool) → eqb (r % 256) 0 ≡ a → (b : Bool) → eqb (r / 256) 0 ≡ b → (a && not b) ≡ false
    told false e b f = refl
    told true e true f = refl
    told true e false f = absurd (eqb-false (r / 256) 0 f (h (eqb-true (r % 256) 0 e)))

-- the two cases of a destination's region
pub alone-tells : (r : ℕ) → (eqb (r % 256) 0 && not (eqb (r / 256) 0)) ≡ true → (r % 256 ≡ 0) × (r / 256 ≡ 0 → ⊥)
alone-tells r e =
    (eqb-true (r % 256) 0 (both_left (eqb (r % 256) 0) (not (eqb (r / 256) 0)) e), λ z. true≢false (sym (both_right (eqb (r % 256) 0) (not (eqb (r / 256) 0)) e) ∙ rw (eq-eqb (r / 256) 0 z)))

pub not-alone-tells : (r : ℕ) → (eqb (r % 256) 0 && not (eqb (r / 256) 0)) ≡ false → r % 256 ≡ 0 → r / 256 ≡ 0
not-alone-tells r e h = told (eqb (r / 256) 0) refl
  where
    told : (b : Bool) → eqb (r / 256) 0 ≡ b → r / 256 ≡ 0
    told true f = eqb-true (r / 256) 0 f
    told false f = absurd (true≢false (sym (alone r h (eqb-false (r / 256) 0 f)) ∙ e))

no-low : (r m : ℕ) → r ≡ 256 * m → (r % 16 ≡ 0) × (r / 16 % 16 ≡ 0)
no-low r m e = let h : r / 16 ≡ 16 * m = omega arith in (omega arith, rw h (omega arith))

destination-into : (k w h : ℕ) → k < 15 → (width_and_stride k).good (w, h) ≡ true → (region_fits (destination_region_to (k, (w, h))) ≡ true) × (destination_region_from (destination_region_to (k, (w, h))) ≡ (k, (w, h)))
unfolding width_and_stride pair blank size
destination-into k w h l = told (ltb k 8) refl
  where
    told : (b : Bool) → ltb k 8 ≡ b → (cond b (pair (table widths) (λ w. stride_behind k w)) nothing).good (w, h) ≡ true →
        (region_fits (cond b (k + 16 * w + 256 * h) (256 * (k - 7))) ≡ true) × (destination_region_from (cond b (k + 16 * w + 256 * h) (256 * (k - 7))) ≡ (k, (w, h)))
    told true e g =
        let x = ltb-true k 8 e in
        let y : w < 8 = table-under widths w (both_left ((one_of (words widths)).good w) ((stride_behind k w).good h) g) in
        let z = stride-under k w h (both_right ((one_of (words widths)).good w) ((stride_behind k w).good h) g) in
        on (k + 16 * w + 256 * h) refl x y z.0 z.1
      where
        on : (r : ℕ) → r ≡ k + 16 * w + 256 * h → k < 8 → w < 8 → h < 8 → (k ≡ 0 → w ≡ 0 → h ≡ 0) → (region_fits r ≡ true) × (destination_region_from r ≡ (k, (w, h)))
        on r q x y z n =
            let p = parts r k w h q x y z in (
              parts-good r k w h p x y z,
              rw (not-alone r (λ u. omega (arith, p.stride, n (omega (arith, u, q, x, y)) (omega (arith, u, q, x, y))))) (λ i. (p.vertical i, (p.width i, p.masked i))),
            )
    told false e g = on (256 * (k - 7)) refl (ltb-false k 8 e) (both_zero (w, h) g)
      where
        on : (r : ℕ) → r ≡ 256 * (k - 7) → 8 ≤ k → ◌≡◌ {A = ℕ × ℕ} (w, h) (0, 0) → (region_fits r ≡ true) × (destination_region_from r ≡ (k, (w, h)))
        on r q x z =
            let c : 7 + r / 256 ≡ k = omega (arith, q, x) in
            let n = no-low r (k - 7) q in (
              region-made r (omega (arith, n.0)) (omega (arith, n.1)) (omega (arith, q, l)),
              rw (alone r (omega (arith, q)) (λ u. omega (arith, u, q, x))) (λ i. (c i, sym z i)),
            )

destination-out : (r : ℕ) → region_fits r ≡ true → ((pair (table firsts) width_and_stride).good (destination_region_from r) ≡ true) × (destination_region_to (destination_region_from r) ≡ r)
unfolding width_and_stride pair blank size
destination-out r g = told (eqb (r % 256) 0 && not (eqb (r / 256) 0)) refl (region-tells r g)
  where
    long : Region r → (k w h : ℕ) → k ≡ r % 16 → w ≡ r / 16 % 16 → h ≡ r / 256 % 16 → (r % 256 ≡ 0 → r / 256 ≡ 0) →
        ((one_of (words firsts)).good k && (cond (ltb k 8) (pair (table widths) (λ w. stride_behind k w)) nothing).good (w, h) ≡ true) × (cond (ltb k 8) (k + 16 * w + 256 * h) (256 * (k - 7)) ≡ r)
    long t k w h a b c n =
        rw (in_table firsts k (omega (arith, a, t.vertical)), lt-ltb k 8 (omega (arith, a, t.vertical)))
        (both ((one_of (words widths)).good w) ((stride_behind k w).good h) (in_table widths w (omega (arith, b, t.width))) (stride-fits k w h (omega (arith, c, t.stride)) (λ u v. omega (arith, c, n (omega (arith, a, b, u, v))))), omega (arith, a, b, c, t.stride))

    short : Region r → (k : ℕ) → k ≡ 7 + r / 256 → r % 256 ≡ 0 → 0 < r / 256 →
        ((one_of (words firsts)).good k && (cond (ltb k 8) (pair (table widths) (λ w. stride_behind k w)) nothing).good (0, 0) ≡ true) × (cond (ltb k 8) (k + 16 * 0 + 256 * 0) (256 * (k - 7)) ≡ r)
    short t k a b c =
        let d : 256 * (k - 7) ≡ r = omega (arith, a, b, c) in
        rw (in_table firsts k (omega (arith, a, t.stride)), le-ltb k 8 (omega (arith, a, c))) (refl, d)

    some : (r / 256 ≡ 0 → ⊥) → 0 < r / 256
    some n = omega (arith, n)

    told : (b : Bool) → (eqb (r % 256) 0 && not (eqb (r / 256) 0)) ≡ b → Region r →
        ((pair (table firsts) width_and_stride).good (cond b (7 + r / 256, (0, 0)) (r % 16, (r / 16 % 16, r / 256 % 16))) ≡ true) × (destination_region_to (cond b (7 + r / 256, (0, 0)) (r % 16, (r / 16 % 16, r / 256 % 16))) ≡ r)
    told true e t = let k = alone-tells r e in short t (7 + r / 256) refl k.0 (some k.1)
    told false e t = long t (r % 16) (r / 16 % 16) (r / 256 % 16) refl refl refl (not-alone-tells r e)

pub destination-region-matches : Matches destination_region_to destination_region_from region_fits (pair (table firsts) width_and_stride)
unfolding pair size
destination-region-matches =
    record {
      into = λ v h.
          destination-into v.0 v.1.0 v.1.1 (table-under firsts v.0 (both_left ((one_of (words firsts)).good v.0) ((width_and_stride v.0).good v.1) h)) (both_right ((one_of (words firsts)).good v.0) ((width_and_stride v.0).good v.1) h);
      out = destination-out;
    }

pub destination-region-lawful : Lawful destination_region free
unfolding destination_region sound
destination-region-lawful = through-lawful (pair-lawful (table-lawful firsts free refl) width-and-stride-lawful follows-free) destination-region-matches

-- ---- the test of the code

pub both-null : (v w : ℕ) → v ≡ 0 → eqb w 0 ≡ (eqb v 0 && eqb w 0)
both-null v w e = rw (eq-eqb v 0 e)

pub not-both-null : (v w : ℕ) → (v ≡ 0 → ⊥) → false ≡ (eqb v 0 && eqb w 0)
not-both-null v w n = rw (ne_eqb v 0 n)
