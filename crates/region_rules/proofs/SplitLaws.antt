-- Document 02, request 2: "Nothing that was accepted is refused now." The rules 20 to 25 together refuse exactly the region words that document 01's
-- rule refused by 6.
use mathlib.Core.Path.{◌≡◌, refl, sym, ◌∙◌}
use mathlib.Core.Bool.{Bool, true, false, cond, not, and-false, ◌&&◌, ◌||◌}
use Prim.Native.Nat.{ℕ, ◌<◌}
use native.Mathlib.Omega.{arith}
use lib.Dec.{ltb, leb, eqb}
use borrow.Author.Tests.{ltb-true, ltb-false, le-leb, lt-leb, eq-eqb}
use Rattle.bits.specs.Below.{every_below}
use Rattle.bits.proofs.Every.{every-each}
use Rattle.region_rules.specs.declared.Role.{Role}
use Rattle.region_rules.specs.declared.Role.TheVariants as role
use Rattle.region_rules.specs.RegionWord.{vertical_code, width_code, horizontal_code, stride_of, between, source_region_good, scalar_region_good, destination_region_good, region_allowed}
use Rattle.region_rules.specs.RegionRules.{is_number, stands_for, width_zero_or_32, stride_over_four, width_over_exec_size, destination_stride_zero, null_out_of_place, scalar_region_wrong, first_broken, region_refusal}

-- ---- over the sixteen codes of a field, computed

unfoldable agree : Bool → Bool → Bool
agree true b = b
agree false b = not b

agree_same : (a b : Bool) → agree a b ≡ true → a ≡ b
unfolding agree
agree_same true b e = sym e
agree_same false true e = cc
agree_same false false e = refl

-- tests of a code that agree on all sixteen agree on the code of a field
alike : (f g : ℕ → Bool) → every_below 16 (λ c. agree (f c) (g c)) ≡ true → (code : ℕ) → code < 16 → f code ≡ g code
alike f g all code h = agree_same (f code) (g code) (every-each (λ c. agree (f c) (g c)) 16 all code h)

widths : every_below 16 (λ c. agree (between 2 6 c) (not (stands_for 0 c || stands_for 32 c) && is_number c)) ≡ true
unfolding every_below agree between stands_for is_number stride_of
widths = refl

source-strides : every_below 16 (λ c. agree (between 1 4 c) (not (ltb 4 (stride_of c)) && is_number c)) ≡ true
unfolding every_below agree between is_number stride_of
source-strides = refl

destination-strides : every_below 16 (λ c. agree (between 2 4 c) (not (ltb 4 (stride_of c)) && not (stands_for 0 c) && is_number c)) ≡ true
unfolding every_below agree between stands_for is_number stride_of
destination-strides = refl

width_small : (region : ℕ) → width_code region < 16
unfolding width_code
width_small region = omega arith

horizontal-small : (region : ℕ) → horizontal_code region < 16
unfolding horizontal_code
horizontal-small region = omega arith

-- ---- the rules of a role, by their tests

pub at_most : (a b : ℕ) → leb a b ≡ not (ltb b a)
at_most a b = told (ltb b a) refl
  where
    told : (q : Bool) → ltb b a ≡ q → leb a b ≡ not q
    told true e = lt-leb a b (ltb-true b a e)
    told false e = le-leb a b (ltb-false b a e)

source-by : (z o n v w h : Bool) → eqb (cond z 20 (cond o 21 (cond n 22 (cond (not v || not w || not h) 24 0)))) 0 ≡ (not z && w && not n && v && (not o && h))
source-by true o n v w h = refl
source-by false true n v w h = sym (and-false (w && not n && v))
source-by false false true v true h = refl
source-by false false true v false h = refl
source-by false false false true true true = refl
source-by false false false true true false = refl
source-by false false false true false h = refl
source-by false false false false true h = refl
source-by false false false false false h = refl

destination-by : (o z v w h : Bool) → eqb (cond o 21 (cond z 23 (cond (not v || not w || not h) 24 0))) 0 ≡ (not o && not z && h && v && w)
destination-by true z v w h = refl
destination-by false true v w h = refl
destination-by false false true true true = refl
destination-by false false true true false = refl
destination-by false false true false true = refl
destination-by false false true false false = refl
destination-by false false false w true = refl
destination-by false false false w false = refl

scalar_by : (g : Bool) → eqb (cond (not g) 25 0) 0 ≡ g
scalar_by true = refl
scalar_by false = refl

-- document 01's rule, by the same tests
source-was : (region lanes : ℕ) → source_region_good region lanes
    ≡ (not (stands_for 0 (width_code region) || stands_for 32 (width_code region)) && is_number (width_code region) && not (ltb lanes (stride_of (width_code region))) && is_number (vertical_code region) && (not (ltb 4 (stride_of (horizontal_code region))) && is_number (horizontal_code region)))
unfolding source_region_good is_number
source-was region lanes =
    rw (
      alike (between 2 6) (λ c. not (stands_for 0 c || stands_for 32 c) && is_number c) widths (width_code region) (width_small region),
      alike (between 1 4) (λ c. not (ltb 4 (stride_of c)) && is_number c) source-strides (horizontal_code region) (horizontal-small region),
      at_most (stride_of (width_code region)) lanes,
    )

destination-was : (region : ℕ) → destination_region_good region
    ≡ (not (ltb 4 (stride_of (horizontal_code region))) && not (stands_for 0 (horizontal_code region)) && is_number (horizontal_code region) && eqb (vertical_code region) 0 && eqb (width_code region) 0)
unfolding destination_region_good
destination-was region =
    rw (alike (between 2 4) (λ c. not (ltb 4 (stride_of c)) && not (stands_for 0 c) && is_number c) destination-strides (horizontal_code region) (horizontal-small region))

-- no rule is broken exactly if document 01's rule holds
pub split-refuses : (r : Role) (region lanes : ℕ) → eqb (region_refusal r region lanes) 0 ≡ region_allowed r region lanes
unfolding region_refusal first_broken width_zero_or_32 stride_over_four width_over_exec_size destination_stride_zero null_out_of_place scalar_region_wrong region_allowed
split-refuses role.Source region lanes =
    source-by (stands_for 0 (width_code region) || stands_for 32 (width_code region)) (ltb 4 (stride_of (horizontal_code region))) (ltb lanes (stride_of (width_code region))) (is_number (vertical_code region)) (is_number (width_code region)) (is_number (horizontal_code region))
    ∙ sym (source-was region lanes)
split-refuses role.Scalar region lanes = scalar_by (scalar_region_good region)
split-refuses role.Destination region lanes =
    destination-by (ltb 4 (stride_of (horizontal_code region))) (stands_for 0 (horizontal_code region)) (eqb (vertical_code region) 0) (eqb (width_code region) 0) (is_number (horizontal_code region))
    ∙ sym (destination-was region)

-- as the tests of an operand learn it
pub unbroken-allowed : (r : Role) (region lanes : ℕ) → ltb 0 (region_refusal r region lanes) ≡ false → region_allowed r region lanes ≡ true
unbroken-allowed r region lanes e =
    sym (split-refuses r region lanes) ∙ eq-eqb (region_refusal r region lanes) 0 (omega (arith, ltb-false 0 (region_refusal r region lanes) e))
