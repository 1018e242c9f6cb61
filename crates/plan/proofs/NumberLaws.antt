-- The numbers of operands: 20 to 25 are those of a region's rules, and 5, 4 and 7 are none of them; 6 is never given.
use Prim.Native.Nat.{ℕ, ◌+◌, ◌*◌, ◌^◌}
use mathlib.Core.Path.{◌≡◌, refl, sym, ap, ◌∙◌}
use mathlib.Core.Bool.{Bool, true, false, cond, not, false≢true}
use lib.Dec.{ltb}
use Rattle.element_types.specs.Types.{size_of}
use Rattle.refusal.specs.Details.{names_operand}
use Rattle.exec_byte.specs.Exec.{exec_size}
use Rattle.tables.specs.Variables.{Variables}
use Rattle.operand_fields.specs.declared.General.{General}
use Rattle.operand_fields.specs.declared.Immediate.{Immediate}
use Rattle.operand_fields.specs.declared.Raw.{Raw}
use Rattle.operand_fields.specs.declared.Operand.TheVariants as kind
use Rattle.region_rules.specs.declared.Role.{Role}
use Rattle.region_rules.specs.declared.Role.TheVariants as role
use Rattle.regions.specs.declared.Variable.{Variable}
use Rattle.regions.specs.Regions.{element_of}
use Rattle.region_rules.specs.RegionRules.{width_zero_or_32, stride_over_four, width_over_exec_size, destination_stride_zero, null_out_of_place, scalar_region_wrong, first_broken, region_refusal}
use Rattle.regions.specs.Reach.{elements_good}
use Rattle.operands.specs.declared.TypeRule.{TypeRule}
use Rattle.operands.specs.Located.{Located}
use Rattle.operands.specs.Allowed.{type_allowed}
use Rattle.operands.specs.Variables.{in_table, variable_at}
use Rattle.operands.specs.Elements.{register_elements, immediate_element, refused_operand}
use Rattle.operands.specs.Operands.{general_of, located_general, immediate_of, located_immediate, located_vector, raw_good, raw_of, located_raw}
use Rattle.plan.specs.Places.{Asked, vector, raw, located, RegionRefused, broken}

-- ---- a region

-- a broken rule has one of the numbers 20 to 25
named : (a b c d e f : Bool) → ltb 0 (cond a 20 (cond b 21 (cond c 22 (cond d 23 (cond e 24 (cond f 25 0)))))) ≡ true → names_operand (cond a 20 (cond b 21 (cond c 22 (cond d 23 (cond e 24 (cond f 25 0)))))) ≡ true
unfolding names_operand
named true b c d e f h = refl
named false true c d e f h = refl
named false false true d e f h = refl
named false false false true e f h = refl
named false false false false true f h = refl
named false false false false false true h = refl
named false false false false false false h = h

pub region-named : (r : Role) (region lanes : ℕ) → ltb 0 (region_refusal r region lanes) ≡ true → names_operand (region_refusal r region lanes) ≡ true
unfolding region_refusal first_broken
region-named r region lanes h = named (width_zero_or_32 r region lanes) (stride_over_four r region lanes) (width_over_exec_size r region lanes) (destination_stride_zero r region lanes) (null_out_of_place r region lanes) (scalar_region_wrong r region lanes) h

-- ---- a General operand

number_of : (q : Bool) (x y : Located) → (cond q x y).number ≡ cond q x.number y.number
number_of true x y = refl
number_of false x y = refl

-- 5, 4, the region's, 7, or none
abbrev pub first_of_general : Bool → Bool → ℕ → Bool → ℕ
first_of_general listed typed region inside = cond (not listed) 5 (cond (not typed) 4 (cond (ltb 0 region) region (cond (not inside) 7 0)))

abbrev inside : ℕ → Role → General → ℕ → Variable → Bool
inside register_size r g lanes v = elements_good register_size v (element_of register_size r g (size_of v.code)) lanes

pub general-number : (register_size : ℕ) (t : Variables) (r : Role) (k : TypeRule) (exec : ℕ) (g : General) → (located_vector register_size t r k exec (kind.General g)).number
    ≡ first_of_general (in_table t g.index) (type_allowed k (variable_at t g.index).code) (region_refusal r g.region (exec_size exec)) (inside register_size r g (exec_size exec) (variable_at t g.index))
unfolding located_vector located_general general_of register_elements refused_operand
general-number register_size t r k exec g = rw (number_of, number_of, number_of, number_of)

-- a number of 20 to 25 is the region's
first-named : (listed typed : Bool) (region : ℕ) (inside : Bool) → names_operand (first_of_general listed typed region inside) ≡ true → (listed ≡ true) × (typed ≡ true) × (region ≡ first_of_general listed typed region inside)
unfolding names_operand
first-named false typed region inside h = absurd (false≢true h)
first-named true false region inside h = absurd (false≢true h)
first-named true true region inside h = told (ltb 0 region) inside h
  where
    told : (q in' : Bool) → names_operand (cond q region (cond (not in') 7 0)) ≡ true → (◌≡◌ {A = Bool} true true) × (◌≡◌ {A = Bool} true true) × (region ≡ cond q region (cond (not in') 7 0))
    told true in' e = (refl, refl, refl)
    told false true e = absurd (false≢true e)
    told false false e = absurd (false≢true e)

-- ---- the others name no operand

immediate-unnamed : (k : TypeRule) (i : Immediate) → names_operand (immediate_of k i).number ≡ false
unfolding immediate_of immediate_element refused_operand names_operand
immediate-unnamed k i = told (type_allowed k i.code)
  where
    told : (q : Bool) → names_operand (cond (not q) (refused_operand 4) (immediate_element i.code (i.low + 2 ^ 32 * i.high))).number ≡ false
    told true = refl
    told false = refl

pub located-immediate-unnamed : (r : Role) (k : TypeRule) (i : Immediate) → names_operand (located_immediate r k i).number ≡ false
unfolding located_immediate refused_operand names_operand
located-immediate-unnamed role.Source k i = immediate-unnamed k i
located-immediate-unnamed role.Scalar k i = immediate-unnamed k i
located-immediate-unnamed role.Destination k i = refl

-- 5, 4, 7, or none
abbrev pub first_of_raw : Bool → Bool → Bool → ℕ
first_of_raw listed typed good = cond (not listed) 5 (cond (not typed) 4 (cond (not good) 7 0))

pub raw-number : (t : Variables) (k : TypeRule) (bytes : ℕ) (x : Raw) → (located_raw t k bytes x).number ≡ first_of_raw (in_table t x.index) (type_allowed k (variable_at t x.index).code) (raw_good (variable_at t x.index) x.offset bytes)
unfolding located_raw raw_of register_elements refused_operand
raw-number t k bytes x = rw (number_of, number_of, number_of)

first-raw-unnamed : (a b c : Bool) → names_operand (first_of_raw a b c) ≡ false
unfolding names_operand
first-raw-unnamed false b c = refl
first-raw-unnamed true false c = refl
first-raw-unnamed true true false = refl
first-raw-unnamed true true true = refl

pub raw-unnamed : (t : Variables) (k : TypeRule) (bytes : ℕ) (x : Raw) → names_operand (located_raw t k bytes x).number ≡ false
raw-unnamed t k bytes x =
    let v = variable_at t x.index in
    ap names_operand (raw-number t k bytes x) ∙ first-raw-unnamed (in_table t x.index) (type_allowed k v.code) (raw_good v x.offset bytes)

-- ---- 20 to 25 are given exactly by the region's own rule

module _ (register_size : ℕ) (t : Variables) (exec : ℕ) where
  pub region-told : (o : Asked) → names_operand (located register_size t exec o).number ≡ true → RegionRefused register_size t exec o (located register_size t exec o).number
  unfolding located_vector
  region-told (vector r k (kind.General g)) h =
      let is = general-number register_size t r k exec g in
      let v = variable_at t g.index in
      let f = first-named (in_table t g.index) (type_allowed k v.code) (region_refusal r g.region (exec_size exec)) (inside register_size r g (exec_size exec) v) (sym (ap names_operand is) ∙ h) in
      broken f.0 f.1 (f.2 ∙ sym is)
  region-told (vector r k (kind.Immediate i)) h = absurd (false≢true (sym (located-immediate-unnamed r k i) ∙ h))
  region-told (raw k bytes x) h = absurd (false≢true (sym (raw-unnamed t k bytes x) ∙ h))

  -- a region that is refused so is the operand's number
  pub region-given : (o : Asked) (n : ℕ) → RegionRefused register_size t exec o n → ltb 0 n ≡ true → (located register_size t exec o).number ≡ n
  region-given o n (broken {role = r} {rule = k} {g = g} listed typed is) some = general-number register_size t r k exec g ∙ rw (listed, typed, is, some) refl
