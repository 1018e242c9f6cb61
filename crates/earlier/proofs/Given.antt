-- Which numbers a run's tests before data give.
use Prim.Native.Nat.{ℕ, suc, ◌+◌, ◌*◌, ◌^◌, ◌≤◌}
use mathlib.Core.Path.{◌≡◌, refl, sym, ap, ◌∙◌}
use mathlib.Core.Bool.{Bool, true, false, cond, not, true≢false, ◌&&◌, ◌||◌}
use mathlib.Core.List.{List, [], ◌∷◌, map}
use lib.Dec.{ltb, leb, eqb}
use lib.ListN.{length}
use borrow.Author.Tests.{le-leb, eqb-true}
use Rattle.refusal.specs.declared.Detail.{Detail}
use Rattle.refusal.specs.declared.Detail.TheVariants as detail
use Rattle.refusal.specs.Details.{names_operand}
use Rattle.element_types.specs.Types.{size_of}
use Rattle.exec_byte.specs.Exec.{exec_size}
use Rattle.predicate_field.specs.Predicate.{has_predicate}
use Rattle.tables.specs.Tables.{Tables}
use Rattle.predicate_table.specs.declared.PredicateRecord.{PredicateRecord}
use Rattle.tables.specs.Variables.{Variables}
use Rattle.field_groups.specs.declared.Control.{Control}
use Rattle.operand_fields.specs.declared.Immediate.{Immediate}
use Rattle.operand_fields.specs.declared.Operand.TheVariants as kind
use Rattle.decoder.specs.declared.Instruction.{Instruction}
use Rattle.decoder.specs.declared.Instruction.TheVariants as instruction
use Rattle.region_rules.specs.declared.Role.{Role}
use Rattle.region_rules.specs.declared.Role.TheVariants as role
use Rattle.regions.specs.Regions.{element_of}
use Rattle.region_rules.specs.RegionRules.{region_refusal}
use Rattle.regions.specs.Reach.{elements_good}
use Rattle.operands.specs.declared.TypeRule.{TypeRule}
use Rattle.operands.specs.Allowed.{type_allowed}
use Rattle.operands.specs.Variables.{in_table, variable_at}
use Rattle.operands.specs.Elements.{immediate_element, refused_operand}
use Rattle.operands.specs.Operands.{immediate_of, located_immediate, located_vector, raw_good}
use Rattle.plan.specs.Plan.{Plan}
use Rattle.controls.specs.Control.{lanes_end, predicate_for, predicate_refusal, control_refusal, bits_named}
use Rattle.plan.specs.Control.{control_of}
use Rattle.plan.specs.Plans.{refused_plan, tested, tested_from, shl_plan, gather_plan, scatter_plan}
use Rattle.plan.specs.Checked.{shl_dst, shl_src0, shl_src1, checked_shl, gather_offset, gather_element_offset, gather_dst, checked_gather_operands, surface_part, checked_gather, scatter_address, scatter_element_offset, scatter_src, checked_scatter, send_desc, send_src, send_dst, checked_send, checked_operands, checked}
use Rattle.plan.specs.Places.{Asked, vector, raw, located, operands_of}
use Rattle.plan.proofs.NumberLaws.{region-named, first_of_general, general-number, first_of_raw, raw-number}
use Rattle.earlier.specs.Given.{is_given_uncounted, is_given}

-- ---- numbers

named-given : (n : ℕ) → names_operand n ≡ true → is_given_uncounted n ≡ true
unfolding is_given_uncounted
named-given n e = rw e

pub small-given : (n : ℕ) → n ≤ 5 → is_given_uncounted n ≡ true
unfolding is_given_uncounted
small-given n h = rw (le-leb n 5 h) (told (names_operand n))
  where
    told : (q : Bool) → (q || true || (leb 7 n && leb n 13)) ≡ true
    told true = refl
    told false = refl

-- a number that passes a test is none that fails it
pub passes-not : (test : ℕ → Bool) (k : ℕ) → test k ≡ false → (n : ℕ) → test n ≡ true → eqb n k ≡ false
passes-not test k fails n passes = asked (eqb n k) refl
  where
    asked : (q : Bool) → eqb n k ≡ q → q ≡ false
    asked false e = refl
    asked true e = absurd (true≢false (sym passes ∙ (ap test (eqb-true n k e) ∙ fails)))

-- what was given before is given now
pub still-given : (n : ℕ) → is_given_uncounted n ≡ true → is_given n ≡ true
unfolding is_given
still-given n e = rw e

-- ---- an operand

general-given : (listed typed : Bool) (n : ℕ) (inside : Bool) → (ltb 0 n ≡ true → names_operand n ≡ true) → is_given_uncounted (first_of_general listed typed n inside) ≡ true
unfolding is_given_uncounted names_operand
general-given false typed n inside named = refl
general-given true false n inside named = refl
general-given true true n inside named = told (ltb 0 n) refl inside
  where
    told : (q : Bool) → ltb 0 n ≡ q → (in' : Bool) → is_given_uncounted (cond q n (cond (not in') 7 0)) ≡ true
    told true e in' = named-given n (named e)
    told false e true = refl
    told false e false = refl

raw-given : (listed typed good : Bool) → is_given_uncounted (first_of_raw listed typed good) ≡ true
unfolding is_given_uncounted names_operand
raw-given false typed good = refl
raw-given true false good = refl
raw-given true true false = refl
raw-given true true true = refl

immediate-given : (k : TypeRule) (i : Immediate) → is_given_uncounted (immediate_of k i).number ≡ true
unfolding immediate_of immediate_element refused_operand is_given_uncounted names_operand
immediate-given k i = told (type_allowed k i.code)
  where
    told : (q : Bool) → is_given_uncounted (cond (not q) (refused_operand 4) (immediate_element i.code (i.low + 2 ^ 32 * i.high))).number ≡ true
    told true = refl
    told false = refl

located-immediate-given : (r : Role) (k : TypeRule) (i : Immediate) → is_given_uncounted (located_immediate r k i).number ≡ true
unfolding located_immediate refused_operand is_given_uncounted names_operand
located-immediate-given role.Source k i = immediate-given k i
located-immediate-given role.Scalar k i = immediate-given k i
located-immediate-given role.Destination k i = refl

-- ---- all tests before data

pub tested-given : (P : ℕ → Type 0) (n : ℕ) (d : Detail) (next : Plan) → P n → P next.number → P (tested n d next).number
unfolding tested refused_plan
tested-given P n d next here later = told (ltb 0 n)
  where
    told : (q : Bool) → P (cond q (refused_plan n d) next).number
    told true = here
    told false = later

module _ (register_size : ℕ) (t : Variables) (exec : ℕ) where
  operand-given : (o : Asked) → is_given_uncounted (located register_size t exec o).number ≡ true
  unfolding located_vector
  operand-given (vector r k (kind.General g)) =
      let v = variable_at t g.index in
      ap is_given_uncounted (general-number register_size t r k exec g)
      ∙ general-given (in_table t g.index) (type_allowed k v.code) (region_refusal r g.region (exec_size exec)) (elements_good register_size v (element_of register_size r g (size_of v.code)) (exec_size exec)) (region-named r g.region (exec_size exec))
  operand-given (vector r k (kind.Immediate i)) = located-immediate-given r k i
  operand-given (raw k bytes x) =
      let v = variable_at t x.index in
      ap is_given_uncounted (raw-number t k bytes x) ∙ raw-given (in_table t x.index) (type_allowed k v.code) (raw_good v x.offset bytes)

  operands-given : (place : ℕ) (os : List Asked) (next : Plan) → is_given_uncounted next.number ≡ true → is_given_uncounted (tested_from place (map (located register_size t exec) os) next).number ≡ true
  operands-given place [] next last = last
  operands-given place (o ∷ os) next last = tested-given (λ (n : ℕ). is_given_uncounted n ≡ true) _ _ _ (operand-given o) (operands-given (suc place) os next last)

pub instruction-given : (register_size : ℕ) (t : Tables) (bits : ℕ) (i : Instruction) → is_given_uncounted (checked_operands register_size t bits i).number ≡ true
unfolding checked_operands checked_shl checked_gather checked_gather_operands checked_scatter checked_send shl_dst shl_src0 shl_src1 gather_offset gather_element_offset gather_dst scatter_address scatter_element_offset scatter_src send_desc send_src send_dst shl_plan gather_plan scatter_plan refused_plan is_given_uncounted names_operand
instruction-given register_size t bits (instruction.Shl i) = operands-given register_size t.variables i.control.exec 1 (operands_of register_size (instruction.Shl i)) _ refl
instruction-given register_size t bits (instruction.Gather i) = surfaced (ltb i.access.surface (length t.surfaces.lengths))
  where
    surfaced : (q : Bool) → is_given_uncounted (cond (not q) (refused_plan 5 detail.None) (checked_gather_operands register_size t.variables bits (surface_part t.surfaces i.access.surface) i)).number ≡ true
    surfaced true = operands-given register_size t.variables i.control.exec 1 (operands_of register_size (instruction.Gather i)) _ refl
    surfaced false = refl
instruction-given register_size t bits (instruction.Scatter i) = operands-given register_size t.variables i.control.exec 1 (operands_of register_size (instruction.Scatter i)) _ refl
instruction-given register_size t bits (instruction.RawSend i) = operands-given register_size t.variables i.control.exec 1 (operands_of register_size (instruction.RawSend i)) _ refl

-- 8, 5, 17 or none
control-given : (p : PredicateRecord) (c : Control) → is_given (control_refusal p c) ≡ true
unfolding control_refusal predicate_refusal is_given is_given_uncounted names_operand
control-given p c = told (ltb 32 (lanes_end c.exec)) (has_predicate c.pred) p.present (ltb p.count (lanes_end c.exec))
  where
    told : (over has present short : Bool) → is_given (cond over 8 (cond has (cond (not present) 5 (cond short 17 0)) 0)) ≡ true
    told true has present short = refl
    told false false present short = refl
    told false true false short = refl
    told false true true true = refl
    told false true true false = refl

pub checked-given : (register_size : ℕ) (t : Tables) (i : Instruction) → is_given (checked register_size t i).number ≡ true
unfolding checked
checked-given register_size t i =
    let p = predicate_for t.predicates (control_of i) in
    tested-given (λ (n : ℕ). is_given n ≡ true) _ _ _ (control-given p (control_of i)) (still-given _ (instruction-given register_size t (bits_named p (control_of i).pred) i))
