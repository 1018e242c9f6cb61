-- 20 to 25 turned back into 6 are the numbers with document 01's one rule: of a region, of an operand, of all tests before data.
use Prim.Native.Nat.{ℕ, zero, suc}
use mathlib.Core.Path.{◌≡◌, refl, sym, ap, ◌∙◌}
use mathlib.Core.Bool.{Bool, true, false, cond, not, ◌&&◌}
use mathlib.Core.List.{List, [], ◌∷◌, map}
use native.Mathlib.Omega.{arith}
use lib.Dec.{ltb, leb}
use lib.ListN.{length}
use borrow.Author.Tests.{ltb-true, lt-ltb, ne_eqb}
use Rattle.element_types.specs.Types.{size_of}
use Rattle.refusal.specs.declared.Detail.{Detail}
use Rattle.refusal.specs.declared.Detail.TheVariants as detail
use Rattle.refusal.specs.Details.{names_operand}
use Rattle.exec_byte.specs.Exec.{exec_size}
use Rattle.operand_fields.specs.declared.Raw.{Raw}
use Rattle.operand_fields.specs.declared.Operand.{Operand}
use Rattle.operand_fields.specs.declared.Operand.TheVariants as kind
use Rattle.tables.specs.Tables.{Tables}
use Rattle.tables.specs.Variables.{Variables}
use Rattle.decoder.specs.declared.Instruction.{Instruction}
use Rattle.decoder.specs.declared.Instruction.TheVariants as instruction
use Rattle.region_rules.specs.declared.Role.{Role}
use Rattle.region_rules.specs.RegionWord.{region_allowed}
use Rattle.regions.specs.Regions.{element_of}
use Rattle.region_rules.specs.RegionRules.{region_refusal}
use Rattle.regions.specs.Reach.{elements_good}
use Rattle.region_rules.proofs.SplitLaws.{split-refuses, unbroken-allowed}
use Rattle.operands.specs.declared.TypeRule.{TypeRule}
use Rattle.operands.specs.Allowed.{type_allowed}
use Rattle.operands.specs.Variables.{in_table, variable_at}
use Rattle.operands.specs.Operands.{located_vector, located_raw}
use Rattle.plan.specs.Plan.{Plan}
use Rattle.controls.specs.Control.{predicate_for, control_refusal, bits_named}
use Rattle.plan.specs.Control.{control_of}
use Rattle.plan.specs.Plans.{refused_plan, tested, tested_from, shl_plan, gather_plan, scatter_plan}
use Rattle.plan.specs.Checked.{shl_dst, shl_src0, shl_src1, checked_shl, gather_offset, gather_element_offset, gather_dst, checked_gather_operands, surface_part, checked_gather, scatter_address, scatter_element_offset, scatter_src, checked_scatter, send_desc, send_src, send_dst, checked_send, checked_operands, checked}
use Rattle.plan.specs.Places.{Asked, vector, raw, located, operands_of}
use Rattle.plan.proofs.NumberLaws.{region-named, first_of_general, general-number, located-immediate-unnamed, raw-unnamed}
use Rattle.plan.proofs.PlaceLaws.{control-unnamed}
use Rattle.earlier.specs.OneRegionRule.{general_number, vector_number, first_refusal, operand_numbers, asked_number, surface_number, last_number, number_before, as_before}

-- ---- numbers

-- a number that names no operand stays
stays : (n : ℕ) → names_operand n ≡ false → as_before n ≡ n
unfolding as_before
stays n e = rw e

-- no refusal becomes none, and none becomes a refusal
first-before : (n : ℕ) (ns : List ℕ) (last : ℕ) → first_refusal (as_before n ∷ ns) last ≡ cond (ltb 0 n) (as_before n) (first_refusal ns last)
unfolding as_before names_operand
first-before zero ns last = refl
first-before (suc n) ns last = rw (lt-ltb 0 (suc n) (omega arith)) (told (leb 20 (suc n) && leb (suc n) 25))
  where
    told : (q : Bool) → first_refusal (cond q 6 (suc n) ∷ ns) last ≡ cond q 6 (suc n)
    told true = refl
    told false = refl

-- ---- a region

broken-six : (r : Role) (region lanes : ℕ) → ltb 0 (region_refusal r region lanes) ≡ true → as_before (region_refusal r region lanes) ≡ 6
unfolding as_before
broken-six r region lanes h = rw (region-named r region lanes h)

broken-refused : (r : Role) (region lanes : ℕ) → ltb 0 (region_refusal r region lanes) ≡ true → region_allowed r region lanes ≡ false
broken-refused r region lanes h = sym (split-refuses r region lanes) ∙ ne_eqb (region_refusal r region lanes) 0 (λ z. omega (arith, ltb-true 0 (region_refusal r region lanes) h, z))

-- ---- an operand

general-cases : (listed typed : Bool) (n : ℕ) (allowed inside : Bool) → (ltb 0 n ≡ true → as_before n ≡ 6) → (ltb 0 n ≡ true → allowed ≡ false) → (ltb 0 n ≡ false → allowed ≡ true)
    → as_before (first_of_general listed typed n inside) ≡ cond (not listed) 5 (cond (not typed) 4 (cond (not allowed) 6 (cond (not inside) 7 0)))
unfolding as_before names_operand
general-cases false typed n allowed inside six refused good = refl
general-cases true false n allowed inside six refused good = refl
general-cases true true n allowed inside six refused good = told (ltb 0 n) refl
  where
    reached : (q : Bool) → as_before (cond (not q) 7 0) ≡ cond (not q) 7 0
    reached true = refl
    reached false = refl

    told : (q : Bool) → ltb 0 n ≡ q → as_before (cond q n (cond (not inside) 7 0)) ≡ cond (not allowed) 6 (cond (not inside) 7 0)
    told true e = rw (refused e) (six e)
    told false e = rw (good e) (reached inside)

vector-before : (register_size : ℕ) (t : Variables) (r : Role) (k : TypeRule) (exec : ℕ) (x : Operand) → as_before (located_vector register_size t r k exec x).number ≡ vector_number register_size t r k exec x
unfolding vector_number general_number located_vector
vector-before register_size t r k exec (kind.General g) =
    let v = variable_at t g.index in
    ap as_before (general-number register_size t r k exec g)
    ∙ general-cases (in_table t g.index) (type_allowed k v.code) (region_refusal r g.region (exec_size exec)) (region_allowed r g.region (exec_size exec)) (elements_good register_size v (element_of register_size r g (size_of v.code)) (exec_size exec))
    (broken-six r g.region (exec_size exec)) (broken-refused r g.region (exec_size exec)) (unbroken-allowed r g.region (exec_size exec))
vector-before register_size t r k exec (kind.Immediate i) = stays _ (located-immediate-unnamed r k i)

raw-before : (t : Variables) (k : TypeRule) (bytes : ℕ) (x : Raw) → as_before (located_raw t k bytes x).number ≡ (located_raw t k bytes x).number
raw-before t k bytes x = stays _ (raw-unnamed t k bytes x)

-- ---- all tests before data

operand-before : (register_size : ℕ) (t : Variables) (exec : ℕ) (o : Asked) → as_before (located register_size t exec o).number ≡ asked_number register_size t exec o
operand-before register_size t exec (vector r k x) = vector-before register_size t r k exec x
operand-before register_size t exec (raw k bytes x) = raw-before t k bytes x

tested-before : (n : ℕ) (d : Detail) (next : Plan) (ns : List ℕ) (last : ℕ) → as_before next.number ≡ first_refusal ns last → as_before (tested n d next).number ≡ first_refusal (as_before n ∷ ns) last
unfolding tested refused_plan
tested-before n d next ns last e = told (ltb 0 n) ∙ sym (first-before n ns last)
  where
    told : (q : Bool) → as_before (cond q (refused_plan n d) next).number ≡ cond q (as_before n) (first_refusal ns last)
    told true = refl
    told false = e

operands-before : (register_size : ℕ) (t : Variables) (exec place : ℕ) (os : List Asked) (next : Plan) → as_before (tested_from place (map (located register_size t exec) os) next).number ≡ first_refusal (map (asked_number register_size t exec) os) (as_before next.number)
operands-before register_size t exec place [] next = refl
operands-before register_size t exec place (o ∷ os) next =
    tested-before _ _ _ (map (asked_number register_size t exec) os) _ (operands-before register_size t exec (suc place) os next)
    ∙ ap (λ (n : ℕ). first_refusal (n ∷ map (asked_number register_size t exec) os) (as_before next.number)) (operand-before register_size t exec o)

module _ (register_size : ℕ) (t : Tables) (bits : ℕ) where
  instruction-before : (i : Instruction) → as_before (checked_operands register_size t bits i).number ≡ first_refusal (surface_number t i ∷ operand_numbers register_size t.variables i) (last_number i)
  unfolding checked_operands checked_shl checked_gather checked_gather_operands checked_scatter checked_send control_of surface_number last_number shl_dst shl_src0 shl_src1 gather_offset gather_element_offset gather_dst scatter_address scatter_element_offset scatter_src send_desc send_src send_dst shl_plan gather_plan scatter_plan refused_plan as_before names_operand
  instruction-before (instruction.Shl i) = operands-before register_size t.variables i.control.exec 1 (operands_of register_size (instruction.Shl i)) _
  instruction-before (instruction.Gather i) = surfaced (ltb i.access.surface (length t.surfaces.lengths))
    where
      surfaced : (q : Bool) → as_before (cond (not q) (refused_plan 5 detail.None) (checked_gather_operands register_size t.variables bits (surface_part t.surfaces i.access.surface) i)).number ≡ first_refusal (cond (not q) 5 0 ∷ operand_numbers register_size t.variables (instruction.Gather i)) 0
      surfaced true = operands-before register_size t.variables i.control.exec 1 (operands_of register_size (instruction.Gather i)) _
      surfaced false = refl
  instruction-before (instruction.Scatter i) = operands-before register_size t.variables i.control.exec 1 (operands_of register_size (instruction.Scatter i)) _
  instruction-before (instruction.RawSend i) = operands-before register_size t.variables i.control.exec 1 (operands_of register_size (instruction.RawSend i)) _

pub checked-before : (register_size : ℕ) (t : Tables) (i : Instruction) → as_before (checked register_size t i).number ≡ number_before register_size t i
unfolding checked number_before
checked-before register_size t i =
    let p = predicate_for t.predicates (control_of i) in
    tested-before (control_refusal p (control_of i)) _ _ (surface_number t i ∷ operand_numbers register_size t.variables i) (last_number i) (instruction-before register_size t (bits_named p (control_of i).pred) i)
    ∙ ap (λ (n : ℕ). first_refusal (n ∷ surface_number t i ∷ operand_numbers register_size t.variables i) (last_number i)) (stays _ (control-unnamed p (control_of i)))
