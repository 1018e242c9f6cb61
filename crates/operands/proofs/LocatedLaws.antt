-- What is known of an accepted operand: its elements lie in the register file, a raw operand's one after the other, a destination's apart.
use mathlib.Core.Path.{◌≡◌, refl, ◌∙◌}
use mathlib.Core.Bool.{false, not, true≢false}
use Prim.Native.Nat.{ℕ, ◌+◌, ◌*◌, ◌%◌, ◌≤◌, ◌<◌}
use native.Mathlib.Omega.{arith}
use native.Mathlib.Nat.{mul-le-mul_right}
use lib.Dec.{ltb, leb, eqb}
use lib.ListN.{length, get_or}
use borrow.Author.Tests.{ltb-true, leb-true, not-false}
use Rattle.element_types.specs.Types.{size_of}
use Rattle.bits.proofs.All.{right}
use Rattle.tables.proofs.Placement.{Placed}
use Rattle.exec_byte.specs.Exec.{exec_size}
use Rattle.operand_fields.specs.declared.General.{General}
use Rattle.operand_fields.specs.declared.Immediate.{Immediate}
use Rattle.operand_fields.specs.declared.Raw.{Raw}
use Rattle.operand_fields.specs.declared.Operand.{Operand}
use Rattle.operand_fields.specs.declared.Operand.TheVariants as operand
use Rattle.region_rules.specs.declared.Role.{Role}
use Rattle.region_rules.specs.declared.Role.TheVariants as role
use Rattle.regions.specs.declared.Variable.{Variable}
use Rattle.regions.specs.Regions.{element_of}
use Rattle.region_rules.specs.RegionRules.{region_refusal}
use Rattle.regions.specs.Reach.{elements_good}
use Rattle.regions.specs.Positions.{element_byte}
use Rattle.regions.proofs.ReachLaws.{cond_either, elements-inside}
use Rattle.regions.proofs.PositionLaws.{position-of, byte_of}
use Rattle.regions.proofs.RegionLaws as regions
use Rattle.region_rules.proofs.SplitLaws.{unbroken-allowed}
use Rattle.operands.specs.declared.TypeRule.{TypeRule}
use Rattle.operands.specs.declared.Elements.{Elements}
use Rattle.operands.specs.Located.{Located}
use Rattle.operands.specs.Allowed.{type_allowed}
use Rattle.tables.specs.Variables.{Variables}
use Rattle.operands.specs.Variables.{in_table, variable_at}
use Rattle.operands.specs.Elements.{register_elements, immediate_element, refused_operand}
use Rattle.operands.specs.Operands.{general_of, located_general, immediate_of, located_immediate, located_vector, raw_good, raw_of, located_raw}
use Rattle.operands.proofs.AllowedLaws.{RuleSize, rule-size}
use Rattle.operands.proofs.SizeLaws.{vector-sized, raw-sized}

-- every variable of the table lies in a register file of this length, as good tables say
abbrev pub AllPlaced : ℕ → ℕ → Variables → Type 0
AllPlaced register_size registers t =
    (k : ℕ) → k < length t.types → Placed register_size registers (get_or t.types k 0) (get_or t.starts k 0) (get_or t.counts k 0)

-- the elements of so many lanes lie in the register file
abbrev pub Inside : ℕ → ℕ → Elements → Type 0
Inside registers lanes e = e.immediate ≡ false → (k : ℕ) → k < lanes → get_or e.at k 0 + e.size ≤ registers

pub record Accepted (registers lanes : ℕ) (r : TypeRule) (e : Elements) : Type 0 where
  pub size : RuleSize r e.size
  pub inside : Inside registers lanes e

-- elements one after the other, of which the first is followed by so many bytes
pub record Consecutive (registers bytes : ℕ) (e : Elements) : Type 0 where
  pub in_registers : e.immediate ≡ false
  pub whole : get_or e.at 0 0 + bytes ≤ registers
  pub next : (k : ℕ) → k < 32 → get_or e.at k 0 ≡ get_or e.at 0 0 + k * e.size

-- elements of which none touches another's bytes
pub record Apart (e : Elements) : Type 0 where
  pub in_registers : e.immediate ≡ false
  pub each : (j k : ℕ) → j < k → k < 32 → get_or e.at j 0 + e.size ≤ get_or e.at k 0

-- an element inside its variable lies in the file
element-inside : (register_size registers code start count element : ℕ) → Placed register_size registers code start count → element < count → start + element * size_of code + size_of code ≤ registers
element-inside register_size registers code start count element p h =
    let m : element + 1 ≤ count = omega arith in
    omega (arith, p.inside, mul-le-mul_right (size_of code) m)

module _ (register_size registers : ℕ) where
  register-inside : (lanes code : ℕ) (byte : ℕ → ℕ) → lanes ≤ 32 → ((k : ℕ) → k < lanes → byte k + size_of code ≤ registers)
      → Inside registers lanes (register_elements code byte).elements
  unfolding register_elements
  register-inside lanes code byte few h = λ _ k l. rw (position-of byte k (omega arith)) (h k l)

  -- a refusal has another number than 0
  abbrev Fine : ℕ → Located → Type 0
  Fine lanes l = l.number ≡ 0 → Inside registers lanes l.elements

  general-fine : (o : Role) (r : TypeRule) (lanes : ℕ) (g : General) (v : Variable) → lanes ≤ 32 → Placed register_size registers v.code v.start v.count
      → Fine lanes (general_of register_size o r lanes g v)
  unfolding general_of refused_operand
  general-fine o r lanes g v few p =
      let f = element_of register_size o g (size_of v.code) in
      cond_either (Fine lanes) (not (type_allowed r v.code)) (λ _ z. absurd (omega (arith, z)))
      (λ _. cond_either (Fine lanes) (ltb 0 (region_refusal o g.region lanes)) (λ b z. absurd (omega (arith, ltb-true 0 (region_refusal o g.region lanes) b, z)))
      (λ _. cond_either (Fine lanes) (not (elements_good register_size v f lanes)) (λ _ z. absurd (omega (arith, z)))
      (λ e _. register-inside lanes v.code (element_byte v.start (size_of v.code) f) few
      (λ k l. rw (byte_of v.start (size_of v.code) f k) (element-inside register_size registers v.code v.start v.count (f k) p (elements-inside register_size v f lanes (not-false _ e) k l))))))

  -- an immediate has no place in the registers
  immediate-fine : (lanes : ℕ) (r : TypeRule) (i : Immediate) → Fine lanes (immediate_of r i)
  unfolding immediate_of immediate_element refused_operand
  immediate-fine lanes r i =
      cond_either (Fine lanes) (not (type_allowed r i.code)) (λ _ z. absurd (omega (arith, z)))
      (λ _ _ e. absurd (true≢false e))

  immediate-in-fine : (o : Role) (lanes : ℕ) (r : TypeRule) (i : Immediate) → Fine lanes (located_immediate o r i)
  unfolding located_immediate refused_operand
  immediate-in-fine role.Source lanes r i = immediate-fine lanes r i
  immediate-in-fine role.Scalar lanes r i = immediate-fine lanes r i
  immediate-in-fine role.Destination lanes r i = λ z. absurd (omega (arith, z))

  raw-fine : (r : TypeRule) (lanes bytes offset : ℕ) (v : Variable) → lanes ≤ 32 → ((size : ℕ) → RuleSize r size → lanes * size ≤ bytes)
      → Placed register_size registers v.code v.start v.count → Fine lanes (raw_of r bytes offset v)
  unfolding raw_of refused_operand raw_good
  raw-fine r lanes bytes offset v few room p =
      let size = size_of v.code in
      cond_either (Fine lanes) (not (type_allowed r v.code)) (λ _ z. absurd (omega (arith, z)))
      (λ a. cond_either (Fine lanes) (not (raw_good v offset bytes)) (λ _ z. absurd (omega (arith, z)))
      (λ e _. register-inside lanes v.code (element_byte (v.start + offset) size (λ k. k)) few
      (λ k l.
      let m : k + 1 ≤ lanes = omega arith in
      omega (
        arith,
        byte_of (v.start + offset) size (λ j. j) k,
        mul-le-mul_right size m,
        room size (rule-size v.code r (not-false _ a)),
        leb-true (offset + bytes) (v.count * size) (right (eqb (offset % size) 0) (leb (offset + bytes) (v.count * size)) (not-false _ e)),
        p.inside,
      ))))

  raw-consecutive : (r : TypeRule) (bytes offset : ℕ) (v : Variable) → Placed register_size registers v.code v.start v.count
      → (raw_of r bytes offset v).number ≡ 0 → Consecutive registers bytes (raw_of r bytes offset v).elements
  unfolding raw_of refused_operand raw_good register_elements
  raw-consecutive r bytes offset v p =
      let size = size_of v.code in
      let P : Located → Type 0 = λ l. l.number ≡ 0 → Consecutive registers bytes l.elements in
      let at : (k : ℕ) → k < 32 → _ = λ k h. position-of (element_byte (v.start + offset) size (λ j. j)) k h ∙ byte_of (v.start + offset) size (λ j. j) k in
      cond_either P (not (type_allowed r v.code)) (λ _ z. absurd (omega (arith, z)))
      (λ _. cond_either P (not (raw_good v offset bytes)) (λ _ z. absurd (omega (arith, z)))
      (λ e _. record {
        in_registers = refl;
        whole = omega (arith, at 0 (omega arith), leb-true (offset + bytes) (v.count * size) (right (eqb (offset % size) 0) (leb (offset + bytes) (v.count * size)) (not-false _ e)), p.inside);
        next = λ k l. omega (arith, at 0 (omega arith), at k l);
      }))

  module _ (t : Variables) (all : AllPlaced register_size registers t) where
    vector-fine : (o : Role) (r : TypeRule) (exec : ℕ) (x : Operand) → exec_size exec ≤ 32 → Fine (exec_size exec) (located_vector register_size t o r exec x)
    unfolding located_vector located_general in_table variable_at refused_operand
    vector-fine o r exec (operand.General g) few =
        cond_either (Fine (exec_size exec)) (not (ltb g.index (length t.types))) (λ _ z. absurd (omega (arith, z)))
        (λ e. general-fine o r (exec_size exec) g (variable_at t g.index) few (all g.index (ltb-true _ _ (not-false _ e))))
    vector-fine o r exec (operand.Immediate i) few = immediate-in-fine o (exec_size exec) r i

    pub vector-accepted : (o : Role) (r : TypeRule) (exec : ℕ) (x : Operand) → exec_size exec ≤ 32 → (located_vector register_size t o r exec x).number ≡ 0
        → Accepted registers (exec_size exec) r (located_vector register_size t o r exec x).elements
    vector-accepted o r exec x few z = record { size = vector-sized r register_size t o exec x z; inside = vector-fine o r exec x few z }

    raw-in-fine : (r : TypeRule) (lanes bytes : ℕ) (x : Raw) → lanes ≤ 32 → ((size : ℕ) → RuleSize r size → lanes * size ≤ bytes)
        → Fine lanes (located_raw t r bytes x)
    unfolding located_raw in_table variable_at refused_operand
    raw-in-fine r lanes bytes x few room =
        cond_either (Fine lanes) (not (ltb x.index (length t.types))) (λ _ z. absurd (omega (arith, z)))
        (λ e. raw-fine r lanes bytes x.offset (variable_at t x.index) few room (all x.index (ltb-true _ _ (not-false _ e))))

    pub raw-accepted : (r : TypeRule) (lanes bytes : ℕ) (x : Raw) → lanes ≤ 32 → ((size : ℕ) → RuleSize r size → lanes * size ≤ bytes)
        → (located_raw t r bytes x).number ≡ 0 → Accepted registers lanes r (located_raw t r bytes x).elements
    raw-accepted r lanes bytes x few room z = record { size = raw-sized r t bytes x z; inside = raw-in-fine r lanes bytes x few room z }

    pub raw-whole : (r : TypeRule) (bytes : ℕ) (x : Raw) → (located_raw t r bytes x).number ≡ 0 → Consecutive registers bytes (located_raw t r bytes x).elements
    unfolding located_raw in_table variable_at refused_operand
    raw-whole r bytes x =
        cond_either (λ (l : Located). l.number ≡ 0 → Consecutive registers bytes l.elements) (not (ltb x.index (length t.types)))
        (λ _ z. absurd (omega (arith, z)))
        (λ e. raw-consecutive r bytes x.offset (variable_at t x.index) (all x.index (ltb-true _ _ (not-false _ e))))

general-apart : (register_size : ℕ) (r : TypeRule) (lanes : ℕ) (g : General) (v : Variable) → (general_of register_size role.Destination r lanes g v).number ≡ 0
    → Apart (general_of register_size role.Destination r lanes g v).elements
unfolding general_of refused_operand register_elements
general-apart register_size r lanes g v =
    let P : Located → Type 0 = λ l. l.number ≡ 0 → Apart l.elements in
    let size = size_of v.code in
    let f = element_of register_size role.Destination g size in
    let at = position-of (element_byte v.start size f) in
    cond_either P (not (type_allowed r v.code)) (λ _ z. absurd (omega (arith, z)))
    (λ _. cond_either P (ltb 0 (region_refusal role.Destination g.region lanes)) (λ b z. absurd (omega (arith, ltb-true 0 (region_refusal role.Destination g.region lanes) b, z)))
    (λ e. cond_either P (not (elements_good register_size v f lanes)) (λ _ z. absurd (omega (arith, z)))
    (λ _ _. record {
      in_registers = refl;
      each = λ j k l m. rw (at j (omega arith), at k m) (regions.destination-apart register_size g lanes v.start size j k (unbroken-allowed role.Destination g.region lanes e) l);
    })))

pub destination-apart : (register_size : ℕ) (t : Variables) (r : TypeRule) (exec : ℕ) (x : Operand) → (located_vector register_size t role.Destination r exec x).number ≡ 0
    → Apart (located_vector register_size t role.Destination r exec x).elements
unfolding located_vector located_general located_immediate refused_operand
destination-apart register_size t r exec (operand.General g) =
    cond_either (λ (l : Located). l.number ≡ 0 → Apart l.elements) (not (in_table t g.index)) (λ _ z. absurd (omega (arith, z)))
    (λ _. general-apart register_size r (exec_size exec) g (variable_at t g.index))
destination-apart register_size t r exec (operand.Immediate i) = λ z. absurd (omega (arith, z))
