-- The element size of an accepted operand is one that its type rule leaves, whatever the tables hold.
use mathlib.Core.Path.{◌≡◌}
use mathlib.Core.Bool.{Bool, cond, not}
use Prim.Native.Nat.{ℕ, ◌<◌}
use native.Mathlib.Omega.{arith}
use lib.Dec.{ltb}
use borrow.Author.Tests.{ltb-true, not-false}
use Rattle.element_types.specs.Types.{size_of}
use Rattle.exec_byte.specs.Exec.{exec_size}
use Rattle.operand_fields.specs.declared.General.{General}
use Rattle.operand_fields.specs.declared.Immediate.{Immediate}
use Rattle.operand_fields.specs.declared.Raw.{Raw}
use Rattle.operand_fields.specs.declared.Operand.{Operand}
use Rattle.operand_fields.specs.declared.Operand.TheVariants as operand
use Rattle.region_rules.specs.declared.Role.{Role}
use Rattle.region_rules.specs.declared.Role.TheVariants as role
use Rattle.regions.specs.declared.Variable.{Variable}
use Rattle.regions.specs.Regions.{element_of}
use Rattle.region_rules.specs.RegionRules.{region_refusal}
use Rattle.regions.specs.Reach.{elements_good}
use Rattle.regions.proofs.ReachLaws.{cond_either}
use Rattle.operands.specs.declared.TypeRule.{TypeRule}
use Rattle.operands.specs.Located.{Located}
use Rattle.operands.specs.Allowed.{type_allowed}
use Rattle.tables.specs.Variables.{Variables}
use Rattle.operands.specs.Variables.{in_table, variable_at}
use Rattle.operands.specs.Elements.{register_elements, immediate_element, refused_operand}
use Rattle.operands.specs.Operands.{general_of, located_general, immediate_of, located_immediate, located_vector, raw_good, raw_of, located_raw}
use Rattle.operands.proofs.AllowedLaws.{RuleSize, rule-size}

module _ (r : TypeRule) where
  abbrev Sized : Located → Type 0
  Sized l = l.number ≡ 0 → RuleSize r l.elements.size

  -- a refusal has another number than 0
  refusal-sized : (n : ℕ) → 0 < n → Sized (refused_operand n)
  unfolding refused_operand
  refusal-sized n some z = absurd (omega (arith, some, z))

  past : (q : Bool) (n : ℕ) (l : Located) → 0 < n → Sized l → Sized (cond q (refused_operand n) l)
  past q n l some sized = cond_either Sized q (λ _. refusal-sized n some) (λ _. sized)

  -- a test whose number says whether it refuses
  told : (n : ℕ) (l : Located) → Sized l → Sized (cond (ltb 0 n) (refused_operand n) l)
  told n l sized = cond_either Sized (ltb 0 n) (λ b. refusal-sized n (ltb-true 0 n b)) (λ _. sized)

  -- past the test of a type, elements of this type have its size
  typed : (code : ℕ) (l : Located) → (RuleSize r (size_of code) → Sized l) → Sized (cond (not (type_allowed r code)) (refused_operand 4) l)
  typed code l sized = cond_either Sized (not (type_allowed r code)) (λ _. refusal-sized 4 (omega arith)) (λ a. sized (rule-size code r (not-false _ a)))

  general-sized : (register_size : ℕ) (o : Role) (lanes : ℕ) (g : General) (v : Variable) → Sized (general_of register_size o r lanes g v)
  unfolding general_of register_elements
  general-sized register_size o lanes g v =
      typed v.code _ (λ size.
      told (region_refusal o g.region lanes) _
      (past (not (elements_good register_size v (element_of register_size o g (size_of v.code)) lanes)) 7 _ (omega arith) (λ _. size)))

  immediate-sized : (i : Immediate) → Sized (immediate_of r i)
  unfolding immediate_of immediate_element
  immediate-sized i = typed i.code _ (λ size _. size)

  immediate-in-sized : (o : Role) (i : Immediate) → Sized (located_immediate o r i)
  unfolding located_immediate
  immediate-in-sized role.Source i = immediate-sized i
  immediate-in-sized role.Scalar i = immediate-sized i
  immediate-in-sized role.Destination i = refusal-sized 4 (omega arith)

  raw_of-sized : (bytes offset : ℕ) (v : Variable) → Sized (raw_of r bytes offset v)
  unfolding raw_of register_elements
  raw_of-sized bytes offset v = typed v.code _ (λ size. past (not (raw_good v offset bytes)) 7 _ (omega arith) (λ _. size))

  pub vector-sized : (register_size : ℕ) (t : Variables) (o : Role) (exec : ℕ) (x : Operand) → Sized (located_vector register_size t o r exec x)
  unfolding located_vector located_general
  vector-sized register_size t o exec (operand.General g) = past (not (in_table t g.index)) 5 _ (omega arith) (general-sized register_size o (exec_size exec) g (variable_at t g.index))
  vector-sized register_size t o exec (operand.Immediate i) = immediate-in-sized o i

  pub raw-sized : (t : Variables) (bytes : ℕ) (x : Raw) → Sized (located_raw t r bytes x)
  unfolding located_raw
  raw-sized t bytes x = past (not (in_table t x.index)) 5 _ (omega arith) (raw_of-sized bytes x.offset (variable_at t x.index))
