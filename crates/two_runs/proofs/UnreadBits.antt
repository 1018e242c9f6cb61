-- "no bit at or past the count matters": two setups that differ in such bits alone have the same run, its answer, bytes and marks.
use Prim.Native.Nat.{ℕ, suc, ◌<◌}
use mathlib.Core.Path.{◌≡◌, refl, ap, ◌∙◌}
use mathlib.Core.Bool.{Bool, true, false, cond, not}
use mathlib.Core.List.{List, [], ◌∷◌}
use native.Mathlib.Omega.{arith}
use lib.Dec.{ltb}
use lib.ListN.{length}
use borrow.Author.Tests.{ltb-false}
use Rattle.refusal.specs.declared.Detail.{Detail}
use Rattle.refusal.specs.declared.Detail.TheVariants as detail
use Rattle.refusal.specs.Details.{operand_detail}
use Rattle.cells.specs.Over.{among}
use Rattle.cells.specs.Effect.{Effect, unless}
use Rattle.reader.specs.Reply as reply
use Rattle.reader.specs.Reply.{Reply, Read}
use Rattle.bits.specs.Bits.{bit}
use Rattle.exec_byte.specs.Exec.{exec_size}
use Rattle.predicate_field.specs.Predicate.{has_predicate, predicate_id}
use Rattle.channels.specs.Lanes.{lane_on}
use Rattle.channels.proofs.ReadBits.{lane-alike}
use Rattle.predicate_table.specs.Predicates.{Predicates, predicate_at, predicates_good}
use Rattle.surface_table.specs.Surfaces.{Surfaces}
use Rattle.tables.specs.Tables.{Tables, tables, tables_good}
use Rattle.field_groups.specs.declared.Control.{Control}
use Rattle.decoder.specs.declared.Instruction.{Instruction}
use Rattle.decoder.specs.declared.Instruction.TheVariants as instruction
use Rattle.decoder.specs.Decoding.{instruction_at}
use Rattle.operands.specs.declared.Elements.{Elements}
use Rattle.operands.specs.Located.{Located}
use Rattle.plan.specs.Plan.{Plan}
use Rattle.controls.specs.Control.{lanes_end, predicate_refusal, control_refusal, bits_named}
use Rattle.plan.specs.Control.{control_of}
use Rattle.plan.specs.Plans.{refused_plan, tested, tested_from, shl_plan, gather_plan, scatter_plan}
use Rattle.plan.specs.Checked.{shl_operands, checked_shl, gather_operands, checked_gather_operands, surface_part, checked_gather, scatter_operands, checked_scatter, checked_operands, checked}
use Rattle.controls.proofs.PassedLaws.{elements-reach}
use Rattle.staging.specs.Lanes.{lanes_on}
use Rattle.shl_effect.specs.Shl.{shl_value, shl_mark, shl_lane, shl_effect}
use Rattle.gather_effect.specs.Gather.{is_read, gathered_byte, gathered_mark, gather_writes, gather_lane, gather_effect}
use Rattle.scatter_effect.specs.Scatter.{channels_on, target, source_byte, scatter_pair, first_offending, scatter_effect}
use Rattle.scatter_effect.proofs.AmongAlike.{among-alike}
use Rattle.step.specs.declared.Constants.{Constants}
use Rattle.step.specs.State.{Setup, State, register_bytes, lengths_of}
use Rattle.step.specs.Step.{Stepped, acted, plan_effect, step_at}
use Rattle.step.proofs.StepOf.{step_of}
use Rattle.run.specs.Run.{stopped, run_from, run}
use Rattle.two_runs.specs.TwoRuns.{SamePredicates, UnreadBits}

-- ---- an instruction, by the bits of its predicate

-- bits that put the same lanes on, whatever the mask
abbrev SameLanes : Control → ℕ → ℕ → Type 0
SameLanes control a b = (mask n : ℕ) → lane_on control.exec control.pred mask a n ≡ lane_on control.exec control.pred mask b n

lanes-alike : (control : Control) (a b : ℕ) → SameLanes control a b → (mask : ℕ)
    → among (lane_on control.exec control.pred mask a) (exec_size control.exec) ≡ among (lane_on control.exec control.pred mask b) (exec_size control.exec)
lanes-alike control a b h mask = among-alike _ _ (exec_size control.exec) (λ n _. h mask n)

module _ (c : Constants) (s : State) where
  -- two plans that have one effect
  abbrev SameEffect : Plan → Plan → Type 0
  SameEffect p q = plan_effect c p s ≡ plan_effect c q s

  tested-alike : (n : ℕ) (d : Detail) (p q : Plan) → (n ≡ 0 → SameEffect p q) → SameEffect (tested n d p) (tested n d q)
  unfolding tested
  tested-alike n d p q h = told (ltb 0 n) refl
    where
      told : (r : Bool) → ltb 0 n ≡ r → SameEffect (cond r (refused_plan n d) p) (cond r (refused_plan n d) q)
      told true e = refl
      told false e = h (omega (arith, ltb-false 0 n e))

  operands-alike : (place : ℕ) (ls : List Located) (p q : Plan) → SameEffect p q → SameEffect (tested_from place ls p) (tested_from place ls q)
  operands-alike place [] p q h = h
  operands-alike place (l ∷ ls) p q h = tested-alike l.number (operand_detail l.number place) _ _ (λ _. operands-alike (suc place) ls p q h)

  module _ (control : Control) (a b : ℕ) (h : SameLanes control a b) where
    shl-alike : (l r d : Elements) → SameEffect (shl_plan control a l r d) (shl_plan control b l r d)
    unfolding plan_effect acted shl_plan unless lanes_on shl_effect shl_lane shl_mark shl_value
    shl-alike l r d = rw (lanes-alike control a b h c.mask)

    gather-alike : (l r d : Elements) (bytes surface : ℕ) (t : Surfaces) → SameEffect (gather_plan control a l r d bytes (surface_part t surface)) (gather_plan control b l r d bytes (surface_part t surface))
    unfolding plan_effect acted gather_plan unless lanes_on gather_effect gather_lane gather_writes gathered_mark gathered_byte is_read
    gather-alike l r d bytes surface t = rw (lanes-alike control a b h c.mask)

    scatter-alike : (l r d : Elements) (channels stride : ℕ) → SameEffect (scatter_plan control a l r d channels stride) (scatter_plan control b l r d channels stride)
    unfolding plan_effect acted scatter_plan unless lanes_on scatter_effect scatter_pair first_offending target source_byte channels_on
    scatter-alike l r d channels stride = rw (lanes-alike control a b h c.mask)

  -- past the tests of the pred word; the rest looks at no predicate
  module _ (register_size : ℕ) (t : Tables) (other : Predicates) where
    abbrev u : Tables
    u = tables t.variables other t.surfaces

    instruction-alike : (i : Instruction) (a b : ℕ) → SameLanes (control_of i) a b → SameEffect (checked_operands register_size t a i) (checked_operands register_size u b i)
    unfolding checked_operands control_of checked_shl checked_gather checked_gather_operands checked_scatter
    instruction-alike (instruction.Shl i) a b h = operands-alike 1 (shl_operands register_size t.variables i) _ _ (shl-alike i.control a b h _ _ _)
    instruction-alike (instruction.Gather i) a b h = surfaced (ltb i.access.surface (length t.surfaces.lengths))
      where
        surfaced : (q : Bool) → SameEffect (cond (not q) (refused_plan 5 detail.None) (checked_gather_operands register_size t.variables a (surface_part t.surfaces i.access.surface) i))
            (cond (not q) (refused_plan 5 detail.None) (checked_gather_operands register_size t.variables b (surface_part t.surfaces i.access.surface) i))
        surfaced true = operands-alike 1 (gather_operands register_size t.variables i) _ _ (gather-alike i.control a b h _ _ _ _ i.access.surface t.surfaces)
        surfaced false = refl
    instruction-alike (instruction.Scatter i) a b h = operands-alike 1 (scatter_operands register_size t.variables i) _ _ (scatter-alike i.control a b h _ _ _ _ _)
    instruction-alike (instruction.RawSend i) a b h = refl

-- ---- the tests of the pred word, and 13

below-count : (p q : Predicates) → SamePredicates p q → (id k : ℕ) → k < (predicate_at p id).count → bit (predicate_at p id).bits k ≡ bit (predicate_at q id).bits k
unfolding predicate_at
below-count p q same id k h = same.elements id k h

module _ (p q : Predicates) (same : SamePredicates p q) where
  refusal-alike : (id : ℕ) (control : Control) → control_refusal (predicate_at p id) control ≡ control_refusal (predicate_at q id) control
  unfolding control_refusal predicate_refusal predicate_at
  refusal-alike id control = rw (same.size, same.counts)

  tables-alike : predicates_good p ≡ predicates_good q
  unfolding predicates_good
  tables-alike = rw (same.size, same.counts)

  -- where the tests are passed, the bits that the lanes read are below the count
  passed-alike : (id : ℕ) (control : Control) → control_refusal (predicate_at p id) control ≡ 0
      → SameLanes control (bits_named (predicate_at p id) control.pred) (bits_named (predicate_at q id) control.pred)
  unfolding bits_named
  passed-alike id control z = told (has_predicate control.pred) refl
    where
      reached : has_predicate control.pred ≡ true → (k : ℕ) → k < lanes_end control.exec → bit (predicate_at p id).bits k ≡ bit (predicate_at q id).bits k
      reached has k l = below-count p q same id k (omega (arith, l, (elements-reach (predicate_at p id) control z has).1))

      told : (r : Bool) → has_predicate control.pred ≡ r → SameLanes control (cond r (predicate_at p id).bits 0) (cond r (predicate_at q id).bits 0)
      told true has mask n = lane-alike control.exec (predicate_at p id).bits (predicate_at q id).bits (reached has) control.pred mask n
      told false has mask n = refl

-- ---- a run

module _ (x : Setup) (other : Predicates) (same : SamePredicates x.tables.predicates other) where
  -- the setup with the other predicates
  abbrev y : Setup
  y = record { kernel = x.kernel; tables = tables x.tables.variables other x.tables.surfaces; constants = x.constants }

  effect-alike : (s : State) (i : Instruction) → plan_effect x.constants (checked (register_bytes x) x.tables i) s ≡ plan_effect x.constants (checked (register_bytes y) y.tables i) s
  unfolding checked
  effect-alike s i =
      let id = predicate_id (control_of i).pred in
      let p = x.tables.predicates in
      rw (← refusal-alike p other same id (control_of i))
      (tested-alike x.constants s (control_refusal (predicate_at p id) (control_of i)) detail.None _ _
      (λ z. instruction-alike x.constants s (register_bytes x) x.tables other i _ _ (passed-alike p other same id (control_of i) z)))

  step-alike : (at : ℕ) (s : State) → step_at x at s ≡ step_at y at s
  unfolding step_at
  step-alike at s = told (instruction_at x.kernel at)
    where
      told : (d : Reply (Read Instruction)) → step_of x (λ (p : Plan). plan_effect x.constants p s) at d ≡ step_of y (λ (p : Plan). plan_effect x.constants p s) at d
      told (reply.refused n) = refl
      told (reply.done i) = ap (λ (e : Effect). record { next = i.next; effect = e }) (effect-alike s i.value)

  good-alike : (s : State) → tables_good (lengths_of x s) x.tables ≡ tables_good (lengths_of y s) y.tables
  unfolding tables_good
  good-alike s = rw (tables-alike x.tables.predicates other same)

  others-alike : (s : State) → run x s ≡ run y s
  unfolding run
  others-alike s =
      rw (← good-alike s)
      (ap (λ (f : ℕ → State → Stepped). cond (tables_good (lengths_of x s) x.tables) (run_from f (length x.kernel) (length x.kernel) 0 0 s) (stopped 13 0 0 s)) (λ j at u. step-alike at u j))

pub unread-bits : (x y : Setup) (s : State) → UnreadBits x y s
unread-bits x y s same =
    let p = y.tables.predicates in
    others-alike x p same.predicates s
    ∙ ap (λ (z : Setup). run z s) (λ j. record { kernel = same.kernel j; tables = record { variables = same.variables j; predicates = p; surfaces = same.surfaces j }; constants = same.constants j })
