-- What passed tests say: the lanes lie within the mask, and within the predicate that is named, which is in the table.
use mathlib.Core.Path.{◌≡◌, refl}
use Prim.Native.Nat.{ℕ, suc, ◌≤◌}
use mathlib.Core.Bool.{Bool, true, false, cond, not}
use native.Mathlib.Omega.{arith}
use lib.Dec.{ltb}
use lib.ListN.{length, get_or-eq_default}
use Rattle.predicate_table.specs.Borrowed.{found, record_of}
use Rattle.predicate_table.specs.Predicates.{Predicates, predicate_at}
use borrow.Author.Tests.{ltb-false, le-ltb, not-false}
use Rattle.predicate_table.specs.declared.PredicateRecord.{PredicateRecord}
use Rattle.predicate_field.specs.Predicate.{has_predicate}
use Rattle.field_groups.specs.declared.Control.{Control}
use Rattle.controls.specs.Control.{lanes_end, predicate_refusal, control_refusal, bits_named}

-- a test that is passed: not its number, but what comes after it
passed : (failed : Bool) (n later : ℕ) → cond failed (suc n) later ≡ 0 → (failed ≡ false) × (later ≡ 0)
passed true n later z = absurd (omega (arith, z))
passed false n later z = (refl, z)

module _ (p : PredicateRecord) (c : Control) where
  pub lanes_fit : control_refusal p c ≡ 0 → lanes_end c.exec ≤ 32
  unfolding control_refusal
  lanes_fit z = ltb-false 32 (lanes_end c.exec) (passed (ltb 32 (lanes_end c.exec)) 7 _ z).0

  predicate-passed : predicate_refusal p c.exec ≡ 0 → (p.present ≡ true) × (lanes_end c.exec ≤ p.count)
  unfolding predicate_refusal
  predicate-passed z =
      let asked = passed (not p.present) 4 _ z in
      let short = passed (ltb p.count (lanes_end c.exec)) 16 0 asked.1 in
      (not-false p.present asked.0, ltb-false p.count (lanes_end c.exec) short.0)

  -- a predicate that is named is in the table, and every lane has an element of it
  pub elements-reach : control_refusal p c ≡ 0 → has_predicate c.pred ≡ true → (p.present ≡ true) × (lanes_end c.exec ≤ p.count)
  unfolding control_refusal
  elements-reach z has = predicate-passed (rw (le-ltb 32 (lanes_end c.exec) (lanes_fit z), has) at z)

-- as the code learns it: a predicate looked up is refused, and gives its bits, as its record is and does
pub found_refusal : (p : PredicateRecord) (c : Control) → control_refusal (record_of (found p)) c ≡ control_refusal p c
unfolding control_refusal predicate_refusal
found_refusal p c = told p.present refl
  where
    told : (q : Bool) → p.present ≡ q → control_refusal (record_of (found p)) c ≡ control_refusal p c
    told true e = rw e refl
    told false e = rw e refl

pub found_bits : (t : Predicates) (id pred : ℕ) → bits_named (record_of (found (predicate_at t id))) pred ≡ bits_named (predicate_at t id) pred
unfolding bits_named predicate_at
found_bits t id pred = told (ltb id (length t.bits)) refl
  where
    told : (q : Bool) → ltb id (length t.bits) ≡ q → bits_named (record_of (found (predicate_at t id))) pred ≡ bits_named (predicate_at t id) pred
    told true e = rw e refl
    told false e = rw (e, get_or-eq_default {A = ℕ} t.bits 0 (ltb-false id (length t.bits) e)) refl
