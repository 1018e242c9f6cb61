-- `run::run_kernel` meets its contract.
use Rattle.std.proofs.Common.{refl, sym, ◌∙◌, arith}
use Rattle.run.proofs.RunLaws.{ends, spent, goes, stops}
use Rattle.run.proofs.run_kernel.Goals as goal

pub returns-in-Err-clause-outcome : goal.returns-in-Err-clause-outcome
returns-in-Err-clause-outcome c =
    sym (stops _ _ _ _ _ _ c.turns-test.true c.if-at-kernel.false _ _ c.in-Err.ensures.answer c.in-Err.ensures.room.leaves) ∙ c.turns.invariant.left

pub turns-preserved : goal.turns-preserved
turns-preserved c =
    let g = c.in-Ok.ensures.room in
    let r = c.turns.invariant.references in
    record {
      references = record {
        registers = g.registers ∙ r.registers;
        register_taint = g.register_taint ∙ r.register_taint;
        memory = g.memory ∙ r.memory;
        memory_taint = g.memory_taint ∙ r.memory_taint;
        surfaces = g.surfaces ∙ r.surfaces;
        surface_taint = g.surface_taint ∙ r.surface_taint;
        leaves = refl;
      };
      count = omega (arith, c.turns.invariant.count);
      left = sym (goes _ _ _ _ _ _ c.turns-test.true c.if-at-kernel.false _ _ c.in-Ok.ensures.answer g.leaves) ∙ c.turns.invariant.left;
    }

pub returns-after-turns-clause-outcome : goal.returns-after-turns-clause-outcome
returns-after-turns-clause-outcome c =
    sym (spent _ _ _ _ _ (omega (arith, c.turns-test.false))) ∙ c.turns.invariant.left

pub returns-then-at-kernel-clause-outcome : goal.returns-then-at-kernel-clause-outcome
returns-then-at-kernel-clause-outcome c =
    sym (ends _ _ _ _ _ c.if-at-kernel.true) ∙ c.turns.invariant.left
