-- `answering::run_case` meets its contract: the run over what was read of the tables and the kernel.
use Rattle.std.proofs.Common.{◌∙◌, ap, arith}
use Rattle.step.specs.State.{Setup}
use Rattle.step.specs.Borrowed.{state_of}
use Rattle.run.specs.Run.{run}
use Rattle.answering.proofs.CutLaws.{setup-cut, run-small}
use Rattle.answering.proofs.run_case.Goals as goal

pub returns-clause-outcome : goal.returns-clause-outcome
returns-clause-outcome c =
    let a = c.args in
    let t = a.tables in
    c.run.ensures.outcome ∙ ap (λ (x : Setup). run x (state_of a.room.now))
    (setup-cut a.case a.kernel.now t.types.now t.starts.now t.counts.now t.predicate_bits.now t.predicate_counts.now t.surface_bytes.now t.surface_lengths.now _ _ _ _ _ _ _ _ _ _ _
    c.length-length.ensures c.met-variables.ensures c.met-predicates.ensures c.met.ensures
    c.first-7.ensures c.first.ensures c.first-2.ensures c.first-3.ensures c.first-4.ensures c.first-5.ensures c.first-6.ensures)

pub returns-clause-small : goal.returns-clause-small
returns-clause-small c =
    run-small c.args.case c.args.kernel.now _ _ _ (λ k. omega (arith, c.type_inv.kernel k)) (returns-clause-outcome c)
