-- `run::run` meets its contract: 13, or the kernel's instructions.
use Rattle.std.proofs.Common.{sym, ◌∙◌}
use Rattle.run.proofs.Whole.{tables-passed, tables-refused}
use Rattle.run.proofs.run.Goals as goal

pub returns-then-good-clause-outcome : goal.returns-then-good-clause-outcome
returns-then-good-clause-outcome c =
    c.run_kernel.ensures.outcome ∙ sym (tables-passed _ _ (sym c.good.ensures ∙ c.if-good.true))

pub returns-else-good-clause-outcome : goal.returns-else-good-clause-outcome
returns-else-good-clause-outcome c =
    sym (tables-refused _ _ (sym c.good.ensures ∙ c.if-good.false))
