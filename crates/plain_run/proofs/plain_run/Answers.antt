-- `plain_run::plain_run` meets its contract: it is the run over zeros.
use Rattle.std.proofs.Common.{sym, ◌∙◌}
use Rattle.plain_run.proofs.PlainRunLaws.{equal-taken, length_taken, short-told, too-long-answers, zeros-answer}
use Rattle.plain_run.proofs.plain_run.Goals as goal

pub returns-then-too_long : goal.returns-then-too_long
returns-then-too_long c =
    too-long-answers _ _ _ _ (sym c.too_long.ensures ∙ c.if-too_long.true)

pub slice_bounds-surface_taint-end : goal.slice_bounds-surface_taint-end
slice_bounds-surface_taint-end c = (short-told _ _ _ (sym c.too_long.ensures ∙ c.if-too_long.false)).surfaces-short

pub slice_bounds-run_slices-end : goal.slice_bounds-run_slices-end
slice_bounds-run_slices-end c =
    length_taken _ _ 8192 (short-told _ _ _ (sym c.too_long.ensures ∙ c.if-too_long.false)).surfaces-short

pub slice_bounds-register_taint-end : goal.slice_bounds-register_taint-end
slice_bounds-register_taint-end c =
    (short-told _ _ _ (sym c.too_long.ensures ∙ c.if-too_long.false)).registers-short

pub slice_bounds-run_slices-end-2 : goal.slice_bounds-run_slices-end-2
slice_bounds-run_slices-end-2 c =
    length_taken _ _ 4096 (short-told _ _ _ (sym c.too_long.ensures ∙ c.if-too_long.false)).registers-short

pub slice_bounds-memory_taint-end : goal.slice_bounds-memory_taint-end
slice_bounds-memory_taint-end c =
    (short-told _ _ _ (sym c.too_long.ensures ∙ c.if-too_long.false)).memory-short

pub slice_bounds-run_slices-end-3 : goal.slice_bounds-run_slices-end-3
slice_bounds-run_slices-end-3 c =
    length_taken _ _ 4096 (short-told _ _ _ (sym c.too_long.ensures ∙ c.if-too_long.false)).memory-short

pub returns : goal.returns
returns c =
    let short = short-told _ _ _ (sym c.too_long.ensures ∙ c.if-too_long.false) in
    zeros-answer _ _ _ _ _ _ _ _ _ c.run_slices.ensures (equal-taken _ _ 4096 short.registers-short) (equal-taken _ _ 8192 short.surfaces-short) (equal-taken _ _ 4096 short.memory-short)
