-- Its parts are written one after another.
use Rattle.std.proofs.Common.{ℕ, ◌-◌, ap, ◌∙◌}
use Rattle.format_writers.proofs.PageLaws.{writes_four}
use Rattle.line_writers.proofs.TextLaws.{scatter-text}
use Rattle.line_writers.proofs.put_scatter.Goals as goal

pub returns : goal.returns
returns c =
    writes_four c.word.ensures c.put_scatter_exec.ensures c.put_scalar_and_raws.ensures c.put_scatter_braces.ensures
    (scatter-text _ _ _ (c.saturating_sub-letters.ensures ∙ ap (λ (n : ℕ). n - 1) c.from.ensures))
