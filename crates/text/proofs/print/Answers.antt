-- `text::print` meets its contract: a refusal of the fields comes first.
use Rattle.std.proofs.Common.{sym, ap, ◌∙◌}
use Rattle.reader.specs.Reply.{outcome}
use Rattle.text.proofs.PrintingLaws.{handed-on, refused-printed}
use Rattle.text.proofs.print.Goals as goal

pub returns-in_err-judge : goal.returns-in_err-judge
returns-in_err-judge c =
    let p = refused-printed _ _ (ap outcome (sym c.in_err-judge.was) ∙ c.judge.ensures.answer) c.args.buffer.now in
    record { answer = ap outcome (handed-on _ _ c.from_residual.ensures.0 c.from_residual.ensures.1) ∙ p.0; line = p.1 }
