-- `text::judge` meets its contract: the encoder's answer judges the fields, and what it wrote are bytes.
use Rattle.std.proofs.Common.{sym, ap, ◌∙◌, arith}
use Rattle.reader.specs.Reply.{outcome}
use Rattle.text.proofs.PrintingLaws.{handed-on, fields-fit, fields-taken, fields-refused}
use Rattle.text.proofs.judge.Goals as goal

pub returns-in_err-encode : goal.returns-in_err-encode
returns-in_err-encode c =
    let p = fields-refused _ c.args.bytes.now c.requires _ (ap outcome (sym c.in_err-encode.was) ∙ c.encode.ensures.answer) in
    let h = handed-on _ _ c.from_residual.ensures.0 c.from_residual.ensures.1 in
    record { answer = ap outcome h ∙ p; fits = rw h tt }

pub returns : goal.returns
returns c =
    let e = ap outcome (sym c.in_ok-encode.was) ∙ c.encode.ensures.answer in
    record {
      answer = fields-taken _ c.args.bytes.now c.requires _ e;
      fits = fields-fit _ c.args.bytes.now c.requires _ _ e c.encode.ensures.bytes (λ k. omega (arith, c.type_inv.bytes k));
    }
