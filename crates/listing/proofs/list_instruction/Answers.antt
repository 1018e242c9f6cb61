-- `listing::list_instruction` meets its contract: an instruction and a refusal.
use Rattle.std.proofs.Common.{sym, ◌∙◌, ◌≡◌, ap, arith}
use Rattle.format_writers.specs.Writing.{written}
use Rattle.refusal.specs.Numbers.{number_of}
use Rattle.listing.specs.Listing.{refusal_line}
use Rattle.listing.proofs.StepLaws.{step-accepted, step-refused}
use Rattle.listing.proofs.list_instruction.Goals as goal

pub returns-in-Ok : goal.returns-in-Ok
returns-in-Ok c = step-accepted _ _ _ _ _ _ _ _ (λ k. (c.type_inv.kernel k).fits) (sym c.in-Ok.ensures) c.put_instruction.ensures

pub returns-in-Err : goal.returns-in-Err
returns-in-Err c =
    let number : c.from.result ≡ number_of c.in-Err.refusal = c.from.ensures ∙ c.number.ensures in
    step-refused _ _ _ _ _ _ _ (omega (arith, number, c.from.type_inv)) (omega arith) (sym c.in-Err.ensures) (c.put_refusal.ensures ∙ ap (λ n. written c.args.out.now c.args.used (refusal_line n c.args.at)) number)
