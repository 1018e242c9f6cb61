-- `answering::answer` meets its contract: a case that is judged bad is not run.
use Rattle.std.proofs.Common.{arith}
use Rattle.answering.proofs.WrittenLaws.{refused-written, accepted-written}
use Rattle.answering.proofs.answer.Goals as goal

pub returns-in-Ok : goal.returns-in-Ok
returns-in-Ok c = accepted-written _ _ _ _ _ _ c.in-Ok.ensures (omega arith) c.answer_good.ensures

pub returns-in-Err : goal.returns-in-Err
returns-in-Err c = refused-written _ _ _ _ _ _ c.in-Err.ensures c.write_refusal.ensures
