-- `line_writers::as_general` meets its contract: the variant is known.
use Rattle.operand_texts.specs.Mirror.Operand.{as_general}
use Rattle.line_writers.proofs.as_general.Goals as goal

pub returns-in-General : goal.returns-in-General
unfolding as_general
returns-in-General c = rw c.in-General.is

pub returns-in-Immediate : goal.returns-in-Immediate
unfolding as_general
returns-in-Immediate c = rw c.in-Immediate.is
