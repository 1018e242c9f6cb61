-- A General operand with its region, or an immediate.
use Rattle.format_writers.proofs.PageLaws.{writes_two}
use Rattle.line_writers.proofs.TextLaws.{source-general, source-immediate}
use Rattle.line_writers.proofs.put_source.Goals as goal

pub returns-in-General : goal.returns-in-General
returns-in-General c = writes_two c.put_general.ensures c.put_source_region.ensures (source-general _ _ c.in-General.is)

pub returns-in-Immediate : goal.returns-in-Immediate
returns-in-Immediate c = writes_two c.word.ensures c.put_immediate.ensures (source-immediate _ _ c.in-Immediate.is)
