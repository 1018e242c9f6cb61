-- `shift::span_of` meets its contract: 1 moved up by so many bytes.
use Rattle.shift.proofs.SpanLaws.{span-moved}
use Rattle.shift.proofs.span_of.Goals as goal

pub returns : goal.returns
returns c = span-moved _ c.requires
