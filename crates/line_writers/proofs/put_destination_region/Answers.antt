-- The first word, and where it is one of the vertical strides, the two behind it.
use Rattle.format_writers.proofs.PageLaws.{writes_as, writes_three}
use Rattle.line_writers.proofs.TextLaws.{destination-region-alone, destination-region-full}
use Rattle.line_writers.proofs.put_destination_region.Goals as goal

pub returns-then-first-lt8 : goal.returns-then-first-lt8
returns-then-first-lt8 c =
    writes_three c.word.ensures c.word-then-first-lt8.ensures c.word-then-first-lt8-2.ensures
    (rw c.from-word.ensures (destination-region-full c.args.region _ (rw c.from-word.ensures at c.region_opening-first.ensures) c.if-first-lt8.true))

pub returns-else-first-lt8 : goal.returns-else-first-lt8
returns-else-first-lt8 c =
    writes_as c.word.ensures (destination-region-alone c.args.region _ (rw c.from-word.ensures at c.region_opening-first.ensures) c.if-first-lt8.false)
