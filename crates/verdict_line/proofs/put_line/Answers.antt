-- Its parts are written one after another.
use Rattle.std.proofs.Common.{arith}
use Rattle.verdict_line.proofs.LineLaws.{verdict-put}
use Rattle.verdict_line.proofs.put_line.Goals as goal

pub returns : goal.returns
returns c =
    verdict-put c.args.number c.args.completed c.args.position _ (omega (arith, c.ranges.number.fits)) (omega (arith, c.ranges.completed.fits)) (omega (arith, c.ranges.position.fits))
    (rw c.from.ensures at c.number.ensures) c.word.ensures c.number-2.ensures c.word-2.ensures c.number-3.ensures c.put_detail.ensures c.word-3.ensures
