-- Its parts are written one after another.
use Rattle.std.proofs.Common.{arith}
use Rattle.verdict_line.proofs.LineLaws.{none-put, operand-put, pair_put}
use Rattle.verdict_line.proofs.put_detail.Goals as goal

pub returns-in-None : goal.returns-in-None
returns-in-None c = none-put _ c.in-None.is c.word.ensures

pub returns-in-Operand : goal.returns-in-Operand
returns-in-Operand c = operand-put _ _ c.in-Operand.is (omega arith) c.word-in-Operand.ensures (rw c.from.ensures at c.number.ensures)

pub returns-in-Pair : goal.returns-in-Pair
returns-in-Pair c =
    pair_put _ _ _ c.in-Pair.is (omega arith) (omega arith) c.word-in-Pair.ensures (rw c.from-in-Pair.ensures at c.number-in-Pair.ensures)
    c.word-in-Pair-2.ensures (rw c.from-in-Pair-2.ensures at c.number-in-Pair-2.ensures)
