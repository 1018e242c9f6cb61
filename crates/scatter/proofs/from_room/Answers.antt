-- `scatter::from_room` meets its contract: each test's answer, in their order.
use Rattle.scatter.proofs.OrderLaws.{tainted-done, misaligned-done, outside-done, pairs-done}
use Rattle.scatter.proofs.from_room.Goals as goal

pub returns-then-some_tainted : goal.returns-then-some_tainted
returns-then-some_tainted c = tainted-done _ _ _ _ _ _ _ c.some_tainted.ensures _ c.if-some_tainted.true

pub returns-in-Some : goal.returns-in-Some
returns-in-Some c =
    misaligned-done _ _ _ _ _ _ _ c.some_tainted.ensures c.if-some_tainted.false _ _ _ c.in-Some.ensures

pub returns-in-Some-outside : goal.returns-in-Some-outside
returns-in-Some-outside c =
    outside-done _ _ _ _ _ _ _ c.some_tainted.ensures c.if-some_tainted.false c.in_default.ensures _ _ _ c.in-Some-outside.ensures

pub returns : goal.returns
returns c =
    pairs-done _ _ _ _ _ _ _ c.some_tainted.ensures c.if-some_tainted.false c.in_default.ensures _ _ c.in_default-outside.ensures c.write_pairs.ensures
