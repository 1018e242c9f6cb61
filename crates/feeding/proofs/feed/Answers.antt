-- `feeding::feed` meets its contract. The invariant: the bytes before i are fed.
use Rattle.feeding.proofs.FeedingLaws.{on-nearer, none-fed, part-more, line-more, all-fed}
use Rattle.std.proofs.Common.{rules}
use Rattle.line_blocks.proofs.PartLaws.{part-ends, part-inside, part-after}
use Rattle.feeding.proofs.feed.Goals as goal

pub loop-i-init : goal.loop-i-init
loop-i-init c = record { fed = none-fed _ _ _ c.read_on-i.ensures; contents = search rules; tables = search rules }

pub slice_bounds-push_all-end : goal.slice_bounds-push_all-end
slice_bounds-push_all-end c =
    part-inside _ _ _ c.loop-i-test.true c.line_end-end.ensures

pub loop-i-preserved-then-block-end : goal.loop-i-preserved-then-block-end
loop-i-preserved-then-block-end c = record {
  fed = part-more _ _ _ _ c.loop-i.invariant.fed c.loop-i-test.true _ _ c.line_end-end.ensures c.push_all-row.ensures;
  contents = c.loop-i.invariant.contents;
  tables = c.loop-i.invariant.tables;
}

pub loop-i-smaller : goal.loop-i-smaller
loop-i-smaller c =
    on-nearer _ _ _ _ _ c.loop-i-test.true (part-after _ _ _ c.line_end-end.ensures) c.if-block-end.false c.read_on-i-in-loop-i.ensures

pub loop-i-preserved : goal.loop-i-preserved
loop-i-preserved c =
    let part = part-more _ _ _ _ c.loop-i.invariant.fed c.loop-i-test.true _ _ c.line_end-end.ensures c.push_all-row.ensures in record {
      fed = line-more _ _ _ _ part c.if-block-end.false _ _ _ _ (part-ends _ _ _ c.loop-i-test.true c.line_end-end.ensures c.if-block-end.false)
          c.line_characters.ensures c.take_line-next.ensures.reading c.nothing-begun.ensures c.read_on-i-in-loop-i.ensures;
      contents = search rules;
      tables = search rules;
    }

pub returns-clause-machine : goal.returns-clause-machine
returns-clause-machine c = all-fed _ _ _ _ c.loop-i.invariant.fed c.loop-i-test.false
