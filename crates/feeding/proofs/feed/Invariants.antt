use Rattle.std.proofs.Common.{◌-◌, length}
use Rattle.tally.specs.Mirror.Lent.{contents_of, tables_of, SameContents, SameTables}
use Rattle.feeding.specs.Mirror.Feeding.{machine}
use Rattle.feeding.proofs.FeedingLaws.{Fed}
use Rattle.feeding.proofs.feed.Given as goal

abbrev pub invariant-loop-i : goal.invariant-loop-i
invariant-loop-i l = record {
  fed : Fed l.block l.i (machine l.fn.line l.fn.state (contents_of l.fn.contents) (tables_of l.fn.tables)) (machine l.line (record { begun = l.begun; case = l.case }) (contents_of l.contents) (tables_of l.tables));
  contents : SameContents l.fn.contents l.contents;
  tables : SameTables l.fn.tables l.tables;
}

abbrev pub decreases-loop-i : goal.decreases-loop-i
decreases-loop-i l = length l.block - l.i
