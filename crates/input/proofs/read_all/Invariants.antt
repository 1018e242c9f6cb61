-- The machine is the first one, fed what the calls so far gave.
use Rattle.std.proofs.Common.{◌≡◌, length}
use Rattle.tally.specs.Mirror.Lent.{contents_of, tables_of, SameContents, SameTables}
use Rattle.feeding.specs.Mirror.Feeding.{machine, fresh}
use Rattle.input.proofs.ReadsLaws.{SoFar}
use Rattle.input.proofs.read_all.Given as goal

abbrev pub invariant-loop : goal.invariant-loop
invariant-loop g l = record {
  fed : SoFar (g.R.Read.remaining l.fn.reader) (g.R.Read.remaining l.reader) (machine l.fn.line fresh (contents_of l.fn.contents) (tables_of l.fn.tables)) (machine l.line l.state (contents_of l.contents) (tables_of l.tables));
  block : length l.block ≡ 65536;
  contents : SameContents l.fn.contents l.contents;
  tables : SameTables l.fn.tables l.tables;
}
