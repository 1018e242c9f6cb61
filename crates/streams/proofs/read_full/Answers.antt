-- A read's bytes stand behind those of the reads before it.
use Rattle.std.proofs.Common.{subst, rules}
use Rattle.std.proofs.KnownBytes.{Consumes-trans}
use Rattle.std.specs.Io.KnownBytes.{Consumes}
use Rattle.streams.proofs.FillLaws.{filled-more}
use Rattle.streams.proofs.read_full.Goals as goal

pub loop-done-preserved : goal.loop-done-preserved
loop-done-preserved g c = (
  search rules,
  search rules,
  subst (Consumes _ _) (filled-more _ _ _ _ _ c.loop-done.invariant.1 c.in_ok-count.ensures.bound.0) (Consumes-trans _ _ _ _ _ c.loop-done.invariant.2 c.in_ok-count.ensures.bytes.0),
)
