-- `cell_reads::some_tainted` meets its contract. What was found and what is left make the whole.
use Rattle.std.proofs.Common.{ap, ◌∙◌}
use Rattle.cells.specs.Buffer.{is_tainted}
use Rattle.cells.proofs.TaintLaws.{tainted-turn, tainted-over}
use Rattle.cell_reads.proofs.some_tainted.Goals as goal

pub loop-k-preserved : goal.loop-k-preserved
loop-k-preserved c =
    tainted-turn _ _ c.loop-k.k _ c.loop-k.found _ _ c.loop-k-test.true (c.is_tainted-found.ensures ∙ ap is_tainted (rw c.from.ensures at c.byte_past.ensures)) c.loop-k.invariant

pub returns : goal.returns
returns c = tainted-over _ _ c.loop-k.k _ c.loop-k.found _ c.loop-k-test.false c.loop-k.invariant
