-- `lines::scatter_at`: the bound of the word of letters, whose table is too long for the check to find it itself.
use Rattle.std.proofs.Common.{arith}
use Rattle.formats.specs.Format.{pair, through}
use Rattle.lines.specs.Mirror.Bodies.{scatter, scatter_parts}
use Rattle.lines.proofs.BoundLaws.{letters-bound}
use Rattle.lines.proofs.scatter_at.Goals as goal

pub overflow_add-scatter : goal.overflow_add-scatter
overflow_add-scatter c = omega (arith, letters-bound _ _ _ _ c.one_of.ensures c.in_ok-letters.was)

pub overflow_cast-scatter : goal.overflow_cast-scatter
overflow_cast-scatter c = omega (arith, letters-bound _ _ _ _ c.one_of.ensures c.in_ok-letters.was)

pub returns : goal.returns
unfolding scatter scatter_parts pair through
returns c =
    rw (← c.one_of.ensures, c.in_ok-letters.was, ← c.scatter_exec_at.ensures, c.in_ok-exec.was, ← c.scalar_and_raws_at.ensures, c.in_ok-address.was, ← c.scatter_braces_at.ensures, c.in_ok-scale.was)
