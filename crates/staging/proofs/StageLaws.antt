-- Both sources of an instruction, staged one after the other.
use Prim.Native.Nat.{ℕ}
use mathlib.Core.Path.{◌≡◌, ◌∙◌}
use Rattle.cells.specs.declared.Buffer as lent
use Rattle.cells.specs.Buffer.{Buffer}
use Rattle.cells.specs.Lent.{held, Becomes}
use Rattle.operands.specs.declared.Elements.{Elements}
use Rattle.staging.specs.declared.Layout.{Layout}
use Rattle.staging.specs.Mirror.Room.{layout_of, first_place, second_place, staged, sources_staged}

pub both_told : (registers : Buffer) (a b : Elements) (lanes : ℕ) (s : Layout) (begin next : ℕ) (x y z : lent.Buffer) → s ≡ layout_of a b lanes → begin ≡ first_place s 0 → next ≡ second_place s 0 → Becomes x y (staged registers a lanes begin (held x)) → Becomes y z (staged registers b lanes next (held y)) → Becomes x z (sources_staged registers a b lanes (held x))
both_told registers a b lanes s begin next x y z is one two made more =
    record { bytes = more.bytes ∙ made.bytes; taint = more.taint ∙ made.taint; content = rw (← is, ← one, ← two, ← made.content) more.content }
