-- A buffer that nothing is written to stays as it is.
use mathlib.Core.Path.{◌≡◌, ap, ◌∙◌}
use mathlib.Core.List.{List, []}
use Rattle.cells.specs.Buffer.{Buffer}
use Rattle.cells.specs.Writes.{Write, written_all}
use Rattle.cells.proofs.EffectLaws.{nothing_written}

pub unwritten : (ws : List Write) (b : Buffer) → ws ≡ [] → written_all ws b ≡ b
unwritten ws b e = ap (λ (l : List Write). written_all l b) e ∙ nothing_written b
