-- The character stands at its place, or is lost.
use Rattle.std.proofs.Common.{refl}
use Rattle.format_writers.proofs.WritingLaws.{wrote_one, wrote-lost}
use Rattle.format_writers.proofs.Page.character.Goals as goal

pub returns-then-self : goal.returns-then-self
returns-then-self c = record { out = refl; content = wrote_one _ _ _ c.if-self.true }

pub returns-else-self : goal.returns-else-self
returns-else-self c = record { out = refl; content = wrote-lost _ _ _ c.if-self.false }
