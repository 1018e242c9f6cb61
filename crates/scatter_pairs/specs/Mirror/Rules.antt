-- What every target address has to meet, and when one breaks it: 11, then 12.
use Rattle.std.specs.Prelude.{ℕ, Bool}
use Rattle.scatter_pairs.specs.declared.Rule.{Rule}
use Rattle.scatter_pairs.specs.declared.Rule.TheVariants as rule
use Rattle.scatter_effect.specs.Scatter.{misaligned, outside}

unfoldable pub breaks : Rule → ℕ → Bool
breaks rule.Aligned address = misaligned address
breaks (rule.Inside base length) address = outside (record { base = base; length = length }) address
