-- Refusals by 1 to 4, which are decoding's, tell nothing.
use Rattle.std.proofs.Common.{◌≡◌, ◌≤◌, refl, arith}
use Rattle.refusal.specs.declared.Detail.TheVariants as detail
use Rattle.refusal.specs.declared.RegionRule.{RegionRule}
use Rattle.refusal.specs.declared.RegionRule.TheVariants as rule
use Rattle.refusal.specs.declared.Refusal.{Refusal}
use Rattle.refusal.specs.declared.Refusal.TheVariants as refusal
use Rattle.refusal.specs.Numbers.{rule_number, number_of, detail_of}

rule-over-four : (r : RegionRule) → rule_number r ≤ 4 → ⊥
rule-over-four rule.Width h = omega (arith, h)
rule-over-four rule.Stride h = omega (arith, h)
rule-over-four rule.WidthOverSize h = omega (arith, h)
rule-over-four rule.ZeroStride h = omega (arith, h)
rule-over-four rule.Null h = omega (arith, h)
rule-over-four rule.Scalar h = omega (arith, h)

pub small-tells-nothing : (r : Refusal) → number_of r ≤ 4 → detail_of r ≡ detail.None
small-tells-nothing refusal.Ends h = refl
small-tells-nothing refusal.Opcode h = refl
small-tells-nothing refusal.Reserved h = refl
small-tells-nothing refusal.Unfit h = refl
small-tells-nothing refusal.Missing h = refl
small-tells-nothing refusal.Outside h = refl
small-tells-nothing refusal.Lanes h = refl
small-tells-nothing refusal.Send h = refl
small-tells-nothing refusal.Doubtful h = refl
small-tells-nothing (refusal.Misaligned channel lane) h = absurd (omega (arith, h))
small-tells-nothing (refusal.OutsideWindow channel lane) h = absurd (omega (arith, h))
small-tells-nothing refusal.Tables h = refl
small-tells-nothing refusal.Room h = refl
small-tells-nothing refusal.Predicate h = refl
small-tells-nothing (refusal.Region r place) h = absurd (rule-over-four r h)
