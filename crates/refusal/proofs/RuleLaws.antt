-- Every rule of a region names its operand; and no refusal has the number 0.
use Rattle.std.proofs.Common.{◌≡◌, ℕ, refl, true, ltb}
use Rattle.refusal.specs.declared.Detail.TheVariants as detail
use Rattle.refusal.specs.declared.RegionRule.{RegionRule}
use Rattle.refusal.specs.declared.RegionRule.TheVariants as rule
use Rattle.refusal.specs.declared.OperandRefusal.{OperandRefusal}
use Rattle.refusal.specs.declared.OperandRefusal.TheVariants as operand
use Rattle.refusal.specs.declared.Refusal.{Refusal}
use Rattle.refusal.specs.declared.Refusal.TheVariants as refusal
use Rattle.refusal.specs.Details.{operand_detail, names_operand}
use Rattle.refusal.specs.Numbers.{rule_number, operand_number, number_of}

pub region_named : (r : RegionRule) (place : ℕ) → detail.Operand place ≡ operand_detail (rule_number r) place
unfolding operand_detail names_operand
region_named rule.Width place = refl
region_named rule.Stride place = refl
region_named rule.WidthOverSize place = refl
region_named rule.ZeroStride place = refl
region_named rule.Null place = refl
region_named rule.Scalar place = refl

-- no refusal has the number 0
pub rule_some : (r : RegionRule) → ltb 0 (rule_number r) ≡ true
rule_some rule.Width = refl
rule_some rule.Stride = refl
rule_some rule.WidthOverSize = refl
rule_some rule.ZeroStride = refl
rule_some rule.Null = refl
rule_some rule.Scalar = refl

pub operand_some : (r : OperandRefusal) → ltb 0 (operand_number r) ≡ true
operand_some operand.Unfit = refl
operand_some operand.Missing = refl
operand_some (operand.Region r) = rule_some r
operand_some operand.Outside = refl

pub number_some : (r : Refusal) → ltb 0 (number_of r) ≡ true
number_some refusal.Ends = refl
number_some refusal.Opcode = refl
number_some refusal.Reserved = refl
number_some refusal.Unfit = refl
number_some refusal.Missing = refl
number_some refusal.Outside = refl
number_some refusal.Lanes = refl
number_some refusal.Send = refl
number_some refusal.Doubtful = refl
number_some (refusal.Misaligned channel lane) = refl
number_some (refusal.OutsideWindow channel lane) = refl
number_some refusal.Tables = refl
number_some refusal.Room = refl
number_some refusal.Predicate = refl
number_some (refusal.Region r place) = rule_some r
