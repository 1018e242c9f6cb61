-- The number that is given back for a refusal, and what goes with it; the number of an answer is 0 where nothing is refused.
use Rattle.std.specs.Prelude.{ℕ, Result, Ok, Err}
use Rattle.refusal.specs.declared.Detail.{Detail}
use Rattle.refusal.specs.declared.Detail.TheVariants as detail
use Rattle.refusal.specs.declared.RegionRule.{RegionRule}
use Rattle.refusal.specs.declared.RegionRule.TheVariants as rule
use Rattle.refusal.specs.declared.OperandRefusal.{OperandRefusal}
use Rattle.refusal.specs.declared.OperandRefusal.TheVariants as operand
use Rattle.refusal.specs.declared.Refusal.{Refusal}
use Rattle.refusal.specs.declared.Refusal.TheVariants as refusal

abbrev pub rule_number : RegionRule → ℕ
rule_number rule.Width = 20
rule_number rule.Stride = 21
rule_number rule.WidthOverSize = 22
rule_number rule.ZeroStride = 23
rule_number rule.Null = 24
rule_number rule.Scalar = 25

abbrev pub operand_number : OperandRefusal → ℕ
operand_number operand.Unfit = 4
operand_number operand.Missing = 5
operand_number (operand.Region r) = rule_number r
operand_number operand.Outside = 7

abbrev pub number_of : Refusal → ℕ
number_of refusal.Ends = 1
number_of refusal.Opcode = 2
number_of refusal.Reserved = 3
number_of refusal.Unfit = 4
number_of refusal.Missing = 5
number_of refusal.Outside = 7
number_of refusal.Lanes = 8
number_of refusal.Send = 9
number_of refusal.Doubtful = 10
number_of (refusal.Misaligned channel lane) = 11
number_of (refusal.OutsideWindow channel lane) = 12
number_of refusal.Tables = 13
number_of refusal.Room = 15
number_of refusal.Predicate = 17
number_of (refusal.Region r place) = rule_number r

-- 11 and 12 carry channel and lane of the first offending pair, 20 to 25 name the operand; the others tell nothing
abbrev pub detail_of : Refusal → Detail
detail_of refusal.Ends = detail.None
detail_of refusal.Opcode = detail.None
detail_of refusal.Reserved = detail.None
detail_of refusal.Unfit = detail.None
detail_of refusal.Missing = detail.None
detail_of refusal.Outside = detail.None
detail_of refusal.Lanes = detail.None
detail_of refusal.Send = detail.None
detail_of refusal.Doubtful = detail.None
detail_of (refusal.Misaligned channel lane) = detail.Pair channel lane
detail_of (refusal.OutsideWindow channel lane) = detail.Pair channel lane
detail_of refusal.Tables = detail.None
detail_of refusal.Room = detail.None
detail_of refusal.Predicate = detail.None
detail_of (refusal.Region r place) = detail.Operand place

-- of what a function gives back that may refuse
abbrev pub number_given : {A : Type 0} → Result A Refusal → ℕ
number_given (Ok v) = 0
number_given (Err r) = number_of r

abbrev pub detail_given : {A : Type 0} → Result A Refusal → Detail
detail_given (Ok v) = detail.None
detail_given (Err r) = detail_of r

-- of what a function gives back that may refuse an operand's region
abbrev pub rule_given : {A : Type 0} → Result A RegionRule → ℕ
rule_given (Ok v) = 0
rule_given (Err r) = rule_number r
