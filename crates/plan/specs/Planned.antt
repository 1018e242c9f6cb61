-- What the code gives back of an instruction's tests, as the definitions have it: a plan with number 0, or a refused one.
use Rattle.std.specs.Prelude.{◌≡◌, ℕ, true, ltb, Result, Ok, Err}
use Rattle.refusal.specs.declared.Refusal.{Refusal}
use Rattle.refusal.specs.declared.Detail.TheVariants as detail
use Rattle.refusal.specs.Details.{operand_detail}
use Rattle.refusal.specs.Numbers.{number_of, detail_of}
use Rattle.operands.specs.declared.Elements.{Elements}
use Rattle.operands.specs.Located.{Located}
use Rattle.plan.specs.declared.Plan as code
use Rattle.plan.specs.declared.Operation as code_operation
use Rattle.plan.specs.declared.Operation.TheVariants as left
use Rattle.plan.specs.Operation as operation
use Rattle.plan.specs.Operation.{Operation}
use Rattle.plan.specs.Plan.{Plan}
use Rattle.plan.specs.Plans.{refused_plan}

abbrev pub operation_of : code_operation.Operation → Operation
operation_of left.Shl = operation.Shl
operation_of left.Gather = operation.Gather
operation_of left.Scatter = operation.Scatter

-- an accepted one
abbrev pub plan_of : code.Plan → Plan
plan_of p =
    record {
      number = 0;
      detail = detail.None;
      operation = operation_of p.operation;
      control = p.control;
      bits = p.bits;
      left = p.left;
      right = p.right;
      payload = p.payload;
      bytes = p.bytes;
      channels = p.channels;
      stride = p.stride;
      start = p.start;
      length = p.length;
    }

abbrev pub planned : Result code.Plan Refusal → Plan
planned (Ok p) = plan_of p
planned (Err r) = refused_plan (number_of r) (detail_of r)

-- the operand at a place, of which the definitions say this: its elements, or its refusal there
abbrev pub Gives : ℕ → Located → Result Elements Refusal → Type 0
Gives place l (Ok e) = (l.number ≡ 0) × (l.elements ≡ e)
Gives place l (Err r) = (ltb 0 l.number ≡ true) × (number_of r ≡ l.number) × (detail_of r ≡ operand_detail l.number place)
