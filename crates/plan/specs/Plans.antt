-- What a run needs of an accepted instruction, and what stands for a refused one. A plan has two sources, left and right, and a payload:
-- SHL's Src0, Src1 and Dst; a gather's Offset, Element_offset and Dst; a scatter's Address, Element_offset and Src.
use Rattle.std.specs.Prelude.{ℕ, suc, cond, false, List, [], ◌∷◌, ltb, replicate}
use Rattle.refusal.specs.declared.Detail.{Detail}
use Rattle.refusal.specs.declared.Detail.TheVariants as detail
use Rattle.refusal.specs.Details.{operand_detail}
use Rattle.field_groups.specs.declared.Control.{Control}
use Rattle.operands.specs.declared.Elements.{Elements}
use Rattle.operands.specs.Located.{Located}
use Rattle.plan.specs.Part.{Part}
use Rattle.plan.specs.Plan.{Plan}
use Rattle.plan.specs.Operation as operation
use Rattle.plan.specs.Operation.{Operation}

abbrev pub no_elements : Elements
no_elements = record { size = 0; signed = false; immediate = false; value = 0; at = replicate 32 0 }

-- a refusal's number with what it tells, and nothing to run
unfoldable pub refused_plan : ℕ → Detail → Plan
refused_plan n d =
    record {
      number = n;
      detail = d;
      operation = operation.Refused;
      control = record { exec = 0; pred = 0 };
      bits = 0;
      left = no_elements;
      right = no_elements;
      payload = no_elements;
      bytes = 0;
      channels = 0;
      stride = 0;
      start = 0;
      length = 0;
    }

-- a test's refusal, or what comes after the test
unfoldable pub tested : ℕ → Detail → Plan → Plan
tested n d next = cond (ltb 0 n) (refused_plan n d) next

-- the tests of operands, of which the first is at this place, or what comes after them
abbrev pub tested_from : ℕ → List Located → Plan → Plan
tested_from place [] next = next
tested_from place (l ∷ ls) next = tested l.number (operand_detail l.number place) (tested_from (suc place) ls next)

unfoldable pub shl_plan : Control → ℕ → Elements → Elements → Elements → Plan
shl_plan control bits left right payload =
    record {
      number = 0;
      detail = detail.None;
      operation = operation.Shl;
      control = control;
      bits = bits;
      left = left;
      right = right;
      payload = payload;
      bytes = 0;
      channels = 0;
      stride = 0;
      start = 0;
      length = 0;
    }

-- with the bytes of a block, and the surface's part of the surface buffer
unfoldable pub gather_plan : Control → ℕ → Elements → Elements → Elements → ℕ → Part → Plan
gather_plan control bits left right payload bytes part =
    record {
      number = 0;
      detail = detail.None;
      operation = operation.Gather;
      control = control;
      bits = bits;
      left = left;
      right = right;
      payload = payload;
      bytes = bytes;
      channels = 0;
      stride = 0;
      start = part.start;
      length = part.length;
    }

-- with the enabled channels, and the dwords from one's data to the next one's
unfoldable pub scatter_plan : Control → ℕ → Elements → Elements → Elements → ℕ → ℕ → Plan
scatter_plan control bits left right payload channels stride =
    record {
      number = 0;
      detail = detail.None;
      operation = operation.Scatter;
      control = control;
      bits = bits;
      left = left;
      right = right;
      payload = payload;
      bytes = 0;
      channels = channels;
      stride = stride;
      start = 0;
      length = 0;
    }

-- what all of them have, with nothing that only one operation has
abbrev pub plain_plan : Operation → Control → ℕ → Elements → Elements → Elements → Plan
plain_plan operation control bits left right payload =
    record {
      number = 0;
      detail = detail.None;
      operation = operation;
      control = control;
      bits = bits;
      left = left;
      right = right;
      payload = payload;
      bytes = 0;
      channels = 0;
      stride = 0;
      start = 0;
      length = 0;
    }
