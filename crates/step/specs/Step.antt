-- One step: decode the instruction at a position, test it, and work out its effect.
use Rattle.std.specs.Prelude.{ℕ, not, length, eqb}
use Rattle.refusal.specs.declared.Detail.TheVariants as detail
use Rattle.cells.specs.Writes.{written_all}
use Rattle.cells.specs.Effect.{Effect, refused, unless}
use Rattle.reader.specs.Reply.{on_reply}
use Rattle.decoder.specs.Decoding.{instruction_at}
use Rattle.plan.specs.Plan.{Plan}
use Rattle.plan.specs.Operation.{Operation}
use Rattle.plan.specs.Operation as operation
use Rattle.plan.specs.Checked.{checked}
use Rattle.staging.specs.Lanes.{lanes_on}
use Rattle.shl_effect.specs.Shl.{shl_effect}
use Rattle.gather_effect.specs.Gather.{gather_effect}
use Rattle.scatter_effect.specs.Scatter.{scatter_effect}
use Rattle.step.specs.declared.Constants.{Constants}
use Rattle.step.specs.State.{Setup, State, register_bytes}

-- No memory byte is read: memory enters by its length alone. No accepted plan is without an operation; 9 would be its number.
unfoldable pub acted : Constants → Operation → Plan → State → Effect
acted c operation.Shl p s = shl_effect p (lanes_on c.mask p) s.registers
acted c operation.Gather p s = gather_effect p (lanes_on c.mask p) s.registers s.surfaces
acted c operation.Scatter p s =
    scatter_effect (record { base = c.base; length = length s.memory.bytes }) p (lanes_on c.mask p) s.registers
acted c operation.Refused p s = refused 9 detail.None

-- the tests that look at no data come first, with what they tell
unfoldable pub plan_effect : Constants → Plan → State → Effect
plan_effect c p s = unless (not (eqb p.number 0)) p.number p.detail (acted c p.operation p s)

-- the effect of the instruction at a position, and where the next one begins
pub record Stepped : Type 0 where
  pub next : ℕ
  pub effect : Effect

unfoldable pub step_at : Setup → ℕ → State → Stepped
step_at x at s =
    on_reply (instruction_at x.kernel at)
    (λ n. record { next = at; effect = refused n detail.None })
    (λ i. record { next = i.next; effect = plan_effect x.constants (checked (register_bytes x) x.tables i.value) s })

-- the state after an effect; surfaces are never written
abbrev pub after : Effect → State → State
after e s =
    record {
      registers = written_all e.registers s.registers;
      surfaces = s.surfaces;
      memory = written_all e.memory s.memory;
    }
