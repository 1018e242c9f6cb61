-- What a completed instruction leaves: each enabled lane, or pair of channel and lane, has the defined result, and no other byte changes, of
-- registers, surfaces or memory, nor any length.
use Rattle.std.specs.Prelude.{◌≡◌, length}
use Rattle.plan.specs.Plan.{Plan}
use Rattle.plan.specs.Operation.{Operation}
use Rattle.plan.specs.Operation as operation
use Rattle.shl_effect.specs.Results as shl
use Rattle.gather_effect.specs.Results as gather
use Rattle.scatter_effect.specs.Results as scatter
use Rattle.step.specs.State.{Setup, State, lengths_of}

-- no refused plan is completed
abbrev pub ResultsFor : Operation → Setup → Plan → State → State → Type 0
ResultsFor operation.Shl x p s u = shl.LanesHold x.constants.mask p s.registers u.registers × (u.memory ≡ s.memory)
ResultsFor operation.Gather x p s u = gather.LanesHold x.constants.mask p s.surfaces s.registers u.registers × (u.memory ≡ s.memory)
ResultsFor operation.Scatter x p s u =
    scatter.PairsHold (record { base = x.constants.base; length = length s.memory.bytes }) x.constants.mask p s.registers s.memory u.memory × (u.registers ≡ s.registers)
ResultsFor operation.Refused x p s u = ⊥

pub record Leaves (x : Setup) (p : Plan) (s u : State) : Type 0 where
  pub results : ResultsFor p.operation x p s u
  pub surfaces : u.surfaces ≡ s.surfaces
  pub lengths : lengths_of x u ≡ lengths_of x s
