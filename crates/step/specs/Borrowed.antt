-- Words of contracts: the state behind the references that a function borrows, and what a step answers.
use Rattle.std.specs.Prelude.{◌≡◌, ℕ, Result, Ok, Err}
use Rattle.refusal.specs.declared.Detail.{Detail}
use Rattle.refusal.specs.declared.Detail.TheVariants as detail
use Rattle.refusal.specs.Numbers.{number_of, detail_of}
use Rattle.step.specs.declared.Room.{Room}
use Rattle.step.specs.declared.Stopped.{Stopped}
use Rattle.step.specs.State.{State, state}
use Rattle.step.specs.Step.{Stepped}

-- what a room holds
abbrev pub state_of : Room → State
state_of r =
    state r.registers.now r.register_taint.now r.surfaces.now r.surface_taint.now r.memory.now r.memory_taint.now

-- the same references, and behind them this state
pub record Goes (old new : Room) (s : State) : Type 0 where
  pub registers : new.registers.ghost_name ≡ old.registers.ghost_name
  pub register_taint : new.register_taint.ghost_name ≡ old.register_taint.ghost_name
  pub memory : new.memory.ghost_name ≡ old.memory.ghost_name
  pub memory_taint : new.memory_taint.ghost_name ≡ old.memory_taint.ghost_name
  pub surfaces : new.surfaces ≡ old.surfaces
  pub surface_taint : new.surface_taint ≡ old.surface_taint
  pub leaves : state_of new ≡ s

-- the number with what it tells, and where the next step begins, of a refused one too
abbrev pub next_of : Result ℕ Stopped → ℕ
next_of (Ok next) = next
next_of (Err e) = e.next

abbrev pub number_stopped : Result ℕ Stopped → ℕ
number_stopped (Ok next) = 0
number_stopped (Err e) = number_of e.refusal

abbrev pub detail_stopped : Result ℕ Stopped → Detail
detail_stopped (Ok next) = detail.None
detail_stopped (Err e) = detail_of e.refusal

pub record Answers (result : Result ℕ Stopped) (t : Stepped) : Type 0 where
  pub number : number_stopped result ≡ t.effect.number
  pub detail : detail_stopped result ≡ t.effect.detail
  pub next : next_of result ≡ t.next
