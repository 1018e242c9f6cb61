-- A room's references, when what lies behind them is told in other words.
use mathlib.Core.Path.{◌≡◌}
use Rattle.step.specs.declared.Room.{Room}
use Rattle.step.specs.State.{State}
use Rattle.step.specs.Borrowed.{state_of, Goes}

pub leaving : {old new : Room} {s : State} → Goes old new s → (t : State) → state_of new ≡ t → Goes old new t
leaving g t e =
    record {
      registers = g.registers;
      register_taint = g.register_taint;
      memory = g.memory;
      memory_taint = g.memory_taint;
      surfaces = g.surfaces;
      surface_taint = g.surface_taint;
      leaves = e;
    }
