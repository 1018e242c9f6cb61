use Rattle.std.proofs.Common.{◌≡◌, ◌-◌, length}
use Rattle.tables.specs.Borrowed.{tables_of}
use Rattle.step.specs.State.{Setup, setup}
use Rattle.step.specs.Borrowed.{state_of, Goes}
use Rattle.run.specs.Run.{run_through}
use Rattle.run.proofs.RunLaws.{rest}
use Rattle.run.proofs.run_kernel.Given as goal

-- what is left of the run comes to what the whole run comes to
abbrev pub invariant-turns : goal.invariant-turns
invariant-turns l =
    let x : Setup = setup l.kernel (tables_of l.tables) l.constants in
    record {
      references : Goes l.fn.room l.room (state_of l.room);
      count : l.completed ≡ l._turn;
      left : rest x (length l.kernel - l._turn) l.completed l.at (state_of l.room) ≡ run_through x (state_of l.fn.room);
    }
