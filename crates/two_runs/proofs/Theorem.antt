-- Demand 3, one claim about whole runs: for every kernel, tables, base, mask and register size, two runs whose marks are equal and whose unmarked bytes
-- agree give the same answer, whatever it is, and end with equal marks and equal unmarked bytes; their predicates may differ in bits at or past their counts.
use mathlib.Core.Path.{◌≡◌, refl, sym, ap, subst, ◌∙◌}
use mathlib.Core.Bool.{Bool, true, false, cond}
use lib.ListN.{length, get_or}
use Rattle.cells.specs.Buffer.{Buffer}
use Rattle.cells.proofs.Untainted.{Agreeing, taint-same}
use Rattle.tables.specs.Tables.{tables_good}
use Rattle.tables.proofs.Laws.{limited}
use Rattle.step.specs.State.{Setup, State, lengths_of}
use Rattle.step.specs.Step.{step_at}
use Rattle.step.proofs.Untainted.{AgreeingStates, step_same}
use Rattle.run.specs.Run.{Outcome, stopped, run_through, run}
use Rattle.run.proofs.Simulation.{runs_same}
use Rattle.run.proofs.Whole.{run_is}
use Rattle.two_runs.specs.TwoRuns.{Agree, Agrees, SameRun, SameSetup, TwoRuns}
use Rattle.two_runs.proofs.UnreadBits.{unread-bits}

to-agreeing : {b c : Buffer} → length b.taint ≡ length b.bytes → Agree b c → Agreeing b c
to-agreeing e a =
    record {
      taint = e;
      bytes' = a.size;
      taint' = sym (ap length a.marks) ∙ e;
      cells = λ i. (ap (λ l. get_or l i 0) a.marks, a.unmarked i);
    }

from-agreeing : {b c : Buffer} → Agreeing b c → Agree b c
from-agreeing r = record { size = r.bytes'; marks = taint-same r; unmarked = λ i. (r.cells i).1 }

lengths-same : (x : Setup) {s u : State} → Agrees s u → lengths_of x s ≡ lengths_of x u
lengths-same x {s} {u} a =
    λ i.
    record {
      kernel = length x.kernel;
      registers = sym a.registers.size i;
      surfaces = sym a.surfaces.size i;
      memory = sym a.memory.size i;
      base = x.constants.base;
      register_size = x.constants.register_size;
      taint = record {
        registers = ap length a.registers.marks i;
        surfaces = ap length a.surfaces.marks i;
        memory = ap length a.memory.marks i;
      };
    }

module _ (x : Setup) where
  -- whether 13 is given or not
  judged-same : (s u : State) → Agrees s u → (q : Bool) → tables_good (lengths_of x s) x.tables ≡ q → SameRun (cond q (run_through x s) (stopped 13 0 0 s)) (cond q (run_through x u) (stopped 13 0 0 u))
  judged-same s u a true good =
      let l = limited (lengths_of x s) x.tables good in
      let r = runs_same AgreeingStates (step_at x) (step_at x) (step_same x) (length x.kernel) (length x.kernel) 0 0 s u (record {
        registers = to-agreeing l.registers-taint a.registers;
        surfaces = to-agreeing l.surfaces-taint a.surfaces;
        memory = to-agreeing l.memory-taint a.memory;
      }) in
      record {
        answer = r.answer;
        state = record {
          registers = from-agreeing r.state.registers;
          surfaces = from-agreeing r.state.surfaces;
          memory = from-agreeing r.state.memory;
        };
      }
  judged-same s u a false good = record { answer = refl; state = a }

  one-setup : (s u : State) → Agrees s u → SameRun (run x s) (run x u)
  one-setup s u a =
      rw (run_is x s, run_is x u, ← lengths-same x {s = s} {u = u} a) (judged-same s u a (tables_good (lengths_of x s) x.tables) refl)

pub two_runs : (x y : Setup) (s u : State) → TwoRuns x y s u
two_runs x y s u same a = subst (λ (r : Outcome). SameRun (run x s) r) (unread-bits x y u same) (one-setup x s u a)

-- every setup is so to itself: equal tables are a case of the claim
pub same-setup : (x : Setup) → SameSetup x x
same-setup x = record { kernel = refl; variables = refl; predicates = record { size = refl; counts = refl; elements = λ id k h. refl }; surfaces = refl; constants = refl }
