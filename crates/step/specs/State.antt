-- What a run is over. Document 01, "What the bench runs": "Lent for a run: kernel bytes, register file, surface bytes, memory window with
-- its 64-bit base, three tables, a 32-bit execution mask EM"; document 02, request 5: "Let a run choose 32 or 64".
use Rattle.std.specs.Prelude.{ℕ, List, length}
use Rattle.cells.specs.Buffer.{Buffer, buffer}
use Rattle.lengths.specs.Lengths.{chosen_size}
use Rattle.lengths.specs.declared.Lengths.{Lengths}
use Rattle.tables.specs.Tables.{Tables}
use Rattle.step.specs.declared.Constants.{Constants}

-- what stays the same; the mask of the constants is the paper's EM
pub record Setup : Type 0 where
  pub kernel : List ℕ
  pub tables : Tables
  pub constants : Constants

-- what instructions read and write
pub record State : Type 0 where
  pub registers : Buffer
  pub surfaces : Buffer
  pub memory : Buffer

abbrev pub setup : List ℕ → Tables → Constants → Setup
setup kernel tables constants = record { kernel = kernel; tables = tables; constants = constants }

abbrev pub state : List ℕ → List ℕ → List ℕ → List ℕ → List ℕ → List ℕ → State
state registers register_taint surfaces surface_taint memory memory_taint =
    record { registers = buffer registers register_taint; surfaces = buffer surfaces surface_taint; memory = buffer memory memory_taint }

-- the bytes of a register, as the run chose (`chosen_size`: in a run that is not 13, the number itself)
abbrev pub register_bytes : Setup → ℕ
register_bytes x = chosen_size x.constants.register_size

-- all lengths that 13 looks at, and the register size
abbrev pub lengths_of : Setup → State → Lengths
lengths_of x s =
    record {
      kernel = length x.kernel;
      registers = length s.registers.bytes;
      surfaces = length s.surfaces.bytes;
      memory = length s.memory.bytes;
      base = x.constants.base;
      register_size = x.constants.register_size;
      taint = record {
        registers = length s.registers.taint;
        surfaces = length s.surfaces.taint;
        memory = length s.memory.taint;
      };
    }
