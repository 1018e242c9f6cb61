-- A worked case: what is lent for a plain run, and what the run gives back.
use Rattle.std.specs.Prelude.{◌≡◌, List, [], ◌∷◌, ℕ, zero, suc, ◌/◌, ◌%◌, ◌^◌, replicate}
use Rattle.tables.specs.Tables.{Tables}
use Rattle.run.specs.Run.{Outcome}
use Rattle.plain_run.specs.PlainRun.{plain_run}

-- n bytes, written as one number in hex, the first byte first, as the paper writes them
unfoldable pub hex : ℕ → ℕ → List ℕ
hex zero x = []
hex (suc n) x = x / 256 ^ n % 256 ∷ hex n x

abbrev pub zeros : ℕ → List ℕ
zeros n = replicate n 0

pub record Case : Type 0 where
  pub kernel : List ℕ
  pub tables : Tables
  pub registers : List ℕ
  pub surfaces : List ℕ
  pub base : ℕ
  pub memory : List ℕ
  pub mask : ℕ

pub record Given : Type 0 where
  pub number : ℕ
  pub completed : ℕ
  pub position : ℕ
  pub registers : List ℕ
  pub memory : List ℕ

-- a case with neither surfaces nor memory
abbrev pub over_registers : List ℕ → Tables → List ℕ → ℕ → Case
over_registers kernel tables registers mask =
    record { kernel = kernel; tables = tables; registers = registers; surfaces = []; base = 0; memory = []; mask = mask }

-- the kernel's one instruction is completed, and the run ends past it; or it is refused
abbrev pub completes : ℕ → List ℕ → Given
completes end registers = record { number = 0; completed = 1; position = end; registers = registers; memory = [] }

abbrev pub refuses : ℕ → List ℕ → Given
refuses number registers = record { number = number; completed = 0; position = 0; registers = registers; memory = [] }

abbrev pub given : Outcome → Given
given r =
    record {
      number = r.answer.number;
      completed = r.answer.completed;
      position = r.answer.position;
      registers = r.state.registers.bytes;
      memory = r.state.memory.bytes;
    }

unfoldable pub played : Case → Given
played c =
    given (plain_run (record { kernel = c.kernel; tables = c.tables; constants = record { base = c.base; mask = c.mask; register_size = 32 } }) c.registers c.surfaces c.memory)

-- a row of the table: a number that a definition gives, or a whole run
pub data Row : Type 0 where
  is : ℕ → ℕ → Row
  runs : Case → Given → Row

abbrev pub Holds : Row → Type 0
Holds (is computed stated) = computed ≡ stated
Holds (runs c g) = played c ≡ g

abbrev pub Every : List Row → Type 0
Every [] = Unit
Every (r ∷ rs) = Holds r × Every rs
