-- What a case file says, byte by byte, with a line buffer of some length.
use Rattle.std.specs.Prelude.{ℕ, Bool, false, cond, List, [], ◌∷◌, take, ltb, eqb}
use Rattle.tally.specs.declared.Case.{Case}
use Rattle.tally.specs.Mirror.Reading.{Contents, Tables, Reading, reading, only}
use Rattle.tally.specs.Mirror.Lines.{nothing, long_line}
use Rattle.frames.specs.Mirror.Frames.{line_read}
use Rattle.line_blocks.specs.Mirror.Rows.{Row, row, is_begun, pushed}
use Rattle.feeding.specs.declared.State.{State}

pub record Machine : Type 0 where
  pub row : Row
  pub reading : Reading

abbrev pub state : ℕ → Bool → Case → State
state used long case = record { begun = record { used = used; long = long }; case = case }

abbrev pub machine : List ℕ → State → Contents → Tables → Machine
machine line s contents tables = record { row = row line s.begun.used s.begun.long; reading = reading s.case contents tables }

unfoldable pub fresh : State
fresh = state 0 false nothing

unfoldable pub ended : Machine → Machine
ended m =
    record {
      row = row m.row.line 0 false;
      reading = cond m.row.long (only (long_line m.reading.case) m.reading) (line_read (take m.row.used m.row.line) m.reading);
    }

-- "A line ends in 0x0a"; after the first bad line nothing counts
unfoldable pub byte_fed : ℕ → Machine → Machine
byte_fed b m = cond (ltb 0 m.reading.case.bad) m (cond (eqb b 10) (ended m) (record { row = pushed b m.row; reading = m.reading }))

-- where a block is read on: at its end once a line was bad
unfoldable pub read_on : ℕ → ℕ → ℕ → ℕ
read_on bad next end = cond (ltb 0 bad) end next

unfoldable pub fed : List ℕ → Machine → Machine
fed [] m = m
fed (b ∷ block) m = fed block (byte_fed b m)

-- "which the last may lack"
unfoldable pub finished : Machine → Machine
finished m = cond (is_begun m.row.used m.row.long) (ended m) m
