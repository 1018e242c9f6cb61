-- What a case file comes to when all its lines are read.
use Rattle.std.specs.Prelude.{ℕ, cond, ltb, Result, Ok, Err}
use Rattle.tally.specs.declared.Case.{Case}
use Rattle.tally.specs.declared.Unfit.{Unfit}
use Rattle.tally.specs.declared.Unfit.TheVariants as unfit
use Rattle.tally.specs.Mirror.Lines.{met_of, length_of}

-- "absent means .. marks all 0", one for each byte of the buffer; a frame that is there has its own length, which may be another: 13
unfoldable pub taint_length : ℕ → ℕ → Case → ℕ
taint_length taint buffer c = cond (ltb 0 (met_of taint c)) (length_of taint c) (length_of buffer c)

-- a number, 0 where nothing is against a run, and the position that goes with it
pub record Verdict : Type 0 where
  pub number : ℕ
  pub position : ℕ

abbrev pub verdict : ℕ → ℕ → Verdict
verdict number position = record { number = number; position = position }

-- "14, at the first such line and before any 13 .. line number from 1 as position. 13 likewise, position 0."
unfoldable pub verdict_of : Case → Verdict
verdict_of c = cond (ltb 0 c.bad) (verdict 14 c.bad) (cond c.full (verdict 13 0) (verdict 0 0))

-- why a case is not run, in numbers
abbrev pub number_of : Unfit → ℕ
number_of (unfit.BadLine line) = 14
number_of unfit.Full = 13

abbrev pub position_of : Unfit → ℕ
position_of (unfit.BadLine line) = line
position_of unfit.Full = 0

abbrev pub judgement : {A : Type 0} → Result A Unfit → Verdict
judgement (Ok v) = verdict 0 0
judgement (Err u) = verdict (number_of u) (position_of u)
