-- What the answer for a text tells: the reading.
use Rattle.std.specs.Prelude.{Result, Ok, Err}
use Rattle.decoder.specs.declared.Instruction.{Instruction}
use Rattle.lines.specs.Reading.{Reading, is_line, no_line}
use Rattle.lines.specs.declared.NoLine.{NoLine}

-- number and values of each case
abbrev pub told_text : Result Instruction NoLine → Reading
told_text (Ok i) = is_line i
told_text (Err e) = no_line e.column
