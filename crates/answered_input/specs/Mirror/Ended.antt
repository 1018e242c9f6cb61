-- A case is answered only if its file was read to the input's end.
use Rattle.std.specs.Prelude.{Bool, cond, List, [], ℕ}
use Rattle.tally.specs.Mirror.Reading.{Reading}
use Rattle.answering.specs.declared.Form.{Form}
use Rattle.answering.specs.Mirror.Bench.{case_output}

unfoldable pub ended_output : Bool → Form → Reading → List ℕ
ended_output ended f r = cond ended (case_output f r) []
