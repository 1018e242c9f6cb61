-- What reading comes to: a machine that was fed what some calls gave.
use Rattle.std.specs.Prelude.{◌≡◌, Bool, true, false, List, ℕ, Option, IsTrue, Result, Ok, Err}
use Rattle.std.specs.Io.KnownBytes.{Consumes, IsAtEnd}
use Rattle.feeding.specs.declared.State.{State}
use Rattle.feeding.specs.Mirror.Feeding.{Machine, fed}
use Rattle.input.specs.declared.Unended.{Unended}
use Rattle.input.specs.Calls.{Call, Possible, text_of, ended_by}

-- whether that was the end of the input, and where reading stopped
abbrev pub has_ended : Result State Unended → Bool
has_ended (Ok s) = true
has_ended (Err u) = false

abbrev pub stopped_at : Result State Unended → State
stopped_at (Ok s) = s
stopped_at (Err u) = u.state

-- after some calls a machine is another that was fed their text, and the input has ended if they met its end
pub record Reads (ended : Bool) (first last : Machine) : Type 0 where
  pub calls : List Call
  pub possible : Possible calls
  pub text : last ≡ fed (text_of calls) first
  pub end : ended ≡ ended_by calls

-- the same where the bytes that the input has left are known, before and after: it was fed those that the input lost, each once and in their order,
-- and an input that has ended has none left
pub record ReadsKnown (before after : Option (List ℕ)) (ended : Bool) (first last : Machine) : Type 0 where
  pub text : List ℕ
  pub fed : last ≡ fed text first
  pub taken : Consumes before after text
  pub end : IsTrue ended → IsAtEnd after
