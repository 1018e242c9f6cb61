-- What is put to a buffer's start after some calls that read; `part-answers` (`proofs/AnswersLaws.antt`) makes it the `Answers` of a program.
use Rattle.std.specs.Prelude.{List, [], ℕ, Option, IfSome, ◌⊎◌}
use Rattle.input.specs.Calls.{Call, Possible}
use Rattle.answering.specs.Mirror.Puts.{Puts}
use Rattle.answered_input.specs.Program.{program_output}

-- the buffer at entry and at exit, and how much of it is used
pub record PutsAnswer (output : List ℕ → List ℕ) (out after : List ℕ) (used : ℕ) : Type 0 where
  pub calls : List Call
  pub possible : Possible calls
  pub puts : Puts (program_output output calls) out after used

-- where the bytes that the input has left are known, the answer to all of them is put, or, as after a read that failed, nothing
abbrev pub PutsKnown : Option (List ℕ) → (List ℕ → List ℕ) → List ℕ → List ℕ → ℕ → Type 0
PutsKnown known output out after used = IfSome known (λ text. Puts (output text) out after used ⊎ Puts [] out after used)
