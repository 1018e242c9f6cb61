-- What a program that answers a case file hands on to be written. No contract can say which bytes a read of standard input gives, so that is told of
-- some calls that read; of an input whose bytes are known, of these.
use Rattle.std.specs.Prelude.{◌≡◌, ◌⊎◌, cond, List, [], ℕ, Option, IfSome}
use Rattle.input.specs.Calls.{Call, Possible, text_of, ended_by}

-- what is to be put out for the text that the calls gave, if they met the input's end; otherwise, as after a read that failed, nothing
unfoldable pub program_output : (List ℕ → List ℕ) → List Call → List ℕ
program_output output calls = cond (ended_by calls) (output (text_of calls)) []

-- the bytes are what the program puts out after some calls
pub record Answers (output : List ℕ → List ℕ) (bytes : List ℕ) : Type 0 where
  pub calls : List Call
  pub possible : Possible calls
  pub is : bytes ≡ program_output output calls

-- where the bytes that the input has left are known, the bytes are what is to be put out for all of them, or, as after a read that failed, nothing
abbrev pub PartKnown : Option (List ℕ) → (List ℕ → List ℕ) → List ℕ → Type 0
PartKnown known output bytes = IfSome known (λ text. (bytes ≡ output text) ⊎ (bytes ≡ []))
