-- What is known of the calls that read an input. No contract can say which bytes a read of standard input gives, so each statement is of some calls.
use Rattle.std.specs.Prelude.{◌≡◌, ◌≤◌, Bool, false, ◌||◌, ℕ, List, [], ◌∷◌, map, length, take, Result, IfOk}
use mathlib.Core.List.{flatten}
use Rattle.std.specs.declared.io.Error.{Error}
use Rattle.input.specs.Answers.{answer_of, on_answer, gave_bytes, met_end}

-- a call: what it answered, and the block as it left it
pub record Call : Type 0 where
  pub got : Result ℕ Error
  pub block : List ℕ

abbrev pub call : Result ℕ Error → List ℕ → Call
call got block = record { got = got; block = block }

-- the bytes that it gave
unfoldable pub bytes_of : Call → List ℕ
bytes_of c = on_answer (answer_of c.got) (λ n. take n c.block) [] []

-- what a call that is handed so many bytes may answer: a failure, or how many bytes it moved
abbrev pub Moved : ℕ → Result ℕ Error → Type 0
Moved room got = IfOk got (λ n. n ≤ room)

-- calls as they may follow each other: each is handed a block of 65,536 bytes, and after the end or a failure there is none
abbrev pub Possible : List Call → Type 0
Possible [] = Unit
Possible (c ∷ calls) = Moved 65536 c.got × ((length c.block ≡ 65536) × ((gave_bytes c.got ≡ false → calls ≡ []) × Possible calls))

-- the text that they gave
unfoldable pub text_of : List Call → List ℕ
text_of calls = flatten (map bytes_of calls)

-- whether they met the input's end
unfoldable pub ended_by : List Call → Bool
ended_by [] = false
ended_by (c ∷ calls) = met_end c.got || ended_by calls
