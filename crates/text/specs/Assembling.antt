-- Reading a text into the caller's buffer: 16 with a column if it is no printed line, then 15 if the buffer is shorter than the encoding, otherwise
-- the encoding at its start.
use Rattle.std.specs.Prelude.{ℕ, List, Result, Ok, Err}
use Rattle.reader.specs.Reply.{on_reply}
use Rattle.encoder.specs.Encoding.{encoded_in, encoded_into}
use Rattle.lines.specs.Reading.{on_reading, reading_of}
use Rattle.refusal.specs.Numbers as refusal
use Rattle.text.specs.declared.Unassembled.{Unassembled}
use Rattle.text.specs.declared.Unassembled.TheVariants as unassembled

-- how many bytes were written; or the number of a refusal, with a column for 16 and 0 for 15
pub data Assembly : Type 0 where
  wrote : ℕ → Assembly
  refused : ℕ → ℕ → Assembly

unfoldable pub assembled_in : ℕ → List ℕ → Assembly
assembled_in room t = on_reading (reading_of t) (λ i. on_reply (encoded_in room i) (λ n. refused n 0) wrote) refused

unfoldable pub assembled_into : List ℕ → List ℕ → List ℕ
assembled_into l t = on_reading (reading_of t) (λ i. encoded_into l i) (λ _ _. l)

-- number and values of each case
abbrev pub number_of : Unassembled → ℕ
number_of (unassembled.NoLine e) = 16
number_of (unassembled.Encoding r) = refusal.number_of r

abbrev pub column_of : Unassembled → ℕ
column_of (unassembled.NoLine e) = e.column
column_of (unassembled.Encoding r) = 0

abbrev pub assembly_of : Result ℕ Unassembled → Assembly
assembly_of (Ok n) = wrote n
assembly_of (Err e) = refused (number_of e) (column_of e)
