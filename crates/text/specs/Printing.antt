-- Printing an instruction's line into the caller's buffer. Document 02, request 1: fields are refused "as the encoder does", then 15 if the buffer
-- is shorter than the line; every refusal leaves it as it was, and bytes past a line stay.
use Rattle.std.specs.Prelude.{ℕ, List, ◌++◌, cond, length, drop, ltb, eqb}
use Rattle.reader.specs.Reply.{Reply, refused, done, on_reply}
use Rattle.decoder.specs.declared.Instruction.{Instruction}
use Rattle.decoder.specs.Format.{instruction_refusal}
use Rattle.lines.specs.LineOf.{line_of}

-- the line's length, if the buffer has room for it
unfoldable pub printed_in : ℕ → Instruction → Reply ℕ
printed_in room i =
    cond (eqb (instruction_refusal i) 0)
    (cond (ltb room (length (line_of i))) (refused 15) (done (length (line_of i))))
    (refused (instruction_refusal i))

-- the buffer after it
unfoldable pub printed_into : List ℕ → Instruction → List ℕ
printed_into l i = on_reply (printed_in (length l) i) (λ n. l) (λ n. line_of i ++ drop n l)

-- the fields alone, where room is no matter
unfoldable pub fields_judged : Instruction → Reply (Unit {0})
fields_judged i = cond (eqb (instruction_refusal i) 0) (done (tt {0})) (refused (instruction_refusal i))
