-- Encoding an instruction into the caller's buffer. Document 01, "The numbers given back": "The encoder refuses fields by 2, 3 or 4 as decoding would,
-- in field order (a non-zero high word that the type lacks is 3), then 15, its buffer untouched; bytes past an encoding stay."
-- No instruction has a wrong opcode, so that 2 is never given.
use Rattle.std.specs.Prelude.{ℕ, List, ◌++◌, cond, length, drop, ltb, eqb}
use Rattle.reader.specs.Reply.{Reply, refused, done, on_reply}
use Rattle.decoder.specs.declared.Instruction.{Instruction}
use Rattle.decoder.specs.Format.{instruction_bytes, instruction_refusal}

-- the first field that is refused decides; then "15: encoder's buffer shorter than the encoding"; else the number of bytes
unfoldable pub encoded_in : ℕ → Instruction → Reply ℕ
encoded_in room i =
    cond (eqb (instruction_refusal i) 0)
    (cond (ltb room (length (instruction_bytes i))) (refused 15) (done (length (instruction_bytes i))))
    (refused (instruction_refusal i))

-- the buffer after it: untouched on a refusal, else the encoding and the bytes past it
unfoldable pub encoded_into : List ℕ → Instruction → List ℕ
encoded_into l i = on_reply (encoded_in (length l) i) (λ n. l) (λ n. instruction_bytes i ++ drop n l)
