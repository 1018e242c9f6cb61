-- The line of an instruction as a format: its predicate, its name, and what stands behind that.
use Rattle.std.specs.Prelude.{ℕ, List, Bool, cond, ◌&&◌, eqb}
use Rattle.formats.specs.Text.{text}
use Rattle.formats.specs.Format.{Format, pair, through}
use Rattle.formats.specs.Words.{table}
use Rattle.decoder.specs.declared.Instruction.{Instruction}
use Rattle.decoder.specs.declared.Instruction.TheVariants as instruction
use Rattle.control_texts.specs.Mirror.Predicate.{predicate_fits, predicate}
use Rattle.lines.specs.Mirror.Bodies.{shl_fits, shl, gather_fits, gather, scatter_fits, scatter, raw_send_fits, raw_send}

abbrev pub names : List ℕ
names = text "SHL |GATHER_SCALED.|SVM_SCATTER4_SCALED.|raw_send|"

unfoldable pub name_of : Instruction → ℕ
name_of (instruction.Shl x) = 0
name_of (instruction.Gather x) = 1
name_of (instruction.Scatter x) = 2
name_of (instruction.RawSend x) = 3

unfoldable pub pred_of : Instruction → ℕ
pred_of (instruction.Shl x) = x.control.pred
pred_of (instruction.Gather x) = x.control.pred
pred_of (instruction.Scatter x) = x.control.pred
pred_of (instruction.RawSend x) = x.control.pred

-- what stands behind a name
unfoldable pub body : ℕ → ℕ → Format Instruction
body pred name = cond (eqb name 0) (shl pred) (cond (eqb name 1) (gather pred) (cond (eqb name 2) (scatter pred) (raw_send pred)))

unfoldable pub named : ℕ → Format (ℕ × Instruction)
named pred = pair (table names) (λ name. body pred name)

unfoldable pub body_fits : ℕ → Instruction → Bool
body_fits pred (instruction.Shl x) = shl_fits pred (instruction.Shl x)
body_fits pred (instruction.Gather x) = gather_fits pred (instruction.Gather x)
body_fits pred (instruction.Scatter x) = scatter_fits pred (instruction.Scatter x)
body_fits pred (instruction.RawSend x) = raw_send_fits pred (instruction.RawSend x)

-- the instructions that have a line: those that the encoder takes, each number of its field's width (proofs/EncodesLaws.antt)
unfoldable pub line_fits : Instruction → Bool
line_fits i = predicate_fits (pred_of i) && body_fits (pred_of i) i

unfoldable pub line : Format Instruction
line = through (λ v. v.1.1) (λ i. (pred_of i, (name_of i, i))) line_fits (pair predicate named)
