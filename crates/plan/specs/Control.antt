-- Exec byte and pred word of an instruction.
use Rattle.field_groups.specs.declared.Control.{Control}
use Rattle.decoder.specs.declared.Instruction.{Instruction}
use Rattle.decoder.specs.declared.Instruction.TheVariants as instruction

unfoldable pub control_of : Instruction → Control
control_of (instruction.Shl i) = i.control
control_of (instruction.Gather i) = i.control
control_of (instruction.Scatter i) = i.control
control_of (instruction.RawSend i) = i.control
