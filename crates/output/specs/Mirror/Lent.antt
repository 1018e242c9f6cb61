-- The lines of the buffers that a function is lent.
use Rattle.std.specs.Prelude.{ℕ, List}
use Rattle.output.specs.declared.Contents.{Contents}
use Rattle.output.specs.Output.{buffer_lines}

abbrev pub lines_of : Contents → List ℕ
lines_of c = buffer_lines c.base c.registers.now c.memory.now c.register_taint.now c.memory_taint.now
