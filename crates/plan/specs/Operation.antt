-- What is left to run; nothing, of a refused instruction.

pub data Operation : Type 0 where
  Shl : Operation
  Gather : Operation
  Scatter : Operation
  Refused : Operation
