-- Buffers that no tables can make good, by their lengths: of these the plain run answers 13 before it makes their taint
-- (`too-long-answers`, `proofs/PlainRunLaws.antt`). Document 01, "Tables and sizes": "Register file: .. at most 4,096. Kernel and memory: at
-- most 4,096 each. .. 8 surfaces of at most 1,024 bytes".
use Rattle.std.specs.Prelude.{ℕ, Bool, ◌||◌, ltb}

unfoldable pub too_long : ℕ → ℕ → ℕ → Bool
too_long registers surfaces memory = ltb 4096 registers || (ltb 8192 surfaces || ltb 4096 memory)
