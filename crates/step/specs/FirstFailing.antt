-- The number of the first test that an instruction fails, 0 where it fails none. Document 01, "The numbers given back": "Each number is given
-- exactly then, and the earliest in this order stands. .. Decoding needs no tables and goes by field .. A run then tests 8; predicate 5;
-- surface 5; each operand in order 5, 4 (type), 6, 7; 9; 10 over all lanes; 11 over all; 12 over all." In the place of 6 stand 20 to 25, and 17
-- "directly after the predicate's 5" (document 02, requests 2 and 3).
use Rattle.std.specs.Prelude.{ℕ, zero, suc, Bool, cond, length}
use Rattle.cells.specs.Over.{some}
use Rattle.reader.specs.Reply.{on_reply}
use Rattle.decoder.specs.declared.Instruction.{Instruction}
use Rattle.decoder.specs.declared.Instruction.TheVariants as instruction
use Rattle.decoder.specs.Decoding.{instruction_at}
use Rattle.plan.specs.Plan.{Plan}
use Rattle.plan.specs.Checked.{checked}
use Rattle.staging.specs.Lanes.{lanes_on}
use Rattle.staging.specs.Sources.{either_tainted}
use Rattle.scatter_effect.specs.Scatter.{Window, channels_on, target, misaligned, outside}
use Rattle.step.specs.State.{Setup, State, register_bytes}

-- the number of the test that comes first, if it fails, else that of the later one
abbrev pub first_of : ℕ → ℕ → ℕ
first_of zero later = later
first_of (suc n) later = suc n

-- 10, 11 and 12 of a scatter: an enabled lane, and an enabled pair of channel and lane, that fails
unfoldable pub some_doubtful : Setup → Plan → State → Bool
some_doubtful x p s = some (λ i. either_tainted s.registers.taint p.left p.right i) (lanes_on x.constants.mask p)

unfoldable pub some_pair : Setup → Plan → State → (ℕ → Bool) → Bool
some_pair x p s fails = some (λ c. some (λ i. fails (target s.registers.bytes p c i)) (lanes_on x.constants.mask p)) (channels_on p)

abbrev pub window : Setup → State → Window
window x s = record { base = x.constants.base; length = length s.memory.bytes }

-- no other instruction has a test of its data
unfoldable pub data_tests : Setup → Instruction → Plan → State → ℕ
data_tests x (instruction.Shl i) p s = 0
data_tests x (instruction.Gather i) p s = 0
data_tests x (instruction.Scatter i) p s =
    cond (some_doubtful x p s) 10 (cond (some_pair x p s misaligned) 11 (cond (some_pair x p s (outside (window x s))) 12 0))
data_tests x (instruction.RawSend i) p s = 0

-- decoding's number; else that of the tests before data, from 8 up to RAW_SEND's 9 (`checked`); else that of the tests of data
unfoldable pub first_failing : Setup → ℕ → State → ℕ
first_failing x at s =
    on_reply (instruction_at x.kernel at)
    (λ n. n)
    (λ i. first_of (checked (register_bytes x) x.tables i.value).number (data_tests x i.value (checked (register_bytes x) x.tables i.value) s))
