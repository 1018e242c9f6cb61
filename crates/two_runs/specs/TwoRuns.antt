-- Demand 3's sentence about two marked runs. Document 01, "How marks move": "In demand 3 a byte is unmarked when its mark byte is 0, or is
-- missing, which gives 13. Marks are equal when every mark byte is. An answer is all the numbers that the run gives back".
use Rattle.std.specs.Prelude.{◌≡◌, ℕ, ◌<◌, length, get_or}
use Rattle.cells.specs.Buffer.{Buffer}
use Rattle.bits.specs.Bits.{bit}
use Rattle.predicate_table.specs.Predicates.{Predicates}
use Rattle.step.specs.State.{Setup, State}
use Rattle.run.specs.Run.{Outcome, run}

-- equal lengths and marks, and equal bytes wherever the mark byte is 0 or missing
pub record Agree (b c : Buffer) : Type 0 where
  pub size : length c.bytes ≡ length b.bytes
  pub marks : b.taint ≡ c.taint
  pub unmarked : (i : ℕ) → get_or b.taint i 0 ≡ 0 → get_or b.bytes i 0 ≡ get_or c.bytes i 0

pub record Agrees (s u : State) : Type 0 where
  pub registers : Agree s.registers u.registers
  pub surfaces : Agree s.surfaces u.surfaces
  pub memory : Agree s.memory u.memory

-- the same number, completed instructions, position and detail, and states that agree at the end
pub record SameRun (r q : Outcome) : Type 0 where
  pub answer : r.answer ≡ q.answer
  pub state : Agrees r.state q.state

-- as many predicates, equal counts, and equal bits below each count: "no bit at or past the count matters, and demands 2 and 3 read over this"
-- (document 02, request 3)
pub record SamePredicates (p q : Predicates) : Type 0 where
  pub size : length p.bits ≡ length q.bits
  pub counts : p.counts ≡ q.counts
  pub elements : (id k : ℕ) → k < get_or p.counts id 0 → bit (get_or p.bits id 0) k ≡ bit (get_or q.bits id 0) k

-- equal kernel, tables, base, mask and register size, but for such bits
pub record SameSetup (x y : Setup) : Type 0 where
  pub kernel : x.kernel ≡ y.kernel
  pub variables : x.tables.variables ≡ y.tables.variables
  pub predicates : SamePredicates x.tables.predicates y.tables.predicates
  pub surfaces : x.tables.surfaces ≡ y.tables.surfaces
  pub constants : x.constants ≡ y.constants

-- "no bit at or past the count matters": equal answers, bytes and marks
abbrev pub UnreadBits : Setup → Setup → State → Type 0
UnreadBits x y s = SameSetup x y → run x s ≡ run y s

-- the claim
abbrev pub TwoRuns : Setup → Setup → State → State → Type 0
TwoRuns x y s u = SameSetup x y → Agrees s u → SameRun (run x s) (run y u)
