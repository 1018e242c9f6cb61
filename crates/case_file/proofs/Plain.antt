-- The kinds whose content is bytes for a buffer of their own: registers, kernel, and the marks.
use mathlib.Core.Path.{◌≡◌, refl}
use mathlib.Core.Bool.{Bool, true, false, ◌||◌}
use mathlib.Core.List.{List, []}
use Prim.Native.Nat.{ℕ, ◌<◌}
use native.Mathlib.Omega.{arith}
use lib.ListN.{length}
use lib.Dec.{eqb}
use Rattle.tally.specs.Mirror.Lines.{KINDS}
use Rattle.tally.specs.Mirror.Reading.{Contents}
use Rattle.case_file.specs.BadLine.{repeats}
use Rattle.case_file.proofs.ByKind.{none_yet}

pub data Plain : ℕ → Type 0 where
  registers : Plain 1
  kernel : Plain 7
  register_taint : Plain 8
  surface_taint : Plain 9
  memory_taint : Plain 10

-- the buffer
abbrev pub buffer_of : (k : ℕ) → Plain k → Contents → List ℕ
buffer_of k registers z = z.registers
buffer_of k kernel z = z.kernel
buffer_of k register_taint z = z.register_taint
buffer_of k surface_taint z = z.surface_taint
buffer_of k memory_taint z = z.memory_taint

-- how many bytes it has
abbrev pub size_of : (k : ℕ) → Plain k → ℕ
size_of k registers = 4096
size_of k kernel = 4096
size_of k register_taint = 4096
size_of k surface_taint = 8192
size_of k memory_taint = 4096

pub plain-listed : (k : ℕ) → Plain k → k < KINDS
plain-listed k registers = omega arith
plain-listed k kernel = omega arith
plain-listed k register_taint = omega arith
plain-listed k surface_taint = omega arith
plain-listed k memory_taint = omega arith

-- they come "once at most"
pub plain-once : (k : ℕ) → Plain k → repeats k ≡ false
unfolding repeats
plain-once k registers = refl
plain-once k kernel = refl
plain-once k register_taint = refl
plain-once k surface_taint = refl
plain-once k memory_taint = refl

pub either_true : (a b : Bool) → (a || b) ≡ true → a ≡ false → b ≡ true
either_true a b e h = rw h at e

pub plain-first : (k : ℕ) (l : List (List ℕ)) → Plain k → (repeats k || eqb (length l) 0) ≡ true → l ≡ []
plain-first k l p q = none_yet l (either_true (repeats k) (eqb (length l) 0) q (plain-once k p))
