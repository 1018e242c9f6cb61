-- With registers of 32 bytes every definition that looks at their size is document 01's, and a run that chose another size than 32 and 64 is 13.
use Prim.Native.Nat.{ℕ}
use mathlib.Core.Path.{◌≡◌, refl}
use mathlib.Core.Bool.{Bool, true, false, cond}
use native.Mathlib.Omega.{arith}
use lib.Dec.{ltb}
use borrow.Author.Tests.{ltb-true, ltb-false}
use Rattle.exec_byte.specs.Exec.{exec_size}
use Rattle.operand_fields.specs.declared.General.{General}
use Rattle.lengths.specs.declared.Lengths.{Lengths}
use Rattle.lengths.specs.Lengths.{register_size_good, chosen_size, registers_good, lengths_good}
use Rattle.tables.specs.Variables.{line_good}
use Rattle.tables.specs.Tables.{tables_good}
use Rattle.regions.specs.Regions.{row_elements, first_element}
use Rattle.regions.specs.Reach.{two_registers}
use Rattle.payloads.specs.Needed.{channel_stride, scatter_needed, registers_needed}
use Rattle.step.specs.State.{Setup, State, register_bytes}
use Rattle.run.specs.Run.{stopped, run}
use Rattle.run.proofs.Whole.{tables-refused}
use Rattle.earlier.specs.RegistersOf32.{registers_good32, lengths_good32, line_good32, first_element32, two_registers32, registers_needed32, channel_stride32, scatter_needed32}

-- ---- tables and lengths

pub registers-32 : (bytes : ℕ) → registers_good 32 bytes ≡ registers_good32 bytes
unfolding registers_good registers_good32
registers-32 bytes = refl

pub lengths-32 : (l : Lengths) → l.register_size ≡ 32 → lengths_good l ≡ lengths_good32 l
unfolding lengths_good lengths_good32 register_size_good registers_good registers_good32
lengths-32 l e = rw e

pub line-32 : (start bytes : ℕ) → line_good 32 start bytes ≡ line_good32 start bytes
unfolding line_good line_good32
line-32 start bytes = refl

-- ---- operands

pub first-element-32 : (g : General) (size : ℕ) → first_element 32 g size ≡ first_element32 g size
unfolding first_element row_elements first_element32
first-element-32 g size = refl

pub two-registers-32 : (first last : ℕ) → two_registers 32 first last ≡ two_registers32 first last
unfolding two_registers two_registers32
two-registers-32 first last = refl

pub registers-needed-32 : (count : ℕ) → registers_needed 32 count ≡ registers_needed32 count
unfolding registers_needed registers_needed32
registers-needed-32 count = refl

-- ---- a scatter's channels

pub stride-32 : (exec : ℕ) → channel_stride 32 exec ≡ channel_stride32 exec
unfolding channel_stride channel_stride32
stride-32 exec = told (ltb (exec_size exec) 8) refl
  where
    told : (q : Bool) → ltb (exec_size exec) 8 ≡ q → channel_stride 32 exec ≡ cond q 8 (exec_size exec)
    told true e = omega (arith, ltb-true (exec_size exec) 8 e)
    told false e = omega (arith, ltb-false (exec_size exec) 8 e)

pub scatter-needed-32 : (exec channels : ℕ) → scatter_needed (channel_stride 32 exec) exec channels ≡ scatter_needed32 exec channels
unfolding scatter_needed scatter_needed32
scatter-needed-32 exec channels = rw (stride-32 exec)

-- ---- the size that a run chose

pub chosen-32 : (x : Setup) → x.constants.register_size ≡ 32 → register_bytes x ≡ 32
unfolding chosen_size
chosen-32 x e = rw e

-- "any other size is 13", and nothing changes
pub other-size : (x : Setup) (s : State) → register_size_good x.constants.register_size ≡ false → run x s ≡ stopped 13 0 0 s
unfolding tables_good lengths_good
other-size x s e = tables-refused x s (rw e)
