-- Whole cases with a predicate that has a count (document 02, request 3): computed from the definitions.
use mathlib.Core.Path.{◌≡◌, refl}
use mathlib.Core.List.{List, ◌++◌}
use Prim.Native.Nat.{ℕ}
use Rattle.output.specs.Output.{line_of}
use Rattle.case_file.specs.Output.{case_file_output}
use Rattle.worked.specs.Case.{hex}
use Rattle.worked.proofs.OutputOpened.{output-opened}

-- all over 16 channels, a shift of UB elements by 1, under this frame of a predicate
abbrev shifted-under : List ℕ → List ℕ
shifted-under predicate =
    line_of (hex 33 0x010102030405060708090a0b0c0d0e0f1000000000000000000000000000000000)
    ++ line_of (hex 6 0x020400001000)
    ++ line_of (hex 6 0x020410001000)
    ++ line_of (hex 5 0x06ffff0000)
    ++ line_of predicate
    ++ line_of (hex 25 0x07240400400001000000000200000000006602050201000000)

-- the 40 line and the registers; no memory, and no byte marked
abbrev gives : List ℕ → List ℕ → List ℕ
gives answer registers =
    line_of answer
    ++ line_of registers
    ++ line_of (hex 9 0x050000000000000000)
    ++ line_of (hex 33 0x080000000000000000000000000000000000000000000000000000000000000000)
    ++ line_of (hex 1 0x0a)

-- "A kernel asked for all over 16 channels of an 8-bit predicate": 17
pub past-the-count :
    case_file_output (shifted-under (hex 6 0x03ff00000008))
    ≡ gives (hex 8 0x4011000000000000) (hex 33 0x010102030405060708090a0b0c0d0e0f1000000000000000000000000000000000)
unfolding output-opened
past-the-count = refl

-- 16 elements, all on
pub all-sixteen :
    case_file_output (shifted-under (hex 6 0x03ffff000010))
    ≡ gives (hex 8 0x4000010018000000) (hex 33 0x010102030405060708090a0b0c0d0e0f10020406080a0c0e10121416181a1c1e20)
unfolding output-opened
all-sixteen = refl

-- "an old four-byte frame means 32": "and got no", as before
pub old-frame :
    case_file_output (shifted-under (hex 5 0x03ff000000))
    ≡ gives (hex 8 0x4000010018000000) (hex 33 0x010102030405060708090a0b0c0d0e0f1000000000000000000000000000000000)
unfolding output-opened
old-frame = refl
