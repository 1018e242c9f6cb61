-- How long the text of each part is at most.
use mathlib.Core.Path.{refl}
use Prim.Native.Nat.{ℕ}
use native.Mathlib.Omega.{arith}
use lib.Dec.{ltb}
use Rattle.formats.specs.Text.{text}
use Rattle.formats.proofs.TableTests.{single}
use Rattle.formats.proofs.ShortLaws.{Short, short-pair, short-through, short-cond, narrow, short-table, short-number, short-before, short-after}
use Rattle.text_parts.specs.Mirror.Fields.{decimal}
use Rattle.text_parts.specs.Mirror.Raw.{raw_parts, raw}
use Rattle.text_parts.specs.Mirror.Immediate.{types, wide_types, type_behind, immediate_parts, immediate}
use Rattle.text_parts.proofs.RawLaws.{raw-matches}
use Rattle.text_parts.proofs.ImmediateLaws.{immediate-matches}

-- ---- a raw operand: `v65535.65535`

pub raw-short : Short raw 12
unfolding raw raw_parts decimal narrow single
raw-short =
    short-through
    (short-before (text "v|") 1 refl refl (short-pair {n = 6} {m = 5} (short-after (text ".|") 1 refl refl (short-number 10 0 65535 4 (omega arith) refl)) (λ _. short-number 10 0 65535 4 (omega arith) refl)))
    raw-matches

-- ---- an immediate behind `0x`: `ffffffffffffffff:uq`

type-short : (n : ℕ) → Short (type_behind n) 3
unfolding type_behind narrow
type-short n = short-cond (ltb n 4294967296) (short-table types 3 refl) (short-table wide_types 3 refl)

pub immediate-short : Short immediate 19
unfolding immediate immediate_parts
immediate-short = short-through (short-pair {n = 16} {m = 3} (short-number 16 0 18446744073709551615 15 (omega arith) refl) type-short) immediate-matches
