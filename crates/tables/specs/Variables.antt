-- The table of variables, and where each may lie in a register file whose registers have this size. Document 01, "Tables and sizes"; document 02,
-- request 5: "variable placing .. follow[s] the chosen size".
use Rattle.std.specs.Prelude.{ℕ, ◌+◌, ◌*◌, ◌-◌, ◌/◌, ◌%◌, Bool, cond, ◌&&◌, List, leb, eqb, length, get_or}
use Rattle.element_types.specs.Types.{size_of, is_listed}
use Rattle.bits.specs.Below.{every_below}

-- variable k has the k-th type, start byte and element count
pub record Variables : Type 0 where
  pub types : List ℕ
  pub starts : List ℕ
  pub counts : List ℕ

abbrev pub variables : List ℕ → List ℕ → List ℕ → Variables
variables types starts counts = record { types = types; starts = starts; counts = counts }

-- "at a multiple of 32 if it is 32 bytes or longer, and otherwise crosses no 32-byte line", 32 or the size chosen: the line of its first byte is
-- that of its last
unfoldable pub line_good : ℕ → ℕ → ℕ → Bool
line_good register_size start bytes =
    cond (leb register_size bytes)
    (eqb (start % register_size) 0)
    (eqb (start / register_size) ((start + bytes - 1) / register_size))

-- "A variable has type, start byte and element count (at least 1)." "It lies in the file, starts at a multiple of its element size", and as above.
-- "a type not listed too" is 13.
unfoldable pub variable_good : ℕ → ℕ → ℕ → ℕ → ℕ → Bool
variable_good register_size registers code start count =
    is_listed code
    && leb 1 count
    && leb (start + count * size_of code) registers
    && eqb (start % size_of code) 0
    && line_good register_size start (count * size_of code)

unfoldable pub variable_good_at : ℕ → ℕ → Variables → ℕ → Bool
variable_good_at register_size registers t k = variable_good register_size registers (get_or t.types k 0) (get_or t.starts k 0) (get_or t.counts k 0)

-- "At most 256 variables"; the table's three slices are of one length
unfoldable pub variables_good : ℕ → ℕ → Variables → Bool
variables_good register_size registers t =
    leb (length t.types) 256
    && eqb (length t.starts) (length t.types)
    && eqb (length t.counts) (length t.types)
    && every_below (length t.types) (variable_good_at register_size registers t)
