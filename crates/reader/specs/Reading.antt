-- What reading a stored number at a position of the kernel answers.
-- Document 01, "Bytes of an instruction": "A cursor steps through the kernel field by field", "numbers are little-endian".
use Rattle.std.specs.Prelude.{ℕ, ◌+◌, List, Bool, cond, length, leb}
use Rattle.little_endian.specs.LittleEndian.{number_at}
use Rattle.reader.specs.Reply.{Reply, refused, Read, got}

-- n bytes stand from the position on
unfoldable pub whole_at : ℕ → List ℕ → ℕ → Bool
whole_at n s at = leb (at + n) (length s)

-- a value of n bytes: "1 for a field not whole"
abbrev pub stored_at : {A : Type 0} → ℕ → (List ℕ → ℕ → A) → List ℕ → ℕ → Reply (Read A)
stored_at n value_at s at = cond (whole_at n s at) (got (value_at s at) (at + n)) (refused 1)

-- a stored number of n bytes
unfoldable pub read_at : ℕ → List ℕ → ℕ → Reply (Read ℕ)
read_at n s at = stored_at n (number_at n) s at
