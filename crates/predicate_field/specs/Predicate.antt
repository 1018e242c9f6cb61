-- The pred word. Document 01, "Bytes of an instruction": "Pred word: bits 0-11 id, 12 zero, 13-14 none/any/all/reserved, 15 inverse.
-- A word of 0 means no predicate."
use Rattle.std.specs.Prelude.{ℕ, Bool, not, ◌||◌, eqb}
use Rattle.bits.specs.Bits.{bit, bit_field}

-- "A word of 0 means no predicate": only the whole word 0, so that 0x2000, 0x4000 and 0x8000 name predicate 0
unfoldable pub has_predicate : ℕ → Bool
has_predicate pred = not (eqb pred 0)

unfoldable pub predicate_id : ℕ → ℕ
predicate_id pred = bit_field pred 0 11

-- "13-14 none/any/all/reserved"
unfoldable pub predicate_combine : ℕ → ℕ
predicate_combine pred = bit_field pred 13 14

abbrev pub ANY : ℕ
ANY = 1

abbrev pub ALL : ℕ
ALL = 2

-- "12 zero", "13-14 .. reserved": code 3
unfoldable pub predicate_reserved : ℕ → Bool
predicate_reserved pred = bit pred 12 || eqb (predicate_combine pred) 3

unfoldable pub predicate_inverse : ℕ → Bool
predicate_inverse pred = bit pred 15
