-- The bits of a word, counted from 0 at the lowest.
use Rattle.std.specs.Prelude.{ℕ, ◌+◌, ◌-◌, ◌/◌, ◌%◌, ◌^◌, Bool, eqb}

-- bit n of a word is 1
unfoldable pub bit : ℕ → ℕ → Bool
bit word n = eqb (word / 2 ^ n % 2) 1

-- the number in bits first to last of a word, both included
unfoldable pub bit_field : ℕ → ℕ → ℕ → ℕ
bit_field word first last = word / 2 ^ first % 2 ^ (last + 1 - first)
