-- SHL on exact numbers. Document 01: "Source read exactly (signed types signed), times 2^(count mod 32), taken modulo 2^(destination bits).
-- The count is the low five bits of src1." Sizes are in bytes.
use Rattle.std.specs.Prelude.{ℕ, ◌-◌, ◌*◌, ◌%◌, ◌^◌, Bool, cond, ◌&&◌, ℤ, pos, negsuc, ◌-ℤ◌, ◌*ℤ◌, nat_le}

-- how many numbers there are of so many bytes
unfoldable pub span : ℕ → ℕ
span size = 2 ^ (8 * size)

-- the number that the lowest bytes of x are, without a sign
unfoldable pub lowest : ℕ → ℕ → ℕ
lowest size x = x % span size

-- "Source read exactly (signed types signed)": where the highest bit of a signed number is 1, the number is that much below 0
unfoldable pub exactly : Bool → ℕ → ℕ → ℤ
exactly signed size x =
    cond (signed && nat_le (span size) (2 * lowest size x)) (pos (lowest size x) -ℤ pos (span size)) (pos (lowest size x))

-- the remainder of an integer, from 0 to m - 1; of -(n + 1) it is m - 1 - n % m
unfoldable pub modulo : ℤ → ℕ → ℕ
modulo (pos n) m = n % m
modulo (negsuc n) m = m - 1 - n % m

-- "times 2^(count mod 32), taken modulo 2^(destination bits)"
unfoldable pub shifted : Bool → ℕ → ℕ → ℕ → ℕ → ℕ
shifted signed size x count destination =
    modulo (exactly signed size x *ℤ pos (2 ^ (count % 32))) (span destination)
