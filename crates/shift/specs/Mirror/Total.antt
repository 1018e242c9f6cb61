-- The shift for every size. Document 01: "SHL: integer types of at most 4 bytes"; of a larger source or destination, which no run meets, the
-- answer is 0.
use Rattle.std.specs.Prelude.{ℕ, Bool, cond, ◌&&◌, nat_le}
use Rattle.shift.specs.Exact.{shifted}

unfoldable pub total_shift : Bool → ℕ → ℕ → ℕ → ℕ → ℕ
total_shift signed size x count destination =
    cond (nat_le size 4 && nat_le destination 4) (shifted signed size x count destination) 0
