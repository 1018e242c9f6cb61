-- The numbers that a run gives: 6 is none of them (document 02, request 2: "6 becomes 20 to 24", and 25), and 17 came with request 3.
use Rattle.std.specs.Prelude.{ℕ, Bool, ◌&&◌, ◌||◌, leb, eqb}
use Rattle.refusal.specs.Details.{names_operand}

-- before predicates had counts
unfoldable pub is_given_uncounted : ℕ → Bool
is_given_uncounted n = names_operand n || leb n 5 || (leb 7 n && leb n 13)

-- now
unfoldable pub is_given : ℕ → Bool
is_given n = is_given_uncounted n || eqb n 17
