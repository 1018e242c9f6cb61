-- Which lanes are on. Document 01, "Which channels, which results": "Channel n is on when NM is chosen or EM bit n+offset is 1, and the
-- predicate agrees: bit n+offset; or any, or all, over the ExecSize bits, EM not considered; inverse comes last. The offset counts under NM too."
-- The lane is the paper's channel n, the mask its EM, the bits those of the predicate that the pred word names.
use Rattle.std.specs.Prelude.{ℕ, ◌+◌, Bool, true, cond, not, ◌&&◌, ◌||◌, ltb, eqb}
use Rattle.bits.specs.Bits.{bit}
use Rattle.bits.specs.Below.{some_below, every_below}
use Rattle.exec_byte.specs.Exec.{exec_size, exec_offset, no_mask}
use Rattle.predicate_field.specs.Predicate.{has_predicate, predicate_combine, ANY, ALL, predicate_inverse}

-- "any, or all, over the ExecSize bits": those from the offset on (page 003: PMask[n] = Pred[n + mask_control_offset])
unfoldable pub any_bit : ℕ → ℕ → ℕ → Bool
any_bit size offset bits = some_below size (λ k. bit bits (k + offset))

unfoldable pub all_bits : ℕ → ℕ → ℕ → Bool
all_bits size offset bits = every_below size (λ k. bit bits (k + offset))

-- "bit n+offset; or any, or all": the reserved code, which decoding refuses, counts as none
unfoldable pub combined : ℕ → ℕ → ℕ → ℕ → Bool
combined exec pred bits n =
    cond (eqb (predicate_combine pred) ANY) (any_bit (exec_size exec) (exec_offset exec) bits)
    (cond (eqb (predicate_combine pred) ALL) (all_bits (exec_size exec) (exec_offset exec) bits)
    (bit bits (n + exec_offset exec)))

unfoldable pub inverted : Bool → Bool → Bool
inverted inverse value = cond inverse (not value) value

-- "the predicate agrees: .. inverse comes last"; without a predicate nothing disagrees
unfoldable pub predicate_agrees : ℕ → ℕ → ℕ → ℕ → Bool
predicate_agrees exec pred bits n =
    cond (has_predicate pred) (inverted (predicate_inverse pred) (combined exec pred bits n)) true

-- "NM is chosen or EM bit n+offset is 1"
unfoldable pub mask_allows : ℕ → ℕ → ℕ → Bool
mask_allows exec mask n = no_mask exec || bit mask (n + exec_offset exec)

-- A lane at or past ExecSize is off (page 003: ChEn[n] = 0 from exec_size on).
unfoldable pub lane_on : ℕ → ℕ → ℕ → ℕ → ℕ → Bool
lane_on exec pred mask bits n =
    ltb n (exec_size exec) && (mask_allows exec mask n && predicate_agrees exec pred bits n)
