-- What is worked out once for an instruction, and the lane test that is left. `proofs/LaneLaws.antt` shows that the two together are `lane_on`.
use Rattle.std.specs.Prelude.{ℕ, ◌+◌, Bool, true, cond, ◌&&◌, ◌||◌, ltb, eqb}
use Rattle.bits.specs.Bits.{bit}
use Rattle.exec_byte.specs.Exec.{exec_of}
use Rattle.predicate_field.specs.Predicate.{has_predicate, predicate_combine, ANY, ALL, predicate_inverse}
use Rattle.channels.specs.Lanes.{any_bit, all_bits, inverted}
use Rattle.exec_byte.specs.declared.Exec.{Exec}
use Rattle.channels.specs.declared.Predicate.{Predicate}
use Rattle.channels.specs.declared.Predicate.TheVariants as predicate
use Rattle.channels.specs.declared.Lanes.{Lanes}

-- any and all are the same in every lane and are worked out; a predicate taken bit by bit is kept with its inverse
unfoldable pub combined_predicate : Exec → ℕ → Bool → ℕ → Predicate
combined_predicate exec code inverse bits =
    cond (eqb code ANY) (predicate.Uniform (inverted inverse (any_bit exec.size exec.offset bits)))
    (cond (eqb code ALL) (predicate.Uniform (inverted inverse (all_bits exec.size exec.offset bits)))
    (predicate.PerLane bits inverse))

-- without a predicate every lane agrees
unfoldable pub predicate_of : Exec → ℕ → ℕ → Predicate
predicate_of exec pred bits =
    cond (has_predicate pred)
    (combined_predicate exec (predicate_combine pred) (predicate_inverse pred) bits)
    (predicate.Uniform true)

unfoldable pub lanes_of : ℕ → ℕ → ℕ → ℕ → Lanes
lanes_of exec pred mask bits =
    record { exec = exec_of exec; mask = mask; predicate = predicate_of (exec_of exec) pred bits }

abbrev pub on_predicate {ℓ} : {X : Type ℓ} → Predicate → (Bool → X) → (ℕ → Bool → X) → X
on_predicate (predicate.Uniform value) f g = f value
on_predicate (predicate.PerLane bits inverse) f g = g bits inverse

-- the predicate agrees at a place, which is a lane with the offset added
unfoldable pub agrees_at : Predicate → ℕ → Bool
agrees_at p place = on_predicate p (λ value. value) (λ bits inverse. inverted inverse (bit bits place))

unfoldable pub is_on : Lanes → ℕ → Bool
is_on lanes n =
    ltb n lanes.exec.size
    && ((lanes.exec.unmasked || bit lanes.mask (n + lanes.exec.offset)) && agrees_at lanes.predicate (n + lanes.exec.offset))
