-- Laws of `lane_on`: the prepared lanes answer it, lanes past the size are off, and without a predicate its bits do not matter.
use Prim.Native.Nat.{ℕ, ◌+◌, ◌≤◌, ◌<◌}
use mathlib.Core.Path.{◌≡◌, refl, ap, ◌∙◌}
use mathlib.Core.Bool.{Bool, true, false, cond}
use borrow.Author.Tests.{le-ltb, ltb-true}
use Rattle.channels.specs.declared.Predicate.{Predicate}
use Rattle.channels.specs.declared.Predicate.TheVariants as predicate
use Rattle.channels.specs.declared.Lanes.{Lanes}
use Rattle.bits.specs.Bits.{bit}
use Rattle.exec_byte.specs.Exec.{exec_size, exec_offset, exec_of}
use Rattle.predicate_field.specs.Predicate.{has_predicate, predicate_combine, predicate_inverse, ANY, ALL}
use Rattle.channels.specs.Lanes.{any_bit, all_bits, combined, inverted, predicate_agrees, mask_allows, lane_on}
use Rattle.channels.specs.Mirror.Prepared.{combined_predicate, predicate_of, lanes_of, agrees_at, is_on}
use lib.Dec.{ltb, eqb}
use Rattle.bits.proofs.All.{left}

module _ (bits place : ℕ) (inverse some every : Bool) where
  -- what is prepared: is there a predicate, is it any, is it all
  abbrev prepared : Bool → Bool → Bool → Predicate
  prepared has any all =
      cond has
      (cond any (predicate.Uniform (inverted inverse some))
      (cond all (predicate.Uniform (inverted inverse every))
      (predicate.PerLane bits inverse)))
      (predicate.Uniform true)

  agrees : (has any all : Bool) → agrees_at (prepared has any all) place ≡ cond has (inverted inverse (cond any some (cond all every (bit bits place)))) true
  unfolding agrees_at
  agrees false any all = refl
  agrees true true all = refl
  agrees true false true = refl
  agrees true false false = refl

prepared-agrees : (exec pred bits n : ℕ) → agrees_at (predicate_of (exec_of exec) pred bits) (n + exec_offset exec) ≡ predicate_agrees exec pred bits n
unfolding predicate_of combined_predicate predicate_agrees combined
prepared-agrees exec pred bits n =
    agrees
    bits
    (n + exec_offset exec)
    (predicate_inverse pred)
    (any_bit (exec_size exec) (exec_offset exec) bits)
    (all_bits (exec_size exec) (exec_offset exec) bits)
    (has_predicate pred)
    (eqb (predicate_combine pred) ANY)
    (eqb (predicate_combine pred) ALL)

pub on-lanes : (exec pred mask bits n : ℕ) → is_on (lanes_of exec pred mask bits) n ≡ lane_on exec pred mask bits n
unfolding is_on lanes_of lane_on mask_allows
on-lanes exec pred mask bits n = rw (prepared-agrees exec pred bits n)

-- what `on` answers of what `lanes_of` answered
pub lane-told : (exec pred mask bits n : ℕ) (lanes : Lanes) (on : Bool) → lanes ≡ lanes_of exec pred mask bits → on ≡ is_on lanes n → on ≡ lane_on exec pred mask bits n
lane-told exec pred mask bits n lanes on l o = o ∙ ap (λ (x : Lanes). is_on x n) l ∙ on-lanes exec pred mask bits n

pub on-below-size : (exec pred mask bits n : ℕ) → lane_on exec pred mask bits n ≡ true → n < exec_size exec
unfolding lane_on
on-below-size exec pred mask bits n e = ltb-true n (exec_size exec) (left (ltb n (exec_size exec)) _ e)

pub off-past-size : (exec pred mask bits n : ℕ) → exec_size exec ≤ n → lane_on exec pred mask bits n ≡ false
unfolding lane_on
off-past-size exec pred mask bits n h = rw (le-ltb _ _ h)

pub no-predicate : (exec mask a b n : ℕ) → lane_on exec 0 mask a n ≡ lane_on exec 0 mask b n
unfolding lane_on predicate_agrees has_predicate
no-predicate exec mask a b n = refl
